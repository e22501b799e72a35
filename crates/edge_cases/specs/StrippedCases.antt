-- The cases of formulas that strip down, as one table (S18), written as in specs/MarkedCases.antt.
use Rattle.std.specs.Prelude.{ℕ, List, [], ◌∷◌, ◌++◌, ◌≡◌}
use Rattle.writing.specs.Text.{line_feed, blank}
use Rattle.formula.specs.Format.{formula_bytes}
use Rattle.printing.specs.Printed.{switches_word, rules_word, end_word, printed}
use Rattle.edge_cases.specs.MarkedCases.{on, model_at, end_at, walked_under, walked, AcceptedUnder, AcceptedAs, UnmatchedAt}
use Rattle.edge_cases.specs.AssumedCases.{assume_on}

-- 1 variable, the clause (1) twice
abbrev pub twice : List ℕ
twice = 1 ∷ 1 ∷ 2 ∷ 1 ∷ 4 ∷ 2 ∷ 1 ∷ 4 ∷ 5 ∷ []

-- 3 variables, clauses (1), (1), (2, 3), (¬2, ¬3)
abbrev pub partly : List ℕ
partly = 1 ∷ 3 ∷ 2 ∷ 1 ∷ 4 ∷ 2 ∷ 1 ∷ 4 ∷ 2 ∷ 2 ∷ 2 ∷ 3 ∷ 4 ∷ 3 ∷ 2 ∷ 3 ∷ 3 ∷ 4 ∷ 5 ∷ []

-- 3 variables, clauses (2), (2), (1), (¬1)
abbrev pub left_over : List ℕ
left_over = 1 ∷ 3 ∷ 2 ∷ 2 ∷ 4 ∷ 2 ∷ 2 ∷ 4 ∷ 2 ∷ 1 ∷ 4 ∷ 3 ∷ 1 ∷ 4 ∷ 5 ∷ []

pub record StrippedCases : Type 0 where
  -- two clauses and one variable: 1 is noted and drops both
  pub twice_dropped : AcceptedAs twice 1 (129 ∷ 129 ∷ [])
  pub twice_walked : walked twice 2 ≡ model_at (1 ∷ []) 1 0 ∷ end_at 1 0 ∷ []
  -- it is printed as `switches 1 rules 2`, `1 1 0`, `end 1 0`
  pub twice_printed : printed twice
      ≡ (switches_word ++ (blank ∷ 49 ∷ blank ∷ [])) ++ (rules_word ++ (blank ∷ 50 ∷ line_feed ∷ []))
      ++ (49 ∷ blank ∷ 49 ∷ blank ∷ 48 ∷ line_feed ∷ [])
      ++ (end_word ++ (blank ∷ 49 ∷ blank ∷ 48 ∷ line_feed ∷ []))
  -- 2 variables, clauses (1), (1), (1, 2), (¬2): the third names both noted variables, and 1, noted first, drops it
  pub first_noted : AcceptedAs (1 ∷ 2 ∷ 2 ∷ 1 ∷ 4 ∷ 2 ∷ 1 ∷ 4 ∷ 2 ∷ 1 ∷ 2 ∷ 2 ∷ 4 ∷ 3 ∷ 2 ∷ 4 ∷ 5 ∷ []) 2 (129 ∷ 129 ∷ 129 ∷ 130 ∷ [])
  -- something is left: the variables 2 and 3 are matched with the last two clauses
  pub partly_dropped : AcceptedAs partly 3 (129 ∷ 129 ∷ 2 ∷ 3 ∷ [])
  pub partly_walked : walked partly 3 ≡ model_at (1 ∷ 0 ∷ 1 ∷ []) 3 2 ∷ model_at (1 ∷ 1 ∷ 0 ∷ []) 6 0 ∷ end_at 3 0 ∷ []
  -- the same with 2 true: clause 3 is satisfied, and 3 is noted too and drops what remains of clause 4
  pub partly_assumed : AcceptedUnder partly (assume_on 2 ∷ []) 3 (129 ∷ 129 ∷ 0 ∷ 131 ∷ [])
  pub partly_assumed_walked : walked_under partly (assume_on 2 ∷ []) 2 ≡ model_at (1 ∷ 1 ∷ 0 ∷ []) 2 0 ∷ end_at 2 0 ∷ []
  -- 2 is noted and drops two; the two that are left are marked
  pub left_marked : UnmatchedAt left_over 2 (0 ∷ 0 ∷ 1 ∷ 1 ∷ [])
  -- 3 variables, clauses (1, 2), (1, 3), (2, 3): matched whole, so no byte tells of stripping, which would drop all three
  pub whole_first : AcceptedAs (formula_bytes 3 ((on 1 ∷ on 2 ∷ []) ∷ (on 1 ∷ on 3 ∷ []) ∷ (on 2 ∷ on 3 ∷ []) ∷ [])) 3 (1 ∷ 3 ∷ 2 ∷ [])
