-- The cases at the edges, as one table: each from the bytes of an input, which are written out or are those of the clauses. In the
-- comments a variable is its number from 1, and ¬ stands before it where it is named as false.
use Rattle.std.specs.Prelude.{ℕ, ◌+◌, ◌-◌, ◌*◌, ◌≤◌, ◌<◌, true, false, List, [], ◌∷◌, ◌++◌, map, ◌≡◌, length, drop, replicate}
use Rattle.limits.specs.Limits.{max_clauses}
use Rattle.writing.specs.Text.{dash, line_feed, blank}
use Rattle.formula.specs.InnerDecode.{decode}
use Rattle.formula.specs.Decoding.{Decoding, readable, refused}
use Rattle.formula.specs.Format.{Literal, formula_bytes, Encodes}
use Rattle.formula.specs.Refusals.{TableRow, table_row}
use Rattle.assumptions.specs.declared.Assumption.{Assumption}
use Rattle.assumptions.specs.Assumed.{literal_of}
use Rattle.assumptions.specs.FirstBad.{NoneBad}
use Rattle.matched.specs.Judge.{accepted_values, judge}
use Rattle.matched.specs.Pairing.{Pairs, left_of}
use Rattle.walk.specs.Task.{under, to_assign}
use Rattle.walk.specs.Gaps.{ample_budget}
use Rattle.walk.specs.Checkpoints.{start}
use Rattle.walk.specs.PlainMachine.{spent}
use Rattle.walk.specs.WalkCall.{walk_call, walk_calls}
use Rattle.walk.specs.Results.{AnswerKind, says_model, says_ended, Result, answered}
use Rattle.printing.specs.Printed.{switches_word, rules_word, end_word, printed}

-- ---- how the cases are written

-- the variable of number s, from 1, named as true or as false (request: switch s, on or off)
abbrev pub on : ℕ → Literal
on s = record { variable = s - 1; positive = true }

abbrev pub off : ℕ → Literal
off s = record { variable = s - 1; positive = false }

-- S12.1: the assignment of printed digits, variable 0 first
abbrev pub digits_assignment : List ℕ → ℕ
digits_assignment [] = 0
digits_assignment (d ∷ ds) = d + 2 * digits_assignment ds

-- a line of a walk: what a walk call says, its model, its steps and its expansions
pub record Line : Type 0 where
  pub kind : AnswerKind
  pub model : ℕ
  pub steps : ℕ
  pub expansions : ℕ

abbrev pub line : Result → Line
line r = record { kind = r.kind; model = r.model; steps = r.steps; expansions = r.expansions }

abbrev pub model_at : List ℕ → ℕ → ℕ → Line
model_at ds steps expansions = record { kind = says_model; model = digits_assignment ds; steps = steps; expansions = expansions }

abbrev pub end_at : ℕ → ℕ → Line
end_at steps expansions = record { kind = says_ended; model = 0; steps = steps; expansions = expansions }

-- the lines of the first k walk calls on an input under assumptions: from the start, on an ample budget, which brings a model or the end
abbrev pub walked_under : List ℕ → List Assumption → ℕ → List Line
walked_under s us k = map line (walk_calls s us start (replicate k ample_budget))

-- and with nothing assumed
abbrev pub walked : List ℕ → ℕ → List Line
walked s k = walked_under s [] k

-- the number and the place of the refusal that reading gives, zeros if it gives none
abbrev pub refusal_of : Decoding → TableRow
refusal_of (readable n cs) = record { number = 0; place = 0 }
refusal_of (refused r) = table_row r

abbrev pub number_at : ℕ → ℕ → TableRow
number_at k p = record { number = k; place = p }

-- S5.7: judge accepts n variables and as many clauses as the row has bytes, and writes the row into a buffer that is not short
abbrev pub AcceptedUnder : List ℕ → List Assumption → ℕ → List ℕ → Type 0
AcceptedUnder s us n row =
    (b : List ℕ) → max_clauses ≤ length b
    → judge s us b ≡ record { answer = accepted_values n (length row); buffer = row ++ drop (length row) b }

abbrev pub AcceptedAs : List ℕ → ℕ → List ℕ → Type 0
AcceptedAs s n row = AcceptedUnder s [] n row

-- S5.7: judge refuses by 10 with this place, and writes these marks into a buffer that is not short
abbrev pub UnmatchedUnder : List ℕ → List Assumption → ℕ → List ℕ → Type 0
UnmatchedUnder s us p marks =
    (b : List ℕ) → max_clauses ≤ length b
    → judge s us b ≡ record { answer = record { number = 10; place = p; variables = 0; clauses = 0 }; buffer = marks ++ drop (length marks) b }

abbrev pub UnmatchedAt : List ℕ → ℕ → List ℕ → Type 0
UnmatchedAt s p marks = UnmatchedUnder s [] p marks

-- S12.3: the example: 2 variables, clauses (1, 2) and (¬1, ¬2)
abbrev pub example : List ℕ
example = 1 ∷ 2 ∷ 2 ∷ 1 ∷ 2 ∷ 2 ∷ 4 ∷ 3 ∷ 1 ∷ 3 ∷ 2 ∷ 4 ∷ 5 ∷ []

-- 3 variables, clauses (1, 2), (1, 3), (2, 3)
abbrev pub pairs_of_three : List ℕ
pairs_of_three = formula_bytes 3 ((on 1 ∷ on 2 ∷ []) ∷ (on 1 ∷ on 3 ∷ []) ∷ (on 2 ∷ on 3 ∷ []) ∷ [])

-- 2 variables, clauses (1, 2), (1, ¬2)
abbrev pub wrong_turn_formula : List ℕ
wrong_turn_formula = formula_bytes 2 ((on 1 ∷ on 2 ∷ []) ∷ (on 1 ∷ off 2 ∷ []) ∷ [])

-- 1 variable and an empty clause
abbrev pub nothing_named : List ℕ
nothing_named = 1 ∷ 1 ∷ 4 ∷ 5 ∷ []

-- 1 variable, clauses (1) and (¬1)
abbrev pub on_and_off : List ℕ
on_and_off = 1 ∷ 1 ∷ 2 ∷ 1 ∷ 4 ∷ 3 ∷ 1 ∷ 4 ∷ 5 ∷ []

-- ---- the table

pub record MarkedCases : Type 0 where
  -- the example is matched: the buffer begins with the variables 1 and 2
  pub example_matching : (b : List ℕ) → max_clauses ≤ length b → judge example [] b ≡ record { answer = accepted_values 2 2; buffer = 1 ∷ 2 ∷ drop 2 b }
  -- S12.3: it is printed as `switches 2 rules 2`, `01 2 2`, `10 4 0`, `end 2 0`
  pub example_printed : printed example
      ≡ (switches_word ++ (blank ∷ 50 ∷ blank ∷ [])) ++ (rules_word ++ (blank ∷ 50 ∷ line_feed ∷ []))
      ++ (48 ∷ 49 ∷ blank ∷ 50 ∷ blank ∷ 50 ∷ line_feed ∷ [])
      ++ (49 ∷ 48 ∷ blank ∷ 52 ∷ blank ∷ 48 ∷ line_feed ∷ [])
      ++ (end_word ++ (blank ∷ 50 ∷ blank ∷ 48 ∷ line_feed ∷ []))
  -- the three pairs: stripping leaves nothing, so no expansion is made
  pub three_pairs : walked pairs_of_three 5
      ≡ model_at (1 ∷ 1 ∷ 0 ∷ []) 3 0 ∷ model_at (1 ∷ 0 ∷ 1 ∷ []) 6 0 ∷ model_at (0 ∷ 1 ∷ 1 ∷ []) 4 0 ∷ model_at (1 ∷ 1 ∷ 1 ∷ []) 2 0 ∷ end_at 3 0 ∷ []
  -- with 1 false no clause is empty yet, but no model is left; the walk never assigns it so
  pub wrong_turn : walked wrong_turn_formula 3
      ≡ model_at (1 ∷ 0 ∷ []) 2 0 ∷ model_at (1 ∷ 1 ∷ []) 4 0 ∷ end_at 2 0 ∷ []
  -- 2 variables and no clause, which since slip 10 has one model, printed as `switches 2 rules 0`, `-- 0 0`, `end 0 0`
  pub no_clauses : printed (1 ∷ 2 ∷ 5 ∷ [])
      ≡ (switches_word ++ (blank ∷ 50 ∷ blank ∷ [])) ++ (rules_word ++ (blank ∷ 48 ∷ line_feed ∷ []))
      ++ (dash ∷ dash ∷ blank ∷ 48 ∷ blank ∷ 48 ∷ line_feed ∷ [])
      ++ (end_word ++ (blank ∷ 48 ∷ blank ∷ 48 ∷ line_feed ∷ []))
  -- the empty input: 2 at 0
  pub no_bytes : refusal_of (decode []) ≡ number_at 2 0
  -- an empty clause alone: 10, one clause marked
  pub empty_clause : UnmatchedAt nothing_named 1 (1 ∷ [])
  -- a variable both ways: 10, two clauses marked
  pub both_ways : UnmatchedAt on_and_off 2 (1 ∷ 1 ∷ [])
  -- a clause (1, ¬1): 7 at its second literal, offset 4
  pub named_twice : refusal_of (decode (1 ∷ 2 ∷ 2 ∷ 1 ∷ 3 ∷ 1 ∷ 4 ∷ 5 ∷ [])) ≡ number_at 7 4
  -- a clause (1, 1): read as the clause (1)
  pub repeated : decode (1 ∷ 2 ∷ 2 ∷ 1 ∷ 2 ∷ 1 ∷ 4 ∷ 5 ∷ []) ≡ readable 2 ((on 1 ∷ []) ∷ [])
  -- a clause (1, ¬2, 1): read as the clause (1, ¬2), each literal at its first place
  pub first_place : decode (1 ∷ 2 ∷ 2 ∷ 1 ∷ 3 ∷ 2 ∷ 2 ∷ 1 ∷ 4 ∷ 5 ∷ []) ≡ readable 2 ((on 1 ∷ off 2 ∷ []) ∷ [])
  -- a clause (1, 1, ¬1): 7 at its third literal, offset 6
  pub complement_after_repeat : refusal_of (decode (1 ∷ 2 ∷ 2 ∷ 1 ∷ 2 ∷ 1 ∷ 3 ∷ 1 ∷ 4 ∷ 5 ∷ [])) ≡ number_at 7 6
  -- kind 5 after a literal, with no kind 4 between: 4 at offset 4
  pub clause_not_ended : refusal_of (decode (1 ∷ 1 ∷ 2 ∷ 1 ∷ 5 ∷ [])) ≡ number_at 4 4
  -- a byte behind kind 5: 9 at offset 3
  pub tail_byte : refusal_of (decode (1 ∷ 1 ∷ 5 ∷ 0 ∷ [])) ≡ number_at 9 3
  -- S8.2: an accepted formula with something to assign, from the start checkpoint, on budget 0: spent, with no step made and the checkpoint
  -- unchanged. With nothing to assign the model comes: `none_first` in specs/UnnamedCases.antt
  pub start_zero : (s : List ℕ) (us : List Assumption) (n : ℕ) (cs : List (List Literal)) → Encodes s n cs → NoneBad n us
      → (vs : List ℕ) → Pairs (left_of n (map literal_of us) cs) vs → 0 < to_assign (under n (map literal_of us) cs) → walk_call s us start 0 ≡ answered spent 0 0 start
