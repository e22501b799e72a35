-- The cases of the deficiency, as one table (S22), written as in specs/MarkedCases.antt. What judge answers of the same inputs stands in
-- the tables that have them.
use Rattle.std.specs.Prelude.{ℕ, List, [], ◌∷◌, map, ◌≡◌}
use Rattle.formula.specs.declared.Refusal.TheVariants.{Truncated}
use Rattle.formula.specs.Masked.{variables}
use Rattle.matching.specs.Deficiency.{largest_excess}
use Rattle.matched.specs.Deficiency.{measured, unmeasured, deficiency_of}
use Rattle.edge_cases.specs.MarkedCases.{on, off, example, nothing_named}
use Rattle.edge_cases.specs.StrippedCases.{twice, left_over}

-- S22.1: the input is readable, and its deficiency is d
abbrev pub Deficient : List ℕ → ℕ → Type 0
Deficient s d = deficiency_of s ≡ measured d

-- 2 variables, clauses (1), (1), (2), (¬2), (1, 2)
abbrev pub crowded : List ℕ
crowded = 1 ∷ 2 ∷ 2 ∷ 1 ∷ 4 ∷ 2 ∷ 1 ∷ 4 ∷ 2 ∷ 2 ∷ 4 ∷ 3 ∷ 2 ∷ 4 ∷ 2 ∷ 1 ∷ 2 ∷ 2 ∷ 4 ∷ 5 ∷ []

pub record DeficiencyCases : Type 0 where
  -- 2 variables and no clause; and two clauses that are matched
  pub no_clause : Deficient (1 ∷ 2 ∷ 5 ∷ []) 0
  pub matched : Deficient example 0
  -- an empty clause can't be matched, and neither can either of two
  pub one_empty : Deficient nothing_named 1
  pub two_empty : Deficient (1 ∷ 1 ∷ 4 ∷ 4 ∷ 5 ∷ []) 2
  -- a clause twice: stripping drops both, so that judge accepts them, but they are counted before it
  pub before_stripping : Deficient twice 1
  -- two clauses too many, though judge marks only two clauses, which are one more than they name
  pub more_than_marked : Deficient left_over 2
  -- five clauses of two variables: two can be matched, and all five together have the largest excess
  pub three_over : Deficient crowded 3
  pub three_excess : largest_excess (map variables ((on 1 ∷ []) ∷ (on 1 ∷ []) ∷ (on 2 ∷ []) ∷ (off 2 ∷ []) ∷ (on 1 ∷ on 2 ∷ []) ∷ [])) ≡ 3
  -- no bytes: 2 at 0, and no deficiency
  pub no_bytes : deficiency_of [] ≡ unmeasured (Truncated 0)
