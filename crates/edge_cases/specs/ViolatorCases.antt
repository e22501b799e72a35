-- The cases of marks and of how much they weigh, as one table (S20), written as in specs/MarkedCases.antt. What judge answers where nothing
-- is assumed stands in the tables of the inputs.
use Rattle.std.specs.Prelude.{ℕ, ◌≤◌, ◌<◌, List, [], ◌∷◌, ◌≡◌, length}
use Rattle.limits.specs.Limits.{max_clauses}
use Rattle.lists.specs.Over.{over}
use Rattle.formula.specs.declared.Refusal.TheVariants.{Truncated, ShortBuffer, BadAssumption}
use Rattle.assumptions.specs.declared.Assumption.{Assumption}
use Rattle.matched.specs.Weigh.{counted_values, unweighed_values, weighed}
use Rattle.edge_cases.specs.MarkedCases.{UnmatchedUnder, example, nothing_named, on_and_off}
use Rattle.edge_cases.specs.AssumedCases.{assume_on, assume_off}
use Rattle.edge_cases.specs.StrippedCases.{left_over}

-- S20.2: marks that stand in a buffer that is not short weigh so many clauses and so many variables, whatever stands behind them
abbrev pub WeighsUnder : List ℕ → List Assumption → List ℕ → ℕ → ℕ → Type 0
WeighsUnder s us marks clauses variables =
    (b : List ℕ) → max_clauses ≤ length b → weighed s us (over marks b) ≡ counted_values clauses variables

abbrev pub Weighs : List ℕ → List ℕ → ℕ → ℕ → Type 0
Weighs s marks clauses variables = WeighsUnder s [] marks clauses variables

-- 2 variables, the clause (1)
abbrev pub one_named : List ℕ
one_named = 1 ∷ 2 ∷ 2 ∷ 1 ∷ 4 ∷ 5 ∷ []

-- 3 variables, clauses (1, 2), (¬2, 3), (2, ¬3), (¬2, ¬3), (3)
abbrev pub three_of_five : List ℕ
three_of_five =
    1 ∷ 3 ∷ 2 ∷ 1 ∷ 2 ∷ 2 ∷ 4 ∷ 3 ∷ 2 ∷ 2 ∷ 3 ∷ 4 ∷ 2 ∷ 2 ∷ 3 ∷ 3 ∷ 4 ∷ 3 ∷ 2 ∷ 3 ∷ 3 ∷ 4 ∷ 2 ∷ 3 ∷ 4 ∷ 5 ∷ []

-- 2 variables, and no more bytes; and assumptions of which the second is bad for 2 variables
abbrev pub truncated_input : List ℕ
truncated_input = 1 ∷ 2 ∷ []

abbrev pub bad_second : List Assumption
bad_second = assume_on 2 ∷ assume_on 3 ∷ []

pub record ViolatorCases : Type 0 where
  -- an empty clause alone: it names no variable
  pub empty_weighed : Weighs nothing_named (1 ∷ []) 1 0
  -- a variable both ways: two clauses, one variable
  pub both_weighed : Weighs on_and_off (1 ∷ 1 ∷ []) 2 1
  -- what stripping left: two clauses, one variable
  pub left_weighed : Weighs left_over (0 ∷ 0 ∷ 1 ∷ 1 ∷ []) 2 1
  -- 1 false, and nothing is left of the clause: 10, and it is marked; the variable that it names is assumed, and not counted
  pub false_marked : UnmatchedUnder one_named (assume_off 1 ∷ []) 1 (1 ∷ [])
  pub false_weighed : WeighsUnder one_named (assume_off 1 ∷ []) (1 ∷ []) 1 0
  -- 1 false: what remains of the first three clauses names 2 and 3 alone; the last two are not marked, and 1 is not counted
  pub three_marked : UnmatchedUnder three_of_five (assume_off 1 ∷ []) 3 (1 ∷ 1 ∷ 1 ∷ 0 ∷ 0 ∷ [])
  pub three_weighed : WeighsUnder three_of_five (assume_off 1 ∷ []) (1 ∷ 1 ∷ 1 ∷ 0 ∷ 0 ∷ []) 3 2
  -- marks that judge does not leave: one of the three fewer, and as many clauses as variables; any byte but 0 is a mark; and none at all
  pub less_weighed : WeighsUnder three_of_five (assume_off 1 ∷ []) (0 ∷ 1 ∷ 1 ∷ 0 ∷ 0 ∷ []) 2 2
  pub other_bytes : Weighs left_over (7 ∷ 0 ∷ 128 ∷ 255 ∷ []) 3 2
  pub no_marks : Weighs example (0 ∷ 0 ∷ []) 0 0
  -- the refusals in their order: 1; of an input that is cut 2 at its length; and of a whole one 16 at the second assumption
  pub short_first : (b : List ℕ) → length b < max_clauses → weighed truncated_input bad_second b ≡ unweighed_values (ShortBuffer 0)
  pub reading_second : (b : List ℕ) → max_clauses ≤ length b → weighed truncated_input bad_second b ≡ unweighed_values (Truncated 2)
  pub assumption_third : (b : List ℕ) → max_clauses ≤ length b → weighed example bad_second b ≡ unweighed_values (BadAssumption 1)
