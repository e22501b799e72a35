-- The cases of the order of trials, as one table (S6.3), written as in specs/MarkedCases.antt. In the lists of candidates variables count from 0.
use Rattle.std.specs.Prelude.{ℕ, false, List, [], ◌∷◌, ◌≡◌}
use Rattle.formula.specs.declared.Refusal.TheVariants.{ForeignCheckpoint}
use Rattle.formula.specs.Format.{Literal, formula_bytes}
use Rattle.splitting.specs.Choosing.{trial, candidates}
use Rattle.walk.specs.Checkpoints.{Checkpoint, checkpoint_of}
use Rattle.walk.specs.PlainMachine.{found}
use Rattle.walk.specs.WalkCall.{walk_call}
use Rattle.walk.specs.Gaps.{ample_budget}
use Rattle.walk.specs.Results.{answered, refusing}
use Rattle.printing.specs.Printed.{printed}
use Rattle.edge_cases.specs.MarkedCases.{on, off}
use Rattle.edge_cases.specs.TextCases.{ascii}

-- 3 variables and the clauses (¬1, ¬2), (2, ¬3), (1, ¬2, 3): three name 2, and two each of the others
abbrev pub busy_clauses : List (List Literal)
busy_clauses = (off 1 ∷ off 2 ∷ []) ∷ (on 2 ∷ off 3 ∷ []) ∷ (on 1 ∷ off 2 ∷ on 3 ∷ []) ∷ []

abbrev pub busy : List ℕ
busy = 1 ∷ 3 ∷ 3 ∷ 1 ∷ 3 ∷ 2 ∷ 4 ∷ 2 ∷ 2 ∷ 3 ∷ 3 ∷ 4 ∷ 2 ∷ 1 ∷ 3 ∷ 2 ∷ 2 ∷ 3 ∷ 4 ∷ 5 ∷ []

-- 3 variables and the clauses (¬1, ¬2, 3), (1, ¬2, ¬3), (2)
abbrev pub failing_clauses : List (List Literal)
failing_clauses = (off 1 ∷ off 2 ∷ on 3 ∷ []) ∷ (on 1 ∷ off 2 ∷ off 3 ∷ []) ∷ (on 2 ∷ []) ∷ []

-- a checkpoint of 1 assigned false and nothing else
abbrev pub first_false : Checkpoint
first_false = checkpoint_of 1 (off 1 ∷ [])

pub record OrderCases : Type 0 where
  -- the busiest is tried first, though it is not the lowest, and of the others the lower
  pub busy_order : candidates 3 busy_clauses ≡ 1 ∷ 0 ∷ 2 ∷ []
  pub busy_printed : printed busy ≡ ascii "switches 3 rules 3\n000 3 3\n100 2 0\n011 6 0\nend 3 0\n"
  -- the busiest fails its trial: of the others, as busy as each other, the lower passes. The failed trial counts.
  pub failing_order : candidates 3 failing_clauses ≡ 1 ∷ 0 ∷ 2 ∷ []
  pub failing_trial : (trial failing_clauses 1).passes ≡ false
  pub failing_printed : printed (formula_bytes 3 failing_clauses) ≡ ascii "switches 3 rules 3\n010 3 7\n111 6 0\nend 3 0\n"
  -- equal clauses count each: were they one, all four variables would be as busy as each other
  pub equal_clauses : candidates 4 ((off 2 ∷ off 3 ∷ on 4 ∷ []) ∷ (off 2 ∷ off 3 ∷ on 4 ∷ []) ∷ (off 1 ∷ on 3 ∷ []) ∷ (on 1 ∷ on 2 ∷ off 4 ∷ []) ∷ [])
      ≡ 1 ∷ 2 ∷ 3 ∷ 0 ∷ []
  -- (1, 2), (¬1, ¬2), (2, 3), (¬2, 3): stripping drops the last two, and of the clauses that it leaves as many name 1 as 2: 1 is chosen
  pub left_counted : printed (formula_bytes 3 ((on 1 ∷ on 2 ∷ []) ∷ (off 1 ∷ off 2 ∷ []) ∷ (on 2 ∷ on 3 ∷ []) ∷ (off 2 ∷ on 3 ∷ []) ∷ []))
      ≡ ascii "switches 3 rules 4\n011 3 2\n101 6 0\nend 3 0\n"
  -- a checkpoint that the walk had before slip 11, when 1 was tried first, and has no more: 11
  pub earlier_foreign : (b : ℕ) → walk_call busy [] first_false b ≡ refusing (ForeignCheckpoint 0) first_false
  -- the same checkpoint on the other formula, whose walk had it before and has it now: it is taken
  pub earlier_fits : walk_call (formula_bytes 3 failing_clauses) [] first_false ample_budget ≡ answered (found 2) 2 0 (checkpoint_of 1 (off 1 ∷ on 2 ∷ off 3 ∷ []))
