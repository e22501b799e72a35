-- The cases of assumptions, as one table (S17), written as in specs/MarkedCases.antt.
use Rattle.std.specs.Prelude.{ℕ, ◌≤◌, true, false, List, [], ◌∷◌, ◌≡◌, length, drop}
use Rattle.limits.specs.Limits.{max_clauses}
use Rattle.formula.specs.declared.Refusal.TheVariants.{BadAssumption}
use Rattle.assumptions.specs.declared.Assumption.{Assumption}
use Rattle.matched.specs.Judge.{accepted_values, refused_values, judge}
use Rattle.walk.specs.Checkpoints.{Checkpoint, checkpoint_of, start}
use Rattle.walk.specs.PlainMachine.{found, ended}
use Rattle.walk.specs.WalkCall.{walk_call}
use Rattle.walk.specs.Results.{answered, refusing}
use Rattle.edge_cases.specs.MarkedCases.{model_at, end_at, walked_under, UnmatchedUnder, example}

-- the variable of number s, from 1, is assumed true or false (request: switch s fixed on or off)
abbrev pub assume_on : ℕ → Assumption
assume_on s = record { variable = s; value = true }

abbrev pub assume_off : ℕ → Assumption
assume_off s = record { variable = s; value = false }

-- S17.1: judge refuses by 16 with this place and leaves the buffer; a walk call does so whatever the checkpoint, and gives it back
abbrev pub BadAt : List ℕ → List Assumption → ℕ → Type 0
BadAt s us i =
    ((b : List ℕ) → max_clauses ≤ length b → judge s us b ≡ record { answer = refused_values (BadAssumption i); buffer = b })
    × ((c : Checkpoint) (b : ℕ) → walk_call s us c b ≡ refusing (BadAssumption i) c)

pub record AssumedCases : Type 0 where
  -- the example with 1 true: clause 1 is satisfied, and 2 is matched with what remains of clause 2
  pub one_matching : (b : List ℕ) → max_clauses ≤ length b
      → judge example (assume_on 1 ∷ []) b ≡ record { answer = accepted_values 2 2; buffer = 0 ∷ 2 ∷ drop 2 b }
  pub one_walked : walked_under example (assume_on 1 ∷ []) 2 ≡ model_at (1 ∷ 0 ∷ []) 1 0 ∷ end_at 1 0 ∷ []
  -- with 1 true and 2 false: both clauses are satisfied, and nothing is left to assign
  pub both_matching : (b : List ℕ) → max_clauses ≤ length b
      → judge example (assume_on 1 ∷ assume_off 2 ∷ []) b ≡ record { answer = accepted_values 2 2; buffer = 0 ∷ 0 ∷ drop 2 b }
  pub both_first : (b : ℕ) → walk_call example (assume_on 1 ∷ assume_off 2 ∷ []) start b ≡ answered (found 1) 0 0 (checkpoint_of 1 [])
  pub both_second : (b : ℕ) → walk_call example (assume_on 1 ∷ assume_off 2 ∷ []) (checkpoint_of 1 []) b ≡ answered ended 0 0 (checkpoint_of 4 [])
  -- with both true nothing is left of clause 2: 10, and it is marked
  pub both_true : UnmatchedUnder example (assume_on 1 ∷ assume_on 2 ∷ []) 1 (0 ∷ 1 ∷ [])
  -- no variable has the number 0: 16 at 0
  pub zero : BadAt example (assume_off 0 ∷ []) 0
  -- a variable above n: 16 at 0
  pub above : BadAt example (assume_on 3 ∷ []) 0
  -- a variable twice, with the same value: 16 at 1
  pub again : BadAt example (assume_on 1 ∷ assume_on 1 ∷ []) 1
  -- and with the other
  pub other_value : BadAt example (assume_on 1 ∷ assume_off 1 ∷ []) 1
  -- 2 variables and no clause, 2 true: no variable is to be assigned
  pub free_walked : walked_under (1 ∷ 2 ∷ 5 ∷ []) (assume_on 2 ∷ []) 2 ≡ model_at (0 ∷ 1 ∷ []) 0 0 ∷ end_at 0 0 ∷ []
