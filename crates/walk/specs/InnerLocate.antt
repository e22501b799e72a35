-- The call from a checkpoint: the checkpoint's state is looked for by plain calls of budget 1 from the start, and the call is the plain
-- machine's from there. Nobody need believe this: `from_checkpoint` and `foreign_returned` in proofs/Demands.antt say what the call is.
use Rattle.std.specs.Prelude.{ℕ, zero, suc, Bool, true, false, cond, ◌&&◌, List, [], ◌∷◌, eqb, length}
use Rattle.formula.specs.declared.Refusal.TheVariants.{ForeignCheckpoint}
use Rattle.walk.specs.Task.{Task}
use Rattle.walk.specs.Plain.{plain_walk}
use Rattle.walk.specs.Checkpoints.{Checkpoint, checkpoint_after}
use Rattle.walk.specs.PlainMachine.{plain_call}
use Rattle.walk.specs.Results.{Result, refusing, plain_result}

-- the same bytes
unfoldable pub same_bytes : List ℕ → List ℕ → Bool
same_bytes [] [] = true
same_bytes [] (y ∷ ys) = false
same_bytes (x ∷ xs) [] = false
same_bytes (x ∷ xs) (y ∷ ys) = eqb x y && same_bytes xs ys

-- the same checkpoint: mode, length and bytes
unfoldable pub same_checkpoint : Checkpoint → Checkpoint → Bool
same_checkpoint c d = eqb c.mode d.mode && (eqb c.length d.length && same_bytes c.bytes d.bytes)

-- where the plain machine has a checkpoint: at a state, the number of entries behind; or nowhere
pub data Located : Type 0 where
  at_state : ℕ → Located
  nowhere : Located

module _ (T : Task) (c : Checkpoint) where
  -- the first state with this checkpoint, from k on, by at most f calls of budget 1
  unfoldable pub locate_from : ℕ → ℕ → Located
  locate_from zero k = cond (same_checkpoint (checkpoint_after T k) c) (at_state k) nowhere
  locate_from (suc f) k = cond (same_checkpoint (checkpoint_after T k) c) (at_state k) (locate_from f (plain_call T 1 k).behind)

  -- S7.4: the state of a checkpoint, nowhere if the walk has it not. Calls of budget 1 stop wherever calls stop, and each leaves an entry
  -- more behind while one is ahead: as many calls as there are entries come to the end.
  unfoldable pub located : Located
  located = locate_from (length (plain_walk T)) 0

  -- a call from there; 11 where the walk has no such checkpoint
  abbrev pub by_state : Located → ℕ → Result
  by_state (at_state k) b = plain_result T (plain_call T b k)
  by_state nowhere b = refusing (ForeignCheckpoint 0) c

-- a call on a task, from a checkpoint
unfoldable pub task_call : Task → Checkpoint → ℕ → Result
task_call T c b = by_state T c (located T c) b
