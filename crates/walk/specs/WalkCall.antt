-- S8.1, S17.3: the act walk: one call, on the bytes of an input, a list of assumptions, a checkpoint and a budget.
use Rattle.std.specs.Prelude.{ℕ, List, [], ◌∷◌}
use Rattle.assumptions.specs.declared.Assumption.{Assumption}
use Rattle.matched.specs.Acceptance.{Acceptance, accepted, declined, acceptance}
use Rattle.walk.specs.Task.{under}
use Rattle.walk.specs.Checkpoints.{Checkpoint}
use Rattle.walk.specs.Results.{Result, refusing}
use Rattle.walk.specs.InnerLocate.{task_call}

-- An accepted input is walked as its formula's task under the assumptions; any other input gets its refusal. The call on a task
-- is, from a checkpoint that its walk has, the plain machine's from the checkpoint's state, and 11 from any other: `from_checkpoint`,
-- `foreign_returned` in proofs/Demands.antt.
abbrev pub call_on : Acceptance → Checkpoint → ℕ → Result
call_on (accepted n t cs row) c b = task_call (under n t cs) c b
call_on (declined r row) c b = refusing r c

-- a walk call: the input, the assumptions, the checkpoint and the budget. S3.2: first 2 to 9, then 16, then 10, then 11.
unfoldable pub walk_call : List ℕ → List Assumption → Checkpoint → ℕ → Result
walk_call s us c b = call_on (acceptance s us) c b

-- walk calls on one input under one list of assumptions, each given the checkpoint that the last one returned
unfoldable pub walk_calls : List ℕ → List Assumption → Checkpoint → List ℕ → List Result
walk_calls s us c [] = []
walk_calls s us c (b ∷ bs) = walk_call s us c b ∷ walk_calls s us (walk_call s us c b).checkpoint bs

-- the checkpoint that the last of them returned
unfoldable pub last_checkpoint : List ℕ → List Assumption → Checkpoint → List ℕ → Checkpoint
last_checkpoint s us c [] = c
last_checkpoint s us c (b ∷ bs) = last_checkpoint s us (walk_call s us c b).checkpoint bs
