-- S17.6: a walk call on an empty list of assumptions, as it is told without any: `call_unassumed` in proofs/Demands.antt.
use Rattle.std.specs.Prelude.{ℕ}
use Rattle.matched.specs.Acceptance.{Acceptance, accepted, declined}
use Rattle.walk.specs.Task.{whole}
use Rattle.walk.specs.Checkpoints.{Checkpoint}
use Rattle.walk.specs.Results.{Result, refusing}
use Rattle.walk.specs.InnerLocate.{task_call}

-- an accepted input is walked as its formula's own task; any other input gets its refusal
abbrev pub plain_call_on : Acceptance → Checkpoint → ℕ → Result
plain_call_on (accepted n t cs row) c b = task_call (whole n cs) c b
plain_call_on (declined r row) c b = refusing r c
