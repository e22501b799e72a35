-- A walk call as the code makes it: the checkpoint is tested, and the resumable machine goes on from its position.
use Rattle.std.specs.Prelude.{ℕ, cond}
use Rattle.formula.specs.declared.Refusal.TheVariants.{ForeignCheckpoint}
use Rattle.walk.specs.Checkpoints.{Checkpoint}
use Rattle.walk.specs.InnerStack.{Tree}
use Rattle.walk.specs.InnerMachine.{Resumed, resume}
use Rattle.walk.specs.InnerTest.{shown, read, position_of, accepts}
use Rattle.walk.specs.Results.{Result, answered, refusing}

-- what the resumable machine gives, as a result
abbrev pub resumed_result : Resumed → Result
resumed_result r = answered r.answer r.steps r.expansions (shown r.position)

-- a call from a checkpoint that passed the test
abbrev pub call_from : Tree → Checkpoint → ℕ → Result
call_from K c b = resumed_result (resume K b (position_of K.size c.mode (read c)))

-- 11 where the test fails
abbrev pub resumed_call : Tree → Checkpoint → ℕ → Result
resumed_call K c b = cond (accepts K c) (call_from K c b) (refusing (ForeignCheckpoint 0) c)
