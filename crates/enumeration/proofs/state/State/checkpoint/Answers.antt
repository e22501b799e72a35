-- `checkpoint` meets its contract: its mode is the position's.
use Rattle.enumeration.proofs.TellLaws.{tells}
use Rattle.enumeration.proofs.state.State.checkpoint.Goals as goal

pub returns : goal.returns
returns c = λ K h. tells K _ h _ (c.mode.ensures K h)
