-- `enumeration::start_checkpoint` meets its contract.
use mathlib.Core.Path.{refl}
use Rattle.lists.specs.Padded.{padded}
use Rattle.walk.specs.Checkpoints.{checkpoint_of, start}
use Rattle.enumeration.proofs.checkpoint.start_checkpoint.Goals as goal

pub returns : goal.returns
unfolding start checkpoint_of padded
returns c = refl
