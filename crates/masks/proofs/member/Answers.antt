-- `member`: the test is the definition of bit.
use mathlib.Core.Path.{refl}
use Rattle.masks.specs.Mask.{bit}
use Rattle.masks.proofs.member.Goals as goal

pub returns : goal.returns
unfolding bit
returns c = refl
