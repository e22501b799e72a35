-- `just_two`: the four bytes are those of the list.
use Rattle.std.proofs.Common.{arith}
use Rattle.cases.proofs.AssumingLaws.{two_of}
use Rattle.cases.proofs.assuming.just_two.Goals as goal

pub returns : goal.returns
returns c = two_of _ (omega arith)
