-- `none`: the tally from there is that of all calls.
use Rattle.std.proofs.Common.{refl}
use Rattle.cases.proofs.WaitingLaws.{tallied-first}
use Rattle.cases.proofs.waiting.Waits.none.Goals as goal

pub returns : goal.returns
returns c = record { finds = tallied-first; reached = c.start_checkpoint.ensures; steps = refl; closed = refl }
