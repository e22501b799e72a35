-- `assumptions_in`: the pairs are read for the number of variables that the input states.
use Rattle.assumptions.proofs.StatedLaws.{stated_le}
use Rattle.capi.proofs.assumptions_in.Goals as goal

pub read_pairs-requires : goal.read_pairs-requires
read_pairs-requires c = rw c.stated.ensures (stated_le c.args.input.now)
