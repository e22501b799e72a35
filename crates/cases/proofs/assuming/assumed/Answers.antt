-- `assumed`: the number of variables is the one that the input states, which is few.
use Rattle.assumptions.proofs.StatedLaws.{stated_le}
use Rattle.cases.proofs.assuming.assumed.Goals as goal

pub read_pairs-requires : goal.read_pairs-requires
read_pairs-requires c = rw c.stated.ensures (stated_le _)

pub returns : goal.returns
returns c = rw c.stated.ensures at c.read_pairs.ensures
