-- `walk` meets its contract: no more variables are stated than there can be, and `walk_under` does the rest.
use Rattle.assumptions.proofs.StatedLaws.{stated_le}
use Rattle.enumeration.proofs.calls.walk.Goals as goal

pub read_assumptions-u-requires : goal.read_assumptions-u-requires
read_assumptions-u-requires c = rw c.stated.ensures (stated_le c.args.input.now)
