-- `minus`: `!b` has what b has not.
use Rattle.masks.proofs.BitLaws.{and-not}
use Rattle.masks.proofs.minus.Goals as goal

pub returns : goal.returns
returns c = and-not c.args.a c.args.b c.ranges.a.fits c.ranges.b.fits
