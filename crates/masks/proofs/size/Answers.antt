-- `size`: a mask has as many members as ones.
use Rattle.masks.proofs.SizeLaws.{size_ones}
use Rattle.masks.proofs.size.Goals as goal

pub returns : goal.returns
returns c = size_ones 64 c.args.mask c.ranges.mask.fits
