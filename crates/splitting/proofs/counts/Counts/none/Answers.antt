-- `none` counts nothing.
use Rattle.splitting.proofs.CounterLaws.{counts_none}
use Rattle.splitting.proofs.counts.Counts.none.Goals as goal

pub returns : goal.returns
returns c v = counts_none 7 v
