-- `busiest` narrows the mask digit by digit. The invariant: what is left of it is greatest by the digits from i on.
use lib.ListN.{drop}
use Rattle.splitting.specs.InnerChoose.{count_of}
use Rattle.splitting.proofs.CounterLaws.{Greatest}
use Rattle.splitting.proofs.counts.Counts.busiest.Given as goal

abbrev pub invariant-loop-i : goal.invariant-loop-i
invariant-loop-i l = Greatest (count_of (drop l.i l.self.digits)) l.mask l.most
