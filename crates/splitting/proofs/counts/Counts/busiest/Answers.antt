-- `busiest` narrows the mask digit by digit, and takes the lowest of what is left.
use native.Mathlib.Omega.{arith}
use mathlib.Core.Path.{◌≡◌}
use Rattle.splitting.specs.InnerChoose.{count_at}
use Rattle.splitting.proofs.CounterLaws.{greatest_all, greatest_turn, busiest_lowest}
use Rattle.splitting.proofs.counts.Counts.busiest.Goals as goal

pub loop-i-init : goal.loop-i-init
loop-i-init c = greatest_all c.args.self.digits 7 c.args.mask (omega (arith, c.args.self.whole)) c.requires

pub loop-i-preserved : goal.loop-i-preserved
loop-i-preserved c =
    let l = c.loop-i in
    greatest_turn c.args.self.digits l.i c.args.mask l.most c.narrow-most.result c.loop-i-test.true (omega (arith, c.args.self.whole)) c.narrow-most.ensures l.invariant

pub returns : goal.returns
returns c =
    let e : c.loop-i.i ≡ 0 = omega arith in
    rw c.lowest.ensures (busiest_lowest (count_at c.args.self) c.args.mask c.loop-i.most (omega arith) (rw e at c.loop-i.invariant))
