-- `counted` gives the variables with a count: some digit of it is 1.
use native.Mathlib.Omega.{arith}
use mathlib.Core.Path.{sym, ◌∙◌}
use Rattle.masks.proofs.BitLaws.{bit-none}
use Rattle.splitting.proofs.CounterLaws.{counted_turn, counted_done}
use Rattle.splitting.proofs.counts.Counts.counted.Goals as goal

pub loop-digit-init : goal.loop-digit-init
loop-digit-init c v = rw (bit-none v)

pub loop-digit-preserved : goal.loop-digit-preserved
loop-digit-preserved c v =
    let l = c.loop-digit in counted_turn c.args.self.digits l.digit-index l.mask v (omega (arith, c.args.self.whole)) ∙ l.invariant v

pub returns : goal.returns
returns c v =
    let l = c.loop-digit in sym (counted_done c.args.self.digits l.digit-index l.mask v (omega (arith, c.args.self.whole))) ∙ l.invariant v
