-- `with` counts one more of each member: the digits that it writes are those of the sums.
use native.Mathlib.Omega.{arith}
use mathlib.Core.Path.{◌≡◌, sym, ap, ◌∙◌}
use lib.ListN.{length, length-append, take, drop}
use Rattle.std.proofs.lemmas.List.{take-append-drop}
use Rattle.splitting.proofs.CounterLaws.{added, length_added, count_added, added_turn, added_done}
use Rattle.splitting.proofs.counts.Counts.with.Goals as goal

pub loop-digit-preserved : goal.loop-digit-preserved
loop-digit-preserved c =
    let l = c.loop-digit in added_turn l.digit-items l.digit-index l.carry (omega arith) ∙ l.invariant

pub returns : goal.returns
returns c v =
    let l = c.loop-digit in
    let e : l.digit-items ≡ added c.args.self.digits c.args.mask = sym (added_done l.digit-items l.digit-index l.carry (omega arith)) ∙ l.invariant in
    rw e (count_added c.args.self.digits c.args.mask v (λ t. rw c.args.self.whole (omega (arith, c.requires v))))

pub invariant_of-self : goal.invariant_of-self
invariant_of-self c =
    let ds = c.loop-digit.digit-items in
    let i = c.loop-digit.digit-index in
    let k = c.loop-digit.carry in
    let n : length ds ≡ 7 = omega (arith, ap length c.loop-digit.invariant, length-append (take i ds) (added (drop i ds) k), length_added (drop i ds) k, ap length (take-append-drop i ds), length-append (take i ds) (drop i ds), length_added c.args.self.digits c.args.mask, c.args.self.whole) in
    record { whole = n }
