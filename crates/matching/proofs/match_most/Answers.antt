-- `match_most` gives the most clauses that can be matched together.
use mathlib.Core.Path.{◌≡◌, sym, ◌∙◌}
use native.Mathlib.Omega.{arith}
use Rattle.matching.proofs.MostLoopLaws.{holding_begin, holding_leave, holding_more, holding_done}
use Rattle.matching.proofs.match_most.Goals.{then-is_some, else-is_some}
use Rattle.matching.proofs.match_most.Goals as goal

pub loop-i-init : goal.loop-i-init
loop-i-init c = holding_begin c.args.sets.now c.new-pairs.result.table _ c.new-pairs.ensures

pub loop-i-preserved : goal.loop-i-preserved
loop-i-preserved c =
    let H = c.loop-i.invariant in
    let h = c.loop-i-test.true in
    elim c.if-is_some.branch [
      | then-is_some w ↦ rw w.k-is (holding_more H c.requires h c.augment.ensures (sym c.is_some.ensures ∙ w.if-is_some.true))
      | else-is_some w ↦ rw w.k-is (holding_leave H c.requires h c.augment.ensures (sym c.is_some.ensures ∙ w.if-is_some.false))
    ]

pub returns : goal.returns
returns c =
    let e : c.loop-i.i ≡ c.args.count = omega (arith, c.loop-i-test.false, c.loop-i.auto.i-end) in
    holding_done (rw e at c.loop-i.invariant) c.requires
