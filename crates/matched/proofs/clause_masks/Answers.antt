-- `matched::clause_masks` meets its contract.
use Prim.Native.Nat.{◌≤◌}
use native.Mathlib.Omega.{arith}
use mathlib.Core.Path.{refl, ap, ◌∙◌}
use lib.ListN.{length}
use lib.Seq.{take_all}
use Rattle.lists.specs.Padded.{padded}
use Rattle.matched.proofs.DeficiencyLaws.{masks_more}
use Rattle.matched.proofs.clause_masks.Goals as goal

pub loop-i-init : goal.loop-i-init
unfolding padded
loop-i-init c = refl

pub loop-i-preserved : goal.loop-i-preserved
loop-i-preserved c =
    let v = c.deref-c-items.ensures.0 in
    let cs = c.args.f.now.clauses.items in
    let i = c.loop-i.i in
    let w = masks_more cs i (omega (arith, ap length v, c.loop-i-test.true)) (omega (arith, c.deref-c-items.ensures.1, c.loop-i-test.true)) c.loop-i.sets c.loop-i.invariant in
    rw (c.variables.ensures, v) w

pub returns : goal.returns
returns c =
    let e : length c.args.f.now.clauses.items ≤ c.loop-i.i = omega (arith, ap length c.deref-c-items.ensures.0, c.loop-i-test.false) in
    c.loop-i.invariant ∙ rw (take_all c.loop-i.i c.args.f.now.clauses.items e)
