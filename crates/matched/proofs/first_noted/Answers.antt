-- `matched::first_noted` meets its contract: the first of the noted variables that the clause names, or none.
use Prim.Native.Nat.{ℕ}
use native.Mathlib.Omega.{arith}
use borrow.Author.Rules.{rules}
use mathlib.Core.Bool.{true, false}
use mathlib.Core.List.{List}
use mathlib.Core.Path.{◌≡◌, sym, ap, ◌∙◌}
use lib.ListN.{length, get_or}
use Rattle.masks.specs.Mask.{bit}
use Rattle.formula.specs.InnerFits.{clause_variables}
use Rattle.matched.proofs.TellLaws.{noted_here, noted_later, noted_none}
use Rattle.matched.proofs.first_noted.Goals as goal

pub returns-then-member : goal.returns-then-member
returns-then-member c =
    let v = c.as_slice-v-items.ensures.value in
    let i = c.loop-v.v-index in
    let q : bit (clause_variables c.args.c) (get_or c.args.s.now.order.items i 0) ≡ true = rw (← v) (search rules) in
    ap (λ (l : List ℕ). get_or l i 0) v ∙ sym (c.loop-v.invariant ∙ noted_here c.args.s.now.order.items _ i (omega (arith, ap length v, c.loop-v-test.true)) q)

pub loop-v-preserved : goal.loop-v-preserved
loop-v-preserved c =
    let v = c.as_slice-v-items.ensures.value in
    let i = c.loop-v.v-index in
    let q : bit (clause_variables c.args.c) (get_or c.args.s.now.order.items i 0) ≡ false = rw (← v) (search rules) in
    c.loop-v.invariant ∙ noted_later c.args.s.now.order.items _ i (omega (arith, ap length v, c.loop-v-test.true)) q

pub returns : goal.returns
returns c =
    let e : c.loop-v.v-index ≡ length c.args.s.now.order.items = omega (arith, ap length c.as_slice-v-items.ensures.value, c.loop-v-test.false) in
    sym (c.loop-v.invariant ∙ noted_none c.args.s.now.order.items _ c.loop-v.v-index e)
