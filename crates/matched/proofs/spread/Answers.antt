-- `matched::spread` meets its contract.
use Prim.Native.Nat.{◌<◌}
use native.Mathlib.Omega.{arith}
use borrow.Author.Rules.{rules}
use mathlib.Core.List.{List}
use mathlib.Core.Path.{◌≡◌, refl, sym, ap, ◌∙◌}
use lib.ListN.{length, get_or}
use Rattle.arrayvec.specs.ArrayVec.{ArrayVec as Items}
use Rattle.limits.specs.Limits.{max_clauses}
use Rattle.lists.specs.Tabulated.{tabulated}
use Rattle.lists.proofs.TabulatedLaws.{length_tabulated}
use Rattle.formula.specs.declared.Clause.{Clause}
use Rattle.formula.specs.InnerAssignment.{satisfied_under}
use Rattle.formula.specs.InnerMasked.{no_clause}
use Rattle.matched.specs.InnerSpread.{open_before, byte_at}
use Rattle.matched.proofs.SpreadLaws.{spread_open, spread_gone}
use Rattle.matched.proofs.spread.Goals.{In-loop-c, then-satisfies, else-satisfies}
use Rattle.matched.proofs.spread.Goals as goal

-- there is room for one byte more
room : (c : In-loop-c) → length c.loop-c.row.items < max_clauses
room c =
    let b = c.args in
    let n = ap length c.loop-c.invariant.2 ∙ length_tabulated (byte_at b.f.now.clauses.items b.a b.answers.now b.k) c.loop-c.c-index in
    omega (arith, c.deref-c-items.ensures.1, c.loop-c-test.true, n)

pub loop-c-init : goal.loop-c-init
unfolding tabulated open_before
loop-c-init c = (omega arith, refl, c.new-row.ensures)

pub push-requires : goal.push-requires
push-requires c = (search rules, room (goal.at.push-requires c).In-loop-c)

pub push-requires-else-satisfies : goal.push-requires-else-satisfies
push-requires-else-satisfies c = (search rules, room (goal.at.push-requires-else-satisfies c).In-loop-c)

pub loop-c-preserved : goal.loop-c-preserved
loop-c-preserved c =
    let b = c.args in
    let cs = b.f.now.clauses.items in
    let i = c.loop-c.c-index in
    let gone : c.satisfies.result ≡ satisfied_under b.a (get_or cs i no_clause) =
    c.satisfies.ensures ∙ ap (λ (l : List Clause). satisfied_under b.a (get_or l i no_clause)) c.deref-c-items.ensures.0 in
    elim c.if-satisfies.branch [
      | then-satisfies w ↦
          let g = spread_gone cs b.a b.answers.now b.k i c.loop-c.next c.loop-c.row.items c.loop-c.invariant.1 c.loop-c.invariant.2 (sym gone ∙ w.if-satisfies.true) in
          (omega arith, w.next-is ∙ g.0, ap (λ (r : Items _). r.items) w.row-is ∙ w.push.ensures.items ∙ g.1)
      | else-satisfies w ↦
          let g = spread_open cs b.a b.answers.now b.k i c.loop-c.next c.loop-c.row.items c.loop-c.invariant.1 c.loop-c.invariant.2 (sym gone ∙ w.if-satisfies.false) in
          (omega arith, w.next-is ∙ g.0, ap (λ (r : Items _). r.items) w.row-is ∙ w.push-else-satisfies.ensures.items ∙ g.1)
    ]
