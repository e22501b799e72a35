-- `take_open` writes what is left of the open clauses.
use native.Mathlib.Omega.{arith}
use mathlib.Core.List.{List}
use mathlib.Core.Path.{◌≡◌, refl, sym, ap, ◌∙◌}
use lib.ListN.{length, get_or}
use Rattle.formula.specs.declared.Clause.{Clause}
use Rattle.lists.specs.Tabulated.{tabulated}
use Rattle.formula.specs.InnerMasked.{no_clause}
use Rattle.splitting.specs.InnerChoose.{open_clauses}
use Rattle.splitting.proofs.OpenClauseLaws.{formula_held, open_gone, open_more}
use Rattle.splitting.proofs.clauses.Clauses.take_open.Goals.{then-not-satisfies, else-not-satisfies}
use Rattle.splitting.proofs.clauses.Clauses.take_open.Goals as goal

pub loop-c-init : goal.loop-c-init
unfolding open_clauses tabulated
loop-c-init c = (omega arith, refl)

pub loop-c-preserved : goal.loop-c-preserved
loop-c-preserved c =
    let cs = c.args.f.now.clauses.items in
    let a = c.args.a in
    let i = c.loop-c.c-index in
    let at = ap (λ (l : List Clause). get_or l i no_clause) (sym c.deref-c-items.ensures.0) in
    elim c.if-not-satisfies.branch [
      | then-not-satisfies w ↦ (
        omega arith,
        rw (w.self-is, w.count-is)
            (w.put.ensures.written ∙ rw (c.loop-c.invariant.1, w.left.ensures, open_more cs a i _ at (sym c.satisfies.ensures ∙ w.if-not-satisfies.true))),
      )
      | else-not-satisfies w ↦ (
        omega arith,
        rw (w.self-is, w.count-is, open_gone cs a i _ at (sym c.satisfies.ensures ∙ w.if-not-satisfies.false)) c.loop-c.invariant.1,
      )
    ]

pub returns : goal.returns
returns c =
    let e : c.loop-c.c-index ≡ length c.args.f.now.clauses.items = omega (arith, ap length c.deref-c-items.ensures.0) in
    formula_held c.loop-c.self.positives c.loop-c.self.negatives c.loop-c.count _ (rw e at c.loop-c.invariant.1)
