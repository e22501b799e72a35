-- `survey_open` is the survey of the node.
use native.Mathlib.Omega.{arith}
use mathlib.Core.List.{List}
use mathlib.Core.Path.{◌≡◌, refl, sym, ap, ◌∙◌}
use Rattle.formula.specs.declared.Clause.{Clause}
use lib.ListN.{length, get_or}
use Rattle.formula.specs.InnerMasked.{no_clause}
use Rattle.splitting.specs.InnerChoose.{open_clauses, survey_from}
use Rattle.splitting.proofs.OpenClauseLaws.{survey_open, survey_gone}
use Rattle.splitting.proofs.survey_open.Goals.{then-not-satisfies, else-not-satisfies}
use Rattle.splitting.proofs.survey_open.Goals as goal

pub loop-c-init : goal.loop-c-init
unfolding open_clauses survey_from
loop-c-init c = c.none-s.ensures

pub loop-c-preserved : goal.loop-c-preserved
loop-c-preserved c =
    let cs = c.args.f.now.clauses.items in
    let a = c.args.a in
    let i = c.loop-c.c-index in
    let at = ap (λ (l : List Clause). get_or l i no_clause) (sym c.deref-c-items.ensures.0) in
    elim c.if-not-satisfies.branch [
      | then-not-satisfies w ↦ rw (w.s-is, w.with-s.ensures, w.left.ensures) (survey_open cs a i _ at _ c.loop-c.invariant (sym c.satisfies.ensures ∙ w.if-not-satisfies.true))
      | else-not-satisfies w ↦ w.s-is ∙ survey_gone cs a i _ at _ c.loop-c.invariant (sym c.satisfies.ensures ∙ w.if-not-satisfies.false)
    ]

pub returns : goal.returns
returns c = let e : c.loop-c.c-index ≡ length c.args.f.now.clauses.items = omega (arith, ap length c.deref-c-items.ensures.0) in rw e at c.loop-c.invariant
