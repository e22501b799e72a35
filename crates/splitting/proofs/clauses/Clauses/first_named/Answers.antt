-- `first_named` passes the clauses that do not name v.
use Prim.Native.Nat.{ℕ}
use native.Mathlib.Omega.{arith}
use mathlib.Core.Path.{refl, sym, ap, ◌∙◌}
use Rattle.lists.specs.Tabulated.{tabulated}
use Rattle.masks.specs.Mask.{bit}
use Rattle.formula.specs.declared.Clause.{Clause}
use Rattle.formula.specs.InnerFits.{clause_variables}
use Rattle.splitting.specs.InnerChoose.{unnamed}
use Rattle.splitting.proofs.OpenClauseLaws.{unnamed-whole}
use Rattle.splitting.proofs.clauses.Clauses.first_named.Goals as goal

pub loop-i-init : goal.loop-i-init
unfolding unnamed tabulated
loop-i-init c = refl

pub loop-i-preserved : goal.loop-i-preserved
loop-i-preserved c =
    let s = c.args.self.now in
    unnamed-whole s.positives s.negatives s.count c.args.v c.loop-i.i (omega arith)
    (ap (λ (d : Clause). bit (clause_variables d) c.args.v) (sym c.clause.ensures) ∙ ap (λ (m : ℕ). bit m c.args.v) (sym c.variables.ensures) ∙ sym c.member.ensures ∙ c.if-member.false) c.loop-i.invariant
