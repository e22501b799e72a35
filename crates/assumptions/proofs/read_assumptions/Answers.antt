-- `read_assumptions`: the loop has read the first i assumptions.
use mathlib.Core.Path.{refl, sym, ◌∙◌}
use native.Mathlib.Omega.{arith}
use Rattle.std.proofs.lemmas.Result.{err_from_is_err_and}
use Rattle.assumptions.proofs.TakenLaws.{taken_none, taken_all, taken_bad, taken_next}
use Rattle.assumptions.proofs.read_assumptions.Goals as goal

pub loop-i-init : goal.loop-i-init
loop-i-init c = rw c.none-a.ensures (taken_none _ _)

pub returns-in_err-a : goal.returns-in_err-a
returns-in_err-a c =
    let p = err_from_is_err_and c.from_residual.result c.from_residual.ensures.1 in
    rw (p.1, p.2) (sym (taken_bad c.loop-i.invariant _ _ (omega arith) refl _ (sym c.take.ensures ∙ c.in_err-a.was)))

pub loop-i-preserved : goal.loop-i-preserved
loop-i-preserved c = taken_next c.loop-i.invariant _ _ (omega arith) refl _ (sym c.take.ensures ∙ c.in_ok-a.was)

pub returns : goal.returns
returns c = sym (taken_all c.loop-i.invariant c.loop-i-test.false)
