-- `try_variable` is the trial of v: the matching with v false and, if that succeeds, the one with v true.
use native.Mathlib.Omega.{arith}
use mathlib.Core.Path.{ap, ◌∙◌}
use mathlib.Core.Bool.{not}
use Rattle.splitting.specs.InnerChoose.{formula_in}
use Rattle.splitting.proofs.NodeMatchingLaws.{match_cost}
use Rattle.splitting.proofs.CompactLaws.{small_in}
use Rattle.splitting.proofs.MaskTrialLaws.{tried_false, tried_true}
use Rattle.splitting.proofs.clauses.Clauses.try_variable.Goals as goal

pub returns-then-is_err : goal.returns-then-is_err
returns-then-is_err c =
    let g = formula_in c.args.self.now in
    tried_false g _ c.args.v c.match_with-when_false.result
    (rw (c.match_with-when_false.ensures, c.with.ensures, c.none.ensures))
    (c.is_err.ensures.negation ∙ ap not c.if-is_err.true)

pub overflow_add-result : goal.overflow_add-result
overflow_add-result c =
    let g = formula_in c.args.self.now in
    omega (
      arith,
      match_cost g (small_in c.args.self.now) c.with.result c.match_with-when_false.result c.match_with-when_false.ensures,
      match_cost g (small_in c.args.self.now) c.with-2.result c.match_with-when_true.result c.match_with-when_true.ensures,
    )

pub returns : goal.returns
returns c =
    let g = formula_in c.args.self.now in
    rw c.is_ok.ensures.value
    (tried_true g _ c.args.v c.match_with-when_false.result c.match_with-when_true.result
    (rw (c.match_with-when_false.ensures, c.with.ensures, c.none.ensures))
    (c.is_err.ensures.negation ∙ ap not c.if-is_err.false)
    (rw (c.match_with-when_true.ensures, c.with-2.ensures, c.none-2.ensures)))
