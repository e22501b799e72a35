-- `match_sets` is the definition's outcome.
use mathlib.Core.Bool.{not}
use mathlib.Core.Path.{◌∙◌, ap}
use Prim.Native.Nat.{◌+◌, ◌≤◌}
use native.Mathlib.Omega.{arith}
use Rattle.matching.proofs.WholeLaws.{head_le, running_on, failed, finished}
use Rattle.matching.proofs.match_sets.Goals.{After-augment-front}
use Rattle.matching.proofs.match_sets.Goals as goal

-- the next clause costs few expansions
few : (c : After-augment-front) → c.augment-front.result.head ≤ c.loop-clause.clause + 1
few c = head_le c.loop-clause.invariant c.requires c.loop-clause-test.true c.augment-front.ensures

pub overflow_add-expansions : goal.overflow_add-expansions
overflow_add-expansions c = omega (arith, few c, c.loop-clause.invariant.small, c.loop-clause-test.true, c.requires.few)

pub violator-requires : goal.violator-requires
violator-requires c = omega (arith, few (goal.at.violator-requires c).After-augment-front, c.loop-clause-test.true, c.requires.few)

pub returns-then-is_none : goal.returns-then-is_none
returns-then-is_none c =
    rw c.violator.ensures
    (failed c.loop-clause.invariant c.requires c.loop-clause-test.true c.augment-front.ensures (c.is_none.ensures ∙ ap not c.if-is_none.true))

pub loop-clause-preserved : goal.loop-clause-preserved
loop-clause-preserved c =
    running_on c.loop-clause.invariant c.requires c.loop-clause-test.true c.augment-front.ensures (c.is_none.ensures ∙ ap not c.if-is_none.false)

pub returns : goal.returns
returns c = finished c.loop-clause.invariant c.requires c.loop-clause-test.false
