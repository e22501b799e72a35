-- `fill_lines` writes the lines of the next models. The invariant: i lines are written, and the others go on from the state.
use Prim.Native.Nat.{◌<◌}
use native.Mathlib.Omega.{arith}
use Rattle.walk.specs.Gaps.{ample_budget}
use Rattle.walk.specs.InnerStack.{Tree}
use Rattle.walk.specs.InnerMachine.{resume}
use Rattle.enumeration.specs.InnerState.{position_in, Follows, Holds, Ran}
use Rattle.page.proofs.RunLaws.{run_steps}
use Rattle.page.proofs.GoingLaws.{going_first, going_more, going_none, going_full}
use Rattle.page.proofs.filling.fill_lines.Goals.{After-go_on-run}
use Rattle.page.proofs.filling.fill_lines.Goals as goal

-- the run, by what the entry holds
ran : (g : After-go_on-run) (K : Tree)
    → (Follows g.args.task.now.formula g.args.task.now.scope K → Holds K g.args.start → Ran K g.go_on-run.result (resume K ample_budget (position_in g.loop-i.state)))
ran g K F h = g.go_on-run.ensures K F (g.loop-i.invariant K F h).holds

-- its steps
few : (g : After-go_on-run) → g.go_on-run.result.steps < 1000
few g =
    let v = g.requires.valid in
    run_steps _ _ _ (ran g v.tree v.follows v.holds)

pub loop-i-init : goal.loop-i-init
loop-i-init c = λ K F h. going_first K _ _ c.args.serial c.args.page.now c.args.start h

pub go_on-run-requires : goal.go_on-run-requires
go_on-run-requires c =
    let v = c.requires.valid in
    (c.requires.fits, record { tree = v.tree; follows = v.follows; holds = (c.loop-i.invariant v.tree v.follows v.holds).holds })

pub returns-in_default : goal.returns-in_default
returns-in_default c =
    λ K F h. going_none (c.loop-i.invariant K F h) c.go_on-run.result (ran (goal.at.returns-in_default c).After-go_on-run K F h) (omega arith) c.in_default.not-Model

pub overflow_add-serial : goal.overflow_add-serial
overflow_add-serial c = omega (arith, c.requires.serials)

pub put_line-requires : goal.put_line-requires
put_line-requires c =
    let p = c.requires in
    (omega arith, omega (arith, p.room), omega (arith, p.serials), p.fits.most, omega (arith, few (goal.at.put_line-requires c).After-go_on-run))

pub loop-i-preserved : goal.loop-i-preserved
loop-i-preserved c =
    λ K F h.
    going_more (c.loop-i.invariant K F h) c.go_on-run.result (ran (goal.at.loop-i-preserved c).After-go_on-run K F h) (omega arith) _ c.in-Model.is _ c.requires.fits.most c.requires.serials
    (rw c.visible-mask.ensures at c.put_line.ensures)

pub returns : goal.returns
returns c = λ K F h. going_full (c.loop-i.invariant K F h) (omega arith)
