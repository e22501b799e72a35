-- `put_walk` writes the lines of a walk. The invariant: the lines so far are written, and the others go on from s.
use Prim.Native.Nat.{ℕ, ◌-◌, ◌+◌, ◌<◌}
use mathlib.Core.List.{[], ◌++◌}
use mathlib.Core.Path.{◌≡◌}
use native.Mathlib.Omega.{arith}
use Rattle.walk.specs.Gaps.{ample_budget}
use Rattle.walk.specs.InnerStack.{Tree}
use Rattle.walk.specs.InnerMachine.{resume}
use Rattle.enumeration.specs.declared.steps.Answer.TheVariants.{Model, Spent, Ended}
use Rattle.enumeration.specs.InnerState.{position_in, Follows, Ran}
use Rattle.printing.specs.Printed.{model_line, end_line, more_line, max_models}
use Rattle.printing.specs.InnerLines.{lines_from}
use Rattle.printing.proofs.GoingLaws.{going_first, lines_model, lines_end, lines_spent, lines_more, going_room, going_room_last, going_more, going_last, going_stop}
use Rattle.printing.proofs.put_walk.Goals.{After-go_on-run}
use Rattle.printing.proofs.put_walk.Goals as goal

pub loop-init : goal.loop-init
loop-init c = λ K F. going_first K _ _ _ _ (c.root-state.ensures K (omega (arith, F.size, F.most)) F.before) (let r = c.requires.room in omega arith)

pub go_on-run-requires : goal.go_on-run-requires
go_on-run-requires c =
    let v = c.requires in
    (v.fits, record { tree = v.tree; follows = v.follows; holds = (c.loop.invariant v.tree v.follows).holds })

-- what a run gives, the loop going on
module _ (g : After-go_on-run) (more : g.loop.counter < max_models) (K : Tree) (F : Follows g.args.task.now.formula g.args.task.now.scope K) where
  ran : Ran K g.go_on-run.result (resume K ample_budget (position_in g.loop.state))
  ran = g.go_on-run.ensures K F (g.loop.invariant K F).holds

  at_model : (m : ℕ) → g.go_on-run.result.answer ≡ Model m
      → lines_from K g.args.task.now.formula.variables g.visible-mask.result (max_models - g.loop.counter) (position_in g.loop.state)
      ≡ model_line g.args.task.now.formula.variables g.visible-mask.result m g.go_on-run.result.steps g.go_on-run.result.expansions ++ lines_from K g.args.task.now.formula.variables g.visible-mask.result (max_models - g.loop.counter - 1) (position_in g.go_on-run.result.state)
  at_model = lines_model K _ _ _ g.loop.state _ ran (omega arith)

  at_end : g.go_on-run.result.answer ≡ Ended
      → lines_from K g.args.task.now.formula.variables g.visible-mask.result (max_models - g.loop.counter) (position_in g.loop.state) ≡ end_line g.go_on-run.result.steps g.go_on-run.result.expansions
  at_end = lines_end K _ _ _ g.loop.state _ ran (omega arith)

  at_spent : g.go_on-run.result.answer ≡ Spent → lines_from K g.args.task.now.formula.variables g.visible-mask.result (max_models - g.loop.counter) (position_in g.loop.state) ≡ []
  at_spent = lines_spent K _ _ _ g.loop.state _ ran (omega arith)

pub put_end_line-requires : goal.put_end_line-requires
put_end_line-requires c =
    let v = c.requires in
    let g = (goal.at.put_end_line-requires c).After-go_on-run in
    going_room_last (c.loop.invariant v.tree v.follows) _ (at_end g (omega arith) v.tree v.follows c.in-Ended.is) (rw (← c.visible-mask.ensures) at v.room)

pub put_model_line-requires-clause-room : goal.put_model_line-requires-clause-room
put_model_line-requires-clause-room c =
    let v = c.requires in
    let g = (goal.at.put_model_line-requires-clause-room c).After-go_on-run in
    going_room (c.loop.invariant v.tree v.follows) _ _ (at_model g (omega arith) v.tree v.follows _ c.in-Model.is) (rw (← c.visible-mask.ensures) at v.room)

pub put_more_line-requires : goal.put_more_line-requires
put_more_line-requires c =
    let v = c.requires in
    going_room_last (c.loop.invariant v.tree v.follows) more_line (lines_more _ c.args.task.now.formula.variables c.visible-mask.result _ _ (omega arith)) (rw (← c.visible-mask.ensures) at v.room)

pub returns-in-Ended : goal.returns-in-Ended
returns-in-Ended c =
    λ K F. rw (← c.visible-mask.ensures) (going_last (c.loop.invariant K F) _ _ (at_end (goal.at.returns-in-Ended c).After-go_on-run (omega arith) K F c.in-Ended.is) c.put_end_line.ensures)

pub returns-in-Spent : goal.returns-in-Spent
returns-in-Spent c =
    λ K F. rw (← c.visible-mask.ensures) (going_stop (c.loop.invariant K F) (at_spent (goal.at.returns-in-Spent c).After-go_on-run (omega arith) K F c.in-Spent.is))

pub loop-preserved : goal.loop-preserved
loop-preserved c =
    let g = (goal.at.loop-preserved c).After-go_on-run in
    let e : max_models - (c.loop.counter + 1) ≡ max_models - c.loop.counter - 1 = omega arith in
    λ K F. rw e (going_more (c.loop.invariant K F) _ _ _ _ (ran g (omega arith) K F).holds (at_model g (omega arith) K F _ c.in-Model.is) c.put_model_line.ensures)

pub returns : goal.returns
returns c =
    λ K F. rw (← c.visible-mask.ensures) (going_last (c.loop.invariant K F) _ _ (lines_more _ c.args.task.now.formula.variables c.visible-mask.result _ _ (omega arith)) c.put_more_line.ensures)
