-- `after_call`: by what the call gives.
use Rattle.std.proofs.Common.{◌∙◌}
use Rattle.cases.proofs.WaitingLaws.{after_refused, after_ended, after_model, after_end, after_spent}
use Rattle.cases.proofs.waiting.Waits.after_call.Goals as goal
use Rattle.cases.proofs.waiting.Waits.after_call.Goals.{then-self-2, else-self-2, then-self-3, else-self-3}

pub returns-in_default : goal.returns-in_default
returns-in_default c = after_refused _ _ _ c.in_default.is

pub returns-then-self : goal.returns-then-self
returns-then-self c = after_ended c.args.self c.args.walked c.in-Ok.q c.in-Ok.is c.if-self.true

pub returns-after-self-2 : goal.returns-after-self-2
returns-after-self-2 c =
    after_model c.args.self c.args.walked c.in-Ok.q c.in-Ok.is c.if-self.false _ c.if-self-2.result c.in-Model.is
    (elim c.if-self-2.branch [
      | then-self-2 w ↦ w.result-is ∙ rw (w.if-self-2.true, w.due_to.ensures)
      | else-self-2 w ↦ w.result-is ∙ rw w.if-self-2.false
    ])

pub returns-after-self-3 : goal.returns-after-self-3
returns-after-self-3 c =
    after_end c.args.self c.args.walked c.in-Ok.q c.in-Ok.is c.if-self.false c.if-self-3.result c.in-Ended.is
    (elim c.if-self-3.branch [
      | then-self-3 w ↦ w.result-is ∙ rw (w.if-self-3.true, w.may_end.ensures)
      | else-self-3 w ↦ w.result-is ∙ rw w.if-self-3.false
    ])

pub returns-in-Spent : goal.returns-in-Spent
returns-in-Spent c = after_spent c.args.self c.args.walked c.in-Ok.q c.in-Ok.is c.if-self.false c.in-Spent.is
