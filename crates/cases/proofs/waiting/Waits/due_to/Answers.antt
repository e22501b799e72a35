-- `due_to`: by whether a model came.
use Rattle.cases.proofs.WaitingLaws.{shared_few, due_later}
use Rattle.cases.proofs.waiting.Waits.due_to.Goals as goal

pub overflow_sub-steps : goal.overflow_sub-steps
overflow_sub-steps c = rw c.shared_of.ensures (shared_few _ _)

pub returns-in-Some : goal.returns-in-Some
returns-in-Some c = rw (c.in-Some.is, c.shared_of.ensures) (due_later _ _ _ _ c.trail_of.ensures.trail c.trail_of-trail.ensures.trail)
