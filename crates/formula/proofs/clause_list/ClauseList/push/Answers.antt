-- `push` stores the clause behind the others.
use Rattle.lists.proofs.StoreLaws.{held_push}
use Rattle.formula.proofs.clause_list.ClauseList.push.Goals as goal

pub invariant_of-self : goal.invariant_of-self
invariant_of-self c = held_push _ _ _ _ _ c.self.invariant.0 c.self.invariant.1 (rw (← c.self.view_is) at c.requires)
