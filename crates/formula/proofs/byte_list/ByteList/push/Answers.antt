-- `push` stores the byte behind the others.
use Rattle.lists.proofs.StoreLaws.{held_push}
use Rattle.formula.proofs.byte_list.ByteList.push.Goals as goal

pub invariant_of-self : goal.invariant_of-self
invariant_of-self g c = held_push _ _ _ _ _ c.self.invariant.0 c.self.invariant.1 (rw (← c.self.view_is) at c.requires)
