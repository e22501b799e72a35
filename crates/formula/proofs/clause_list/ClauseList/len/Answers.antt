-- `len` is the number of the clauses.
use mathlib.Core.Path.{sym}
use Rattle.lists.proofs.StoreLaws.{held_length}
use Rattle.formula.proofs.clause_list.ClauseList.len.Goals as goal

pub returns-clause-value : goal.returns-clause-value
returns-clause-value c = rw (← c.self.view_is) (sym (held_length _ _ _ _ c.self.invariant.0 c.self.invariant.1).1)
