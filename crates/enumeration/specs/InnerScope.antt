-- What a walk assigns, as the code holds it.
use Rattle.std.specs.Prelude.{ℕ, map}
use Rattle.std.specs.Int.Bits.{bit_or}
use Rattle.masks.specs.Mask.{minus, size}
use Rattle.formula.specs.declared.assignment.Assignment.{Assignment}
use Rattle.formula.specs.declared.Formula.{Formula}
use Rattle.formula.specs.InnerAssignment.{assigned}
use Rattle.formula.specs.InnerFits.{clause_variables}
use Rattle.matching.specs.Sets.{union}
use Rattle.splitting.specs.InnerChoose.{assignment_of}
use Rattle.walk.specs.Task.{Task, to_assign}
use Rattle.enumeration.specs.declared.scope.Scope.{Scope}

-- what the clauses of f name and a has not assigned
abbrev pub named_less : Formula → Assignment → ℕ
named_less f a = minus (union (map clause_variables f.clauses.items)) (assigned a)

-- a is assigned before, and these are to be assigned
abbrev pub scope_under : Formula → Assignment → Scope
scope_under f a = record { mask = named_less f a; size = size (named_less f a); before = a }

-- what is to be assigned, and what is assigned before
abbrev pub visible_in : Scope → ℕ
visible_in z = bit_or z.mask (assigned z.before)

-- the scope of a task
abbrev pub task_scope : Task → Scope
task_scope T = record { mask = T.scope; size = to_assign T; before = assignment_of T.before }
