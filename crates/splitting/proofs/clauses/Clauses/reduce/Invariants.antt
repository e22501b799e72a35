-- `reduce` strips pure literals. The invariant: the copy has the clauses of the node of the assignment so far, which the survey is of,
-- and from here on stripping gives the whole result.
use Prim.Native.Nat.{◌-◌}
use mathlib.Core.Path.{◌≡◌}
use Rattle.formula.specs.InnerAssignment.{unassigned}
use Rattle.splitting.specs.InnerChoose.{node, clauses_of, formula_in, survey_of, reduce_from}
use Rattle.splitting.proofs.clauses.Clauses.reduce.Given as goal

abbrev pub invariant-loop : goal.invariant-loop
invariant-loop l = (clauses_of l.copy ≡ node (formula_in l.self) l.r.assignment)
    × (l.r.survey ≡ survey_of (node (formula_in l.self) l.r.assignment))
    × (reduce_from (l.variables - l.counter) (formula_in l.self) l.r.assignment l.r.noted l.r.last ≡ reduce_from l.variables (formula_in l.self) unassigned 0 0)
