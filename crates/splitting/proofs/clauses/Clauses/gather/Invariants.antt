-- `gather` writes what each clause of the node names. The invariant: it is written of the first i clauses.
use Prim.Native.Nat.{◌≤◌}
use mathlib.Core.Path.{◌≡◌}
use mathlib.Core.List.{map}
use lib.ListN.{length}
use Rattle.lists.specs.Over.{over}
use Rattle.formula.specs.InnerFits.{clause_variables}
use Rattle.splitting.specs.InnerChoose.{clauses_of, open_clauses}
use Rattle.splitting.proofs.clauses.Clauses.gather.Given as goal

abbrev pub invariant-loop-i : goal.invariant-loop-i
invariant-loop-i l = (l.written ≤ l.i)
    × (l.written ≡ length (open_clauses (clauses_of l.self) l.a l.i))
    × (l.sets ≡ over (map clause_variables (open_clauses (clauses_of l.self) l.a l.i)) l.initial.sets)
