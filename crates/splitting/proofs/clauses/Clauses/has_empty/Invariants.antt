-- `has_empty` tells whether a clause of the node is empty. The invariant: none of the first i is.
use mathlib.Core.Path.{◌≡◌}
use mathlib.Core.Bool.{false}
use Rattle.splitting.specs.InnerChoose.{clauses_of, open_clauses, some_empty}
use Rattle.splitting.proofs.clauses.Clauses.has_empty.Given as goal

abbrev pub invariant-loop-i : goal.invariant-loop-i
invariant-loop-i l = some_empty (open_clauses (clauses_of l.self) l.a l.i) ≡ false
