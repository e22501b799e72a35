-- `violator`: the invariant is that the first clauses of the queue are marked.
use Rattle.limits.specs.Limits.{max_clauses}
use mathlib.Core.Path.{◌≡◌}
use lib.ListN.{take}
use Rattle.matching.specs.Search.{marks}
use Rattle.matching.proofs.Queue.violator.Given as goal

abbrev pub invariant-loop-clause : goal.invariant-loop-clause
invariant-loop-clause l = l.marks ≡ marks max_clauses (take l.clause-index l.clause-items)
