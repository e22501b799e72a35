-- `find_path` is the definition's search. The invariant: what is left to do gives the result; the queue has at most as many clauses as the bound.
use Prim.Native.Nat.{◌-◌}
use Rattle.matching.specs.Search.{begin, search_from, search_bound}
use Rattle.matching.specs.Inner.{owner_in}
use Rattle.matching.proofs.FrontLaws.{Searching}
use Rattle.matching.proofs.Queue.find_path.Given as goal

abbrev pub invariant-loop-front : goal.invariant-loop-front
invariant-loop-front l = Searching l.sets (owner_in l.pairs) (search_from search_bound l.sets (owner_in l.pairs) (begin l.clause)) l.front l.self

abbrev pub decreases-loop-front : goal.decreases-loop-front
decreases-loop-front l = search_bound - l.front.head
