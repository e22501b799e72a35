-- `scan` goes through the unseen variables by the lowest member of what is left. The invariant: what is left to do gives the result.
use Rattle.masks.specs.Mask.{members, size}
use Rattle.matching.specs.Search.{scan}
use Rattle.matching.specs.Inner.{owner_in, search_of}
use Rattle.matching.proofs.FrontLaws.{Going}
use Rattle.matching.proofs.Front.scan.Given as goal

abbrev pub invariant-loop-rest : goal.invariant-loop-rest
invariant-loop-rest l = Going (owner_in l.pairs) l.clause (scan (owner_in l.pairs) l.clause (members l.unseen 64) (search_of l.initial.front l.initial.queue)) l.front l.queue l.rest

abbrev pub decreases-loop-rest : goal.decreases-loop-rest
decreases-loop-rest l = size l.rest
