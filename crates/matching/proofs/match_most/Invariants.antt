-- `match_most` gives the most clauses that can be matched together. The invariant: of the first i clauses k are kept, in the arrays.
use Rattle.matching.specs.Inner.{numbers_in}
use Rattle.matching.proofs.MostLoopLaws.{Holding}
use Rattle.matching.proofs.match_most.Given as goal

abbrev pub invariant-loop-i : goal.invariant-loop-i
invariant-loop-i l = Holding l.sets l.i l.k l.kept l.pairs.table (numbers_in l.pairs)
