-- `matched::tell_dropped` meets its contract. The loop's invariant: the bytes of the clauses that are passed are written.
use Rattle.matched.proofs.TellLaws.{Tells}
use Rattle.matched.proofs.tell_dropped.Given as goal

abbrev pub invariant-loop-c : goal.invariant-loop-c
invariant-loop-c l = Tells l.f.clauses.items l.a l.s l.row l.told.items l.c-iterator.a.rest.now l.c-iterator.b.rest.now
