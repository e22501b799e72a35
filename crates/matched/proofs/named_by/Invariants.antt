-- `matched::named_by` meets its contract. The loop's invariant: what is gathered, and what the marked ones of the clauses left name.
use mathlib.Core.List.{map}
use mathlib.Core.Path.{◌≡◌}
use lib.Bits.{bit_or}
use Rattle.formula.specs.InnerFits.{clause_variables}
use Rattle.matching.specs.Sets.{union, selected}
use Rattle.matched.proofs.named_by.Given as goal

abbrev pub invariant-loop-c : goal.invariant-loop-c
invariant-loop-c l =
    bit_or l.named (union (selected l.c-iterator.b.rest.now (map clause_variables l.c-iterator.a.rest.now)))
    ≡ union (selected l.marks (map clause_variables l.f.clauses.items))
