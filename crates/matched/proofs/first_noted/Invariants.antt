-- `matched::first_noted` meets its contract. The loop's invariant: the clause names none of the noted variables before the next one.
use mathlib.Core.Path.{◌≡◌}
use lib.ListN.{drop}
use Rattle.formula.specs.InnerFits.{clause_variables}
use Rattle.matched.specs.InnerSpread.{first_in, first_noted}
use Rattle.matched.proofs.first_noted.Given as goal

abbrev pub invariant-loop-v : goal.invariant-loop-v
invariant-loop-v l = first_noted l.s l.c ≡ first_in (drop l.v-index l.s.order.items) (clause_variables l.c)
