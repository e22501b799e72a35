-- `matched::clause_masks` meets its contract. The loop's invariant: the masks of the first i clauses are written.
use mathlib.Core.List.{map}
use mathlib.Core.Path.{◌≡◌}
use lib.ListN.{take}
use Rattle.limits.specs.Limits.{max_clauses}
use Rattle.lists.specs.Padded.{padded}
use Rattle.formula.specs.InnerFits.{clause_variables}
use Rattle.matched.proofs.clause_masks.Given as goal

abbrev pub invariant-loop-i : goal.invariant-loop-i
invariant-loop-i l = l.sets ≡ padded max_clauses 0 (map clause_variables (take l.i l.f.clauses.items))
