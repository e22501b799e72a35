-- `blank_rest` meets its contract. The loop's invariant: lines i to j - 1 are blank.
use mathlib.Core.Path.{◌≡◌}
use Rattle.page.specs.InnerPages.{blanked_to}
use Rattle.page.proofs.filling.blank_rest.Given as goal

abbrev pub invariant-loop-j : goal.invariant-loop-j
invariant-loop-j l = l.page ≡ blanked_to l.i l.j l.initial.page
