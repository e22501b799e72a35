-- `put_clauses`: the invariant is that the lines are written up to the clauses that are left.
use Prim.Native.Nat.{ℕ, ◌-◌}
use mathlib.Core.List.{List, ◌++◌}
use mathlib.Core.Path.{◌≡◌}
use lib.ListN.{length, drop}
use Rattle.limits.specs.Limits.{max_variables}
use Rattle.lists.specs.Every.{Every}
use Rattle.formula.specs.Format.{Literal, clauses_bytes, WrittenOver}
use Rattle.dimacs.proofs.LineLaws.{Listing}
use Rattle.dimacs.proofs.writer.put_clauses.Given as goal

abbrev pub invariant-loop : goal.invariant-loop
invariant-loop l = (ws : List (List Literal)) (rest : List ℕ) → drop 2 l.input ≡ clauses_bytes ws ++ rest → Every (WrittenOver max_variables) ws → l.count ≡ length ws
    → Listing l.input rest ws l.initial.w l.w l.from (l.count - l.counter)
