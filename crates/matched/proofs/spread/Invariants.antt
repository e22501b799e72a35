-- `matched::spread` meets its contract. The loop's invariant: the bytes of the first i clauses are written.
use Prim.Native.Nat.{◌≤◌}
use mathlib.Core.Path.{◌≡◌}
use Rattle.matched.specs.InnerSpread.{open_before, bytes_at}
use Rattle.matched.proofs.spread.Given as goal

abbrev pub invariant-loop-c : goal.invariant-loop-c
invariant-loop-c l = (l.next ≤ l.c-index) × (l.next ≡ open_before l.f.clauses.items l.a l.c-index) × (l.row.items ≡ bytes_at l.f.clauses.items l.a l.answers l.k l.c-index)
