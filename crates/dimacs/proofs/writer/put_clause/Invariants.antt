-- `put_clause`: the invariant is that the line is written up to the literals that are left. The measure is the number of bytes that are left.
use Prim.Native.Nat.{ℕ, ◌-◌}
use mathlib.Core.List.{List, ◌++◌}
use mathlib.Core.Path.{◌≡◌}
use lib.ListN.{length, drop}
use Rattle.limits.specs.Limits.{max_variables}
use Rattle.formula.specs.Format.{Literal, clause_bytes, WrittenOver}
use Rattle.dimacs.proofs.LineLaws.{Lining}
use Rattle.dimacs.proofs.writer.put_clause.Given as goal

abbrev pub invariant-loop-sign : goal.invariant-loop-sign
invariant-loop-sign l = (v : List Literal) (rest : List ℕ) → drop l.from l.input ≡ clause_bytes v ++ rest → WrittenOver max_variables v
    → Lining l.input rest v l.initial.w l.w l.seen l.i

abbrev pub decreases-loop-sign : goal.decreases-loop-sign
decreases-loop-sign l = length l.input - l.i
