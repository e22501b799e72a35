-- How long the lines are: as sums of their parts, and at most.
use Prim.Native.Nat.{ℕ, ◌+◌, ◌^◌, ◌≤◌, ◌<◌}
use mathlib.Core.List.{[], ◌∷◌}
use mathlib.Core.Path.{◌≡◌}
use native.Mathlib.Omega.{arith}
use lib.ListN.{length, length-append}
use Rattle.limits.specs.Limits.{max_variables}
use Rattle.lists.proofs.TabulatedLaws.{length_tabulated}
use Rattle.writing.specs.Text.{decimal, column, line_of}
use Rattle.writing.proofs.DecimalLaws.{decimal-length}
use Rattle.writing.proofs.LineLaws.{numbers-length}
use Rattle.printing.specs.Printing.{max_header, max_model_line}
use Rattle.printing.specs.Printed.{header, model_line, end_line, refused_line}

-- ---- sums

pub header-sum : (n m : ℕ) → length (header n m) ≡ 17 + length (decimal n) + length (decimal m)
header-sum n m = simp length-append (omega arith)

pub model_line-sum : (n mask a s e : ℕ) → length (model_line n mask a s e) ≡ n + 1 + length (line_of (decimal s ∷ decimal e ∷ []))
model_line-sum n mask a s e = let z = length_tabulated (column mask a) n in simp length-append (omega arith)

-- ---- bounds

pub header-length : (n m : ℕ) → n < 100 → m < 100 → length (header n m) ≤ max_header
header-length n m h k = omega (arith, header-sum n m, decimal-length 1 n h, decimal-length 1 m k)

pub model_line-length : (n mask a s e : ℕ) → n ≤ max_variables → s < 100 → e < 10 ^ 7 → length (model_line n mask a s e) ≤ max_model_line
model_line-length n mask a s e h k l = omega (arith, model_line-sum n mask a s e, numbers-length 1 6 s e k l)

pub end_line-length : (s e : ℕ) → s < 100 → e < 10 ^ 7 → length (end_line s e) ≤ 15
end_line-length s e k l = omega (arith, numbers-length 1 6 s e k l)

pub refused_line-length : (number place : ℕ) → number < 100 → place < 10 ^ 5 → length (refused_line number place) ≤ 17
refused_line-length number place k l = omega (arith, numbers-length 1 4 number place k l)
