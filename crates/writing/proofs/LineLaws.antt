-- How long a line of two numbers is.
use Prim.Native.Nat.{ℕ, suc, ◌+◌, ◌^◌, ◌≤◌, ◌<◌}
use mathlib.Core.List.{[], ◌∷◌}
use mathlib.Core.Path.{◌≡◌}
use native.Mathlib.Omega.{arith}
use lib.ListN.{length, length-append}
use Rattle.writing.specs.Text.{decimal, line_of}
use Rattle.writing.proofs.DecimalLaws.{decimal-length}

pub numbers-sum : (x y : ℕ) → length (line_of (decimal x ∷ decimal y ∷ [])) ≡ length (decimal x) + length (decimal y) + 2
numbers-sum x y = simp length-append (omega arith)

-- numbers below 10 ^ (j + 1) and 10 ^ (k + 1)
pub numbers-length : (j k x y : ℕ) → x < 10 ^ suc j → y < 10 ^ suc k → length (line_of (decimal x ∷ decimal y ∷ [])) ≤ suc j + suc k + 2
numbers-length j k x y f g = omega (arith, numbers-sum x y, decimal-length j x f, decimal-length k y g)
