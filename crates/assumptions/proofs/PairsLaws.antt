-- A list of assumptions as bytes, two for each.
use Prim.Native.Nat.{ℕ, zero, suc, ◌+◌, ◌*◌, ◌/◌, ◌<◌}
use mathlib.Core.List.{List, [], ◌∷◌}
use mathlib.Core.Path.{◌≡◌, refl, sym, ◌∙◌}
use native.Mathlib.Omega.{arith}
use lib.ListN.{length, get_or}
use Rattle.assumptions.specs.declared.Assumption.{Assumption}
use Rattle.assumptions.specs.InnerAssumed.{pair_at}
use Rattle.assumptions.specs.Bytes.{of_bytes}

-- there are half as many assumptions as bytes
pub pairs_length : (s : List ℕ) → length (of_bytes s) ≡ length s / 2
unfolding of_bytes
pairs_length [] = refl
pairs_length (x ∷ []) = refl
pairs_length (x ∷ y ∷ s) = omega (arith, pairs_length s)

-- the one with the index i
pub pairs_at : (s : List ℕ) (i : ℕ) (d : Assumption) → i < length (of_bytes s) → get_or (of_bytes s) i d ≡ pair_at s i
unfolding of_bytes
pairs_at [] i d h = absurd (omega arith)
pairs_at (x ∷ []) i d h = absurd (omega arith)
pairs_at (x ∷ y ∷ s) zero d h = refl
pairs_at (x ∷ y ∷ s) (suc i) d h =
    pairs_at s i d (omega arith) ∙ sym (let e : suc i * 2 ≡ suc (suc (i * 2)) = omega arith in let f : suc i * 2 + 1 ≡ suc (suc (i * 2 + 1)) = omega arith in rw (f, e))
