-- What is read beside an input, from what the readers ensure.
use Rattle.std.proofs.Common.{ℕ, ◌≡◌, List, [], ◌∷◌, length, get_or, refl, arith}
use Rattle.assumptions.specs.Bytes.{pair_of, of_bytes}

-- the list that four bytes are
pub two_of : (s : List ℕ) → length s ≡ 4 → pair_of (get_or s 0 0) (get_or s 1 0) ∷ (pair_of (get_or s 2 0) (get_or s 3 0) ∷ []) ≡ of_bytes s
unfolding of_bytes
two_of [] h = absurd (omega arith)
two_of (a ∷ []) h = absurd (omega arith)
two_of (a ∷ b ∷ []) h = absurd (omega arith)
two_of (a ∷ b ∷ c ∷ []) h = absurd (omega arith)
two_of (a ∷ b ∷ c ∷ d ∷ []) h = refl
two_of (a ∷ b ∷ c ∷ d ∷ e ∷ s) h = absurd (omega arith)
