-- Arrays of masks.
use Rattle.std.specs.Prelude.{ℕ, ◌^◌, ◌<◌, List, get_or}

-- each number is a mask of 64 bits
abbrev pub Words : List ℕ → Type 0
Words p = (i : ℕ) → get_or p i 0 < 2 ^ 64
