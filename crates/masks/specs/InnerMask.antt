-- What else the functions of this crate compute. The laws say which members a mask then has.
use Rattle.std.specs.Prelude.{ℕ, ◌^◌, Bool, not, eqb}
use Rattle.std.specs.Int.Bits.{bit_and}
use Rattle.std.specs.Int.Count.{count_trailing_zeros}
use Rattle.masks.specs.Mask.{minus}

-- m without i
abbrev pub without : ℕ → ℕ → ℕ
without m i = minus m (2 ^ i)

-- a and b have a member in common
abbrev pub meets : ℕ → ℕ → Bool
meets a b = not (eqb (bit_and a b) 0)

-- the least member, or 64 if there is none
abbrev pub lowest : ℕ → ℕ
lowest m = count_trailing_zeros 64 m
