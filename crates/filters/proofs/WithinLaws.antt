-- What a conversion counts lies within the buffer that it leaves.
use Prim.Native.Nat.{ℕ, ◌≤◌}
use mathlib.Core.List.{List}
use mathlib.Core.Path.{◌≡◌}
use lib.ListN.{length}
use Rattle.dimacs.specs.Convert.{ConvertedValues, to_encoded, to_text}
use Rattle.dimacs.proofs.ActLaws.{acts_within, reading_acts, writing_acts}

pub read_within : (t b c : List ℕ) (x : ConvertedValues) → to_encoded t b ≡ record { answer = x; buffer = c } → x.count ≤ length c
read_within t b c x e = rw e at (acts_within (reading_acts t b))

pub write_within : (s b c : List ℕ) (x : ConvertedValues) → to_text s b ≡ record { answer = x; buffer = c } → x.count ≤ length c
write_within s b c x e = rw e at (acts_within (writing_acts s b))
