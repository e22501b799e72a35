-- Laws of blanks, and of words that are right-aligned.
use Prim.Native.Nat.{ℕ, ◌-◌, ◌≤◌}
use mathlib.Core.List.{List}
use mathlib.Core.Path.{◌≡◌, ◌∙◌}
use native.Mathlib.Omega.{arith}
use lib.ListN.{length, length-append, length-replicate}
use Rattle.writing.specs.Text.{blank, blanks, right}

-- there are k of them
pub blanks-length : (k : ℕ) → length (blanks k) ≡ k
unfolding blanks
blanks-length k = length-replicate k blank

-- a word that is not too wide fills the width
pub right-length : (w : ℕ) (xs : List ℕ) → length xs ≤ w → length (right w xs) ≡ w
right-length w xs h = length-append (blanks (w - length xs)) xs ∙ (let l = blanks-length (w - length xs) in omega arith)
