-- The whole text: by its p line, by the words behind it, and as the buffer has it.
use Prim.Native.Nat.{ℕ, ◌≤◌, ◌<◌}
use mathlib.Core.List.{List}
use mathlib.Core.Path.{◌≡◌, refl}
use borrow.Author.Tests.{lt-ltb, le-ltb}
use lib.ListN.{length}
use Rattle.formula.specs.declared.Refusal.{Refusal}
use Rattle.formula.specs.declared.Refusal.TheVariants.{ShortBuffer}
use Rattle.formula.specs.Format.{Literal, formula_bytes, max_bytes}
use Rattle.formula.specs.Decoding.{readable, refused}
use Rattle.dimacs.specs.Text.{lines, others, by_lines, read_text}
use Rattle.dimacs.specs.Convert.{converted, declined, to_encoded}

-- ---- the act

-- the lines of a text decide
pub text_lines : (t : List ℕ) → read_text t ≡ by_lines (length t) (others (lines t))
unfolding read_text
text_lines t = refl

-- a short buffer
pub encoded_short : (t b : List ℕ) → length b < max_bytes → to_encoded t b ≡ declined (ShortBuffer 0) b
unfolding to_encoded
encoded_short t b h = rw (lt-ltb (length b) max_bytes h)

module _ (t b : List ℕ) (long : max_bytes ≤ length b) where
  -- a text that is refused
  pub encoded_refused : (r : Refusal) → read_text t ≡ refused r → to_encoded t b ≡ declined r b
  unfolding to_encoded
  encoded_refused r h = rw (le-ltb (length b) max_bytes long, h)

  -- one that is read is written
  pub encoded_written : (n : ℕ) (cs : List (List Literal)) → read_text t ≡ readable n cs → to_encoded t b ≡ converted (formula_bytes n cs) b
  unfolding to_encoded
  encoded_written n cs h = rw (le-ltb (length b) max_bytes long, h)
