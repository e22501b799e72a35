-- What an act leaves in the buffer, by what it gives.
use Prim.Native.Nat.{ℕ, ◌≤◌}
use mathlib.Core.Bool.{Bool, true, false, cond}
use mathlib.Core.List.{List}
use mathlib.Core.Path.{◌≡◌, refl}
use native.Mathlib.Omega.{arith}
use borrow.Author.Tests.{ltb-false}
use lib.Dec.{ltb}
use lib.ListN.{length, take, drop}
use lib.Seq.{take-append_seam, drop-append_seam}
use Rattle.lists.proofs.OverLaws.{over_length}
use Rattle.formula.specs.declared.Refusal.{Refusal}
use Rattle.formula.specs.declared.Refusal.TheVariants.{ShortBuffer}
use Rattle.formula.specs.Decoding.{Decoding, readable, refused}
use Rattle.formula.specs.InnerDecode.{decode}
use Rattle.formula.specs.Format.{formula_bytes, max_bytes}
use Rattle.formula.proofs.Demands.{accepted_fits, numbers}
use Rattle.formula.proofs.LengthLaws.{formula_le}
use Rattle.dimacs.specs.Text.{read_text}
use Rattle.dimacs.specs.Written.{text_of, text_room}
use Rattle.dimacs.specs.Convert.{Conversion, converted, declined, encoding_of, writing_of, to_encoded, to_text}
use Rattle.dimacs.proofs.RoomLaws.{text_le}
use Rattle.dimacs.proofs.TableLaws.{text_sized}

-- an act writes some bytes, for which there is room, or refuses
pub data Acts (b : List ℕ) : Conversion → Type 0 where
  writes : (xs : List ℕ) → length xs ≤ length b → Acts b (converted xs b)
  refuses : (r : Refusal) → Acts b (declined r b)

-- the bytes past what was written remain
pub acts_tail : {b : List ℕ} {c : Conversion} → Acts b c → drop c.answer.count c.buffer ≡ drop c.answer.count b
acts_tail {b} (writes xs h) = drop-append_seam xs (drop (length xs) b)
acts_tail (refuses r) = refl

-- the buffer keeps its length
pub acts_length : {b : List ℕ} {c : Conversion} → Acts b c → length c.buffer ≡ length b
acts_length {b} (writes xs h) = over_length xs b h
acts_length (refuses r) = refl

-- what was written lies within it
pub acts_within : {b : List ℕ} {c : Conversion} → Acts b c → c.answer.count ≤ length c.buffer
acts_within {b} (writes xs h) = omega (arith, over_length xs b h)
acts_within (refuses r) = omega arith

-- a refusal changes nothing, and no byte counts as written
pub acts_refused : {b : List ℕ} {c : Conversion} → Acts b c → 1 ≤ c.answer.number → (c.buffer ≡ b) × (c.answer.count ≡ 0)
acts_refused (writes xs h) k = absurd (omega arith)
acts_refused (refuses r) k = (refl, refl)

-- what was written
pub converted-front : (xs b : List ℕ) → take (converted xs b).answer.count (converted xs b).buffer ≡ xs
converted-front xs b = take-append_seam xs (drop (length xs) b)

-- the act read
pub reading_acts : (t b : List ℕ) → Acts b (to_encoded t b)
unfolding to_encoded
reading_acts t b = go (ltb (length b) max_bytes) refl
  where
    by : max_bytes ≤ length b → (d : Decoding) → read_text t ≡ d → Acts b (encoding_of b d)
    by h (readable n cs) e = writes (formula_bytes n cs) (omega (arith, formula_le (text_sized t n cs e)))
    by h (refused r) e = refuses r

    go : (x : Bool) → ltb (length b) max_bytes ≡ x → Acts b (cond x (declined (ShortBuffer 0) b) (encoding_of b (read_text t)))
    go true e = refuses (ShortBuffer 0)
    go false e = by (ltb-false (length b) max_bytes e) (read_text t) refl

-- the act write
pub writing_acts : (s b : List ℕ) → Acts b (to_text s b)
unfolding to_text
writing_acts s b = go (ltb (length b) text_room) refl
  where
    by : text_room ≤ length b → (d : Decoding) → decode s ≡ d → Acts b (writing_of b d)
    by h (readable n cs) e = writes (text_of n cs) (omega (arith, text_le (accepted_fits s n cs e)))
    by h (refused r) e = refuses r

    go : (x : Bool) → ltb (length b) text_room ≡ x → Acts b (cond x (declined (ShortBuffer 0) b) (writing_of b (decode s)))
    go true e = refuses (ShortBuffer 0)
    go false e = by (ltb-false (length b) text_room e) (decode s) refl

-- its refusals are 1 to 9
pub writing_numbers : (s b : List ℕ) → (to_text s b).answer.number ≤ 9
unfolding to_text
writing_numbers s b = go (ltb (length b) text_room)
  where
    by : (d : Decoding) → decode s ≡ d → (writing_of b d).answer.number ≤ 9
    by (readable n cs) e = omega arith
    by (refused r) e = (numbers s r e).1

    go : (x : Bool) → (cond x (declined (ShortBuffer 0) b) (writing_of b (decode s))).answer.number ≤ 9
    go true = omega arith
    go false = by (decode s) refl
