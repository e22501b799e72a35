-- What the two conversions owe (S15, S16): which texts are read, and as what; that a formula written is read again as it was; how long
-- what is written can be; and what they leave in the buffer.
use Prim.Native.Nat.{ℕ, ◌<◌, ◌≤◌}
use mathlib.Core.List.{List}
use mathlib.Core.Logic.{◌⊎◌}
use mathlib.Core.Path.{◌≡◌, refl}
use lib.ListN.{length, take, drop}
use borrow.Author.Tests.{le-ltb}
use Rattle.limits.specs.Limits.{max_variables}
use Rattle.formula.specs.declared.Refusal.{Refusal}
use Rattle.formula.specs.declared.Refusal.TheVariants.{ShortBuffer}
use Rattle.formula.specs.Refusals.{table_row}
use Rattle.formula.specs.Format.{Literal, formula_bytes, Sized, max_bytes}
use Rattle.formula.specs.Decoding.{readable, refused}
use Rattle.formula.specs.InnerDecode.{decode}
use Rattle.formula.proofs.Demands.{accepted_all, accepted_fits}
use Rattle.formula.proofs.LengthLaws.{formula_le}
use Rattle.formula.proofs.RepeatLaws.{sized_encoded}
use Rattle.dimacs.specs.Text.{read_text}
use Rattle.dimacs.specs.TextTable.{TextRead, TextRefused}
use Rattle.dimacs.specs.Written.{text_of, text_room}
use Rattle.dimacs.specs.Convert.{converted, declined, to_encoded, to_text}
use Rattle.dimacs.proofs.ActLaws.{acts_tail, acts_length, acts_refused, converted-front, reading_acts, writing_acts, writing_numbers}
use Rattle.dimacs.proofs.LineLaws.{text_short, text_refused}
use Rattle.dimacs.proofs.PlaceLaws.{text_place}
use Rattle.dimacs.proofs.ReadLaws.{encoded_short}
use Rattle.dimacs.proofs.RoomLaws.{text_le, longest, longest_sized, longest_length}
use Rattle.dimacs.proofs.RoundLaws.{text_read}
use Rattle.dimacs.proofs.TableLaws.{text_sized, text_read_only, text_read_all, text_refused_only, text_refused_all, text_numbers}

-- ---- which texts are read

-- S15.4: a text is read as n variables and the clauses cs exactly if its p line and all its words are taken, no clause is open then, and
-- there are as many as the p line says
pub read_only : (t : List ℕ) (n : ℕ) (cs : List (List Literal)) → read_text t ≡ readable n cs → TextRead t n cs
read_only = text_read_only

pub read_all : (t : List ℕ) (n : ℕ) (cs : List (List Literal)) → TextRead t n cs → read_text t ≡ readable n cs
read_all = text_read_all

-- S15.4: it is refused exactly where a row of the table applies, whose place is within the text
pub refused_only : (t : List ℕ) (r : Refusal) → read_text t ≡ refused r → TextRefused t r × ((table_row r).place ≤ length t)
refused_only t r e = let w = text_refused_only t r e in (w, text_place w)

pub refused_all : (t : List ℕ) (r : Refusal) → TextRefused t r → read_text t ≡ refused r
refused_all = text_refused_all

-- S15.4: reading a text gives the refusals 2, 5 to 8 and 13 to 15 only
pub read-numbers : (t : List ℕ) (r : Refusal) → read_text t ≡ refused r
    → (let k = (table_row r).number in ((k ≡ 2) ⊎ ((5 ≤ k) × (k ≤ 8))) ⊎ ((13 ≤ k) × (k ≤ 15)))
read-numbers t r e = text_numbers (text_refused_only t r e)

-- S15.4: whatever is read fits: it keeps to the limits, and its bytes are readable as just this formula
pub read_fits : (t : List ℕ) (n : ℕ) (cs : List (List Literal)) → read_text t ≡ readable n cs → Sized n cs × (decode (formula_bytes n cs) ≡ readable n cs)
read_fits t n cs e = let z = text_sized t n cs e in (z, accepted_all (formula_bytes n cs) n cs (sized_encoded z))

-- and so are the bytes that the act read leaves
pub read_readable : (t b : List ℕ) (n : ℕ) (cs : List (List Literal)) → read_text t ≡ readable n cs → max_bytes ≤ length b
    → (let r = to_encoded t b in (r ≡ converted (formula_bytes n cs) b) × (decode (take r.answer.count r.buffer) ≡ readable n cs))
unfolding to_encoded
read_readable t b n cs e h = rw (le-ltb (length b) max_bytes h, e, converted-front (formula_bytes n cs) b) (refl, (read_fits t n cs e).1)

-- ---- written and read again

-- S16.1: the text of a readable input is read as the formula that the input is read as
pub written_read : (s : List ℕ) (n : ℕ) (cs : List (List Literal)) → decode s ≡ readable n cs → read_text (text_of n cs) ≡ readable n cs
written_read s n cs e = text_read (accepted_fits s n cs e)

-- S16.1: so by the acts, on any two buffers that are not short: what write leaves of a readable input is read, and what read leaves then is
-- readable as the formula of that input
pub round_trip : (s b b' : List ℕ) (n : ℕ) (cs : List (List Literal)) → decode s ≡ readable n cs → text_room ≤ length b → max_bytes ≤ length b'
    → (let w = to_text s b in
    let t = take w.answer.count w.buffer in
    let r = to_encoded t b' in
    (w ≡ converted (text_of n cs) b) × (r ≡ converted (formula_bytes n cs) b') × (decode (take r.answer.count r.buffer) ≡ readable n cs))
unfolding to_text to_encoded
round_trip s b b' n cs e h k =
    let z = accepted_fits s n cs e in
    let d = accepted_all (formula_bytes n cs) n cs (sized_encoded z) in
    rw (le-ltb (length b) text_room h, e, converted-front (text_of n cs) b, le-ltb (length b') max_bytes k, text_read z, converted-front (formula_bytes n cs) b') (refl, refl, d)

-- ---- how long what is written can be

-- S16.2: no text has more than 17,772 bytes, and one has as many
pub text_most : (s : List ℕ) (n : ℕ) (cs : List (List Literal)) → decode s ≡ readable n cs → length (text_of n cs) ≤ 17772
text_most s n cs e = text_le (accepted_fits s n cs e)

pub text_longest : (s : List ℕ) × (cs : List (List Literal)) × (decode s ≡ readable max_variables cs) × (length (text_of max_variables cs) ≡ 17772)
text_longest = (formula_bytes max_variables longest, longest, accepted_all (formula_bytes max_variables longest) max_variables longest (sized_encoded longest_sized), longest_length)

-- and what is written of a text never more than 9,315
pub encoded_most : (t : List ℕ) (n : ℕ) (cs : List (List Literal)) → read_text t ≡ readable n cs → length (formula_bytes n cs) ≤ max_bytes
encoded_most t n cs e = formula_le (text_sized t n cs e)

-- S16.2: the bytes that a buffer has at least
pub rooms : (max_bytes ≡ 9315) × (text_room ≡ 18636)
rooms = (refl, refl)

-- ---- the acts

-- S15.5, S16.3: a buffer that is short is refused by 1 at 0, whatever is to be read
pub read_short : (t b : List ℕ) → length b < max_bytes → to_encoded t b ≡ declined (ShortBuffer 0) b
read_short = encoded_short

pub write_short : (s b : List ℕ) → length b < text_room → to_text s b ≡ declined (ShortBuffer 0) b
write_short = text_short

-- S15.5: in another, reading refuses as the text is refused
pub read_refused : (t b : List ℕ) (r : Refusal) → max_bytes ≤ length b → read_text t ≡ refused r → to_encoded t b ≡ declined r b
unfolding to_encoded
read_refused t b r h e = rw (le-ltb (length b) max_bytes h, e)

-- S16.3: writing refuses an input as the reader does, by 2 to 9
pub write_refused : (s b : List ℕ) (r : Refusal) → text_room ≤ length b → decode s ≡ refused r → to_text s b ≡ declined r b
write_refused s b r h e = text_refused s b h r e

-- and gives no other refusal than 1 to 9
pub write_numbers : (s b : List ℕ) → (to_text s b).answer.number ≤ 9
write_numbers = writing_numbers

-- S15.5: bytes past what was written remain, and so does the buffer's length
pub read_tail : (t b : List ℕ) → (let c = to_encoded t b in (drop c.answer.count c.buffer ≡ drop c.answer.count b) × (length c.buffer ≡ length b))
read_tail t b = let a = reading_acts t b in (acts_tail a, acts_length a)

pub write_tail : (s b : List ℕ) → (let c = to_text s b in (drop c.answer.count c.buffer ≡ drop c.answer.count b) × (length c.buffer ≡ length b))
write_tail s b = let a = writing_acts s b in (acts_tail a, acts_length a)

-- S15.5: a refusal leaves the buffer untouched
pub read_untouched : (t b : List ℕ) → (let c = to_encoded t b in 1 ≤ c.answer.number → (c.buffer ≡ b) × (c.answer.count ≡ 0))
read_untouched t b = acts_refused (reading_acts t b)

pub write_untouched : (s b : List ℕ) → (let c = to_text s b in 1 ≤ c.answer.number → (c.buffer ≡ b) × (c.answer.count ≡ 0))
write_untouched s b = acts_refused (writing_acts s b)
