-- Laws of `framed`: its cases, by how the bytes are split, and how many bytes are behind a vector.
use Rattle.std.proofs.Common.{ℕ, ◌≡◌, ◌+◌, ◌<◌, ◌≤◌, List, length, take, drop, None, Some, ◌∙◌, ap, arith, lt-ltb, le-ltb, length-drop, length-take-le}
use borrow.Author.Tests.{ltb-false}
use borrow.Table.Steps.{cases}
use lib.Dec.{ltb}
use Rattle.std.proofs.lemmas.List.{get_or-take}
use Rattle.std.specs.List.{IsSplitAt}
use Rattle.vectors.specs.Corpus.{two_bytes, Parts, framed}

-- a number that stands in the first bytes
two_bytes_head : (s : List ℕ) (at : ℕ) → at + 1 < 8 → two_bytes (take 8 s) at ≡ two_bytes s at
two_bytes_head s at h =
    let k : at < 8 = omega arith in
    rw (get_or-take 8 s at 0 k, get_or-take 8 s (at + 1) 0 h)

-- too few bytes for the lengths in the head
pub framed_cut :
    (s head : List ℕ) (fields : ℕ) →
    head ≡ take 8 s →
    length s < 8 + two_bytes head 2 + two_bytes head 4 + two_bytes head 6 + fields → framed s fields ≡ None
unfolding framed
framed_cut s head fields e h =
    let k : length s < 8 + two_bytes s 2 + two_bytes s 4 + two_bytes s 6 + fields =
    rw (← two_bytes_head s 2 (omega arith), ← two_bytes_head s 4 (omega arith), ← two_bytes_head s 6 (omega arith), ← e) h in
    rw (lt-ltb _ _ k)

-- the parts, each split off the front of the bytes that the one before it leaves
pub framed_whole :
    (s head input assumptions expected last r₀ r₁ r₂ r₃ rest : List ℕ) (number a b c fields : ℕ) →
    IsSplitAt s 8 head r₀ →
    a ≡ two_bytes head 2 → IsSplitAt r₀ a input r₁ →
    b ≡ two_bytes head 4 → IsSplitAt r₁ b assumptions r₂ →
    c ≡ two_bytes head 6 → IsSplitAt r₂ c expected r₃ →
    IsSplitAt r₃ fields last rest →
    number ≡ two_bytes head 0 →
    framed s fields ≡ Some (record { number = number; input = input; assumptions = assumptions; expected = expected; fields = last }, rest)
unfolding framed
framed_whole s head input assumptions expected last r₀ r₁ r₂ r₃ rest number a b c fields h a_is i b_is u c_is e l number_is =
    let head_at : (at : ℕ) → at + 1 < 8 → two_bytes head at ≡ two_bytes s at = λ at k. rw h.1 (two_bytes_head s at k) in
    let a_there = a_is ∙ head_at 2 (omega arith) in
    let b_there = b_is ∙ head_at 4 (omega arith) in
    let c_there = c_is ∙ head_at 6 (omega arith) in
    let number_there = number_is ∙ head_at 0 (omega arith) in
    let k : 8 + two_bytes s 2 + two_bytes s 4 + two_bytes s 6 + fields ≤ length s =
    omega (arith, h.4, i.4, u.4, e.4, l.0, a_there, b_there, c_there) in
    rw (le-ltb _ _ k, l.1, l.2, e.1, e.2, u.1, u.2, i.1, i.2, h.2, a_there, b_there, c_there, number_there)

-- the fields of a vector are as many as they must be, its parts lie within the bytes, and those behind it are fewer by 8 at least
pub record Within (s : List ℕ) (fields : ℕ) (v : Parts) (rest : List ℕ) : Type 0 where
  pub fields_size : length v.fields ≡ fields
  pub expected : length v.expected ≤ length s
  pub shorter : length rest + 8 ≤ length s

pub within : (s : List ℕ) (fields : ℕ) (v : Parts) (rest : List ℕ) → framed s fields ≡ Some (v, rest) → Within s fields v rest
unfolding framed
within s fields v rest e =
    let n = 8 + two_bytes s 2 + two_bytes s 4 + two_bytes s 6 + fields in
    cases (ltb (length s) n)
    (λ t. let none : framed s fields ≡ None = rw t in cc)
    (λ f.
    let enough : n ≤ length s = ltb-false _ _ f in
    let input = drop 8 s in
    let assumptions = drop (two_bytes s 2) input in
    let expected = drop (two_bytes s 4) assumptions in
    let last = drop (two_bytes s 6) expected in
    let first : Parts = record {
      number = two_bytes s 0;
      input = take (two_bytes s 2) input;
      assumptions = take (two_bytes s 4) assumptions;
      expected = take (two_bytes s 6) expected;
      fields = take fields last;
    } in
    let some : framed s fields ≡ Some (first, drop fields last) = rw f in
    let both : ◌≡◌ {A = Parts × List ℕ} (v, rest) (first, drop fields last) = cc in
    let is : v ≡ first = ap (λ (x : Parts × List ℕ). x.0) both in
    let d : rest ≡ drop fields last = ap (λ (x : Parts × List ℕ). x.1) both in
    let left : fields ≤ length last = omega (arith, length-drop {A = ℕ}) in
    let more : two_bytes s 6 ≤ length expected = omega (arith, length-drop {A = ℕ}) in
    record {
      fields_size = ap (λ (x : Parts). length x.fields) is ∙ length-take-le fields last left;
      expected = omega (arith, ap (λ (x : Parts). length x.expected) is, length-take-le (two_bytes s 6) expected more, length-drop {A = ℕ});
      shorter = omega (arith, ap length d, length-drop {A = ℕ});
    })
