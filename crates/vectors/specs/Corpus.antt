-- Numbers and vectors in a file of the corpus.
use Rattle.std.specs.Prelude.{ℕ, ◌+◌, ◌*◌, cond, List, ltb, length, get_or, take, drop, Option, None, Some}
use Rattle.vectors.specs.declared.corpus.Vector.{Vector}

-- little-endian numbers, by offset
abbrev pub two_bytes : List ℕ → ℕ → ℕ
two_bytes s at = get_or s at 0 + 256 * get_or s (at + 1) 0

abbrev pub four_bytes : List ℕ → ℕ → ℕ
four_bytes s at = two_bytes s at + 65536 * two_bytes s (at + 2)

abbrev pub eight_bytes : List ℕ → ℕ → ℕ
eight_bytes s at = four_bytes s at + 4294967296 * four_bytes s (at + 4)

-- a vector: its number, its input, the bytes of its assumptions, the bytes that it expects, and its fields
pub record Parts : Type 0 where
  pub number : ℕ
  pub input : List ℕ
  pub assumptions : List ℕ
  pub expected : List ℕ
  pub fields : List ℕ

abbrev pub parts_of : Vector → Parts
parts_of v = record {
  number = v.number;
  input = v.input.now;
  assumptions = v.assumptions.now;
  expected = v.expected.now;
  fields = v.fields.now;
}

-- the vector at the beginning and the bytes behind it: its number, the lengths of its three parts, these, and its fields of a given size;
-- none if there are fewer bytes
unfoldable pub framed : List ℕ → ℕ → Option (Parts × List ℕ)
framed s fields =
    let a = two_bytes s 2 in
    let b = two_bytes s 4 in
    let c = two_bytes s 6 in
    let input = drop 8 s in
    let assumptions = drop a input in
    let expected = drop b assumptions in
    let last = drop c expected in
    cond (ltb (length s) (8 + a + b + c + fields))
    None
    (Some (
      record {
        number = two_bytes s 0;
        input = take a input;
        assumptions = take b assumptions;
        expected = take c expected;
        fields = take fields last;
      },
      drop fields last,
    ))
