-- S15, S16: the two acts: the answer of each, and the lent buffer as it is left. What they read is only lent to be read.
use Rattle.std.specs.Prelude.{ℕ, cond, List, Result, Ok, Err, ltb, length}
use Rattle.lists.specs.Over.{over}
use Rattle.formula.specs.declared.Refusal.{Refusal}
use Rattle.formula.specs.declared.Refusal.TheVariants.{ShortBuffer}
use Rattle.formula.specs.Refusals.{table_row}
use Rattle.formula.specs.Format.{formula_bytes, max_bytes}
use Rattle.formula.specs.Decoding.{Decoding, readable, refused}
use Rattle.formula.specs.InnerDecode.{decode}
use Rattle.dimacs.specs.Text.{read_text}
use Rattle.dimacs.specs.Written.{text_of, text_room}

-- the values of an answer: the refusal's number and place, or zeros and how many bytes were written
pub record ConvertedValues : Type 0 where
  pub number : ℕ
  pub place : ℕ
  pub count : ℕ

abbrev pub converted_values : Result ℕ Refusal → ConvertedValues
converted_values (Ok k) = record { number = 0; place = 0; count = k }
converted_values (Err r) = record { number = (table_row r).number; place = (table_row r).place; count = 0 }

-- an act's answer, and the buffer as it is left
pub record Conversion : Type 0 where
  pub answer : ConvertedValues
  pub buffer : List ℕ

-- xs over the first bytes of the buffer, and how many these are
abbrev pub converted : List ℕ → List ℕ → Conversion
converted xs b = record { answer = converted_values (Ok (length xs)); buffer = over xs b }

-- a refusal leaves the buffer as it was
abbrev pub declined : Refusal → List ℕ → Conversion
declined r b = record { answer = converted_values (Err r); buffer = b }

-- S15: the formula of a text, without repeats
abbrev pub encoding_of : List ℕ → Decoding → Conversion
encoding_of b (readable n cs) = converted (formula_bytes n cs) b
encoding_of b (refused r) = declined r b

-- the act read (request: into a sheet): the buffer has 9,315 bytes or more (else 1)
unfoldable pub to_encoded : List ℕ → List ℕ → Conversion
to_encoded t b = cond (ltb (length b) max_bytes) (declined (ShortBuffer 0) b) (encoding_of b (read_text t))

-- S16: the text of a formula
abbrev pub writing_of : List ℕ → Decoding → Conversion
writing_of b (readable n cs) = converted (text_of n cs) b
writing_of b (refused r) = declined r b

-- the act write (request: from a sheet): the buffer has 18,636 bytes or more (else 1)
unfoldable pub to_text : List ℕ → List ℕ → Conversion
to_text s b = cond (ltb (length b) text_room) (declined (ShortBuffer 0) b) (writing_of b (decode s))
