-- What reading and check owe to the demands (S10). Demand 1: any bytes at all are read as the one formula that they encode, or refused
-- by the first check that fails. Demand 2: check tells models from other assignments.
use Prim.Native.Nat.{ℕ, ◌<◌, ◌≤◌}
use mathlib.Core.Bool.{Bool}
use mathlib.Core.List.{List, ◌++◌, map}
use mathlib.Core.Logic.{◌↔◌}
use mathlib.Core.Path.{◌≡◌, refl, sym, ap, ◌∙◌}
use lib.ListN.{length}
use Rattle.limits.specs.Limits.{max_variables}
use Rattle.formula.specs.declared.Refusal.{Refusal}
use Rattle.formula.specs.Format.{Literal, formula_bytes, names_as, ClauseOver, Sized, without_repeats, WrittenOver, max_bytes, Encodes}
use Rattle.formula.specs.InnerDecode.{decode}
use Rattle.formula.specs.Decoding.{readable, refused}
use Rattle.formula.specs.Refusals.{table_row}
use Rattle.formula.specs.Table.{Refuses}
use Rattle.formula.specs.declared.Refusal.TheVariants.{Truncated, StrayVariable}
use Rattle.formula.specs.Check.{VerdictValues, said_yes, said_no, verdict_refused, checked}
use Rattle.formula.specs.Models.{ModelOf, NoModelOf, StrayOf}
use Rattle.formula.proofs.CheckLaws.{checked_refused}
use Rattle.formula.proofs.CutLaws.{cut_formula}
use Rattle.formula.proofs.LengthLaws.{formula_le, encoded_le, fullest, fullest_length, fullest_sized, repeated, repeated_sized, repeated_length}
use Rattle.formula.proofs.OutcomeLaws.{decode_gives, decode_means}
use Rattle.formula.proofs.RefusalLaws.{given_number}
use Rattle.formula.proofs.RepeatLaws.{read-names_as, read-over, encoded_sized, sized_encoded}
use Rattle.formula.proofs.UniqueLaws.{formula_one}
use Rattle.formula.proofs.VerdictLaws.{says, says_yes, says_no, says_stray, checked_model, checked_no_model, checked-stray}

-- S10, demand 1: what is accepted is an encoded formula (S2), of that many variables and of those clauses
pub accepted_only : (s : List ℕ) (n : ℕ) (cs : List (List Literal)) → decode s ≡ readable n cs → Encodes s n cs
accepted_only s n cs e = rw e at (decode_means s)

-- S10, demand 1: every encoded formula is accepted, as the formula that it encodes
pub accepted_all : (s : List ℕ) (n : ℕ) (cs : List (List Literal)) → Encodes s n cs → decode s ≡ readable n cs
accepted_all s n cs = decode_gives s (readable n cs)

-- S1.2: what is read keeps to the limits: 1 to 48 variables, at most 96 clauses over them, and in each of them no variable twice
pub accepted_fits : (s : List ℕ) (n : ℕ) (cs : List (List Literal)) → decode s ≡ readable n cs → Sized n cs
accepted_fits s n cs e = encoded_sized (accepted_only s n cs e)

-- S10, demand 1: a refusal is given only where its row of the table (S3.1) applies and no earlier check fails (S3.2)
pub refused_only : (s : List ℕ) (r : Refusal) → decode s ≡ refused r → Refuses s r
refused_only s r e = rw e at (decode_means s)

-- and wherever that is so
pub refused_all : (s : List ℕ) (r : Refusal) → Refuses s r → decode s ≡ refused r
refused_all s r = decode_gives s (refused r)

-- S2.2: what is read of a written clause names what the clause names, each way, and has no variable twice
pub read_names : (n : ℕ) (w : List Literal) → WrittenOver n w
    → ((v : ℕ) (sign : Bool) → names_as (without_repeats w) v sign ≡ names_as w v sign) × ClauseOver n (without_repeats w)
read_names n w o = (read-names_as w o.one_way, read-over o)

-- S2.2: bytes are those of one number of variables and of one list of written clauses at most, and so encode one formula at most
pub unique : (s : List ℕ) (n n' : ℕ) (cs cs' : List (List Literal)) (e : Encodes s n cs) (e' : Encodes s n' cs')
    → (n ≡ n') × (e.written ≡ e'.written) × (cs ≡ cs')
unique s n n' cs cs' e e' =
    let w = formula_one n n' e.written e'.written (sym e.bytes ∙ e'.bytes) in
    (w.0, w.1, e.read ∙ ap (map without_repeats) w.1 ∙ sym e'.read)

-- S2.3: for every number there is a readable input of more bytes
pub unbounded : (k : ℕ) → (s : List ℕ) × (n : ℕ) × (cs : List (List Literal)) × (k < length s) × Encodes s n cs
unbounded k = (
  formula_bytes 1 (repeated k),
  1,
  map without_repeats (repeated k),
  repeated_length k,
  record { written = repeated k; bytes = refl; sized = repeated_sized k; read = refl },
)

-- S2.3: the bytes of a formula as it is read encode it too; no bytes that encode it are fewer, and they are never more than 9,315
pub shortest : (s : List ℕ) (n : ℕ) (cs : List (List Literal)) → Encodes s n cs
    → Encodes (formula_bytes n cs) n cs × (length (formula_bytes n cs) ≤ length s) × (length (formula_bytes n cs) ≤ max_bytes)
shortest s n cs e = let z = encoded_sized e in (sized_encoded z, encoded_le e, formula_le z)

-- some formulas take as many
pub shortest_most : (cs : List (List Literal)) × Encodes (formula_bytes max_variables cs) max_variables cs × (length (formula_bytes max_variables cs) ≡ max_bytes)
shortest_most = (fullest, sized_encoded fullest_sized, fullest_length)

-- S2.3: the number
pub most_bytes : max_bytes ≡ 9315
most_bytes = refl

-- S2.3: an input is read as the shortest one of its formula is. So repeats change no answer of an act: all are told from what is read.
pub read_as_shortest : (s : List ℕ) (n : ℕ) (cs : List (List Literal)) → Encodes s n cs → decode s ≡ decode (formula_bytes n cs)
read_as_shortest s n cs e = accepted_all s n cs e ∙ sym (accepted_all (formula_bytes n cs) n cs (shortest s n cs e).0)

-- S3.2: a readable input that is cut is refused by 2 at the length that is left
pub cut : (s t : List ℕ) (n : ℕ) (cs : List (List Literal)) → Encodes (s ++ t) n cs → 0 < length t → decode s ≡ refused (Truncated (length s))
cut s t n cs e h = refused_all s (Truncated (length s)) (cut_formula n e.written e.sized s t h e.bytes)

-- S3.2: reading gives the refusals 2 to 9 only
pub numbers : (s : List ℕ) (r : Refusal) → decode s ≡ refused r → (2 ≤ (table_row r).number) × ((table_row r).number ≤ 9)
numbers s r e = given_number (refused_only s r e).given

-- S10, demand 2: check says yes exactly of the models of a readable input, whether or not it is accepted (S4.3)
pub check_yes : (s : List ℕ) (a : ℕ) → ((checked s a).said ≡ said_yes) ↔ ModelOf s a
check_yes s a = (says_yes (says s a), λ m. ap (λ (x : VerdictValues). x.said) (checked_model s a m))

-- no exactly of an assignment that is not a model and has no variable from n on true
pub check_no : (s : List ℕ) (a : ℕ) → ((checked s a).said ≡ said_no) ↔ NoModelOf s a
check_no s a = (says_no (says s a), λ m. ap (λ (x : VerdictValues). x.said) (checked_no_model s a m))

-- 12 at place 0 exactly of one that has such a variable true
pub check_stray : (s : List ℕ) (a : ℕ) → (checked s a ≡ verdict_refused (StrayVariable 0)) ↔ StrayOf s a
check_stray s a = (says_stray (says s a), checked-stray s a)

-- and an unreadable input gets the reader's refusal, one of 2 to 9
pub check_refused : (s : List ℕ) (r : Refusal) (a : ℕ) → decode s ≡ refused r → checked s a ≡ verdict_refused r
check_refused = checked_refused
