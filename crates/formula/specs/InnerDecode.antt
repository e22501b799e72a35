-- S3.2: the reader, in the order of checks. Of each record in turn: there is a kind (else 2), a known one (3), and it may stand here
-- (4); there is its body (2), and it fits (5, 6, 7 or 8). After the record of kind 5 there is no byte (9).
use Rattle.std.specs.Prelude.{ℕ, zero, suc, ◌+◌, ◌-◌, Bool, true, false, cond, ◌&&◌, List, [], ◌∷◌, ◌++◌, eqb, leb, ltb, length}
use Rattle.limits.specs.Limits.{max_variables, max_clauses}
use Rattle.formula.specs.declared.Refusal.{Refusal}
use Rattle.formula.specs.declared.Refusal.TheVariants.{Truncated, UnknownKind, Misplaced, BadVariableCount, NoSuchVariable, ComplementaryLiteral, TooManyClauses, TrailingByte}
use Rattle.formula.specs.Format.{Literal, has_complement, add}
use Rattle.formula.specs.Decoding.{Decoding, readable, refused}

-- S2.1: the kinds 1 to 5, and any other byte
pub data Kind : Type 0 where
  variable_count : Kind
  literal : Bool → Kind
  clause_end : Kind
  formula_end : Kind
  unknown : Kind

abbrev pub kind_of : ℕ → Kind
kind_of zero = unknown
kind_of (suc zero) = variable_count
kind_of (suc (suc zero)) = literal true
kind_of (suc (suc (suc zero))) = literal false
kind_of (suc (suc (suc (suc zero)))) = clause_end
kind_of (suc (suc (suc (suc (suc zero))))) = formula_end
kind_of (suc (suc (suc (suc (suc (suc k)))))) = unknown

-- where reading stands: the offset of the next record, the number of variables once kind 1 is read, the clauses that have
-- ended, and what is read of the one that has not
pub record Reading : Type 0 where
  pub at : ℕ
  pub variables : ℕ
  pub ended : List (List Literal)
  pub current : List Literal

abbrev pub reading_start : Reading
reading_start = record { at = 0; variables = 0; ended = []; current = [] }

-- after a record: reading goes on, with the bytes that follow, or it stops
pub data Step : Type 0 where
  next : Reading → List ℕ → Step
  stop : Decoding → Step

abbrev pub refuse : Refusal → Step
refuse r = stop (refused r)

-- x is 1 to m
abbrev pub one_to : ℕ → ℕ → Bool
one_to m x = ltb 0 x && leb x m

-- no literal of the current clause is read yet
abbrev pub none_yet : List Literal → Bool
none_yet [] = true
none_yet (l ∷ c) = false

-- S2.2: kind 1 stands at offset 0, the other kinds after it, and kind 5 only where the current clause has no literal
abbrev pub allowed : Reading → Kind → Bool
allowed r variable_count = eqb r.at 0
allowed r (literal sign) = ltb 0 r.at
allowed r clause_end = ltb 0 r.at
allowed r formula_end = ltb 0 r.at && none_yet r.current
allowed r unknown = false

-- the body of kind 1: the number of variables, 1 to 48 (else 5)
abbrev pub variable_count_body : ℕ → Reading → List ℕ → Step
variable_count_body len r [] = refuse (Truncated len)
variable_count_body len r (n ∷ s) =
    cond (one_to max_variables n)
    (next (record { at = r.at + 2; variables = n; ended = r.ended; current = r.current }) s)
    (refuse (BadVariableCount r.at))

-- a literal of a variable that the formula has: its complement is not in the clause (else 7), and the clause has it from here on
abbrev pub literal_added : Reading → Literal → List ℕ → Step
literal_added r l s =
    cond (has_complement r.current l)
    (refuse (ComplementaryLiteral r.at))
    (next (record { at = r.at + 2; variables = r.variables; ended = r.ended; current = add r.current l }) s)

-- the body of a literal, kind 2 or 3: a variable, 1 to n (else 6)
abbrev pub literal_body : ℕ → Reading → Bool → List ℕ → Step
literal_body len r sign [] = refuse (Truncated len)
literal_body len r sign (b ∷ s) =
    cond (one_to r.variables b) (literal_added r (record { variable = b - 1; positive = sign }) s) (refuse (NoSuchVariable r.at))

-- kind 4: at most 96 clauses (else 8)
abbrev pub clause_ends : Reading → List ℕ → Step
clause_ends r s =
    cond (ltb (length r.ended) max_clauses)
    (next
    (record { at = r.at + 1; variables = r.variables; ended = r.ended ++ (r.current ∷ []); current = [] })
    s)
    (refuse (TooManyClauses r.at))

-- kind 5: nothing after it (else 9)
abbrev pub formula_ends : Reading → List ℕ → Step
formula_ends r [] = stop (readable r.variables r.ended)
formula_ends r (b ∷ s) = refuse (TrailingByte (r.at + 1))

-- what the rest of a record of an allowed kind gives; `s` are the bytes after the kind
abbrev pub after_kind : ℕ → Reading → Kind → List ℕ → Step
after_kind len r variable_count s = variable_count_body len r s
after_kind len r (literal sign) s = literal_body len r sign s
after_kind len r clause_end s = clause_ends r s
after_kind len r formula_end s = formula_ends r s
after_kind len r unknown s = refuse (UnknownKind r.at)

abbrev pub known : Kind → Bool
known variable_count = true
known (literal sign) = true
known clause_end = true
known formula_end = true
known unknown = false

-- one record, at the front of the bytes that are left of an input of `len` bytes
unfoldable pub read_record : ℕ → Reading → List ℕ → Step
read_record len r [] = refuse (Truncated len)
read_record len r (k ∷ s) =
    cond (known (kind_of k))
    (cond (allowed r (kind_of k)) (after_kind len r (kind_of k) s) (refuse (Misplaced r.at)))
    (refuse (UnknownKind r.at))

-- record after record. The first number is at least the count of the bytes that are left, and a record has a byte or
-- two: where it is 0 no byte is left. `records_unbounded` in proofs/BoundLaws.antt says that it is never what stops reading.
unfoldable pub records : ℕ → ℕ → Reading → List ℕ → Decoding
records zero len r s = refused (Truncated len)
records (suc k) len r s = elim (read_record len r s) [ next r' s' ↦ records k len r' s' | stop d ↦ d ]

unfoldable pub decode : List ℕ → Decoding
decode s = records (length s) (length s) reading_start s
