-- S5.6, S17.2, S18: which inputs are accepted under which assumptions, told once for judge, walk, list, page and print: the reader (2 to
-- 9), the assumptions (16), then the matching of what remains and, only where that fails, of what stripping leaves of it (10).
use Rattle.std.specs.Prelude.{ℕ, suc, ◌+◌, cond, List, [], ◌∷◌, map, length, get_or, drop}
use Rattle.formula.specs.declared.Refusal.{Refusal}
use Rattle.formula.specs.declared.Refusal.TheVariants.{Unmatched, BadAssumption}
use Rattle.formula.specs.InnerDecode.{decode}
use Rattle.formula.specs.Decoding.{Decoding, readable, refused}
use Rattle.formula.specs.Format.{Literal, names}
use Rattle.formula.specs.Masked.{variables}
use Rattle.assumptions.specs.declared.Assumption.{Assumption}
use Rattle.assumptions.specs.Assumed.{Assumed, literals, bad, assumed}
use Rattle.matching.specs.Search.{Outcome, success, failure, outcome, marks}
use Rattle.splitting.specs.Nodes.{remaining, satisfied_by}
use Rattle.splitting.specs.Stripping.{Stripped, stripped}

-- Accepted: the number of variables, the literals that are assumed, the clauses, and a byte for each clause: 0 if an assumption satisfies
-- it, else the variable matched with what remains of it, from 1, or, if stripping dropped it, 128 plus the variable that dropped it.
-- Declined: the refusal and, at 10, a byte for each clause, which is 1 if it is marked, else 0; no bytes at 2 to 9 and 16.
pub data Acceptance : Type 0 where
  accepted : ℕ → List Literal → List (List Literal) → List ℕ → Acceptance
  declined : Refusal → List ℕ → Acceptance

-- ---- a byte for each clause

-- S18.2: what stripping does with a clause: a noted variable drops it, or none does and it is left
pub data Dropped : Type 0 where
  by : ℕ → Dropped
  by_none : Dropped

-- S18.2: the first of the noted variables that the clause names drops it, as it is the first at whose noting it goes
unfoldable pub dropped_by : List ℕ → List Literal → Dropped
dropped_by [] c = by_none
dropped_by (v ∷ vs) c = cond (names c v) (by v) (dropped_by vs c)

-- the byte of a clause: known by itself, or the next of a list of answers
pub data RowByte : Type 0 where
  known : ℕ → RowByte
  asked : RowByte

abbrev pub byte_of : (ℕ → ℕ) → Dropped → RowByte
byte_of d (by v) = known (d v)
byte_of d by_none = asked

-- S17.2, S18.2: 0 for a clause that the literals t satisfy; for another d v if v drops it; the next answer if it is left
unfoldable pub row_byte : List Literal → List ℕ → (ℕ → ℕ) → List Literal → RowByte
row_byte t noted d c = cond (satisfied_by t c) (known 0) (byte_of d (dropped_by noted c))

-- S17.2, S18.2: the row, a byte for each clause: the answers go, in order, to those that ask for one
unfoldable pub spread : (List Literal → RowByte) → List (List Literal) → List ℕ → List ℕ
spread f [] answers = []
spread f (c ∷ cs) answers =
    elim (f c) [ known x ↦ x ∷ spread f cs answers | asked ↦ get_or answers 0 0 ∷ spread f cs (drop 1 answers) ]

-- S17.2: where what remains is matched whole, nothing is noted: the clauses that t does not satisfy ask
abbrev pub whole_byte : List Literal → List Literal → RowByte
whole_byte t = row_byte t [] (λ v. 0)

-- S18.2: where what is left is matched, a dropped clause has 128 plus the number of the variable, from 1
abbrev pub dropped_byte : ℕ → ℕ
dropped_byte v = 128 + suc v

abbrev pub stripped_byte : List Literal → List ℕ → List Literal → RowByte
stripped_byte t noted = row_byte t noted dropped_byte

-- S18.3: where marks are told, it has 0
abbrev pub marked_byte : List Literal → List ℕ → List Literal → RowByte
marked_byte t noted = row_byte t noted (λ v. 0)

-- ---- what comes of a formula under assumptions

-- S18.2: what stripping leaves is matched: its matching, with variables from 1; S18.3: else 10, at the number of marked clauses, and the
-- marks
abbrev pub by_left_outcome : ℕ → List Literal → List (List Literal) → Stripped → Outcome → Acceptance
by_left_outcome n t cs st (success vs e) = accepted n t cs (spread (stripped_byte t st.noted) cs (map suc vs))
by_left_outcome n t cs st (failure taken e) =
    declined (Unmatched (length taken)) (spread (marked_byte t st.noted) cs (marks (length st.left) taken))

-- S18.1: what stripping leaves, by its own matching, from nothing
abbrev pub by_stripped : ℕ → List Literal → List (List Literal) → Stripped → Acceptance
by_stripped n t cs st = by_left_outcome n t cs st (outcome (map variables st.left))

-- S5.6, S17.2: what remains is matched: its matching, with variables from 1; S18.1: else it is stripped
abbrev pub by_outcome : ℕ → List Literal → List (List Literal) → Outcome → Acceptance
by_outcome n t cs (success vs e) = accepted n t cs (spread (whole_byte t) cs (map suc vs))
by_outcome n t cs (failure taken e) = by_stripped n t cs (stripped n (remaining t cs))

-- a formula under assumptions: what remains of its clauses is matched first, whole
abbrev pub formula_acceptance : ℕ → List Literal → List (List Literal) → Acceptance
formula_acceptance n t cs = by_outcome n t cs (outcome (map variables (remaining t cs)))

abbrev pub by_assumed : ℕ → List (List Literal) → Assumed → Acceptance
by_assumed n cs (literals t) = formula_acceptance n t cs
by_assumed n cs (bad i) = declined (BadAssumption i) []

abbrev pub by_decoding : Decoding → List Assumption → Acceptance
by_decoding (readable n cs) us = by_assumed n cs (assumed n us)
by_decoding (refused r) us = declined r []

-- an input, under a list of assumptions
unfoldable pub acceptance : List ℕ → List Assumption → Acceptance
acceptance s us = by_decoding (decode s) us
