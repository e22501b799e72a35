-- S17.6: what comes of an input on an empty list of assumptions, as it is told without any: `acceptance_unassumed` in
-- proofs/Demands.antt.
use Rattle.std.specs.Prelude.{ℕ, suc, List, [], map, length}
use Rattle.formula.specs.declared.Refusal.TheVariants.{Unmatched}
use Rattle.formula.specs.InnerDecode.{decode}
use Rattle.formula.specs.Decoding.{Decoding, readable, refused}
use Rattle.formula.specs.Format.{Literal}
use Rattle.formula.specs.Masked.{variables}
use Rattle.matching.specs.Search.{Outcome, success, failure, outcome, marks}
use Rattle.splitting.specs.Stripping.{Stripped, stripped}
use Rattle.matched.specs.Acceptance.{Acceptance, accepted, declined, dropped_by, RowByte, byte_of, spread, dropped_byte}

-- the byte of a clause: d v if v drops it, the next answer if it is left
abbrev pub plain_byte : List ℕ → (ℕ → ℕ) → List Literal → RowByte
plain_byte noted d c = byte_of d (dropped_by noted c)

-- what stripping leaves is matched: its matching, with variables from 1; else 10, at the number of marked clauses, and the marks
abbrev pub plain_by_left : ℕ → List (List Literal) → Stripped → Outcome → Acceptance
plain_by_left n cs st (success vs e) = accepted n [] cs (spread (plain_byte st.noted dropped_byte) cs (map suc vs))
plain_by_left n cs st (failure taken e) =
    declined (Unmatched (length taken)) (spread (plain_byte st.noted (λ v. 0)) cs (marks (length st.left) taken))

-- a matched formula: its matching, with variables from 1; else it is stripped
abbrev pub plain_by_outcome : ℕ → List (List Literal) → Outcome → Acceptance
plain_by_outcome n cs (success vs e) = accepted n [] cs (map suc vs)
plain_by_outcome n cs (failure taken e) = plain_by_left n cs (stripped n cs) (outcome (map variables (stripped n cs).left))

-- a formula: its clauses are matched first, whole
abbrev pub plain_by_decoding : Decoding → Acceptance
plain_by_decoding (readable n cs) = plain_by_outcome n cs (outcome (map variables cs))
plain_by_decoding (refused r) = declined r []

-- an input
unfoldable pub plain_acceptance : List ℕ → Acceptance
plain_acceptance s = plain_by_decoding (decode s)
