-- S18.4: what comes of an input if nothing is stripped, as S5.6 and S17.2 had it until slip 5: an input that can be paired keeps it,
-- `acceptance_kept` in proofs/Demands.antt.
use Rattle.std.specs.Prelude.{ℕ, suc, cond, List, [], ◌∷◌, map, length, get_or, drop}
use Rattle.formula.specs.declared.Refusal.TheVariants.{Unmatched, BadAssumption}
use Rattle.formula.specs.InnerDecode.{decode}
use Rattle.formula.specs.Decoding.{Decoding, readable, refused}
use Rattle.formula.specs.Format.{Literal}
use Rattle.formula.specs.Masked.{variables}
use Rattle.assumptions.specs.declared.Assumption.{Assumption}
use Rattle.assumptions.specs.Assumed.{Assumed, literals, bad, assumed}
use Rattle.matching.specs.Search.{Outcome, success, failure, outcome, marks}
use Rattle.splitting.specs.Nodes.{remaining, satisfied_by}
use Rattle.matched.specs.Acceptance.{Acceptance, accepted, declined}

-- a byte for each clause: 0 for one that the assumptions satisfy, and for the others the given bytes in order
unfoldable pub whole_spread : List Literal → List (List Literal) → List ℕ → List ℕ
whole_spread t [] bytes = []
whole_spread t (c ∷ cs) bytes =
    cond (satisfied_by t c) (0 ∷ whole_spread t cs bytes) (get_or bytes 0 0 ∷ whole_spread t cs (drop 1 bytes))

-- what remains is matched: its matching, with variables from 1; else 10, at the number of marked clauses, and the marks
abbrev pub whole_by_outcome : ℕ → List Literal → List (List Literal) → Outcome → Acceptance
whole_by_outcome n t cs (success vs e) = accepted n t cs (whole_spread t cs (map suc vs))
whole_by_outcome n t cs (failure taken e) = declined (Unmatched (length taken)) (whole_spread t cs (marks (length (remaining t cs)) taken))

abbrev pub whole_by_assumed : ℕ → List (List Literal) → Assumed → Acceptance
whole_by_assumed n cs (literals t) = whole_by_outcome n t cs (outcome (map variables (remaining t cs)))
whole_by_assumed n cs (bad i) = declined (BadAssumption i) []

abbrev pub whole_by_decoding : Decoding → List Assumption → Acceptance
whole_by_decoding (readable n cs) us = whole_by_assumed n cs (assumed n us)
whole_by_decoding (refused r) us = declined r []

-- an input, under a list of assumptions
unfoldable pub whole_acceptance : List ℕ → List Assumption → Acceptance
whole_acceptance s us = whole_by_decoding (decode s) us
