-- On an empty list of assumptions an input is accepted or declined as it is without any.
use Prim.Native.Nat.{ℕ, suc}
use mathlib.Core.List.{List, [], ◌∷◌, map}
use mathlib.Core.Path.{◌≡◌, refl, ap, ◌∙◌}
use native.Mathlib.Omega.{arith}
use lib.ListN.{length, length-map}
use Rattle.formula.specs.declared.Refusal.{Refusal}
use Rattle.formula.specs.InnerDecode.{decode}
use Rattle.formula.specs.Decoding.{Decoding, readable, refused}
use Rattle.formula.specs.Format.{Literal}
use Rattle.formula.specs.Masked.{variables}
use Rattle.formula.proofs.Demands.{accepted_fits}
use Rattle.assumptions.proofs.Demands.{no_assumptions}
use Rattle.matching.specs.Search.{Outcome, success, failure, outcome}
use Rattle.matching.proofs.Theorems.{success_matches}
use Rattle.splitting.specs.Nodes.{remaining, satisfied_by}
use Rattle.splitting.specs.Stripping.{Stripped, stripped}
use Rattle.matched.specs.Acceptance.{Acceptance, accepted, declined, dropped_by, row_byte, whole_byte, spread, by_left_outcome, by_outcome, by_assumed, by_decoding, acceptance}
use Rattle.matched.specs.WithoutAssumptions.{plain_by_left, plain_by_outcome, plain_by_decoding, plain_acceptance}
use Rattle.matched.proofs.PairingLaws.{masks_words}

-- with nothing assumed and nothing dropped the bytes are as they are given
spread_all : (cs : List (List Literal)) (bytes : List ℕ) → length bytes ≡ length cs → spread (whole_byte []) cs bytes ≡ bytes
unfolding spread row_byte dropped_by satisfied_by
spread_all [] [] e = refl
spread_all [] (x ∷ l) e = absurd (omega arith)
spread_all (c ∷ cs) [] e = absurd (omega arith)
spread_all (c ∷ cs) (x ∷ l) e = ap (λ (m : List ℕ). x ∷ m) (spread_all cs l (omega arith))

pub unassumed : (s : List ℕ) → acceptance s [] ≡ plain_acceptance s
unfolding plain_acceptance acceptance remaining row_byte satisfied_by
unassumed s = by (decode s) refl
  where
    stripped_at : (n : ℕ) (cs : List (List Literal)) (st : Stripped) (o : Outcome) → by_left_outcome n [] cs st o ≡ plain_by_left n cs st o
    stripped_at n cs st (success vs e) = refl
    stripped_at n cs st (failure taken e) = refl

    at : (n : ℕ) (cs : List (List Literal)) → decode s ≡ readable n cs → (o : Outcome) → outcome (map variables cs) ≡ o → by_outcome n [] cs o ≡ plain_by_outcome n cs o
    at n cs reads (success vs e) p =
        let w = success_matches (map variables cs) vs e (masks_words (accepted_fits s n cs reads)) p in
        ap (accepted n [] cs) (spread_all cs (map suc vs) (length-map vs suc ∙ w.one_each ∙ length-map cs variables))
    at n cs reads (failure taken e) p = stripped_at n cs (stripped n cs) (outcome (map variables (stripped n cs).left))

    by : (d : Decoding) → decode s ≡ d → by_decoding d [] ≡ plain_by_decoding d
    by (readable n cs) reads = ap (by_assumed n cs) (no_assumptions n) ∙ at n cs reads (outcome (map variables cs)) refl
    by (refused r) e = refl

-- two readings of what comes of an input agree there if they agree on what is accepted with nothing assumed and on what is declined
pub plain-same : {A : Type 0} (F G : Acceptance → A)
    → ((n : ℕ) (cs : List (List Literal)) (row : List ℕ) → F (accepted n [] cs row) ≡ G (accepted n [] cs row))
    → ((r : Refusal) (row : List ℕ) → F (declined r row) ≡ G (declined r row)) → (s : List ℕ) → F (plain_acceptance s) ≡ G (plain_acceptance s)
unfolding plain_acceptance
plain-same F G yes_same no_same s = by (decode s)
  where
    left_at : (n : ℕ) (cs : List (List Literal)) (st : Stripped) (o : Outcome) → F (plain_by_left n cs st o) ≡ G (plain_by_left n cs st o)
    left_at n cs st (success vs e) = yes_same n cs _
    left_at n cs st (failure taken e) = no_same _ _

    at : (n : ℕ) (cs : List (List Literal)) (o : Outcome) → F (plain_by_outcome n cs o) ≡ G (plain_by_outcome n cs o)
    at n cs (success vs e) = yes_same n cs _
    at n cs (failure taken e) = left_at n cs (stripped n cs) (outcome (map variables (stripped n cs).left))

    by : (d : Decoding) → F (plain_by_decoding d) ≡ G (plain_by_decoding d)
    by (readable n cs) = at n cs (outcome (map variables cs))
    by (refused r) = no_same r []
