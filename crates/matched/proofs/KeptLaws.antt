-- An input that can be paired is accepted as it is if nothing is stripped.
use Prim.Native.Nat.{ℕ, suc}
use mathlib.Core.Bool.{Bool, true, false, cond}
use mathlib.Core.List.{List, [], ◌∷◌, map}
use mathlib.Core.Path.{◌≡◌, refl, ap, ◌∙◌}
use lib.ListN.{get_or, drop}
use Rattle.formula.specs.Format.{Literal, Sized}
use Rattle.formula.specs.Masked.{variables}
use Rattle.formula.proofs.Demands.{accepted_all, accepted_fits}
use Rattle.assumptions.specs.declared.Assumption.{Assumption}
use Rattle.assumptions.specs.Assumed.{literal_of}
use Rattle.assumptions.proofs.Demands.{none_bad_literals}
use Rattle.matching.specs.Search.{Outcome, success, failure, outcome}
use Rattle.splitting.specs.Nodes.{remaining, satisfied_by}
use Rattle.matched.specs.Acceptance.{accepted, dropped_by, known, asked, row_byte, whole_byte, spread, by_outcome, acceptance}
use Rattle.matched.specs.Pairing.{Pairs, Pairable}
use Rattle.matched.specs.WithoutStripping.{whole_spread, whole_by_outcome, whole_acceptance}
use Rattle.matched.proofs.AcceptanceLaws.{none_by, read_acceptance}
use Rattle.matched.proofs.SizedLaws.{remaining_sized}

-- with no variable noted, the bytes go to the clauses that t does not satisfy
spread_whole : (t : List Literal) (cs : List (List Literal)) (bytes : List ℕ) → spread (whole_byte t) cs bytes ≡ whole_spread t cs bytes
unfolding spread whole_spread row_byte dropped_by
spread_whole t [] bytes = refl
spread_whole t (c ∷ cs) bytes = at (satisfied_by t c) (spread_whole t cs bytes) (spread_whole t cs (drop 1 bytes))
  where
    at : (b : Bool) → spread (whole_byte t) cs bytes ≡ whole_spread t cs bytes → spread (whole_byte t) cs (drop 1 bytes) ≡ whole_spread t cs (drop 1 bytes)
        → ◌≡◌ {A = List ℕ} (elim (cond b (known 0) asked) [ known x ↦ x ∷ spread (whole_byte t) cs bytes | asked ↦ get_or bytes 0 0 ∷ spread (whole_byte t) cs (drop 1 bytes) ])
        (cond b (0 ∷ whole_spread t cs bytes) (get_or bytes 0 0 ∷ whole_spread t cs (drop 1 bytes)))
    at true p q = ap (λ (l : List ℕ). 0 ∷ l) p
    at false p q = ap (λ (l : List ℕ). get_or bytes 0 0 ∷ l) q

pub kept : (s : List ℕ) (us : List Assumption) → Pairable s us → acceptance s us ≡ whole_acceptance s us
unfolding whole_acceptance
kept s us w =
    let n = w.variables in
    let t = map literal_of us in
    let cs = w.clauses in
    let reads = accepted_all s n cs w.encodes in
    let assumes = none_bad_literals n us w.none_bad in
    let e : by_outcome n t cs (outcome (map variables (remaining t cs))) ≡ whole_by_outcome n t cs (outcome (map variables (remaining t cs))) =
    at n t cs (accepted_fits s n cs reads) w.vs w.pairs (outcome (map variables (remaining t cs))) refl in
    read_acceptance s us n t cs reads assumes ∙ e ∙ rw (reads, assumes)
  where
    at : (n : ℕ) (t : List Literal) (cs : List (List Literal)) → Sized n cs → (vs : List ℕ) → Pairs (remaining t cs) vs
        → (o : Outcome) → outcome (map variables (remaining t cs)) ≡ o → by_outcome n t cs o ≡ whole_by_outcome n t cs o
    at n t cs z vs p (success ws e) q = ap (accepted n t cs) (spread_whole t cs (map suc ws))
    at n t cs z vs p (failure taken e) q = absurd (none_by (remaining_sized t z) taken e q vs p)
