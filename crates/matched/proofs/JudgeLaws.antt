-- What judge is by what comes of the input, and that it is what the code writes and answers.
use Prim.Native.Nat.{ℕ, ◌≤◌, ◌<◌}
use mathlib.Core.List.{List, map}
use mathlib.Core.Path.{◌≡◌, refl, sym, ap, ◌∙◌}
use native.Mathlib.Decide.{dec_lt}
use native.Mathlib.Omega.{arith}
use lib.ListN.{length-map, length}
use borrow.Author.Tests.{le-ltb, lt-ltb}
use Rattle.std.specs.Prelude.{Ok, Err}
use Rattle.limits.specs.Limits.{max_clauses}
use Rattle.lists.specs.Over.{over}
use Rattle.formula.specs.declared.Refusal.{Refusal}
use Rattle.formula.specs.declared.Refusal.TheVariants.{ShortBuffer}
use Rattle.formula.specs.Format.{Literal, Encodes}
use Rattle.formula.specs.InnerMasked.{clause_of, formula_of}
use Rattle.formula.specs.Refusals.{table_row}
use Rattle.assumptions.specs.declared.Assumption.{Assumption}
use Rattle.assumptions.specs.FirstBad.{NoneBad, FirstBad}
use Rattle.assumptions.specs.Assumed.{literal_of}
use Rattle.matched.specs.declared.Accepted.{Accepted}
use Rattle.matched.specs.declared.Declined.{Declined}
use Rattle.matched.specs.Acceptance.{Acceptance, accepted, declined, acceptance}
use Rattle.arrayvec.specs.ArrayVec.{ArrayVec as Items}
use Rattle.matched.specs.InnerAccept.{held_acceptance}
use Rattle.matched.specs.Judge.{JudgementValues, Judged, accepted_values, refused_values, judgement_of, judge}
use Rattle.matched.specs.Pairing.{Pairs, left_of, Walkable}
use Rattle.matched.proofs.AcceptanceLaws.{accepted_walkable, walkable_accepted, declined_number, declined_unmatched, declined_bad}

-- the parts of what judge is
pub told : {j : Judged} {a : JudgementValues} {row left : List ℕ} → j ≡ record { answer = a; buffer = row } → left ≡ row → (a ≡ j.answer) × (left ≡ j.buffer)
told e w = (ap (λ (j : Judged). j.answer) (sym e), w ∙ ap (λ (j : Judged). j.buffer) (sym e))

pub judge_short : (s : List ℕ) (us : List Assumption) (b : List ℕ) → length b < max_clauses → judge s us b ≡ record { answer = refused_values (ShortBuffer 0); buffer = b }
unfolding judge
judge_short s us b l = rw (lt-ltb (length b) max_clauses l)

-- a buffer that is left with marks is not short
pub unmatched_long : (s : List ℕ) (us : List Assumption) (b : List ℕ) → (judge s us b).answer.number ≡ 10 → max_clauses ≤ length b
unmatched_long s us b e = by (dec_lt (length b) max_clauses)
  where
    by : Dec (length b < max_clauses) → max_clauses ≤ length b
    by (yes h) = let z : ◌≡◌ {A = ℕ} 1 10 = ap (λ (j : Judged). j.answer.number) (sym (judge_short s us b h)) ∙ e in absurd (omega arith)
    by (no h) = omega arith

module _ (s : List ℕ) (us : List Assumption) (b : List ℕ) (l : max_clauses ≤ length b) where
  judge_long : judge s us b ≡ judgement_of (acceptance s us) b
  unfolding judge
  judge_long = rw (le-ltb (length b) max_clauses l)

  -- ---- the code

  pub accepted_judged : (r : Accepted) → held_acceptance (acceptance s us) ≡ Ok r
      → judge s us b ≡ record { answer = accepted_values r.formula.variables (length r.formula.clauses.items); buffer = over r.row.items b }
  accepted_judged r q = rw judge_long (by (acceptance s us) q)
    where
      by : (a : Acceptance) → held_acceptance a ≡ Ok r
          → judgement_of a b ≡ record { answer = accepted_values r.formula.variables (length r.formula.clauses.items); buffer = over r.row.items b }
      by (accepted n t cs row) q =
          let f : formula_of n cs ≡ r.formula = cc in
          let w : row ≡ r.row.items = ap (λ (x : Items ℕ). x.items) cc in
          rw (← f, ← w, length-map cs clause_of)
      by (declined e row) q = absurd cc

  pub declined_judged : (d : Declined) → held_acceptance (acceptance s us) ≡ Err d
      → judge s us b ≡ record { answer = refused_values d.refusal; buffer = over d.row.items b }
  declined_judged d q = rw judge_long (by (acceptance s us) q)
    where
      by : (a : Acceptance) → held_acceptance a ≡ Err d → judgement_of a b ≡ record { answer = refused_values d.refusal; buffer = over d.row.items b }
      by (accepted n t cs row) q = absurd cc
      by (declined e row) q =
          let f : e ≡ d.refusal = cc in
          let w : row ≡ d.row.items = ap (λ (x : Items ℕ). x.items) cc in
          rw (← f, ← w)

  -- ---- the demands

  pub judge_accepted : (n : ℕ) (t : List Literal) (cs : List (List Literal)) (row : List ℕ) → acceptance s us ≡ accepted n t cs row
      → judge s us b ≡ record { answer = accepted_values n (length cs); buffer = over row b }
  judge_accepted n t cs row e = rw (judge_long, e)

  pub judge_declined : (r : Refusal) (row : List ℕ) → acceptance s us ≡ declined r row → judge s us b ≡ record { answer = refused_values r; buffer = over row b }
  judge_declined r row e = rw (judge_long, e)

  -- an answer without a number is for a walkable input,
  pub numberless_walkable : (judge s us b).answer.number ≡ 0 → Walkable s us
  numberless_walkable q = by (acceptance s us) refl
    where
      by : (a : Acceptance) → acceptance s us ≡ a → Walkable s us
      by (accepted n t cs row) e = accepted_walkable s us n t cs row e
      by (declined r row) e = absurd (omega (arith, declined_number s us r row e, ap (λ (j : Judged). j.answer.number) (judge_declined r row e)))

  -- and such an input gets none
  pub walkable_numberless : Walkable s us → (judge s us b).answer.number ≡ 0
  walkable_numberless w =
      let x = walkable_accepted s us w in
      ap (λ (j : Judged). j.answer.number) (judge_accepted w.variables (map literal_of us) w.clauses x.0 x.1)

  -- an answer with a number is that of what declines the input
  numbered : (k : ℕ) → 0 < k → (judge s us b).answer.number ≡ k
      → (r : Refusal) × (row : List ℕ) × (acceptance s us ≡ declined r row) × ((table_row r).number ≡ k) × ((judge s us b).answer.place ≡ (table_row r).place)
  numbered k some q = by (acceptance s us) refl
    where
      by : (a : Acceptance) → acceptance s us ≡ a
          → (r : Refusal) × (row : List ℕ) × (acceptance s us ≡ declined r row) × ((table_row r).number ≡ k) × ((judge s us b).answer.place ≡ (table_row r).place)
      by (accepted n t cs row) e = absurd (omega (arith, ap (λ (j : Judged). j.answer.number) (judge_accepted n t cs row e)))
      by (declined r row) e =
          let w = judge_declined r row e in
          (r, row, e, sym (ap (λ (j : Judged). j.answer.number) w) ∙ q, ap (λ (j : Judged). j.answer.place) w)

  -- so 16 is given only where an assumption is bad, the first at the place, and 10 only where what stripping leaves can't be paired
  pub judged_bad : (i : ℕ) → (judge s us b).answer.number ≡ 16 → (judge s us b).answer.place ≡ i → (n : ℕ) × (cs : List (List Literal)) × Encodes s n cs × FirstBad n us i
  judged_bad i q p = let w = numbered 16 (omega arith) q in declined_bad s us w.0 w.1 i w.2 w.3 (sym w.4 ∙ p)

  pub judged_unmatched : (judge s us b).answer.number ≡ 10
      → (n : ℕ) × (cs : List (List Literal)) × Encodes s n cs × NoneBad n us × ((vs : List ℕ) → Pairs (left_of n (map literal_of us) cs) vs → ⊥)
  judged_unmatched q = let w = numbered 10 (omega arith) q in declined_unmatched s us w.0 w.1 w.2 w.3
