-- The deficiency of an input, by cases; that it is what the code counts; and what holds of it, over clauses.
use Prim.Native.Nat.{ℕ, zero, suc, ◌+◌, ◌-◌, ◌^◌, ◌≤◌, ◌<◌}
use mathlib.Core.List.{List, [], ◌∷◌, ◌++◌, map, map-append, Sublistᴰ}
use mathlib.Core.Logic.{◌↔◌}
use mathlib.Core.Path.{◌≡◌, refl, sym, ap, ◌∙◌, subst}
use native.Mathlib.Decide.{dec_lt}
use native.Mathlib.Numerals.{add-one}
use native.Mathlib.Omega.{arith}
use lib.ListN.{set, length, get_or, take, length-map}
use lib.Seq.{length-take-le, take-suc}
use Rattle.limits.specs.Limits.{max_clauses}
use Rattle.lists.specs.Padded.{padded}
use Rattle.lists.proofs.PaddedLaws.{length_padded, get_or_padded, get_or_padded_past, padded_set, take_padded}
use Rattle.lists.proofs.SublistLaws.{sub_length, sub_map}
use Rattle.masks.specs.Mask.{size}
use Rattle.formula.specs.declared.Clause.{Clause}
use Rattle.formula.specs.declared.Formula.{Formula}
use Rattle.formula.specs.declared.Refusal.{Refusal}
use Rattle.formula.specs.InnerDecode.{decode}
use Rattle.formula.specs.Decoding.{Decoding, readable, refused}
use Rattle.formula.specs.Format.{Literal, Sized, Encodes}
use Rattle.formula.specs.Masked.{variables}
use Rattle.formula.specs.InnerFits.{clause_variables}
use Rattle.formula.specs.InnerMasked.{no_clause, clause_of}
use Rattle.formula.specs.Refusals.{table_row}
use Rattle.formula.specs.Table.{Refuses}
use Rattle.formula.proofs.Demands.{accepted_only, accepted_all, accepted_fits, refused_only, numbers}
use Rattle.formula.proofs.MaskedLaws.{Accepts}
use Rattle.assumptions.proofs.Demands.{none_bad}
use Rattle.matching.specs.Sets.{Words, union, selected}
use Rattle.matching.specs.Result.{Clauses}
use Rattle.matching.specs.Deficiency.{most, deficiency}
use Rattle.matching.proofs.SelectedLaws.{selected_map, selected_sub, sub_selected}
use Rattle.matching.proofs.Theorems.{most_attained, most_bound, excess_attained, excess_bound, one_more, deficiency-none}
use Rattle.splitting.specs.Nodes.{remaining}
use Rattle.matched.specs.Deficiency.{MeasuredValues, measured, unmeasured, deficiency_of}
use Rattle.matched.specs.Judge.{judge}
use Rattle.matched.specs.Pairing.{Pairs, Pairable}
use Rattle.matched.proofs.AcceptanceLaws.{pairable_walkable}
use Rattle.matched.proofs.JudgeLaws.{judged_unmatched, unmatched_long, walkable_numberless}
use Rattle.matched.proofs.PairingLaws.{array_masks, masks_words, matches_pairs, pairs_matches}

-- ---- the loop that writes the masks of clauses

module _ (cs : List Clause) (i : ℕ) (inside : i < length cs) (few : i < max_clauses) where
  -- one clause more
  pub masks_more : (sets : List ℕ) → sets ≡ padded max_clauses 0 (map clause_variables (take i cs))
      → set sets i (clause_variables (get_or cs i no_clause)) ≡ padded max_clauses 0 (map clause_variables (take (i + 1) cs))
  masks_more sets e =
      let l = map clause_variables (take i cs) in
      let k : length l ≡ i = length-map (take i cs) clause_variables ∙ length-take-le i cs (omega arith) in
      let more : take (i + 1) cs ≡ take i cs ++ (get_or cs i no_clause ∷ []) = rw add-one (take-suc cs i no_clause inside) in
      let n : map clause_variables (take (i + 1) cs) ≡ l ++ (clause_variables (get_or cs i no_clause) ∷ []) = rw (more, map-append) in
      rw (e, n) (ap (λ (j : ℕ). set (padded max_clauses 0 l) j (clause_variables (get_or cs i no_clause))) (sym k) ∙ padded_set max_clauses 0 l _ (omega arith))

-- ---- what is counted

padded_words : (n : ℕ) (l : List ℕ) → length l ≤ n → Words l → Words (padded n 0 l)
padded_words n l few W i h = by (dec_lt i (length l))
  where
    by : Dec (i < length l) → get_or (padded n 0 l) i 0 < 2 ^ 64
    by (yes k) = rw (get_or_padded n 0 l i 0 k) (W i k)
    by (no k) = rw (get_or_padded_past n 0 l i 0 (omega arith) (omega (arith, length_padded n 0 l few))) (omega arith)

module _ (s : List ℕ) where
  pub unreadable_deficiency : (r : Refusal) → decode s ≡ refused r → deficiency_of s ≡ unmeasured r
  unfolding deficiency_of
  unreadable_deficiency r e = rw e

  pub readable_deficiency : (n : ℕ) (cs : List (List Literal)) → decode s ≡ readable n cs → deficiency_of s ≡ measured (deficiency (map variables cs))
  unfolding deficiency_of
  readable_deficiency n cs e = rw e

  pub clauses_less_most : (n : ℕ) (cs : List (List Literal)) → decode s ≡ readable n cs → deficiency_of s ≡ measured (length cs - most (map variables cs))
  unfolding deficiency
  clauses_less_most n cs e = readable_deficiency n cs e ∙ rw (length-map cs variables)

  -- over the formula f that was read, and the array of its clauses' masks
  module _ (f : Formula) (a : Accepts s f) (sets : List ℕ) (is : sets ≡ padded max_clauses 0 (map clause_variables f.clauses.items)) where
    abbrev masks : List ℕ
    masks = map variables a.clauses

    array_is : sets ≡ padded max_clauses 0 masks
    array_is = is ∙ ap (padded max_clauses 0) (array_masks a.variables a.clauses f a.formula)

    count_is : length f.clauses.items ≡ length masks
    count_is = ap (λ (g : Formula). length g.clauses.items) a.formula ∙ length-map a.clauses clause_of ∙ sym (length-map a.clauses variables)

    few : length masks ≤ max_clauses
    few = omega (arith, count_is, a.fits.few)

    pub masks_clauses : Clauses sets (length f.clauses.items)
    masks_clauses = record {
      few = a.fits.few;
      present = omega (arith, ap length array_is, length_padded max_clauses 0 masks few, a.fits.few);
      words = rw array_is (padded_words max_clauses masks few (masks_words a.sized));
    }

    taken_is : take (length f.clauses.items) sets ≡ masks
    taken_is = rw (array_is, count_is) (take_padded max_clauses 0 masks)

    pub counted_deficiency : (k : ℕ) → k ≡ most (take (length f.clauses.items) sets) → deficiency_of s ≡ measured (length f.clauses.items - k)
    unfolding deficiency
    counted_deficiency k e =
        let m : k ≡ most masks = e ∙ ap most taken_is in
        readable_deficiency a.variables a.clauses a.reads ∙ rw (m, count_is)

    -- no more are matched than there are
    pub counted_few : (k : ℕ) → k ≡ most (take (length f.clauses.items) sets) → k ≤ length f.clauses.items
    counted_few k e =
        let t = most_attained masks (masks_words a.sized) in
        omega (arith, e ∙ ap most taken_is, t.3, sub_length t.1, count_is)

-- ---- over the clauses of a formula

-- clauses whose masks are a sub-list of the masks
masks_sub : {cs : List (List Literal)} {l : List ℕ} → Sublistᴰ l (map variables cs) → (ds : List (List Literal)) × Sublistᴰ ds cs × (map variables ds ≡ l)
masks_sub {cs} s = let k = sub_selected s in (selected k.0 cs, selected_sub k.0 cs, sym (selected_map variables k.0 cs) ∙ k.1)

module _ {n : ℕ} {cs : List (List Literal)} (z : Sized n cs) where
  pub pairs_attained : (ds : List (List Literal)) × (vs : List ℕ) × Sublistᴰ ds cs × Pairs ds vs × (length ds ≡ most (map variables cs))
  pairs_attained =
      let t = most_attained (map variables cs) (masks_words z) in
      let k = masks_sub t.1 in
      (k.0, t.2.0, k.1, matches_pairs k.0 t.2.0 (rw k.2 t.2.1), sym (length-map k.0 variables) ∙ ap length k.2 ∙ t.3)

  pub pairs_bound : (ds : List (List Literal)) (vs : List ℕ) → Sublistᴰ ds cs → Pairs ds vs → length ds ≤ most (map variables cs)
  pairs_bound ds vs s p =
      omega (arith, length-map ds variables, most_bound (map variables cs) (map variables ds) (masks_words z) (sub_map variables s) (vs, pairs_matches ds vs p))

  pub clauses_attained : (ds : List (List Literal)) × Sublistᴰ ds cs × (deficiency (map variables cs) + size (union (map variables ds)) ≡ length ds)
  clauses_attained =
      let t = excess_attained (map variables cs) (masks_words z) in
      let k = masks_sub t.1 in
      (k.0, k.1, rw k.2 (t.2 ∙ sym (ap length k.2) ∙ length-map k.0 variables))

  pub clauses_bound : (ds : List (List Literal)) → Sublistᴰ ds cs → length ds ≤ deficiency (map variables cs) + size (union (map variables ds))
  clauses_bound ds s = omega (arith, length-map ds variables, excess_bound (map variables cs) (map variables ds) (masks_words z) (sub_map variables s))

  -- none are left over exactly if all are paired
  pub clauses_none : (deficiency (map variables cs) ≡ 0) ↔ ((vs : List ℕ) × Pairs cs vs)
  clauses_none = (
    λ e. let w = (deficiency-none (map variables cs) (masks_words z)).0 e in (w.0, matches_pairs cs w.0 w.1),
    λ w. (deficiency-none (map variables cs) (masks_words z)).1 (w.0, pairs_matches cs w.0 w.1),
  )

  -- they are at most all
  pub clauses_few : deficiency (map variables cs) ≤ length cs
  unfolding deficiency
  clauses_few = omega (arith, length-map cs variables)

-- one clause more
pub clauses_more : (n : ℕ) (xs ys : List (List Literal)) (c : List Literal) → Sized n (xs ++ (c ∷ ys))
    → (deficiency (map variables (xs ++ ys)) ≤ deficiency (map variables (xs ++ (c ∷ ys))))
    × (deficiency (map variables (xs ++ (c ∷ ys))) ≤ suc (deficiency (map variables (xs ++ ys))))
clauses_more n xs ys c z =
    let e : map variables (xs ++ (c ∷ ys)) ≡ map variables xs ++ (variables c ∷ map variables ys) = map-append variables xs (c ∷ ys) in
    rw (map-append variables xs ys, e) (one_more (map variables xs) (map variables ys) (variables c) (subst Words e (masks_words z)))

-- ---- an input that is readable, or not

module _ (s : List ℕ) where
  pub readable_exactly : ((deficiency_of s).number ≡ 0) ↔ ((n : ℕ) × (cs : List (List Literal)) × Encodes s n cs)
  readable_exactly = (
    λ e. by (decode s) refl e,
    λ w. ap (λ (v : MeasuredValues). v.number) (readable_deficiency s w.0 w.1 (accepted_all s w.0 w.1 w.2)),
  )
    where
      by : (d : Decoding) → decode s ≡ d → (deficiency_of s).number ≡ 0 → (n : ℕ) × (cs : List (List Literal)) × Encodes s n cs
      by (readable n cs) reads e = (n, cs, accepted_only s n cs reads)
      by (refused r) reads e = absurd (omega (arith, ap (λ (v : MeasuredValues). v.number) (unreadable_deficiency s r reads), (numbers s r reads).0))

  pub refused_by : ((deficiency_of s).number ≡ 0 → ⊥)
      → (r : Refusal) × Refuses s r × (deficiency_of s ≡ unmeasured r) × (2 ≤ (deficiency_of s).number) × ((deficiency_of s).number ≤ 9)
  refused_by ne = by (decode s) refl
    where
      by : (d : Decoding) → decode s ≡ d → (r : Refusal) × Refuses s r × (deficiency_of s ≡ unmeasured r) × (2 ≤ (deficiency_of s).number) × ((deficiency_of s).number ≤ 9)
      by (readable n cs) reads = absurd (ne (ap (λ (v : MeasuredValues). v.number) (readable_deficiency s n cs reads)))
      by (refused r) reads =
          let e = unreadable_deficiency s r reads in
          (r, refused_only s r reads, e, rw e (numbers s r reads).0, rw e (numbers s r reads).1)

-- ---- an input with nothing left over, and one that judge says 10 of

nothing_assumed : (cs : List (List Literal)) → remaining [] cs ≡ cs
unfolding remaining
nothing_assumed cs = refl

pub none_pairable : (s : List ℕ) → (deficiency_of s ≡ measured 0) ↔ Pairable s []
none_pairable s = (λ e. paired (decode s) refl e, none)
  where
    paired : (d : Decoding) → decode s ≡ d → deficiency_of s ≡ measured 0 → Pairable s []
    paired (readable n cs) reads e =
        let z : deficiency (map variables cs) ≡ 0 = ap (λ (v : MeasuredValues). v.deficiency) (sym (readable_deficiency s n cs reads) ∙ e) in
        let w = (clauses_none (accepted_fits s n cs reads)).0 z in
        record { variables = n; clauses = cs; encodes = accepted_only s n cs reads; none_bad = none_bad n; vs = w.0; pairs = rw (nothing_assumed cs) w.1 }
    paired (refused r) reads e =
        let z : (table_row r).number ≡ 0 = ap (λ (v : MeasuredValues). v.number) (sym (unreadable_deficiency s r reads) ∙ e) in
        absurd (omega (arith, (numbers s r reads).0))

    none : Pairable s [] → deficiency_of s ≡ measured 0
    none w =
        let reads = accepted_all s w.variables w.clauses w.encodes in
        readable_deficiency s w.variables w.clauses reads
        ∙ ap measured ((clauses_none (accepted_fits s w.variables w.clauses reads)).1 (w.vs, rw (nothing_assumed w.clauses) at w.pairs))

pub unmatched_above : (s b : List ℕ) → (judge s [] b).answer.number ≡ 10 → 1 ≤ (deficiency_of s).deficiency
unmatched_above s b e =
    let w = judged_unmatched s [] b (unmatched_long s [] b e) e in
    let d = readable_deficiency s w.0 w.1 (accepted_all s w.0 w.1 w.2) in
    by (deficiency (map variables w.1)) d
  where
    by : (k : ℕ) → deficiency_of s ≡ measured k → 1 ≤ (deficiency_of s).deficiency
    by zero d = let z = walkable_numberless s [] b (unmatched_long s [] b e) (pairable_walkable s [] ((none_pairable s).0 d)) in absurd (omega arith)
    by (suc k) d = rw d (omega arith)
