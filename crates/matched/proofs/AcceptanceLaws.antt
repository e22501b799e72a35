-- What acceptance means: an input is accepted under assumptions exactly if it is readable, none of them is bad and what stripping leaves of
-- what remains of its clauses can be paired; the whole is paired first.
use Prim.Native.Nat.{ℕ, suc, ◌≤◌}
use mathlib.Core.List.{List, [], map}
use mathlib.Core.Path.{◌≡◌, refl, ap, ◌∙◌}
use native.Mathlib.Omega.{arith}
use lib.ListN.{length}
use Rattle.limits.specs.Limits.{max_clauses}
use Rattle.formula.specs.declared.Refusal.{Refusal}
use Rattle.formula.specs.declared.Refusal.TheVariants.{Unmatched, BadAssumption}
use Rattle.formula.specs.InnerDecode.{decode}
use Rattle.formula.specs.Decoding.{Decoding, readable, refused}
use Rattle.formula.specs.Format.{Literal, Sized, ClauseOver, Encodes}
use Rattle.formula.specs.Masked.{variables}
use Rattle.formula.specs.Refusals.{table_row}
use Rattle.formula.proofs.Demands.{accepted_only, accepted_all, accepted_fits, numbers}
use Rattle.assumptions.specs.declared.Assumption.{Assumption}
use Rattle.assumptions.specs.Assumed.{Assumed, literals, bad, literal_of, assumed}
use Rattle.assumptions.specs.FirstBad.{NoneBad, FirstBad}
use Rattle.assumptions.proofs.Demands.{bad_exactly, literals_exactly, none_bad_literals, literals_are, literals_over}
use Rattle.matching.specs.Search.{Outcome, success, failure, outcome}
use Rattle.matching.proofs.Theorems.{success_matches, failure_unmatched}
use Rattle.splitting.specs.Nodes.{remaining}
use Rattle.splitting.specs.Stripping.{stripped}
use Rattle.splitting.specs.Terms.{Sound}
use Rattle.splitting.proofs.Theorems.{matched_sound}
use Rattle.matched.specs.Acceptance.{Acceptance, accepted, declined, whole_byte, stripped_byte, spread, by_left_outcome, by_outcome, formula_acceptance, by_assumed, by_decoding, acceptance}
use Rattle.matched.specs.InnerAccept.{row_of}
use Rattle.matched.specs.Pairing.{Pairs, noted_of, left_of, Pairable, Walkable, Violator, marked}
use Rattle.matched.proofs.PairingLaws.{masks_words, matches_pairs, pairs_matches}
use Rattle.matched.proofs.SizedLaws.{remaining_sized, left_sized}
use Rattle.matched.proofs.SpreadLaws.{spread_length}
use Rattle.matched.proofs.ViolatorLaws.{clauses_strip, taken_row, taken_violator, taken_many}

-- a pairing of what remains pairs what stripping leaves,
pairs_left : (n : ℕ) (t : List Literal) (cs : List (List Literal)) (vs : List ℕ) → Pairs (remaining t cs) vs → (ws : List ℕ) × Pairs (left_of n t cs) ws
pairs_left n t cs vs p =
    let m = matched_sound n (remaining t cs) (vs, pairs_matches (remaining t cs) vs p) in
    (m.0, matches_pairs (left_of n t cs) m.0 m.1)

-- which is the invariant of the walk
pub left_sound : (n : ℕ) (t : List Literal) (cs : List (List Literal)) (vs : List ℕ) → Pairs (left_of n t cs) vs → Sound n (remaining t cs)
left_sound n t cs vs p = (vs, pairs_matches (left_of n t cs) vs p)

-- ---- a search over clauses and what it shows

-- the clauses have a pairing
paired_by : {n : ℕ} {cs : List (List Literal)} (z : Sized n cs) (vs : List ℕ) (e : ℕ) → outcome (map variables cs) ≡ success vs e → Pairs cs vs
paired_by {n} {cs} z vs e p = matches_pairs cs vs (success_matches (map variables cs) vs e (masks_words z) p)

-- or none
pub none_by : {n : ℕ} {cs : List (List Literal)} (z : Sized n cs) (taken : List ℕ) (e : ℕ) → outcome (map variables cs) ≡ failure taken e → (vs : List ℕ) → Pairs cs vs → ⊥
none_by {n} {cs} z taken e p vs w = failure_unmatched (map variables cs) taken e (masks_words z) p (vs, pairs_matches cs vs w)

-- ---- a formula under assumptions

-- The cases of what comes of it: a pairing of what remains; one of what stripping leaves of it; or the marks of a violator.
pub data FormulaComes (n : ℕ) (t : List Literal) (cs : List (List Literal)) : Acceptance → Type 0 where
  paired : (vs : List ℕ) → Pairs (remaining t cs) vs → FormulaComes n t cs (accepted n t cs (spread (whole_byte t) cs (map suc vs)))
  strips : (vs : List ℕ) → ((ws : List ℕ) → Pairs (remaining t cs) ws → ⊥) → Pairs (left_of n t cs) vs
      → FormulaComes n t cs (accepted n t cs (spread (stripped_byte t (noted_of n t cs)) cs (map suc vs)))
  unpaired : (ms : List ℕ) → Violator n t cs ms → ((vs : List ℕ) → Pairs (left_of n t cs) vs → ⊥)
      → FormulaComes n t cs (declined (Unmatched (length (marked ms cs))) ms)

module _ (n : ℕ) (t : List Literal) (cs : List (List Literal)) (z : Sized n cs) (over : ClauseOver n t) where
  formula_comes : FormulaComes n t cs (formula_acceptance n t cs)
  formula_comes = at (outcome (map variables (remaining t cs))) refl
    where
      strip : ((ws : List ℕ) → Pairs (remaining t cs) ws → ⊥) → (o : Outcome) → outcome (map variables (left_of n t cs)) ≡ o
          → FormulaComes n t cs (by_left_outcome n t cs (stripped n (remaining t cs)) o)
      strip none (success vs e) p = strips vs none (paired_by (left_sized t z) vs e p)
      strip none (failure taken e) p =
          let w = clauses_strip z over in
          rw (← (taken_many z w taken e p)) (unpaired (taken_row n t cs taken) (taken_violator z w taken e p) (none_by (left_sized t z) taken e p))

      at : (o : Outcome) → outcome (map variables (remaining t cs)) ≡ o → FormulaComes n t cs (by_outcome n t cs o)
      at (success vs e) p = paired vs (paired_by (remaining_sized t z) vs e p)
      at (failure taken e) p = strip (none_by (remaining_sized t z) taken e p) (outcome (map variables (left_of n t cs))) refl

-- ---- an input

-- what an accepted input is
pub record AcceptedInput (s : List ℕ) (us : List Assumption) (n : ℕ) (t : List Literal) (cs : List (List Literal)) (row : List ℕ) : Type 0 where
  pub reads : decode s ≡ readable n cs
  pub assumes : assumed n us ≡ literals t
  pub sized : Sized n cs
  pub over : ClauseOver n t
  pub vs : List ℕ
  pub pairs : Pairs (left_of n t cs) vs

-- The cases of what comes of an input: that of its formula, a bad assumption, or the reader's refusal.
pub data Comes (s : List ℕ) (us : List Assumption) : Acceptance → Type 0 where
  of_formula : (n : ℕ) (t : List Literal) (cs : List (List Literal)) {a : Acceptance} → decode s ≡ readable n cs → assumed n us ≡ literals t → FormulaComes n t cs a → Comes s us a
  bad_assumed : (n : ℕ) (cs : List (List Literal)) (i : ℕ) → decode s ≡ readable n cs → assumed n us ≡ bad i → Comes s us (declined (BadAssumption i) [])
  unreadable : (r : Refusal) → decode s ≡ refused r → Comes s us (declined r [])

module _ (s : List ℕ) (us : List Assumption) where
  pub comes : Comes s us (acceptance s us)
  unfolding acceptance
  comes = by (decode s) refl
    where
      under : (n : ℕ) (cs : List (List Literal)) → decode s ≡ readable n cs → (x : Assumed) → assumed n us ≡ x → Comes s us (by_assumed n cs x)
      under n cs reads (literals t) assumes = of_formula n t cs reads assumes (formula_comes n t cs (accepted_fits s n cs reads) (literals_over n us t assumes))
      under n cs reads (bad i) assumes = bad_assumed n cs i reads assumes

      by : (d : Decoding) → decode s ≡ d → Comes s us (by_decoding d us)
      by (readable n cs) reads = under n cs reads (assumed n us) refl
      by (refused r) e = unreadable r e

  pub accepted_is : (n : ℕ) (t : List Literal) (cs : List (List Literal)) (row : List ℕ) → acceptance s us ≡ accepted n t cs row → AcceptedInput s us n t cs row
  accepted_is n t cs row = by comes
    where
      is : (k : ℕ) (u : List Literal) (ds : List (List Literal)) (r ws : List ℕ) → decode s ≡ readable k ds → assumed k us ≡ literals u → Pairs (left_of k u ds) ws
          → accepted k u ds r ≡ accepted n t cs row → AcceptedInput s us n t cs row
      is k u ds r ws reads assumes w q =
          let a : k ≡ n = cc in
          let b : ds ≡ cs = cc in
          let d : u ≡ t = cc in
          let c : r ≡ row = cc in
          rw (← a, ← b, ← c, ← d) (record { reads = reads; assumes = assumes; sized = accepted_fits s k ds reads; over = literals_over k us u assumes; vs = ws; pairs = w })

      of : (k : ℕ) (u : List Literal) (ds : List (List Literal)) → decode s ≡ readable k ds → assumed k us ≡ literals u → {a : Acceptance} → FormulaComes k u ds a
          → a ≡ accepted n t cs row → AcceptedInput s us n t cs row
      of k u ds reads assumes (paired vs w) q = let x = pairs_left k u ds vs w in is k u ds _ x.0 reads assumes x.1 q
      of k u ds reads assumes (strips vs none w) q = is k u ds _ vs reads assumes w q
      of k u ds reads assumes (unpaired ms v none) q = let z : ◌≡◌ {A = ℕ} 0 1 = cc in absurd (omega arith)

      by : {a : Acceptance} → Comes s us a → a ≡ accepted n t cs row → AcceptedInput s us n t cs row
      by (of_formula k u ds reads assumes f) q = of k u ds reads assumes f q
      by (bad_assumed k ds i reads assumes) q = let z : ◌≡◌ {A = ℕ} 0 1 = cc in absurd (omega arith)
      by (unreadable r e) q = let z : ◌≡◌ {A = ℕ} 0 1 = cc in absurd (omega arith)

  -- A readable input, and no bad assumption: what comes of its formula.
  module _ (n : ℕ) (t : List Literal) (cs : List (List Literal)) (reads : decode s ≡ readable n cs) (assumes : assumed n us ≡ literals t) where
    pub read_acceptance : acceptance s us ≡ formula_acceptance n t cs
    unfolding acceptance
    read_acceptance = rw (reads, assumes)

    pub formula_case : FormulaComes n t cs (formula_acceptance n t cs)
    formula_case = formula_comes n t cs (accepted_fits s n cs reads) (literals_over n us t assumes)

    -- what remains can be paired: accepted, with such a pairing
    pub whole_accepted : (vs : List ℕ) → Pairs (remaining t cs) vs
        → (ws : List ℕ) × Pairs (remaining t cs) ws × (acceptance s us ≡ accepted n t cs (spread (whole_byte t) cs (map suc ws)))
    whole_accepted vs w = by formula_case read_acceptance
      where
        by : {a : Acceptance} → FormulaComes n t cs a → acceptance s us ≡ a
            → (ws : List ℕ) × Pairs (remaining t cs) ws × (acceptance s us ≡ accepted n t cs (spread (whole_byte t) cs (map suc ws)))
        by (paired ws p) e = (ws, p, e)
        by (strips ws none p) e = absurd (none vs w)
        by (unpaired ms v none) e = let x = pairs_left n t cs vs w in absurd (none x.0 x.1)

    -- it can't, but what stripping leaves of it can: accepted, with a pairing of that
    pub stripped_accepted : (vs : List ℕ) → Pairs (left_of n t cs) vs → ((ws : List ℕ) → Pairs (remaining t cs) ws → ⊥)
        → (ws : List ℕ) × Pairs (left_of n t cs) ws × (acceptance s us ≡ accepted n t cs (spread (stripped_byte t (noted_of n t cs)) cs (map suc ws)))
    stripped_accepted vs w none = by formula_case read_acceptance
      where
        by : {a : Acceptance} → FormulaComes n t cs a → acceptance s us ≡ a
            → (ws : List ℕ) × Pairs (left_of n t cs) ws × (acceptance s us ≡ accepted n t cs (spread (stripped_byte t (noted_of n t cs)) cs (map suc ws)))
        by (paired ws p) e = absurd (none ws p)
        by (strips ws _ p) e = (ws, p, e)
        by (unpaired ms v some) e = absurd (some vs w)

    -- either way accepted
    pub left_accepted : (vs : List ℕ) → Pairs (left_of n t cs) vs → (row : List ℕ) × (acceptance s us ≡ accepted n t cs row)
    left_accepted vs w = by formula_case read_acceptance
      where
        by : {a : Acceptance} → FormulaComes n t cs a → acceptance s us ≡ a → (row : List ℕ) × (acceptance s us ≡ accepted n t cs row)
        by (paired ws p) e = (_, e)
        by (strips ws _ p) e = (_, e)
        by (unpaired ms v none) e = absurd (none vs w)

    -- what stripping leaves can't be paired: declined by 10, and the marks are a violator
    pub unpaired_declined : ((vs : List ℕ) → Pairs (left_of n t cs) vs → ⊥)
        → (ms : List ℕ) × Violator n t cs ms × (acceptance s us ≡ declined (Unmatched (length (marked ms cs))) ms)
    unpaired_declined none = by formula_case read_acceptance
      where
        by : {a : Acceptance} → FormulaComes n t cs a → acceptance s us ≡ a
            → (ms : List ℕ) × Violator n t cs ms × (acceptance s us ≡ declined (Unmatched (length (marked ms cs))) ms)
        by (paired vs w) e = let x = pairs_left n t cs vs w in absurd (none x.0 x.1)
        by (strips vs _ w) e = absurd (none vs w)
        by (unpaired ms v _) e = (ms, v, e)

  -- so what is accepted is what is walkable
  pub accepted_walkable : (n : ℕ) (t : List Literal) (cs : List (List Literal)) (row : List ℕ) → acceptance s us ≡ accepted n t cs row → Walkable s us
  accepted_walkable n t cs row e =
      let a = accepted_is n t cs row e in
      record {
        variables = n;
        clauses = cs;
        encodes = accepted_only s n cs a.reads;
        none_bad = (literals_exactly n us).0 (t, a.assumes);
        vs = a.vs;
        pairs = rw (← (literals_are n us t a.assumes)) a.pairs;
      }

  pub walkable_accepted : (w : Walkable s us) → (row : List ℕ) × (acceptance s us ≡ accepted w.variables (map literal_of us) w.clauses row)
  walkable_accepted w =
      left_accepted w.variables (map literal_of us) w.clauses (accepted_all s w.variables w.clauses w.encodes)
      (none_bad_literals w.variables us w.none_bad) w.vs w.pairs

  -- what is pairable is walkable
  pub pairable_walkable : Pairable s us → Walkable s us
  pairable_walkable w =
      let x = pairs_left w.variables (map literal_of us) w.clauses w.vs w.pairs in
      record { variables = w.variables; clauses = w.clauses; encodes = w.encodes; none_bad = w.none_bad; vs = x.0; pairs = x.1 }

  -- a readable input with a bad assumption is declined by 16
  pub bad_declined : (n : ℕ) (cs : List (List Literal)) (i : ℕ) → decode s ≡ readable n cs → assumed n us ≡ bad i → acceptance s us ≡ declined (BadAssumption i) []
  unfolding acceptance
  bad_declined n cs i e f = rw (e, f)

  -- an unreadable one by the reader's refusal
  pub unreadable_declined : (r : Refusal) → decode s ≡ refused r → acceptance s us ≡ declined r []
  unfolding acceptance
  unreadable_declined r e = rw e

  -- a declined input has a number, from 2 to 16
  pub declined_number : (r : Refusal) (row : List ℕ) → acceptance s us ≡ declined r row → (2 ≤ (table_row r).number) × ((table_row r).number ≤ 16)
  declined_number r row = by comes
    where
      of : (n : ℕ) (t : List Literal) (cs : List (List Literal)) {a : Acceptance} → FormulaComes n t cs a → a ≡ declined r row
          → (2 ≤ (table_row r).number) × ((table_row r).number ≤ 16)
      of n t cs (paired vs w) q = let z : ◌≡◌ {A = ℕ} 0 1 = cc in absurd (omega arith)
      of n t cs (strips vs none w) q = let z : ◌≡◌ {A = ℕ} 0 1 = cc in absurd (omega arith)
      of n t cs (unpaired ms v none) q = let e : Unmatched (length (marked ms cs)) ≡ r = cc in rw (← e) (omega arith)

      by : {a : Acceptance} → Comes s us a → a ≡ declined r row → (2 ≤ (table_row r).number) × ((table_row r).number ≤ 16)
      by (of_formula n t cs reads assumes f) q = of n t cs f q
      by (bad_assumed n cs i reads assumes) q = let e : BadAssumption i ≡ r = cc in rw (← e) (omega arith)
      by (unreadable t reads) q = let e : t ≡ r = cc in rw (← e) (omega (arith, numbers s t reads))

  -- 10 is for an input of which what stripping leaves can't be paired
  pub declined_unmatched : (r : Refusal) (row : List ℕ) → acceptance s us ≡ declined r row → (table_row r).number ≡ 10
      → (n : ℕ) × (cs : List (List Literal)) × Encodes s n cs × NoneBad n us × ((vs : List ℕ) → Pairs (left_of n (map literal_of us) cs) vs → ⊥)
  declined_unmatched r row e q = by comes e
    where
      of : (n : ℕ) (t : List Literal) (cs : List (List Literal)) → decode s ≡ readable n cs → assumed n us ≡ literals t → {a : Acceptance} → FormulaComes n t cs a
          → a ≡ declined r row
          → (n : ℕ) × (cs : List (List Literal)) × Encodes s n cs × NoneBad n us × ((vs : List ℕ) → Pairs (left_of n (map literal_of us) cs) vs → ⊥)
      of n t cs reads assumes (paired vs w) e = let z : ◌≡◌ {A = ℕ} 0 1 = cc in absurd (omega arith)
      of n t cs reads assumes (strips vs none w) e = let z : ◌≡◌ {A = ℕ} 0 1 = cc in absurd (omega arith)
      of n t cs reads assumes (unpaired ms v none) e =
          (n, cs, accepted_only s n cs reads, (literals_exactly n us).0 (t, assumes), rw (literals_are n us t assumes) at none)

      by : {a : Acceptance} → Comes s us a → a ≡ declined r row
          → (n : ℕ) × (cs : List (List Literal)) × Encodes s n cs × NoneBad n us × ((vs : List ℕ) → Pairs (left_of n (map literal_of us) cs) vs → ⊥)
      by (of_formula n t cs reads assumes f) e = of n t cs reads assumes f e
      by (bad_assumed n cs i reads assumes) e = let z : BadAssumption i ≡ r = cc in absurd (omega (arith, rw (← z) at q))
      by (unreadable k reads) e = let z : k ≡ r = cc in absurd (omega (arith, (numbers s k reads).1, rw (← z) at q))

  -- and 16 for one with a bad assumption, the first at the place
  pub declined_bad : (r : Refusal) (row : List ℕ) (i : ℕ) → acceptance s us ≡ declined r row → (table_row r).number ≡ 16 → (table_row r).place ≡ i
      → (n : ℕ) × (cs : List (List Literal)) × Encodes s n cs × FirstBad n us i
  declined_bad r row i e q p = by comes e
    where
      of : (n : ℕ) (t : List Literal) (cs : List (List Literal)) {a : Acceptance} → FormulaComes n t cs a → a ≡ declined r row
          → (n : ℕ) × (cs : List (List Literal)) × Encodes s n cs × FirstBad n us i
      of n t cs (paired vs w) e = let z : ◌≡◌ {A = ℕ} 0 1 = cc in absurd (omega arith)
      of n t cs (strips vs none w) e = let z : ◌≡◌ {A = ℕ} 0 1 = cc in absurd (omega arith)
      of n t cs (unpaired ms v none) e =
          let z : Unmatched (length (marked ms cs)) ≡ r = cc in absurd (omega (arith, rw (← z) at q))

      by : {a : Acceptance} → Comes s us a → a ≡ declined r row → (n : ℕ) × (cs : List (List Literal)) × Encodes s n cs × FirstBad n us i
      by (of_formula n t cs reads assumes f) e = of n t cs f e
      by (bad_assumed n cs j reads assumes) e =
          let z : BadAssumption j ≡ r = cc in (n, cs, accepted_only s n cs reads, (bad_exactly n us i).0 (assumes ∙ ap bad (rw (← z) at p)))
      by (unreadable k reads) e = let z : k ≡ r = cc in absurd (omega (arith, (numbers s k reads).1, rw (← z) at q))

  -- the bytes fit a table
  row_few : length (row_of (acceptance s us)) ≤ max_clauses
  row_few = by comes
    where
      of : (n : ℕ) (t : List Literal) (cs : List (List Literal)) → decode s ≡ readable n cs → {a : Acceptance} → FormulaComes n t cs a → length (row_of a) ≤ max_clauses
      of n t cs reads (paired vs w) = omega (arith, spread_length (whole_byte t) cs (map suc vs), (accepted_fits s n cs reads).few)
      of n t cs reads (strips vs none w) =
          omega (arith, spread_length (stripped_byte t (noted_of n t cs)) cs (map suc vs), (accepted_fits s n cs reads).few)
      of n t cs reads (unpaired ms v none) =
          omega (arith, v.one_each, (accepted_fits s n cs reads).few)

      by : {a : Acceptance} → Comes s us a → length (row_of a) ≤ max_clauses
      by (of_formula n t cs reads assumes f) = of n t cs reads f
      by (bad_assumed n cs i reads assumes) = omega arith
      by (unreadable r e) = omega arith
