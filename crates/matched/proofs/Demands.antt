-- What judge owes to the demands (S10), under assumptions (S17), with stripping (S18), and of its marks (S20); and what is owed of the
-- deficiency (S22). Demand 1: a short buffer is refused first, a bad assumption behind the reader's refusals, and every byte of the buffer
-- is fixed. Demand 2: a formula is accepted exactly if what stripping leaves of what remains is matched; if it is not, a violator is shown,
-- none of whose clauses could be spared.
use Prim.Native.Nat.{ℕ, suc, ◌+◌, ◌-◌, ◌≤◌, ◌<◌}
use mathlib.Core.Bool.{true, false, cond, not, ◌&&◌}
use mathlib.Core.List.{List, [], ◌∷◌, ◌++◌, map, Memᴰ, Sublistᴰ}
use mathlib.Core.Logic.{◌↔◌}
use mathlib.Core.Path.{◌≡◌, ap, ◌∙◌}
use native.Mathlib.Omega.{arith}
use lib.Dec.{ltb}
use lib.ListN.{length}
use Rattle.limits.specs.Limits.{max_clauses}
use Rattle.lists.specs.Over.{over}
use Rattle.masks.specs.Mask.{size}
use Rattle.formula.specs.declared.Refusal.{Refusal}
use Rattle.formula.specs.declared.Refusal.TheVariants.{ShortBuffer, Unmatched, BadAssumption}
use Rattle.formula.specs.InnerDecode.{decode}
use Rattle.formula.specs.Decoding.{readable}
use Rattle.formula.specs.Format.{Literal, names, Sized, Encodes}
use Rattle.formula.specs.Masked.{variables}
use Rattle.formula.specs.Table.{Refuses}
use Rattle.formula.proofs.Demands.{accepted_all, accepted_fits, refused_all}
use Rattle.assumptions.specs.declared.Assumption.{Assumption}
use Rattle.assumptions.specs.Assumed.{literal_of}
use Rattle.assumptions.specs.FirstBad.{NoneBad, FirstBad}
use Rattle.assumptions.proofs.Demands.{bad_exactly, none_bad_literals, literals_over}
use Rattle.matching.specs.Deficiency.{most, largest_excess}
use Rattle.matching.specs.Sets.{union}
use Rattle.matching.proofs.Theorems as over_masks
use Rattle.splitting.specs.Nodes.{remaining, satisfied_by, lowest_with}
use Rattle.splitting.specs.Stripping.{pure}
use Rattle.splitting.specs.Choosing.{among}
use Rattle.splitting.specs.Terms.{left_after}
use Rattle.splitting.proofs.MaskChoiceLaws.{StripsTo}
use Rattle.splitting.proofs.SatisfiedLaws.{less_all, less_all_named, remaining_in}
use Rattle.splitting.proofs.Theorems.{noted-pure, still_there}
use Rattle.matched.specs.Acceptance.{accepted, by, dropped_by, whole_byte, stripped_byte, spread, acceptance}
use Rattle.matched.specs.Deficiency.{measured, unmeasured, deficiency_of}
use Rattle.matched.specs.Judge.{Judged, accepted_values, refused_values, judgement_of, judge}
use Rattle.matched.specs.Pairing.{Pairs, PairsUnder, noted_of, left_of, Pairable, Walkable, PairsStripped, PairsBut, marked, named_but, Violator}
use Rattle.matched.specs.Weigh.{WeighedValues, counted_values, unweighed_values, weighed}
use Rattle.matched.specs.WithoutAssumptions.{plain_acceptance}
use Rattle.matched.specs.WithoutStripping.{whole_acceptance}
use Rattle.matched.proofs.AcceptanceLaws.{whole_accepted, stripped_accepted, unpaired_declined, accepted_walkable, walkable_accepted, pairable_walkable, bad_declined, unreadable_declined}
use Rattle.matched.proofs.DeficiencyLaws as deficiencies
use Rattle.matched.proofs.DeficiencyLaws.{unreadable_deficiency, readable_deficiency}
use Rattle.matched.proofs.DroppedLaws.{dropped_first}
use Rattle.matched.proofs.JudgeLaws.{judge_short, judge_accepted, judge_declined, judged_bad, judged_unmatched, unmatched_long, numberless_walkable, walkable_numberless}
use Rattle.matched.proofs.KeptLaws.{kept}
use Rattle.matched.proofs.PairingLaws.{masks_words}
use Rattle.matched.proofs.UnassumedLaws.{unassumed}
use Rattle.matched.proofs.UnderLaws as unders
use Rattle.matched.proofs.ViolatorLaws as violators
use Rattle.matched.proofs.ViolatorLaws.{clauses_strip}
use Rattle.matched.proofs.WeighLaws.{weigh_short, weigh_refused, weigh_bad, weigh_under, weigh_violator, weigh_as_judge}

-- S10, demand 1: a buffer of fewer than 96 bytes gets 1 at 0, whatever the input and the assumptions, and is untouched
pub short_buffer : (s : List ℕ) (us : List Assumption) (b : List ℕ) → length b < max_clauses
    → judge s us b ≡ record { answer = refused_values (ShortBuffer 0); buffer = b }
short_buffer = judge_short

-- S10, demand 1: an unreadable input gets the reader's refusal, whatever the assumptions, and the buffer is untouched
pub unreadable : (s : List ℕ) (us : List Assumption) (b : List ℕ) (r : Refusal) → max_clauses ≤ length b → Refuses s r
    → judge s us b ≡ record { answer = refused_values r; buffer = b }
unreadable s us b r l w = judge_declined s us b l r [] (unreadable_declined s us r (refused_all s r w))

-- S17.1, demand 1: the number is 16 and the place i exactly if the input is readable and the assumption with the index i is the first bad
-- one,
pub bad_assumption_exactly : (s : List ℕ) (us : List Assumption) (b : List ℕ) (i : ℕ) → max_clauses ≤ length b
    → (((judge s us b).answer.number ≡ 16) × ((judge s us b).answer.place ≡ i)) ↔ ((n : ℕ) × (cs : List (List Literal)) × Encodes s n cs × FirstBad n us i)
bad_assumption_exactly s us b i l = (
  λ e. judged_bad s us b l i e.0 e.1,
  λ w.
      let e = judge_declined s us b l (BadAssumption i) [] (bad_declined s us w.0 w.1 i (accepted_all s w.0 w.1 w.2) ((bad_exactly w.0 us i).1 w.3)) in
      (ap (λ (j : Judged). j.answer.number) e, ap (λ (j : Judged). j.answer.place) e),
)

-- and then all other values are 0, and the buffer is untouched
pub bad_assumption : (s : List ℕ) (us : List Assumption) (b : List ℕ) (n : ℕ) (cs : List (List Literal)) (i : ℕ) → max_clauses ≤ length b → Encodes s n cs → FirstBad n us i
    → judge s us b ≡ record { answer = refused_values (BadAssumption i); buffer = b }
bad_assumption s us b n cs i l w f = judge_declined s us b l (BadAssumption i) [] (bad_declined s us n cs i (accepted_all s n cs w) ((bad_exactly n us i).1 f))

-- S10, demand 2: an input is accepted exactly if it is readable, none of the assumptions is bad and what stripping leaves of what remains
-- is matched,
pub acceptance_exactly : (s : List ℕ) (us : List Assumption)
    → ((n : ℕ) × (t : List Literal) × (cs : List (List Literal)) × (row : List ℕ) × (acceptance s us ≡ accepted n t cs row)) ↔ Walkable s us
acceptance_exactly s us = (
  λ a. accepted_walkable s us a.0 a.1 a.2 a.3 a.4,
  λ w. (w.variables, map literal_of us, w.clauses, (walkable_accepted s us w).0, (walkable_accepted s us w).1),
)

-- and judge refuses by no number exactly then
pub accepted_exactly : (s : List ℕ) (us : List Assumption) (b : List ℕ) → max_clauses ≤ length b → ((judge s us b).answer.number ≡ 0) ↔ Walkable s us
accepted_exactly s us b l = (numberless_walkable s us b l, walkable_numberless s us b l)

-- S18.1: every input of which what remains is matched itself is accepted so
pub matched_walkable : (s : List ℕ) (us : List Assumption) → Pairable s us → Walkable s us
matched_walkable = pairable_walkable

-- S5.7, S17.2: where what remains is matched, judge gives the numbers of variables and of clauses; the first bytes of the buffer are 0 for
-- the clauses that the assumptions satisfy and, in order, a matching of what remains of the others, its variables from 1; no other byte
-- changes
pub accepted_buffer : (s : List ℕ) (us : List Assumption) (b : List ℕ) → max_clauses ≤ length b → (w : Pairable s us)
    → (let t = map literal_of us in
    (vs : List ℕ) × Pairs (remaining t w.clauses) vs
    × (judge s us b ≡ record { answer = accepted_values w.variables (length w.clauses); buffer = over (spread (whole_byte t) w.clauses (map suc vs)) b }))
accepted_buffer s us b l w =
    let t = map literal_of us in
    let x = whole_accepted s us w.variables t w.clauses (accepted_all s w.variables w.clauses w.encodes) (none_bad_literals w.variables us w.none_bad) w.vs w.pairs in
    (x.0, x.1, judge_accepted s us b l w.variables t w.clauses _ x.2)

-- and these bytes, told clause by clause
pub accepted_bytes : (s : List ℕ) (us : List Assumption) (w : Pairable s us) (vs : List ℕ) → Pairs (remaining (map literal_of us) w.clauses) vs
    → PairsUnder (map literal_of us) w.clauses (spread (whole_byte (map literal_of us)) w.clauses (map suc vs))
accepted_bytes s us w vs p =
    unders.pairs_under (map literal_of us) (literals_over w.variables us (map literal_of us) (none_bad_literals w.variables us w.none_bad)).once w.clauses vs p

-- S18.4: everything is then as it is if nothing is stripped: what comes of the input, and judge by it
pub acceptance_kept : (s : List ℕ) (us : List Assumption) → Pairable s us → acceptance s us ≡ whole_acceptance s us
acceptance_kept = kept

pub judge_kept : (s : List ℕ) (us : List Assumption) (b : List ℕ) → Pairable s us
    → judge s us b ≡ cond (ltb (length b) max_clauses) (record { answer = refused_values (ShortBuffer 0); buffer = b }) (judgement_of (whole_acceptance s us) b)
unfolding judge
judge_kept s us b w = rw (kept s us w)

-- S18: an input that is readable, encoding n and cs, with no bad assumption
module _ (s : List ℕ) (us : List Assumption) (n : ℕ) (cs : List (List Literal)) (encodes : Encodes s n cs) (good : NoneBad n us) where
  -- the literals that are assumed
  abbrev pub t : List Literal
  t = map literal_of us

  fits : Sized n cs
  fits = accepted_fits s n cs (accepted_all s n cs encodes)

  strips : StripsTo n cs t
  strips = clauses_strip fits (literals_over n us t (none_bad_literals n us good))

  -- S18.2: what remains is not matched, but what stripping leaves of it is. Judge gives the numbers of variables and of clauses, and the
  -- first bytes of the buffer are spread from a matching of what is left; no other byte changes,
  pub stripped_buffer : (b : List ℕ) → max_clauses ≤ length b → (vs : List ℕ) → Pairs (left_of n t cs) vs → ((ws : List ℕ) → Pairs (remaining t cs) ws → ⊥)
      → (ws : List ℕ) × Pairs (left_of n t cs) ws
      × (judge s us b ≡ record { answer = accepted_values n (length cs); buffer = over (spread (stripped_byte t (noted_of n t cs)) cs (map suc ws)) b })
  stripped_buffer b long vs p none =
      let x = stripped_accepted s us n t cs (accepted_all s n cs encodes) (none_bad_literals n us good) vs p none in
      (x.0, x.1, judge_accepted s us b long n t cs _ x.2)

  -- these bytes, told clause by clause: 0, or 128 plus the variable that drops it, or the variable that a left one is matched with,
  pub stripped_bytes : (vs : List ℕ) → Pairs (left_of n t cs) vs → PairsStripped n t cs (spread (stripped_byte t (noted_of n t cs)) cs (map suc vs))
  stripped_bytes = unders.pairs_stripped fits strips

  -- and what it is that drops a clause that the assumptions do not satisfy: a variable that it names, noted as the lowest pure one in what
  -- those noted before it had left; the clause names none of these, so that what remains of it was still there.
  pub dropped_there : (c : List Literal) (v : ℕ) → Memᴰ c cs → satisfied_by t c ≡ false → dropped_by (noted_of n t cs) c ≡ by v
      → (before after : List ℕ) × (noted_of n t cs ≡ before ++ (v ∷ after))
      × (names c v ≡ true)
      × (lowest_with (pure (left_after before (remaining t cs))) n ≡ v)
      × (v < n)
      × (pure (left_after before (remaining t cs)) v ≡ true)
      × ((y : ℕ) → among before y ≡ true → names c y ≡ false)
      × (d : List Literal) × Memᴰ d (left_after before (remaining t cs)) × ((y : ℕ) → names d y ≡ names c y && not (names t y))
  dropped_there c v m unsatisfied e =
      let w = dropped_first (noted_of n t cs) c v e in
      let p = noted-pure n (remaining t cs) w.before w.after v w.order in
      let d = less_all t c in
      let there = still_there w.before (remaining t cs) d (remaining_in t c cs (literals_over n us t (none_bad_literals n us good)).once m unsatisfied)
      (λ y h. less_all_named t c y ∙ rw (w.none y h)) in
      (w.before, w.after, w.order, w.named, p.0, p.1, p.2, w.none, d, there, less_all_named t c)

  -- S10, demand 2: what stripping leaves is not matched. Judge gives 10, at the number of marked clauses; the first bytes of the buffer are
  -- the marks of a violator, one for each clause; no other byte changes,
  pub refused_buffer : (b : List ℕ) → max_clauses ≤ length b → ((vs : List ℕ) → Pairs (left_of n t cs) vs → ⊥)
      → (ms : List ℕ) × Violator n t cs ms × (judge s us b ≡ record { answer = refused_values (Unmatched (length (marked ms cs))); buffer = over ms b })
  refused_buffer b long none =
      let x = unpaired_declined s us n t cs (accepted_all s n cs encodes) (none_bad_literals n us good) none in
      (x.0, x.1, judge_declined s us b long _ _ x.2)

  -- S20.1: what a violator shows,
  module _ (ms : List ℕ) (violates : Violator n t cs ms) where
    -- for the marked clauses alone: they are not matched, without the assumed variables;
    pub marked_unpaired : (vs : List ℕ) → PairsBut t (marked ms cs) vs → ⊥
    marked_unpaired = violators.marked_unpaired fits violates

    -- for the formula: what stripping leaves is not matched;
    pub violator_unpaired : (vs : List ℕ) → Pairs (left_of n t cs) vs → ⊥
    violator_unpaired = violators.left_unpaired fits strips violates

    -- that no clause is marked without need: every proper part of the marked clauses is matched, without the assumed variables;
    pub part_paired : (ds : List (List Literal)) → Sublistᴰ ds (marked ms cs) → length ds < length (marked ms cs) → (vs : List ℕ) × PairsBut t ds vs
    part_paired = violators.part_paired fits violates

    -- that some are marked,
    pub some_marked : 1 ≤ length (marked ms cs)
    some_marked = omega (arith, violates.fewer)

    -- and one alone exactly if it is one of which nothing remains, the empty clause.
    pub one_alone : (length (marked ms cs) ≡ 1) ↔ ((c : List Literal) × Memᴰ c (marked ms cs) × (remaining t (c ∷ []) ≡ [] ∷ []))
    one_alone =
        let once = (literals_over n us t (none_bad_literals n us good)).once in
        (violators.one_empty fits violates once, λ e. violators.empty_one fits violates once e.0 e.1 e.2)

-- S10, demand 2: the number is 10 exactly if the input is readable, none of the assumptions is bad, and what stripping leaves is not
-- matched
pub unmatched_exactly : (s : List ℕ) (us : List Assumption) (b : List ℕ) → max_clauses ≤ length b
    → ((judge s us b).answer.number ≡ 10)
    ↔ ((n : ℕ) × (cs : List (List Literal)) × Encodes s n cs × NoneBad n us × ((vs : List ℕ) → Pairs (left_of n (map literal_of us) cs) vs → ⊥))
unmatched_exactly s us b l = (
  judged_unmatched s us b l,
  λ w. let x = refused_buffer s us w.0 w.1 w.2 w.3 b l w.4 in ap (λ (j : Judged). j.answer.number) x.2,
)

-- S20.2: what is weighed. A short buffer, an unreadable input and a bad assumption are refused as by judge,
pub weighed_short : (s : List ℕ) (us : List Assumption) (b : List ℕ) → length b < max_clauses → weighed s us b ≡ unweighed_values (ShortBuffer 0)
weighed_short = weigh_short

pub weighed_unreadable : (s : List ℕ) (us : List Assumption) (b : List ℕ) (r : Refusal) → max_clauses ≤ length b → Refuses s r → weighed s us b ≡ unweighed_values r
weighed_unreadable s us b r l w = weigh_refused s us b l r (refused_all s r w)

pub weighed_bad : (s : List ℕ) (us : List Assumption) (b : List ℕ) (n : ℕ) (cs : List (List Literal)) (i : ℕ) → max_clauses ≤ length b → Encodes s n cs → FirstBad n us i
    → weighed s us b ≡ unweighed_values (BadAssumption i)
weighed_bad s us b n cs i l w f = weigh_bad s us b l n cs (accepted_all s n cs w) i ((bad_exactly n us i).1 f)

-- else the marked clauses are counted and the variables that they name, the assumed ones not counted, be the formula accepted or not.
pub weighed_counts : (s : List ℕ) (us : List Assumption) (b : List ℕ) (n : ℕ) (cs : List (List Literal)) → max_clauses ≤ length b → Encodes s n cs → NoneBad n us
    → weighed s us b ≡ counted_values (length (marked b cs)) (size (named_but (map literal_of us) (marked b cs)))
weighed_counts s us b n cs l w good = weigh_under s us b l n cs (accepted_all s n cs w) (map literal_of us) (none_bad_literals n us good)

-- So it has judge's number and place, whatever these are, but where judge refuses by 10;
pub weighed_as_judge : (s : List ℕ) (us : List Assumption) (b : List ℕ) → ((judge s us b).answer.number ≡ 10 → ⊥)
    → ((weighed s us b).number ≡ (judge s us b).answer.number) × ((weighed s us b).place ≡ (judge s us b).answer.place)
weighed_as_judge = weigh_as_judge

-- there it refuses nothing,
pub weighed_anyway : (s : List ℕ) (us : List Assumption) (b : List ℕ) → (judge s us b).answer.number ≡ 10 → (weighed s us b).number ≡ 0
weighed_anyway s us b e =
    let long = unmatched_long s us b e in
    let w = judged_unmatched s us b long e in
    ap (λ (v : WeighedValues). v.number) (weighed_counts s us b w.0 w.1 long w.2 w.3)

-- and what judge then left in the buffer, with the place k, weighs k clauses and k - 1 variables.
pub weighed_violator : (s : List ℕ) (us : List Assumption) (b : List ℕ) → (judge s us b).answer.number ≡ 10
    → (let k = (judge s us b).answer.place in weighed s us (judge s us b).buffer ≡ counted_values k (k - 1))
weighed_violator s us b e =
    let long = unmatched_long s us b e in
    let w = judged_unmatched s us b long e in
    let x = refused_buffer s us w.0 w.1 w.2 w.3 b long w.4 in
    rw x.2 (weigh_violator s us b long w.0 w.1 (accepted_all s w.0 w.1 w.2) (map literal_of us) (none_bad_literals w.0 us w.3) x.0 x.1)

-- S22: the deficiency of an input that is readable, encoding n and cs, be it accepted or not
module _ (s : List ℕ) (n : ℕ) (cs : List (List Literal)) (encodes : Encodes s n cs) where
  reads : decode s ≡ readable n cs
  reads = accepted_all s n cs encodes

  sized : Sized n cs
  sized = accepted_fits s n cs reads

  -- S22.1: it is the number of clauses, less the most of them that can be matched together:
  pub deficiency_counts : deficiency_of s ≡ measured (length cs - most (map variables cs))
  deficiency_counts = deficiencies.clauses_less_most s n cs reads

  -- some clauses, as many as these, have a matching,
  pub most_attained : (ds : List (List Literal)) × (vs : List ℕ) × Sublistᴰ ds cs × Pairs ds vs × (length ds ≡ most (map variables cs))
  most_attained = deficiencies.pairs_attained sized

  -- and of no more there is one.
  pub most_bound : (ds : List (List Literal)) (vs : List ℕ) → Sublistᴰ ds cs → Pairs ds vs → length ds ≤ most (map variables cs)
  most_bound = deficiencies.pairs_bound sized

  -- S22.2: it is the largest excess of clauses over the variables that they name:
  pub deficiency-excess : deficiency_of s ≡ measured (largest_excess (map variables cs))
  deficiency-excess = readable_deficiency s n cs reads ∙ ap measured (over_masks.deficiency-excess (map variables cs) (masks_words sized))

  -- some clauses are so many more than the variables that they name,
  pub excess_attained : (ds : List (List Literal)) × Sublistᴰ ds cs × ((deficiency_of s).deficiency + size (union (map variables ds)) ≡ length ds)
  excess_attained = rw (readable_deficiency s n cs reads) (deficiencies.clauses_attained sized)

  -- and none are by more. The empty list has the excess 0.
  pub excess_bound : (ds : List (List Literal)) → Sublistᴰ ds cs → length ds ≤ (deficiency_of s).deficiency + size (union (map variables ds))
  excess_bound = rw (readable_deficiency s n cs reads) (deficiencies.clauses_bound sized)

  -- It is at most the number of clauses, so at most 96.
  pub deficiency_few : (deficiency_of s).deficiency ≤ length cs
  deficiency_few = rw (readable_deficiency s n cs reads) (deficiencies.clauses_few sized)

-- S22.3: two inputs, of which the second has one clause more, at any place. To the second the deficiency does not fall, and rises by one at
-- most; to the first it does not rise, and falls by one at most.
pub one_more : (s s' : List ℕ) (n : ℕ) (xs ys : List (List Literal)) (c : List Literal) → Encodes s n (xs ++ ys) → Encodes s' n (xs ++ (c ∷ ys))
    → ((deficiency_of s).deficiency ≤ (deficiency_of s').deficiency) × ((deficiency_of s').deficiency ≤ suc (deficiency_of s).deficiency)
one_more s s' n xs ys c e e' =
    let r = accepted_all s n (xs ++ ys) e in
    let r' = accepted_all s' n (xs ++ (c ∷ ys)) e' in
    rw (readable_deficiency s n (xs ++ ys) r, readable_deficiency s' n (xs ++ (c ∷ ys)) r') (deficiencies.clauses_more n xs ys c (accepted_fits s' n (xs ++ (c ∷ ys)) r'))

-- S22.1: it is 0 exactly if the formula is matched as it is, with nothing assumed and nothing stripped;
pub deficiency-none : (s : List ℕ) → (deficiency_of s ≡ measured 0) ↔ Pairable s []
deficiency-none = deficiencies.none_pairable

-- so it is above 0 where judge, with nothing assumed, says 10.
pub unmatched_deficient : (s b : List ℕ) → (judge s [] b).answer.number ≡ 10 → 1 ≤ (deficiency_of s).deficiency
unmatched_deficient = deficiencies.unmatched_above

-- S22.4: every readable input has one, and any other gets the reader's refusal, 2 to 9 and no other number.
pub deficiency_readable : (s : List ℕ) → ((deficiency_of s).number ≡ 0) ↔ ((n : ℕ) × (cs : List (List Literal)) × Encodes s n cs)
deficiency_readable = deficiencies.readable_exactly

pub deficiency_unreadable : (s : List ℕ) (r : Refusal) → Refuses s r → deficiency_of s ≡ unmeasured r
deficiency_unreadable s r w = unreadable_deficiency s r (refused_all s r w)

pub deficiency_refused : (s : List ℕ) → ((deficiency_of s).number ≡ 0 → ⊥)
    → (r : Refusal) × Refuses s r × (deficiency_of s ≡ unmeasured r) × (2 ≤ (deficiency_of s).number) × ((deficiency_of s).number ≤ 9)
deficiency_refused = deficiencies.refused_by

-- S17.6: an empty list of assumptions changes nothing: what comes of an input, and judge by it, are what they are without any
pub acceptance_unassumed : (s : List ℕ) → acceptance s [] ≡ plain_acceptance s
acceptance_unassumed = unassumed

pub judge_unassumed : (s b : List ℕ)
    → judge s [] b ≡ cond (ltb (length b) max_clauses) (record { answer = refused_values (ShortBuffer 0); buffer = b }) (judgement_of (plain_acceptance s) b)
unfolding judge
judge_unassumed s b = rw (unassumed s)
