-- The most clauses that can be matched together are those that are kept where each clause whose search fails is left aside; and so the
-- deficiency is the number of those left aside, and the largest excess.
use Prim.Native.Nat.{ℕ, suc, ◌+◌, ◌-◌, ◌≤◌}
use mathlib.Core.Bool.{Bool, true, false, cond}
use mathlib.Core.List.Memᴰ
use mathlib.Core.List
use mathlib.Core.List.{List, [], ◌∷◌, ◌++◌, append-nil, append_assoc, map, Memᴰ, Sublistᴰ}
use mathlib.Core.Logic.{◌⊎◌, ⊎_elim, ◌↔◌}
use mathlib.Core.Path.{◌≡◌, refl, sym, ◌∙◌, subst}
use native.Mathlib.Omega.{arith}
use lib.Dec.{ltb, eqb}
use lib.ListN.{length, length-append}
use borrow.Author.Tests.{ltb-true, ltb-false, eqb-true, eqb-false}
use Rattle.std.proofs.lemmas.Bool.{cases_Bool}
use Rattle.lists.proofs.SublistLaws.{sub_within, sub_whole, sub_front}
use Rattle.masks.specs.Mask.{size}
use Rattle.matching.specs.Sets.{Words, union}
use Rattle.matching.specs.InnerMatched.{Matched}
use Rattle.matching.specs.Search.{Search, next_search, rematch_from, search_bound, outcome, succeeds}
use Rattle.matching.specs.Inner.{Partial}
use Rattle.matching.specs.Deficiency.{sub_lists, largest, matched_length, most, deficiency, excess, largest_excess}
use Rattle.matching.proofs.Augmenting.{rematch_partial}
use Rattle.matching.proofs.SearchLaws.{Stuck, Reached, search_next}
use Rattle.matching.proofs.MatchedLaws.{sub_list_matched}
use Rattle.matching.proofs.OutcomeLaws.{partial_matches, matched_succeeds, succeeds_matched, violator_unmatched, stuck_violator}
use Rattle.matching.proofs.DeficiencyLaws.{Parts, no_clauses, parts_length, parts_kept, parts_aside, parts_keep, parts_leave, words_sub, words_element, words_more, any_with_matched, closed-excess, partial_longer, aside_closed}

-- ── Clause by clause ──────────────────────────────────────────────────────────────────────────────────────────────────

-- the clauses so far: kept, with their matching m, or left aside, as they can't be matched together with the kept ones
pub record Keeping (done kept m : List ℕ) : Type 0 where
  pub aside : List ℕ
  pub parts : Parts kept aside done
  pub partial : Partial kept m
  pub long : length m ≡ length kept
  pub unmatched : (r : ℕ) → Memᴰ r aside → Matched (kept ++ (r ∷ [])) → ⊥

pub keeping_begin : Keeping [] [] []
keeping_begin = record {
  aside = [];
  parts = no_clauses;
  partial = record { named = λ i h. absurd (omega arith); distinct = λ i j h. absurd (omega arith) };
  long = refl;
  unmatched = λ r m. absurd (Memᴰ.not-nil m);
}

module _ (done kept m : List ℕ) (s : ℕ) (W : Words (done ++ (s ∷ []))) (K : Keeping done kept m) where
  kept_words : Words (kept ++ (s ∷ []))
  kept_words =
      words_more kept s (words_sub (List.Sublistᴰ.trans (parts_kept K.parts) (sub_front done (s ∷ []))) W)
      (words_element (done ++ (s ∷ [])) s W (Memᴰ.append_right done (Memᴰ.head refl)))

  longer : Partial (kept ++ (s ∷ [])) m
  longer = partial_longer kept m s K.partial K.long

  -- the next clause's search
  abbrev next : Search
  next = next_search (kept ++ (s ∷ [])) m

  one_long : length (kept ++ (s ∷ [])) ≡ suc (length m)
  one_long = length-append kept (s ∷ []) ∙ omega (arith, K.long)

  ended : Stuck (kept ++ (s ∷ [])) m next ⊎ Reached (kept ++ (s ∷ [])) m next
  ended = (search_next (kept ++ (s ∷ [])) m kept_words).0

  -- it fails: the clause is left aside,
  pub keeping_leave : next.free ≡ 64 → Keeping (done ++ (s ∷ [])) kept m
  keeping_leave f = record {
    aside = K.aside ++ (s ∷ []);
    parts = parts_leave s K.parts;
    partial = K.partial;
    long = K.long;
    unmatched = λ r n.
        ⊎_elim
        (λ (o : Memᴰ r K.aside). K.unmatched r o)
        (λ (o : Memᴰ r (s ∷ [])).
        ⊎_elim
        (λ (e : r ≡ s). subst (λ (x : ℕ). Matched (kept ++ (x ∷ [])) → ⊥) (sym e) alone)
        (λ z. absurd (Memᴰ.not-nil z))
        (Memᴰ.cases_cons o))
        (Memᴰ.append_cases K.aside n);
  }
    where
      alone : Matched (kept ++ (s ∷ [])) → ⊥
      alone =
          ⊎_elim
          (λ (S : Stuck (kept ++ (s ∷ [])) m next).
          violator_unmatched (kept ++ (s ∷ [])) _ kept_words (stuck_violator (kept ++ (s ∷ [])) m kept_words longer (omega (arith, one_long)) next S))
          (λ (R : Reached (kept ++ (s ∷ [])) m next). absurd (omega (arith, R.0)))
          ended

  -- or a path is found, and it is kept: what could not be matched with fewer can't be with more
  pub keeping_more : (next.free ≡ 64 → ⊥) → Keeping (done ++ (s ∷ [])) (kept ++ (s ∷ [])) (rematch_from search_bound next.links m next.free)
  keeping_more ne =
      ⊎_elim
      (λ (S : Stuck (kept ++ (s ∷ [])) m next). absurd (ne S.none))
      (λ (R : Reached (kept ++ (s ∷ [])) m next).
      let P = rematch_partial (kept ++ (s ∷ [])) next.links search_bound m next.free longer R.1.0 R.1.1 in
      record {
        aside = K.aside;
        parts = parts_keep s K.parts;
        partial = P.0;
        long = P.1 ∙ sym one_long;
        unmatched = λ r n w. K.unmatched r n (sub_list_matched (List.Sublistᴰ.append (sub_front kept (s ∷ [])) (List.Sublistᴰ.refl (r ∷ []))) w);
      })
      ended

-- some clauses of any list are kept
abbrev SomeKept : List ℕ → Type 0
SomeKept done = (kept : List ℕ) × (m : List ℕ) × Keeping done kept m

keep_rest : (rest done : List ℕ) → Words (done ++ rest) → SomeKept done → SomeKept (done ++ rest)
keep_rest [] done W K = subst SomeKept (sym (append-nil done)) K
keep_rest (s ∷ rest) done W K =
    let e : (done ++ (s ∷ [])) ++ rest ≡ done ++ (s ∷ rest) = append_assoc done (s ∷ []) rest in
    let X : Words ((done ++ (s ∷ [])) ++ rest) = subst Words (sym e) W in
    let U : Words (done ++ (s ∷ [])) = words_sub (sub_front (done ++ (s ∷ [])) rest) X in
    let free = (next_search (K.0 ++ (s ∷ [])) K.1).free in
    subst SomeKept e (keep_rest rest (done ++ (s ∷ [])) X
    (⊎_elim
    (λ (t : eqb free 64 ≡ true). (K.0, K.1, keeping_leave done K.0 K.1 s U K.2 (eqb-true free 64 t)))
    (λ (f : eqb free 64 ≡ false). (_, _, keeping_more done K.0 K.1 s U K.2 (eqb-false free 64 f)))
    (cases_Bool (eqb free 64))))

keep : (sets : List ℕ) → Words sets → SomeKept sets
keep sets W = keep_rest sets [] W ([], [], keeping_begin)

-- ── What is kept is the most ──────────────────────────────────────────────────────────────────────────────────────────

module _ (sets kept m : List ℕ) (W : Words sets) (K : Keeping sets kept m) where
  kept_matched : Matched kept
  kept_matched = (m, partial_matches kept m K.partial K.long)

  -- some clauses have as large an excess as are left aside,
  aside_excess : (u : List ℕ) × Sublistᴰ u sets × (length K.aside + size (union u) ≤ length u)
  aside_excess =
      let c = aside_closed kept m (words_sub (parts_kept K.parts) W) K.partial K.long K.aside
      (λ r n. (words_element sets r W (sub_within (parts_aside K.parts) r n), K.unmatched r n)) in
      closed-excess K.parts K.long c.1

  -- so that no more than the kept ones can be matched,
  kept_most : {ys : List ℕ} → Sublistᴰ ys sets → Matched ys → length ys ≤ length kept
  kept_most s M =
      let u = aside_excess in
      omega (arith, u.2, any_with_matched W u.1 s M, parts_length K.parts)

  -- and no excess is larger
  excess_most : {xs : List ℕ} → Sublistᴰ xs sets → length xs ≤ length K.aside + size (union xs)
  excess_most s = omega (arith, any_with_matched W s (parts_kept K.parts) kept_matched, parts_length K.parts)

-- ── The largest over all sub-lists ────────────────────────────────────────────────────────────────────────────────────

sub_listed : (l : List ℕ) {k : List ℕ} → Sublistᴰ k l → Memᴰ k (sub_lists l)
unfolding sub_lists
sub_listed [] List.Sublistᴰ.slnil = Memᴰ.head refl
sub_listed (x ∷ l) (List.Sublistᴰ.cons s) = Memᴰ.append_left _ (sub_listed l s)
sub_listed (x ∷ l) (List.Sublistᴰ.cons-cons {l₁ = k} e s) =
    subst (λ (y : ℕ). Memᴰ (y ∷ k) (sub_lists (x ∷ l))) (sym e) (Memᴰ.append_right (sub_lists l) (Memᴰ.map (λ (j : List ℕ). x ∷ j) (sub_listed l s)))

listed_sub : (l k : List ℕ) → Memᴰ k (sub_lists l) → Sublistᴰ k l
unfolding sub_lists
listed_sub [] k m =
    ⊎_elim (λ (e : k ≡ []). subst (λ (j : List ℕ). Sublistᴰ j []) (sym e) List.Sublistᴰ.slnil) (λ z. absurd (Memᴰ.not-nil z)) (Memᴰ.cases_cons m)
listed_sub (x ∷ l) k m =
    ⊎_elim
    (λ (n : Memᴰ k (sub_lists l)). List.Sublistᴰ.cons (listed_sub l k n))
    (λ (n : Memᴰ k (map (λ (j : List ℕ). x ∷ j) (sub_lists l))).
    let w = Memᴰ.of_map (λ (j : List ℕ). x ∷ j) (sub_lists l) n in
    subst (λ (j : List ℕ). Sublistᴰ j (x ∷ l)) w.2 (List.Sublistᴰ.cons-cons refl (listed_sub l w.0 w.1)))
    (Memᴰ.append_cases (sub_lists l) m)

-- none of them is larger,
largest_bound : (l : List ℕ) (x : ℕ) → Memᴰ x l → x ≤ largest l
unfolding largest
largest_bound [] x m = absurd (Memᴰ.not-nil m)
largest_bound (y ∷ l) x m =
    ⊎_elim
    (λ (t : ltb y (largest l) ≡ true).
    let h = ltb-true y (largest l) t in
    rw t (⊎_elim (λ (e : x ≡ y). omega arith) (λ n. largest_bound l x n) (Memᴰ.cases_cons m)))
    (λ (f : ltb y (largest l) ≡ false).
    let h = ltb-false y (largest l) f in
    rw f (⊎_elim (λ (e : x ≡ y). omega arith) (λ n. let k = largest_bound l x n in omega arith) (Memᴰ.cases_cons m)))
    (cases_Bool (ltb y (largest l)))

-- and a bound of all is one of the largest
largest_least : (l : List ℕ) (b : ℕ) → ((x : ℕ) → Memᴰ x l → x ≤ b) → largest l ≤ b
unfolding largest
largest_least [] b f = omega arith
largest_least (y ∷ l) b f = by (ltb y (largest l)) (largest_least l b (λ x m. f x (Memᴰ.tail m))) (f y (Memᴰ.head refl))
  where
    by : (c : Bool) → largest l ≤ b → y ≤ b → cond c (largest l) y ≤ b
    by true h k = h
    by false h k = k

-- over the sub-lists: a bound that one of them attains
largest_over : (f : List ℕ → ℕ) (l k : List ℕ) (b : ℕ) → Sublistᴰ k l → b ≤ f k → ((j : List ℕ) → Sublistᴰ j l → f j ≤ b) → largest (map f (sub_lists l)) ≡ b
largest_over f l k b s a h =
    let x = largest_bound (map f (sub_lists l)) (f k) (Memᴰ.map f (sub_listed l s)) in
    let y = largest_least (map f (sub_lists l)) b
    (λ z m. let w = Memᴰ.of_map f (sub_lists l) m in subst (λ (q : ℕ). q ≤ b) w.2 (h w.0 (listed_sub l w.0 w.1))) in
    omega arith

-- as many as are kept are the most
pub most_kept : (sets kept m : List ℕ) → Words sets → Keeping sets kept m → most sets ≡ length kept
unfolding most
most_kept sets kept m W K =
    largest_over matched_length sets kept (length kept) (parts_kept K.parts)
    (rw (matched_succeeds kept (words_sub (parts_kept K.parts) W) (kept_matched sets kept m W K)) (omega arith))
    (λ j s. by j (succeeds (outcome j)) refl (λ t. kept_most sets kept m W K s (succeeds_matched j (words_sub s W) t)))
  where
    by : (j : List ℕ) (b : Bool) → succeeds (outcome j) ≡ b → (succeeds (outcome j) ≡ true → length j ≤ length kept) → cond b (length j) 0 ≤ length kept
    by j true e f = f e
    by j false e f = omega arith

-- ── The deficiency ────────────────────────────────────────────────────────────────────────────────────────────────────

pub most_attained : (sets : List ℕ) → Words sets → (l : List ℕ) × Sublistᴰ l sets × Matched l × (length l ≡ most sets)
most_attained sets W =
    let k = keep sets W in
    (k.0, parts_kept k.2.parts, kept_matched sets k.0 k.1 W k.2, sym (most_kept sets k.0 k.1 W k.2))

pub most_bound : (sets l : List ℕ) → Words sets → Sublistᴰ l sets → Matched l → length l ≤ most sets
most_bound sets l W s M =
    let k = keep sets W in
    rw (most_kept sets k.0 k.1 W k.2) (kept_most sets k.0 k.1 W k.2 s M)

-- as many as are left aside
aside_long : (sets kept m : List ℕ) → Words sets → (K : Keeping sets kept m) → length K.aside ≡ deficiency sets
unfolding deficiency
aside_long sets kept m W K = omega (arith, parts_length K.parts, most_kept sets kept m W K)

pub excess_bound : (sets l : List ℕ) → Words sets → Sublistᴰ l sets → length l ≤ deficiency sets + size (union l)
excess_bound sets l W s =
    let k = keep sets W in
    omega (arith, aside_long sets k.0 k.1 W k.2, excess_most sets k.0 k.1 W k.2 s)

pub excess_attained : (sets : List ℕ) → Words sets → (l : List ℕ) × Sublistᴰ l sets × (deficiency sets + size (union l) ≡ length l)
excess_attained sets W =
    let k = keep sets W in
    let u = aside_excess sets k.0 k.1 W k.2 in
    (u.0, u.1, omega (arith, u.2, aside_long sets k.0 k.1 W k.2, excess_bound sets u.0 W u.1))

pub deficiency-excess : (sets : List ℕ) → Words sets → deficiency sets ≡ largest_excess sets
unfolding largest_excess
deficiency-excess sets W =
    let u = excess_attained sets W in
    sym (largest_over excess sets u.0 (deficiency sets) u.1 (omega (arith, u.2)) (λ j s. omega (arith, excess_bound sets j W s)))

deficiency_is : (sets : List ℕ) → deficiency sets ≡ length sets - most sets
unfolding deficiency
deficiency_is sets = refl

-- one clause more, at any place
pub one_more : (xs ys : List ℕ) (s : ℕ) → Words (xs ++ (s ∷ ys))
    → (deficiency (xs ++ ys) ≤ deficiency (xs ++ (s ∷ ys))) × (deficiency (xs ++ (s ∷ ys)) ≤ suc (deficiency (xs ++ ys)))
one_more xs ys s W =
    let fewer : Sublistᴰ (xs ++ ys) (xs ++ (s ∷ ys)) = List.Sublistᴰ.append (List.Sublistᴰ.refl xs) (List.Sublistᴰ.cons (List.Sublistᴰ.refl ys)) in
    let U = words_sub fewer W in
    let u = excess_attained (xs ++ ys) U in
    let t = most_attained (xs ++ ys) U in
    let b = most_bound (xs ++ (s ∷ ys)) t.0 W (List.Sublistᴰ.trans t.1 fewer) t.2 in
    let d = deficiency_is (xs ++ ys) in
    let e = deficiency_is (xs ++ (s ∷ ys)) in (
      omega (arith, u.2, excess_bound (xs ++ (s ∷ ys)) u.0 W (List.Sublistᴰ.trans u.1 fewer)),
      omega (arith, t.3, length-append xs ys, length-append xs (s ∷ ys)),
    )

-- none exactly if all are matched together
pub deficiency-none : (sets : List ℕ) → Words sets → (deficiency sets ≡ 0) ↔ Matched sets
unfolding deficiency
deficiency-none sets W = (
  λ e.
      let t = most_attained sets W in
      subst Matched (sub_whole t.1 (omega (arith, t.3))) t.2,
  λ M. let b = most_bound sets sets W (List.Sublistᴰ.refl sets) M in omega arith,
)
