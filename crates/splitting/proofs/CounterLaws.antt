-- A counter, which holds the counts of all variables at once, and the busiest member of a mask by it.
use Prim.Native.Nat.{ℕ, zero, suc, ◌+◌, ◌-◌, ◌*◌, ◌^◌, ◌≤◌, ◌<◌}
use mathlib.Core.Path.{◌≡◌, refl, sym, ap, ◌∙◌}
use mathlib.Core.Bool.{Bool, true, false, cond, xor, ◌&&◌, ◌||◌, or-false, or_assoc}
use mathlib.Core.List.{List, [], ◌∷◌, ◌++◌, append-nil, append_assoc}
use mathlib.Core.Logic.{inl, inr, ⊎_elim}
use native.Mathlib.Omega.{arith}
use lib.Bits.{bit_and, bit_or, bit_xor}
use native.Mathlib.Numerals.{add-one}
use lib.Dec.{ltb}
use lib.ListN.{length, get_or, set, take, drop, replicate}
use lib.Seq.{drop-cons}
use Rattle.std.proofs.lemmas.List.{take_all, take_more_set, drop_all, drop-set-lt}
use borrow.Author.Tests.{eqb-true, eqb-false, not-true, not-false, ltb-true, ltb-false, lt-ltb, le-ltb}
use Rattle.lists.specs.Tabulated.{tabulated}
use Rattle.lists.proofs.TestLaws.{and_left, and_right, and_both, bool_cases, bool_clash}
use Rattle.masks.specs.Mask.{bit}
use Rattle.masks.specs.InnerMask.{meets, lowest}
use Rattle.masks.proofs.BitLaws.{bit-and, bit-or, bit-bit_xor, bit_below, bit-none}
use Rattle.masks.proofs.MembersLaws.{lowest_is, mask_lt, member_some}
use Rattle.matching.proofs.Counting.{lt_or_le}
use Rattle.formula.specs.declared.Clause.{Clause}
use Rattle.formula.specs.InnerFits.{clause_variables}
use Rattle.splitting.specs.InnerChoose.{clause_in, clauses_in, occurrences_in, digit, count_of, narrowed, Busiest}
use Rattle.splitting.proofs.OrderLaws.{one_more_le}

-- ── Digits ───────────────────────────────────────────────────────────────────────────────────────────────────────────

digit_most : (b : Bool) (x : ℕ) → digit b x ≤ suc (2 * x)
digit_most true x = omega arith
digit_most false x = omega arith

-- one more, or not, at a digit x: it is changed, and passes on a carry to the digits before it
digit_more : (x k : Bool) (a : ℕ) → digit (xor x k) (cond (x && k) (suc a) a) ≡ cond k (suc (digit x a)) (digit x a)
unfolding xor
digit_more true true a = omega arith
digit_more true false a = refl
digit_more false true a = refl
digit_more false false a = refl

-- a number is not 0 if its last digit is 1 or the number before it is not 0
digit_some : (x b : Bool) (a : ℕ) → b ≡ ltb 0 a → x || b ≡ ltb 0 (digit x a)
digit_some true b a e = sym (lt-ltb 0 (suc (2 * a)) (omega arith))
digit_some false b a e =
    e
    ∙ ⊎_elim
    (λ t. let l = ltb-true 0 a t in t ∙ sym (lt-ltb 0 (2 * a) (omega arith)))
    (λ f. let l = ltb-false 0 a f in f ∙ sym (le-ltb 0 (2 * a) (omega arith)))
    (bool_cases (ltb 0 a))

-- ── Counting ─────────────────────────────────────────────────────────────────────────────────────────────────────────

both_bits : (v p k : ℕ) → bit (bit_and p k) v ≡ true → (bit p v ≡ true) × (bit k v ≡ true)
both_bits v p k e = let w = sym (bit-and p k v) ∙ e in (and_left (bit p v) (bit k v) w, and_right (bit p v) (bit k v) w)

-- the digits with one more for each member of the mask
unfoldable pub added : List ℕ → ℕ → List ℕ
added [] k = []
added (d ∷ ds) k = bit_xor d k ∷ added ds (bit_and d k)

pub length_added : (ds : List ℕ) (k : ℕ) → length (added ds k) ≡ length ds
unfolding added
length_added [] k = refl
length_added (d ∷ ds) k = ap suc (length_added ds (bit_and d k))

-- the count of v that is not the greatest goes up by one, if v is a member
pub count_added : (ds : List ℕ) (k v : ℕ) → (bit k v ≡ true → suc (count_of ds v) < 2 ^ length ds)
    → count_of (added ds k) v ≡ cond (bit k v) (suc (count_of ds v)) (count_of ds v)
unfolding added count_of
count_added [] k v h =
    ⊎_elim (λ t. absurd (omega (arith, h t))) (λ f. rw f) (bool_cases (bit k v))
count_added (d ∷ ds) k v h =
    rw (count_added ds (bit_and d k) v less, bit-and d k v, bit-bit_xor d k v) (digit_more (bit d v) (bit k v) (count_of ds v))
  where
    less : bit (bit_and d k) v ≡ true → suc (count_of ds v) < 2 ^ length ds
    less t =
        let b = both_bits v d k t in
        let l : suc (suc (2 * count_of ds v)) < 2 ^ suc (length ds) = rw b.0 at (h b.1) in
        omega arith

-- a turn of the code: the digits before i are changed, and those from i on are still to be
pub added_turn : (ds : List ℕ) (i k : ℕ) → i < length ds
    → take (i + 1) (set ds i (bit_xor (get_or ds i 0) k)) ++ added (drop (i + 1) (set ds i (bit_xor (get_or ds i 0) k))) (bit_and (get_or ds i 0) k) ≡ take i ds ++ added (drop i ds) k
unfolding added
added_turn ds i k l =
    let x = bit_xor (get_or ds i 0) k in
    rw (take_more_set ds i x l, drop-set-lt (i + 1) ds i x (omega arith), drop-cons ds i 0 l, add-one i, added)
    (append_assoc (take i ds) (x ∷ []) (added (drop (suc i) ds) (bit_and (get_or ds i 0) k)))

-- all are changed
pub added_done : (ds : List ℕ) (i k : ℕ) → length ds ≤ i → take i ds ++ added (drop i ds) k ≡ ds
unfolding added
added_done ds i k l = rw (take_all i ds l, drop_all i ds l) (append-nil ds)

-- at first nothing is counted
pub counts_none : (n v : ℕ) → count_of (replicate n 0) v ≡ 0
unfolding count_of
counts_none zero v = refl
counts_none (suc n) v = rw (bit-none v, counts_none n v)

-- a count has as many digits
pub count_below : (ds : List ℕ) (v : ℕ) → count_of ds v < 2 ^ length ds
unfolding count_of
count_below [] v = omega arith
count_below (d ∷ ds) v =
    let l : digit (bit d v) (count_of ds v) < 2 ^ suc (length ds) = omega (arith, digit_most (bit d v) (count_of ds v), count_below ds v) in l

-- the variables with a count, as the members of all the masks: a turn
pub counted_turn : (ds : List ℕ) (i m v : ℕ) → i < length ds
    → bit (bit_or m (get_or ds i 0)) v || ltb 0 (count_of (drop (i + 1) ds) v) ≡ bit m v || ltb 0 (count_of (drop i ds) v)
unfolding count_of
counted_turn ds i m v l =
    let d = get_or ds i 0 in
    let c = count_of (drop (suc i) ds) v in
    rw (bit-or m d v, drop-cons ds i 0 l, add-one i, count_of)
    (or_assoc (bit m v) (bit d v) (ltb 0 c) ∙ ap (λ (b : Bool). bit m v || b) (digit_some (bit d v) _ c refl))

pub counted_done : (ds : List ℕ) (i m v : ℕ) → length ds ≤ i → bit m v || ltb 0 (count_of (drop i ds) v) ≡ bit m v
unfolding count_of
counted_done ds i m v l = rw (drop_all i ds l) (or-false (bit m v))

-- the count of a variable in clauses, with one clause more at the end
occurrences_snoc : (cs : List Clause) (c : Clause) (v : ℕ)
    → occurrences_in (cs ++ (c ∷ [])) v ≡ cond (bit (clause_variables c) v) (suc (occurrences_in cs v)) (occurrences_in cs v)
unfolding occurrences_in
occurrences_snoc [] c v = refl
occurrences_snoc (d ∷ cs) c v = rw (occurrences_snoc cs c v) (go (bit (clause_variables d) v) (bit (clause_variables c) v))
  where
    go : (x y : Bool) → cond x (suc (cond y (suc (occurrences_in cs v)) (occurrences_in cs v))) (cond y (suc (occurrences_in cs v)) (occurrences_in cs v))
        ≡ cond y (suc (cond x (suc (occurrences_in cs v)) (occurrences_in cs v))) (cond x (suc (occurrences_in cs v)) (occurrences_in cs v))
    go true true = refl
    go true false = refl
    go false y = refl

pub occurrences_next : (p q : List ℕ) (i v : ℕ)
    → occurrences_in (clauses_in p q (i + 1)) v
    ≡ cond (bit (clause_variables (clause_in p q i)) v) (suc (occurrences_in (clauses_in p q i) v)) (occurrences_in (clauses_in p q i) v)
unfolding tabulated
occurrences_next p q i v = rw (add-one i) (occurrences_snoc (clauses_in p q i) (clause_in p q i) v)

pub occurrences_few : (cs : List Clause) (v : ℕ) → occurrences_in cs v ≤ length cs
unfolding occurrences_in
occurrences_few [] v = omega arith
occurrences_few (c ∷ cs) v = one_more_le (bit (clause_variables c) v) (occurrences_few cs v)

-- ── The busiest ──────────────────────────────────────────────────────────────────────────────────────────────────────

-- k has those members of m of which f is greatest
pub record Greatest (f : ℕ → ℕ) (m k : ℕ) : Type 0 where
  pub some : k ≡ 0 → ⊥
  pub within : (v : ℕ) → bit k v ≡ true → bit m v ≡ true
  pub most : (v w : ℕ) → bit k v ≡ true → bit m w ≡ true → f w ≤ f v
  pub ties : (v w : ℕ) → bit k v ≡ true → bit m w ≡ true → f v ≤ f w → bit k w ≡ true

-- by no digits it is all of them
pub greatest_all : (ds : List ℕ) (i m : ℕ) → length ds ≤ i → (m ≡ 0 → ⊥) → Greatest (count_of (drop i ds)) m m
unfolding count_of
greatest_all ds i m l z = rw (drop_all i ds l) (record { some = z; within = λ v h. h; most = λ v w _ _. omega arith; ties = λ v w _ h _. h })

-- by one digit more it is those of them that have the digit, if some have it
greatest_more : (f : ℕ → ℕ) (m k p next : ℕ) → next ≡ narrowed k p → Greatest f m k → Greatest (λ v. digit (bit p v) (f v)) m next
greatest_more f m k p next n g = rw n (go (meets k p) refl)
  where
    go : (b : Bool) → meets k p ≡ b → Greatest (λ v. digit (bit p v) (f v)) m (cond b (bit_and k p) k)
    go true e = record {
      some = eqb-false (bit_and k p) 0 (not-true _ e);
      within = λ v h. g.within v (both_bits v k p h).0;
      most = λ v w h i.
          let b = both_bits v k p h in
          let l = g.most v w b.0 i in
          rw b.1 (omega (arith, digit_most (bit p w) (f w)));
      ties = λ v w h i l.
          let b = both_bits v k p h in
          let q = g.most v w b.0 i in
          let l' : suc (2 * f v) ≤ digit (bit p w) (f w) = rw b.1 at l in
          ⊎_elim
          (λ (t : bit p w ≡ true).
          let r : suc (2 * f v) ≤ suc (2 * f w) = rw t at l' in
          bit-and k p w ∙ and_both (bit k w) (bit p w) (g.ties v w b.0 i (omega arith)) t)
          (λ (t : bit p w ≡ false). let r : suc (2 * f v) ≤ 2 * f w = rw t at l' in absurd (omega arith))
          (bool_cases (bit p w));
    }
    go false e = record {
      some = g.some;
      within = g.within;
      most = λ v w h i.
          rw (off v h)
          (⊎_elim
          (λ (l : f w < f v). omega (arith, digit_most (bit p w) (f w)))
          (λ (l : f v ≤ f w). rw (off w (g.ties v w h i l)) (omega (arith, g.most v w h i)))
          (lt_or_le (f w) (f v)));
      ties = λ v w h i l.
          let l' : 2 * f v ≤ digit (bit p w) (f w) = rw (off v h) at l in
          g.ties v w h i (omega (arith, digit_most (bit p w) (f w)));
    }
      where
        off : (v : ℕ) → bit k v ≡ true → bit p v ≡ false
        off v h =
            ⊎_elim
            (λ t. absurd (member_some (bit_and k p) v (bit-and k p v ∙ and_both (bit k v) (bit p v) h t) (eqb-true (bit_and k p) 0 (not-false _ e))))
            (λ t. t)
            (bool_cases (bit p v))

pub greatest_turn : (ds : List ℕ) (i m k next : ℕ) → 0 < i → i ≤ length ds → next ≡ narrowed k (get_or ds (i - 1) 0) → Greatest (count_of (drop i ds)) m k
    → Greatest (count_of (drop (i - 1) ds)) m next
unfolding count_of
greatest_turn ds i m k next p l n g =
    let e : suc (i - 1) ≡ i = omega arith in
    rw (drop-cons ds (i - 1) 0 (omega arith), e) (greatest_more (count_of (drop i ds)) m k (get_or ds (i - 1) 0) next n g)

-- the lowest of those with the greatest count
pub busiest_lowest : (f : ℕ → ℕ) (m k : ℕ) → m < 2 ^ 64 → Greatest f m k → Busiest f m (lowest k)
busiest_lowest f m k l g =
    let word : k < 2 ^ 64 = mask_lt 64 k (λ i h. bit_below 64 i m l (g.within i h)) in
    let w = lowest_is 64 k word (let z = g.some in omega arith) in
    record {
      member = g.within (lowest k) w.set;
      first = λ v h ne.
          let q = g.most (lowest k) v w.set h in
          ⊎_elim
          (λ (a : f v < f (lowest k)). inl a)
          (λ (a : f (lowest k) ≤ f v).
          let t = g.ties (lowest k) v w.set h a in
          inr (omega arith, ⊎_elim (λ (b : v < lowest k). bool_clash t (w.first v b)) (λ (b : lowest k ≤ v). omega arith) (lt_or_le v (lowest k))))
          (lt_or_le (f v) (f (lowest k)));
    }
