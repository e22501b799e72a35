-- A function that takes the numbers below n to numbers below n has a part on which it is onto.
use Prim.Native.Nat.{ℕ, zero, suc, ◌≤◌, ◌<◌}
use mathlib.Core.Path.{◌≡◌, refl, sym}
use mathlib.Core.Bool.{Bool, true, false, not, ◌&&◌}
use mathlib.Core.Logic.{⊎_elim}
use native.Mathlib.Omega.{arith}
use lib.Dec.{eqb, ltb}
use borrow.Author.Tests.{eqb-true, eqb-false, eq-eqb, ltb-true, ltb-false, lt-ltb, not-true}
use Rattle.lists.proofs.TestLaws.{and_left, and_right, and_both, bool_cases, bool_clash}
use Rattle.matching.proofs.Counting.{count, count_except, except, except_i}
use Rattle.splitting.specs.Nodes.{lowest_with}
use Rattle.splitting.proofs.SearchLaws.{lowest_some, lowest-none, lowest_found}
use Rattle.splitting.proofs.CountLaws.{count_le, except_of}

-- a part of the numbers below n that q takes onto itself, not empty
pub record Core (q : ℕ → ℕ) (n : ℕ) : Type 0 where
  pub In : ℕ → Bool
  pub low : (i : ℕ) → In i ≡ true → i < n
  pub fwd : (i : ℕ) → In i ≡ true → In (q i) ≡ true
  pub back : (j : ℕ) → In j ≡ true → (i : ℕ) × (In i ≡ true) × (q i ≡ j)
  pub some : ℕ
  pub some_in : In some ≡ true

hits : (ℕ → Bool) → (ℕ → ℕ) → ℕ → ℕ → Bool
hits S q j i = S i && eqb (q i) j

-- j is in S, and nothing of S is taken to it
missed : ℕ → (ℕ → Bool) → (ℕ → ℕ) → ℕ → Bool
missed n S q j = S j && not (ltb (lowest_with (hits S q j) n) n)

missed_in : (n : ℕ) (S : ℕ → Bool) (q : ℕ → ℕ) (j : ℕ) → missed n S q j ≡ true → S j ≡ true
unfolding missed
missed_in n S q j t = and_left (S j) (not (ltb (lowest_with (hits S q j) n) n)) t

missed_no : (n : ℕ) (S : ℕ → Bool) (q : ℕ → ℕ) (j : ℕ) → missed n S q j ≡ true → (i : ℕ) → i < n → S i ≡ true → q i ≡ j → ⊥
unfolding missed hits
missed_no n S q j t i l s e =
    let w = lowest_found (hits S q j) n i l (and_both (S i) (eqb (q i) j) s (eq-eqb (q i) j e)) in
    bool_clash (lt-ltb (lowest_with (hits S q j) n) n w.0) (not-true _ (and_right (S j) (not (ltb (lowest_with (hits S q j) n) n)) t))

not_missed : (n : ℕ) (S : ℕ → Bool) (q : ℕ → ℕ) (j : ℕ) → missed n S q j ≡ false → S j ≡ true → (i : ℕ) × (S i ≡ true) × (q i ≡ j)
unfolding missed hits
not_missed n S q j f s =
    let i = lowest_with (hits S q j) n in
    ⊎_elim
    (λ (t : ltb i n ≡ true).
    let h = lowest_some (hits S q j) n (ltb-true i n t) in
    (i, and_left (S i) (eqb (q i) j) h, eqb-true (q i) j (and_right (S i) (eqb (q i) j) h)))
    (λ (e : ltb i n ≡ false). bool_clash (and_both (S j) (not (ltb i n)) s (rw e)) f)
    (bool_cases (ltb i n))

module _ (q : ℕ → ℕ) (n : ℕ) where
  core_from : (k : ℕ) (S : ℕ → Bool) → ((i : ℕ) → S i ≡ true → i < n) → ((i : ℕ) → S i ≡ true → S (q i) ≡ true) → (z : ℕ) → S z ≡ true → count S n ≤ k → Core q n
  core_from zero S low fwd z t le = absurd (omega (arith, count_except S z n (low z t) t))
  core_from (suc k) S low fwd z t le =
      let j = lowest_with (missed n S q) n in
      ⊎_elim
      (λ (h : ltb j n ≡ true).
      let m = lowest_some (missed n S q) n (ltb-true j n h) in
      let free : (i : ℕ) → S i ≡ true → q i ≡ j → ⊥ = λ i s. missed_no n S q j m i (low i s) s in
      core_from k (except S j)
      (λ i u. low i (except_of S j i u))
      (λ i u. except_i S j (q i) (fwd i (except_of S j i u)) (free i (except_of S j i u)))
      (q z)
      (except_i S j (q z) (fwd z t) (free z t))
      (omega (arith, count_except S j n (ltb-true j n h) (missed_in n S q j m))))
      (λ (h : ltb j n ≡ false). record {
        In = S;
        low = low;
        fwd = fwd;
        back = λ j s. not_missed n S q j (lowest-none (missed n S q) n (ltb-false (lowest_with (missed n S q) n) n h) j (low j s)) s;
        some = z;
        some_in = t;
      })
      (bool_cases (ltb j n))

  pub core : ((i : ℕ) → i < n → q i < n) → 0 < n → Core q n
  core fwd h =
      core_from n (λ i. ltb i n) (λ i t. ltb-true i n t) (λ i t. lt-ltb (q i) n (fwd i (ltb-true i n t))) 0 (lt-ltb 0 n h) (count_le (λ i. ltb i n) n)

-- a way back along q on the core, which leads from q (some) to some and is the identity elsewhere
abbrev pub Back : (q : ℕ → ℕ) (n : ℕ) → Core q n → ℕ → ℕ → Type 0
Back q n K j i = (K.In j ≡ true → (K.In i ≡ true) × (q i ≡ j) × (j ≡ q K.some → i ≡ K.some)) × (K.In j ≡ false → i ≡ j)

-- there is one from every number
pub turn : (q : ℕ → ℕ) (n : ℕ) (K : Core q n) (j : ℕ) → (i : ℕ) × Back q n K j i
turn q n K j =
    ⊎_elim
    (λ t. ⊎_elim
    (λ e. (K.some, (λ _. (K.some_in, sym (eqb-true j _ e), λ _. refl), λ f. bool_clash t f)))
    (λ ne. let w = K.back j t in (w.0, (λ _. (w.1, w.2, λ e. absurd (eqb-false j (q K.some) ne e)), λ f. bool_clash t f)))
    (bool_cases (eqb j (q K.some))))
    (λ f. (j, (λ t. bool_clash t f, λ _. refl)))
    (bool_cases (K.In j))
