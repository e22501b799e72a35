-- What the reader makes of a record that is wrong.
use Prim.Native.Nat.{ℕ, zero, suc, ◌-◌, ◌≤◌, ◌<◌}
use mathlib.Core.Bool.{Bool, true, false, not, ◌&&◌, and-false}
use mathlib.Core.List.{List, [], ◌∷◌}
use mathlib.Core.Logic.{◌⊎◌, inl, inr}
use mathlib.Core.Path.{◌≡◌, refl, ap, ◌∙◌}
use native.Mathlib.Omega.{arith}
use borrow.Author.Tests.{lt-ltb, le-ltb, le-leb, lt-leb, ne_eqb}
use lib.Dec.{ltb, leb}
use lib.ListN.{length, length-map}
use Rattle.limits.specs.Limits.{max_variables, max_clauses}
use Rattle.formula.specs.declared.Refusal.{Refusal}
use Rattle.formula.specs.declared.Refusal.TheVariants.{Truncated, UnknownKind, Misplaced, NoSuchVariable, ComplementaryLiteral}
use Rattle.formula.specs.Format.{Literal, literal_kind, has_complement, without_repeats}
use Rattle.formula.specs.InnerDecode.{Reading, reading_start, refuse, read_record}
use Rattle.formula.specs.Refusals.{table_row}
use Rattle.formula.specs.Table.{Beginning, nothing, inside, written, Begins, MayStand, Given, no_kind, kind_unknown, kind_misplaced, no_body, count_bad, variable_unknown, literal_complementary, clause_extra, byte_extra}
use Rattle.formula.proofs.DecodeLaws.{reading_of, reading_at}
use Rattle.formula.proofs.RepeatLaws.{read-names_as, read_none}

-- a number outside 1 to n fails the reader's test
outside : (n v : ℕ) → (v < 1) ⊎ (n < v) → (ltb 0 v && leb v n) ≡ false
outside n v (inl h) = rw (le-ltb 0 v (omega arith))
outside n v (inr h) = rw (lt-leb v n h) (and-false (ltb 0 v))

-- what holds of the kinds 1 to 5 and of every other number holds of each number
pub each_kind : (P : ℕ → Type 0) → P 1 → P 2 → P 3 → P 4 → P 5 → ((k : ℕ) → (k < 1) ⊎ (5 < k) → P k) → (k : ℕ) → P k
each_kind P p₁ p₂ p₃ p₄ p₅ p zero = p 0 (inl (omega arith))
each_kind P p₁ p₂ p₃ p₄ p₅ p (suc zero) = p₁
each_kind P p₁ p₂ p₃ p₄ p₅ p (suc (suc zero)) = p₂
each_kind P p₁ p₂ p₃ p₄ p₅ p (suc (suc (suc zero))) = p₃
each_kind P p₁ p₂ p₃ p₄ p₅ p (suc (suc (suc (suc zero)))) = p₄
each_kind P p₁ p₂ p₃ p₄ p₅ p (suc (suc (suc (suc (suc zero))))) = p₅
each_kind P p₁ p₂ p₃ p₄ p₅ p (suc (suc (suc (suc (suc (suc k)))))) = p _ (inr (omega arith))

-- no number is outside 1 to 5 and within
not_both : {A : Type 0} (k : ℕ) → (k < 1) ⊎ (5 < k) → 1 ≤ k → k ≤ 5 → A
not_both k (inl o) h l = absurd (omega arith)
not_both k (inr o) h l = absurd (omega arith)

-- kinds 2 to 4 may stand after kind 1
pub inner_stands : (n : ℕ) (cs : List (List Literal)) (c : List Literal) (k : ℕ) → 2 ≤ k → k ≤ 4 → MayStand (inside n cs c) k
inner_stands n cs c k h l = (h, omega arith, λ q. absurd (omega arith))

module _ (len : ℕ) where
  -- 3: a kind that is 0 or above 5
  unknown_read : (r : Reading) (k : ℕ) (s : List ℕ) → (k < 1) ⊎ (5 < k) → read_record len r (k ∷ s) ≡ refuse (UnknownKind r.at)
  unfolding read_record
  unknown_read r k s (inl h) = let e : k ≡ 0 = omega arith in ap (λ (j : ℕ). read_record len r (j ∷ s)) e
  unknown_read r k s (inr h) =
      let e : k ≡ suc (suc (suc (suc (suc (suc (k - 6)))))) = omega arith in
      ap (λ (j : ℕ). read_record len r (j ∷ s)) e

  -- 4: a kind that may not stand here
  misplaced_read : (b : Beginning) (k : ℕ) (s : List ℕ) → 1 ≤ k → k ≤ 5 → (MayStand b k → ⊥)
      → read_record len (reading_of b) (k ∷ s) ≡ refuse (Misplaced (length (written b)))
  unfolding read_record
  misplaced_read nothing k s =
      each_kind (λ k. 1 ≤ k → k ≤ 5 → (k ≡ 1 → ⊥) → read_record len reading_start (k ∷ s) ≡ refuse (Misplaced 0)) (λ h l m. absurd (m refl)) (λ h l m. refl)
      (λ h l m. refl) (λ h l m. refl) (λ h l m. refl) (λ k o h l m. not_both k o h l) k
  misplaced_read (inside n cs c) k s =
      each_kind
      (λ k. 1 ≤ k → k ≤ 5 → (MayStand (inside n cs c) k → ⊥) → read_record len (reading_of (inside n cs c)) (k ∷ s)
      ≡ refuse (Misplaced (length (written (inside n cs c)))))
      (λ h l m. rw (ne_eqb (length (written (inside n cs c))) 0 (omega arith))) (λ h l m. absurd (m (inner_stands n cs c 2 (omega arith) (omega arith))))
      (λ h l m. absurd (m (inner_stands n cs c 3 (omega arith) (omega arith)))) (λ h l m. absurd (m (inner_stands n cs c 4 (omega arith) (omega arith))))
      (λ h l m. last c (λ e. m (omega arith, omega arith, λ q. e))) (λ k o h l m. not_both k o h l) k
    where
      last : (d : List Literal) → (d ≡ [] → ⊥) → read_record len (reading_of (inside n cs d)) (5 ∷ s) ≡ refuse (Misplaced (length (written (inside n cs d))))
      last [] m = absurd (m refl)
      last (l ∷ d) m = rw (read_none (l ∷ d), and-false (ltb 0 (length (written (inside n cs (l ∷ d))))))

  -- 2: a kind that has a body, and no byte after it
  body_read : (b : Beginning) (k : ℕ) → MayStand b k → k ≤ 3 → read_record len (reading_of b) (k ∷ []) ≡ refuse (Truncated len)
  unfolding read_record
  body_read nothing k m l = rw m
  body_read (inside n cs c) k m l =
      each_kind (λ k. 2 ≤ k → k ≤ 3 → read_record len (reading_of (inside n cs c)) (k ∷ []) ≡ refuse (Truncated len)) (λ h l. absurd (omega arith))
      (λ h l. rw (lt-ltb 0 (length (written (inside n cs c))) (omega arith))) (λ h l. rw (lt-ltb 0 (length (written (inside n cs c))) (omega arith)))
      (λ h l. absurd (omega arith)) (λ h l. absurd (omega arith)) (λ k o h l. not_both k o (omega arith) (omega arith)) k m.0 l

  -- 6: a variable that is 0 or above the number of variables
  variable_read : (r : Reading) (sign : Bool) (v : ℕ) (s : List ℕ) → 0 < r.at → (v < 1) ⊎ (r.variables < v)
      → read_record len r (literal_kind sign ∷ v ∷ s) ≡ refuse (NoSuchVariable r.at)
  unfolding read_record
  variable_read r true v s h o = rw (lt-ltb 0 r.at h, outside r.variables v o)
  variable_read r false v s h o = rw (lt-ltb 0 r.at h, outside r.variables v o)

  -- 7: a literal whose complement the clause has
  complement_read : (r : Reading) (sign : Bool) (v : ℕ) (s : List ℕ) → 0 < r.at → 1 ≤ v → v ≤ r.variables
      → has_complement r.current (record { variable = v - 1; positive = sign }) ≡ true
      → read_record len r (literal_kind sign ∷ v ∷ s) ≡ refuse (ComplementaryLiteral r.at)
  unfolding read_record
  complement_read r true v s h l k f = rw (lt-ltb 0 r.at h, lt-ltb 0 v l, le-leb v r.variables k, f)
  complement_read r false v s h l k f = rw (lt-ltb 0 r.at h, lt-ltb 0 v l, le-leb v r.variables k, f)

  -- a record that a refusal is given for is refused so
  pub given_read : {b : Beginning} {at : ℕ} {s : List ℕ} {r : Refusal} → Begins b → Given len at b s r → at ≡ length (written b)
      → read_record len (reading_of b) s ≡ refuse r
  unfolding read_record without_repeats
  given_read g no_kind e = refl
  given_read g (kind_unknown {b} {s} k h) e = rw (e, ← reading_at b) (unknown_read (reading_of b) k s h)
  given_read g (kind_misplaced {b} {s} k h l m) e = rw e (misplaced_read b k s h l m)
  given_read g (no_body {b} k m l) e = body_read b k m l
  given_read g (count_bad {s} n h) e = rw (e, outside max_variables n h)
  given_read g (variable_unknown {ws} {w} {s} n sign v h) e = rw e (variable_read (reading_of (inside n ws w)) sign v s (omega arith) h)
  given_read g (literal_complementary {ws} {w} {s} n sign v h l k) e =
      let f = read-names_as w g.1.one_way (v - 1) (not sign) ∙ k in
      rw e (complement_read (reading_of (inside n ws w)) sign v s (omega arith) h l f)
  given_read g (clause_extra {n} {w} {s} ws h) e =
      rw (e, lt-ltb 0 (length (written (inside n ws w))) (omega arith), length-map ws without_repeats, le-ltb (length ws) max_clauses (omega arith))
  given_read g (byte_extra {n} {ws} x s) e = rw (e, lt-ltb 0 (length (written (inside n ws []))) (omega arith))

-- a refusal of the reader has a number from 2 to 9
pub given_number : {len at : ℕ} {b : Beginning} {s : List ℕ} {r : Refusal} → Given len at b s r → (2 ≤ (table_row r).number) × ((table_row r).number ≤ 9)
given_number no_kind = omega arith
given_number (kind_unknown k h) = omega arith
given_number (kind_misplaced k h l m) = omega arith
given_number (no_body k m l) = omega arith
given_number (count_bad n h) = omega arith
given_number (variable_unknown n sign v h) = omega arith
given_number (literal_complementary n sign v h l k) = omega arith
given_number (clause_extra cs h) = omega arith
given_number (byte_extra x s) = omega arith
