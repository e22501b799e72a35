-- Laws of a trail's literals and of its assignment as a number.
use Prim.Native.Nat.{ℕ, ◌/◌, ◌^◌, ◌<◌}
use mathlib.Core.Bool.{Bool, true, false, cond, ◌||◌, true≢false}
use mathlib.Core.List.Memᴰ
use mathlib.Core.List.{List, [], ◌∷◌, Memᴰ}
use mathlib.Core.Logic.{◌⊎◌, inl, inr, ⊎_elim}
use mathlib.Core.Path.{◌≡◌, refl, sym, ap, ◌∙◌, subst}
use native.Mathlib.Nat.{div-lt_iff_lt-mul}
use native.Mathlib.Omega.{arith}
use lib.Dec.{eqb}
use lib.Pow.{pow_pos}
use borrow.Author.Tests.{eqb-true, eqb-false, eq-eqb, not-false}
use Rattle.lists.specs.Every.{Every}
use Rattle.lists.proofs.TestLaws.{or_cases, or_right, or-none}
use Rattle.masks.specs.Mask.{bit, with}
use Rattle.masks.proofs.BitLaws.{bit-none, bit-with-same, bit-with_other, mask_ext, with_lt}
use Rattle.formula.specs.Format.{Literal, names, distinct}
use Rattle.formula.specs.Models.{Model}
use Rattle.formula.proofs.FormatLaws.{distinct_rest}
use Rattle.formula.proofs.ModelLaws.{model_tests}
use Rattle.splitting.specs.Terms.{Trail, Agrees}
use Rattle.walk.specs.Plain.{assignment}

-- a literal of the trail is named
element_named : (t : List Literal) (l : Literal) → Memᴰ l t → names t l.variable ≡ true
unfolding names
element_named [] l m = absurd (Memᴰ.not-nil m)
element_named (k ∷ t) l m = at (Memᴰ.cases_cons m) (element_named t l)
  where
    at : (l ≡ k) ⊎ Memᴰ l t → (Memᴰ l t → names t l.variable ≡ true) → eqb k.variable l.variable || names t l.variable ≡ true
    at (inl e) ih = rw (eq-eqb k.variable l.variable (ap (λ (x : Literal). x.variable) (sym e))) refl
    at (inr n) ih = or_right (eqb k.variable l.variable) (names t l.variable) (ih n)

-- a named variable has a literal
named_element : (t : List Literal) (v : ℕ) → names t v ≡ true → (l : Literal) × Memᴰ l t × (l.variable ≡ v)
unfolding names
named_element [] v e = absurd (true≢false (sym e))
named_element (k ∷ t) v e =
    ⊎_elim
    (λ (x : eqb k.variable v ≡ true). (k, Memᴰ.head refl, eqb-true k.variable v x))
    (λ (x : names t v ≡ true). let w = named_element t v x in (w.0, Memᴰ.tail w.1, w.2))
    (or_cases (eqb k.variable v) (names t v) e)

-- what one literal more changes
pub bit_other : (p : Bool) (m k v : ℕ) → (v ≡ k → ⊥) → bit (cond p (with m k) m) v ≡ bit m v
bit_other true m k v ne = bit-with_other m k v ne
bit_other false m k v ne = refl

bit_own : (p : Bool) (m k : ℕ) → bit m k ≡ false → bit (cond p (with m k) m) k ≡ p
bit_own true m k e = bit-with-same m k
bit_own false m k e = e

-- an unnamed variable is false
pub assignment-none : (t : List Literal) (v : ℕ) → names t v ≡ false → bit (assignment t) v ≡ false
unfolding assignment names
assignment-none [] v e = bit-none v
assignment-none (l ∷ t) v e =
    let w = or-none (eqb l.variable v) (names t v) e in
    bit_other l.positive (assignment t) l.variable v (λ q. eqb-false l.variable v w.0 (sym q)) ∙ assignment-none t v w.1

agrees_distinct : (t : List Literal) → distinct t ≡ true → Agrees (bit (assignment t)) t
unfolding assignment
agrees_distinct [] d k m = absurd (Memᴰ.not-nil m)
agrees_distinct (l ∷ t) d k m = at (Memᴰ.cases_cons m) (λ n. agrees_distinct t r.1 k n)
  where
    r : (names t l.variable ≡ false) × (distinct t ≡ true)
    r = distinct_rest l t d

    at : (k ≡ l) ⊎ Memᴰ k t → (Memᴰ k t → bit (assignment t) k.variable ≡ k.positive)
        → bit (cond l.positive (with (assignment t) l.variable) (assignment t)) k.variable ≡ k.positive
    at (inl e) ih = rw e (bit_own l.positive (assignment t) l.variable (assignment-none t l.variable r.0))
    at (inr n) ih =
        bit_other l.positive (assignment t) l.variable k.variable
        (λ q. true≢false (sym (element_named t k n) ∙ ap (names t) q ∙ r.0))
        ∙ ih n

-- the assignment has the values of the trail
pub assignment_agrees : (n : ℕ) (t : List Literal) → Trail n t → Agrees (bit (assignment t)) t
assignment_agrees n t T = agrees_distinct t T.once

-- and no variable from n on
pub assignment_lt : (n : ℕ) (t : List Literal) → Every (λ l. l.variable < n) t → assignment t < 2 ^ n
unfolding assignment
assignment_lt n [] h = pow_pos n
assignment_lt n (l ∷ t) h = at l.positive (assignment_lt n t h.1)
  where
    at : (p : Bool) → assignment t < 2 ^ n → cond p (with (assignment t) l.variable) (assignment t) < 2 ^ n
    at true k = with_lt n (assignment t) l.variable k h.0
    at false k = k

-- a model is below 2 ^ n
pub model_lt : (n : ℕ) (cs : List (List Literal)) (a : ℕ) → Model n cs a → a < 2 ^ n
model_lt n cs a M =
    let z : a / 2 ^ n ≡ 0 = eqb-true (a / 2 ^ n) 0 (not-false _ (model_tests n cs a M).0) in
    let w = (div-lt_iff_lt-mul (pow_pos n)).0 (let q : a / 2 ^ n < 1 = omega arith in q) in
    omega arith

-- an assignment that agrees with the trail and has no other variable true is the trail's
pub same-assignment : (n : ℕ) (t : List Literal) → Trail n t → (a : ℕ) → a < 2 ^ n → Agrees (bit a) t → ((v : ℕ) → names t v ≡ false → bit a v ≡ false)
    → a ≡ assignment t
same-assignment n t T a p g f = mask_ext n a (assignment t) p (assignment_lt n t T.below) (λ i l. at i (names t i) refl)
  where
    at : (i : ℕ) (x : Bool) → names t i ≡ x → bit a i ≡ bit (assignment t) i
    at i true e =
        let w = named_element t i e in
        subst (λ (v : ℕ). bit a v ≡ bit (assignment t) v) w.2 (g w.0 w.1 ∙ sym (assignment_agrees n t T w.0 w.1))
    at i false e = f i e ∙ sym (assignment-none t i e)
