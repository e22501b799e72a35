-- Laws of the numbers and the tokens of a text.
use Prim.Native.Nat.{ℕ, suc, ◌+◌, ◌*◌, ◌-◌, ◌≤◌, ◌<◌}
use mathlib.Core.Bool.{Bool, true, false, cond}
use mathlib.Core.List.{List, [], ◌∷◌}
use mathlib.Core.Path.{◌≡◌, refl, sym, ◌∙◌}
use native.Mathlib.Numerals.{add-one}
use native.Mathlib.Omega.{arith}
use borrow.Author.Tests.{ltb-true, ltb-false, lt-ltb, le-ltb, ne_eqb}
use lib.Dec.{ltb}
use lib.ListN.{length, drop, get_or, drop_of_length-le}
use lib.Seq.{drop-cons}
use Rattle.writing.specs.Text.{digit_zero}
use Rattle.std.specs.Prelude.{Some, None}
use Rattle.dimacs.specs.Text.{is_digit, all_digits, run, value_from, value}
use Rattle.dimacs.specs.InnerScan.{cap, capped, number_held}

-- ---- digits

-- bytes that are some are a run if all are digits
pub run_digits : (s : List ℕ) → (length s ≡ 0 → ⊥) → run s ≡ all_digits s
run_digits s h = rw (ne_eqb (length s) 0 h)

-- one byte more
pub digits_next : (s : List ℕ) (i : ℕ) → i < length s → is_digit (get_or s i 0) ≡ true → all_digits (drop (i + 1) s) ≡ all_digits (drop i s)
unfolding all_digits
digits_next s i h e = rw (drop-cons s i 0 h, e, add-one)

pub digits_bad : (s : List ℕ) (i : ℕ) → i < length s → is_digit (get_or s i 0) ≡ false → all_digits (drop i s) ≡ false
unfolding all_digits
digits_bad s i h e = rw (drop-cons s i 0 h, e)

pub digits_end : (s : List ℕ) (i : ℕ) → length s ≤ i → all_digits (drop i s) ≡ true
unfolding all_digits
digits_end s i h = rw (drop_of_length-le s h)

-- ---- numbers with a cap

pub capped_le : (x : ℕ) → capped x ≤ cap
capped_le x = go (ltb x cap) refl
  where
    go : (b : Bool) → ltb x cap ≡ b → cond b x cap ≤ cap
    go true e = omega (arith, ltb-true x cap e)
    go false e = omega arith

-- a number below the cap stays
pub capped_low : (x : ℕ) → x < cap → capped x ≡ x
capped_low x h = rw (lt-ltb x cap h)

-- any other is the cap
pub capped_high : (x : ℕ) → cap ≤ x → capped x ≡ cap
capped_high x h = rw (le-ltb x cap h)

-- and a number whose cap is below it
pub capped_back : (x : ℕ) → capped x < cap → capped x ≡ x
capped_back x h = go (ltb x cap) refl
  where
    go : (b : Bool) → ltb x cap ≡ b → capped x ≡ x
    go true e = capped_low x (ltb-true x cap e)
    go false e = absurd (omega (arith, capped_high x (ltb-false x cap e)))

-- so the cap of the cap is the cap
capped_same : (x : ℕ) → x ≤ cap → capped x ≡ x
capped_same x h = go (ltb x cap) refl
  where
    go : (b : Bool) → ltb x cap ≡ b → cond b x cap ≡ x
    go true e = refl
    go false e = omega (arith, ltb-false x cap e)

-- one digit more of a number that is capped
capped_more : (a b d : ℕ) → capped a ≡ capped b → capped (10 * a + d) ≡ capped (10 * b + d)
capped_more a b d e = go (ltb a cap) refl (ltb b cap) refl
  where
    above : (x : ℕ) → cap ≤ x → capped (10 * x + d) ≡ cap
    above x h = capped_high (10 * x + d) (omega arith)

    go : (p : Bool) → ltb a cap ≡ p → (q : Bool) → ltb b cap ≡ q → capped (10 * a + d) ≡ capped (10 * b + d)
    go true p true q = let f : a ≡ b = sym (capped_low a (ltb-true a cap p)) ∙ e ∙ capped_low b (ltb-true b cap q) in rw f
    go true p false q =
        let f : a ≡ cap = sym (capped_low a (ltb-true a cap p)) ∙ e ∙ capped_high b (ltb-false b cap q) in
        absurd (omega (arith, ltb-true a cap p))
    go false p true q =
        let f : b ≡ cap = sym (capped_low b (ltb-true b cap q)) ∙ sym e ∙ capped_high a (ltb-false a cap p) in
        absurd (omega (arith, ltb-true b cap q))
    go false p false q = above a (ltb-false a cap p) ∙ sym (above b (ltb-false b cap q))

capped_value : (a b : ℕ) (s : List ℕ) → capped a ≡ capped b → capped (value_from a s) ≡ capped (value_from b s)
unfolding value_from
capped_value a b [] e = e
capped_value a b (x ∷ s) e = capped_value (10 * a + (x - digit_zero)) (10 * b + (x - digit_zero)) s (capped_more a b (x - digit_zero) e)

-- one digit more, from left to right
pub value_next : (a : ℕ) (s : List ℕ) (i : ℕ) → i < length s
    → capped (value_from (capped (10 * a + (get_or s i 0 - digit_zero))) (drop (i + 1) s)) ≡ capped (value_from a (drop i s))
unfolding value_from
value_next a s i h =
    rw (drop-cons s i 0 h, add-one) (let x = 10 * a + (get_or s i 0 - digit_zero) in capped_value (capped x) x (drop (suc i) s) (capped_same (capped x) (capped_le x)))

-- at the end
pub value_end : (a : ℕ) (s : List ℕ) (i : ℕ) → a ≤ cap → length s ≤ i → a ≡ capped (value_from a (drop i s))
unfolding value_from
value_end a s i h l = rw (drop_of_length-le s l) (sym (capped_same a h))

-- a number is zero if its cap is
pub capped_zero : (x : ℕ) → capped x ≡ 0 → x ≡ 0
capped_zero x e = go (ltb x cap) refl
  where
    go : (b : Bool) → ltb x cap ≡ b → x ≡ 0
    go true p = sym (capped_low x (ltb-true x cap p)) ∙ e
    go false p = absurd (let f : cap ≡ 0 = sym (rw p) ∙ e in omega arith)

-- ---- tokens

-- a run of digits has a number, and no other word
pub number_digits : (s : List ℕ) → (length s ≡ 0 → ⊥) → all_digits s ≡ true → number_held s ≡ Some (capped (value s))
number_digits s h e = let r : run s ≡ true = run_digits s h ∙ e in rw r

pub number_other : (s : List ℕ) → (length s ≡ 0 → ⊥) → all_digits s ≡ false → number_held s ≡ None
number_other s h e = let r : run s ≡ false = run_digits s h ∙ e in rw r

pub number-none : (s : List ℕ) → number_held s ≡ None → run s ≡ false
number-none s = go (run s)
  where
    go : (b : Bool) → cond b (Some (capped (value s))) None ≡ None → b ≡ false
    go true e = cc
    go false e = refl

pub number-some : (s : List ℕ) (n : ℕ) → number_held s ≡ Some n → (run s ≡ true) × (n ≡ capped (value s))
number-some s n = go (run s)
  where
    go : (b : Bool) → cond b (Some (capped (value s))) None ≡ Some n → (b ≡ true) × (n ≡ capped (value s))
    go true e = (refl, cc)
    go false e = cc
