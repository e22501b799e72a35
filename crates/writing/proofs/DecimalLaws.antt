-- Laws of numbers in decimal.
use Prim.Native.Nat.{ℕ, zero, suc, ◌+◌, ◌*◌, ◌-◌, ◌/◌, ◌%◌, ◌^◌, ◌≤◌, ◌<◌}
use mathlib.Core.Bool.{Bool, true, false, cond}
use mathlib.Core.List.{List, [], ◌∷◌, ◌++◌}
use mathlib.Core.Path.{◌≡◌, refl, ap, ◌∙◌}
use native.Mathlib.Nat.{pow-suc, div-lt_iff_lt-mul, le-div_iff_mul-le, div-lt_self, div-add-mod'}
use native.Mathlib.Omega.{arith}
use lib.Dec.{ltb}
use lib.ListN.{length, get_or, length-append, get_or-append}
use borrow.Author.Tests.{ltb-true, ltb-false, lt-ltb, le-ltb}
use Rattle.lists.specs.Every.{Every}
use Rattle.lists.proofs.EveryLaws.{every_append}
use Rattle.writing.specs.Text.{digit_zero, digit_one, decimal_within, decimal}

-- a number below 10 ^ (k + 1) that has two digits or more: without its last digit it is below 10 ^ k, and smaller
shorter : (k x : ℕ) → x < 10 ^ suc k → x / 10 < 10 ^ k
shorter k x h = let z : 0 < 10 = omega arith in (div-lt_iff_lt-mul z).1 (rw pow-suc at h)

pub smaller : (x : ℕ) → 10 ≤ x → x / 10 < x
smaller x h = div-lt_self (omega arith) (omega arith)

below_power : (x : ℕ) → x < 10 ^ suc x
below_power zero = omega arith
below_power (suc x) = let h = below_power x in rw pow-suc (omega arith)

-- there is at least one digit
within_some : (k x : ℕ) → 1 ≤ length (decimal_within (suc k) x)
unfolding decimal_within
within_some k x = go (ltb x 10)
  where
    go : (b : Bool) → 1 ≤ length (cond b ((digit_zero + x) ∷ []) (decimal_within k (x / 10) ++ ((digit_zero + (x % 10)) ∷ [])))
    go true = omega arith
    go false = simp length-append (omega arith)

-- a number below 10 ^ k has at most k digits
within_length : (k x : ℕ) → length (decimal_within k x) ≤ k
unfolding decimal_within
within_length zero x = omega arith
within_length (suc k) x = go (within_length k (x / 10)) (ltb x 10)
  where
    go : length (decimal_within k (x / 10)) ≤ k → (b : Bool) → length (cond b ((digit_zero + x) ∷ []) (decimal_within k (x / 10) ++ ((digit_zero + (x % 10)) ∷ []))) ≤ suc k
    go h true = omega arith
    go h false = simp length-append (omega arith)

-- more room than the number needs changes nothing
within_same : (k j x : ℕ) → x < 10 ^ suc k → x ≤ j → decimal_within (suc k) x ≡ decimal_within (suc j) x
unfolding decimal_within
within_same zero j x h l = rw (lt-ltb x 10 h)
within_same (suc k) zero x h l = let t : x < 10 = omega arith in rw (lt-ltb x 10 t)
within_same (suc k) (suc j) x h l = go (ltb x 10) refl (λ t. within_same k j (x / 10) (shorter (suc k) x h) (let s = smaller x t in omega arith))
  where
    go : (b : Bool) → ltb x 10 ≡ b → (10 ≤ x → decimal_within (suc k) (x / 10) ≡ decimal_within (suc j) (x / 10))
        → cond b ((digit_zero + x) ∷ []) (decimal_within (suc k) (x / 10) ++ ((digit_zero + (x % 10)) ∷ []))
        ≡ cond b ((digit_zero + x) ∷ []) (decimal_within (suc j) (x / 10) ++ ((digit_zero + (x % 10)) ∷ []))
    go true e f = refl
    go false e f = ap (λ (d : List ℕ). d ++ ((digit_zero + (x % 10)) ∷ [])) (f (ltb-false x 10 e))

-- a number below 10 ^ k has at most k digits
pub decimal-length : (k x : ℕ) → x < 10 ^ suc k → length (decimal x) ≤ suc k
unfolding decimal
decimal-length k x h = rw (← within_same k x x h (omega arith)) (within_length (suc k) x)

-- and at least one
pub decimal_some : (x : ℕ) → 1 ≤ length (decimal x)
unfolding decimal
decimal_some x = within_some x x

-- one digit
pub decimal_one : (x : ℕ) → x < 10 → decimal x ≡ (digit_zero + x) ∷ []
unfolding decimal decimal_within
decimal_one x h = rw (lt-ltb x 10 h)

-- the digits of x / 10, and then the last one
pub decimal_more : (x : ℕ) → 10 ≤ x → decimal x ≡ decimal (x / 10) ++ ((digit_zero + (x % 10)) ∷ [])
unfolding decimal decimal_within
decimal_more zero h = absurd (omega arith)
decimal_more (suc y) h =
    let l : suc y / 10 ≤ y = (let s = smaller (suc y) h in omega arith) in
    rw (le-ltb (suc y) 10 h, within_same y (suc y / 10) (suc y / 10) (omega (arith, below_power y)) (omega arith))

-- one digit more
pub more_length : (x : ℕ) → 10 ≤ x → length (decimal x) ≡ length (decimal (x / 10)) + 1
more_length x h = ap length (decimal_more x h) ∙ length-append (decimal (x / 10)) ((digit_zero + (x % 10)) ∷ [])

-- how many digits a power of ten and more has
power_some : (k : ℕ) → 1 ≤ 10 ^ k
power_some zero = omega arith
power_some (suc k) = let h = power_some k in rw pow-suc (omega arith)

-- a number of 10 ^ k or more has more than k digits
pub decimal_long : (k x : ℕ) → 10 ^ k ≤ x → suc k ≤ length (decimal x)
decimal_long zero x h = decimal_some x
decimal_long (suc k) x h =
    let p = power_some k in
    let g : 10 ^ k * 10 ≤ x = rw pow-suc at h in
    let i = decimal_long k (x / 10) ((le-div_iff_mul-le (omega arith)).1 g) in
    let m = more_length x (omega arith) in
    omega arith

-- how many digits a number has
pub decimal_width : (k x : ℕ) → 10 ^ k ≤ x → x < 10 * 10 ^ k → length (decimal x) ≡ suc k
decimal_width k x h l = let a = decimal_long k x h in let b = decimal-length k x (rw pow-suc (omega arith)) in omega arith

-- ---- the digits tell the number, the first is not 0, and there is nothing else

-- the number that digits tell, v being told by those before
abbrev pub told : ℕ → List ℕ → ℕ
told v [] = v
told v (d ∷ ds) = told (v * 10 + (d - digit_zero)) ds

told_append : (v : ℕ) (xs ys : List ℕ) → told v (xs ++ ys) ≡ told (told v xs) ys
told_append v [] ys = refl
told_append v (x ∷ xs) ys = told_append (v * 10 + (x - digit_zero)) xs ys

within_told : (k x : ℕ) → x < 10 ^ suc k → told 0 (decimal_within (suc k) x) ≡ x
unfolding decimal_within
within_told zero x h = rw (lt-ltb x 10 h) (omega arith)
within_told (suc k) x h = go (ltb x 10) (within_told k (x / 10) (shorter (suc k) x h))
  where
    go : (b : Bool) → told 0 (decimal_within (suc k) (x / 10)) ≡ x / 10
        → told 0 (cond b ((digit_zero + x) ∷ []) (decimal_within (suc k) (x / 10) ++ ((digit_zero + (x % 10)) ∷ []))) ≡ x
    go true f = omega arith
    go false f = told_append 0 (decimal_within (suc k) (x / 10)) ((digit_zero + (x % 10)) ∷ []) ∙ rw f (omega (arith, div-add-mod' x 10))

pub decimal_told : (x : ℕ) → told 0 (decimal x) ≡ x
unfolding decimal
decimal_told x = within_told x x (below_power x)

within_leads : (k x : ℕ) → x < 10 ^ suc k → 1 ≤ x → digit_one ≤ get_or (decimal_within (suc k) x) 0 0
unfolding decimal_within
within_leads zero x h l = rw (lt-ltb x 10 h) (omega arith)
within_leads (suc k) x h l = go (ltb x 10) refl (within_leads k (x / 10) (shorter (suc k) x h))
  where
    go : (b : Bool) → ltb x 10 ≡ b → (1 ≤ x / 10 → digit_one ≤ get_or (decimal_within (suc k) (x / 10)) 0 0)
        → digit_one ≤ get_or (cond b ((digit_zero + x) ∷ []) (decimal_within (suc k) (x / 10) ++ ((digit_zero + (x % 10)) ∷ []))) 0 0
    go true e f = omega arith
    go false e f =
        let t = ltb-false x 10 e in
        rw (get_or-append (decimal_within (suc k) (x / 10)) ((digit_zero + (x % 10)) ∷ []) 0 0 (within_some k (x / 10))) (f (omega (arith, div-add-mod' x 10)))

pub decimal_leads : (x : ℕ) → 1 ≤ x → digit_one ≤ get_or (decimal x) 0 0
unfolding decimal
decimal_leads x = within_leads x x (below_power x)

-- every byte is a digit
abbrev pub IsDigit : ℕ → Type 0
IsDigit d = (digit_zero ≤ d) × (d < digit_zero + 10)

within_digits : (k x : ℕ) → Every IsDigit (decimal_within k x)
unfolding decimal_within
within_digits zero x = tt
within_digits (suc k) x = go (ltb x 10) refl (within_digits k (x / 10))
  where
    go : (b : Bool) → ltb x 10 ≡ b → Every IsDigit (decimal_within k (x / 10))
        → Every IsDigit (cond b ((digit_zero + x) ∷ []) (decimal_within k (x / 10) ++ ((digit_zero + (x % 10)) ∷ [])))
    go true e h = let t = ltb-true x 10 e in ((omega arith, omega arith), tt)
    go false e h = every_append IsDigit (decimal_within k (x / 10)) ((digit_zero + (x % 10)) ∷ []) h ((omega arith, omega arith), tt)

pub decimal_digits : (x : ℕ) → Every IsDigit (decimal x)
unfolding decimal
decimal_digits x = within_digits (suc x) x
