-- Laws of counting: smaller sets, and sets that miss a number or have them all.
use Prim.Native.Nat.{ℕ, zero, suc, ◌^◌, ◌≤◌, ◌<◌}
use mathlib.Core.Path.{◌≡◌, refl}
use mathlib.Core.Bool.{Bool, true, false, not}
use native.Mathlib.Omega.{arith}
use lib.Dec.{eqb}
use Rattle.lists.proofs.TestLaws.{and_left, bool_clash}
use Rattle.masks.specs.Mask.{bit, size}
use Rattle.masks.proofs.BitLaws.{bit_below}
use Rattle.matching.proofs.MatchedLaws.{count_members}
use Rattle.matching.proofs.Counting.{count, count_sub, count_all, count_except, except, except_i, pigeon}

-- what is in a set without a is in the set
pub except_of : (f : ℕ → Bool) (a i : ℕ) → except f a i ≡ true → f i ≡ true
unfolding except
except_of f a i e = and_left (f i) (not (eqb i a)) e

-- below n there are at most n
pub count_le : (f : ℕ → Bool) (n : ℕ) → count f n ≤ n
count_le f n = omega (arith, count_sub f (λ _. true) n (λ i _. refl), count_all n)

-- without a it counts less
pub count_drop : (f g : ℕ → Bool) (n a : ℕ) → ((i : ℕ) → f i ≡ true → g i ≡ true) → a < n → g a ≡ true → f a ≡ false → count f n < count g n
count_drop f g n a sub l t off =
    omega (arith, count_except g a n l t, count_sub f (except g a) n (λ i h. except_i g a i (sub i h) (λ e. bool_clash h (rw e off))))

-- what counts less than another set misses one of it
pub count_lacks : (f g : ℕ → Bool) (n : ℕ) → count f n < count g n → (i : ℕ) × (i < n) × (g i ≡ true) × (f i ≡ false)
unfolding count
count_lacks f g zero h = absurd (omega arith)
count_lacks f g (suc n) h = at (f n) (g n) refl refl (count_lacks f g n)
  where
    at : (x y : Bool) → f n ≡ x → g n ≡ y → (count f n < count g n → (i : ℕ) × (i < n) × (g i ≡ true) × (f i ≡ false))
        → (i : ℕ) × (i < suc n) × (g i ≡ true) × (f i ≡ false)
    at false true p q ih = (n, omega arith, q, p)
    at true true p q ih = let w = ih (let z = (rw (p, q) at h) in omega arith) in (w.0, omega (arith, w.1), w.2, w.3)
    at x false p q ih = let w = ih (let z = (rw q at h) in omega arith) in (w.0, omega (arith, w.1), w.2, w.3)

-- a mask of variables below n has as many as count there
pub size_count : (n m : ℕ) → n ≤ 64 → m < 2 ^ n → count (bit m) n ≡ size m
size_count n m fits h =
    let e = count_members m 64 in
    let less = pigeon (bit m) n (bit m) 64 (λ i. i) (λ i l t. (omega arith, t)) (λ i j _ _ _ _ e. e) in
    let more = pigeon (bit m) 64 (bit m) n (λ i. i) (λ i l t. (bit_below n i m h t, t)) (λ i j _ _ _ _ e. e) in
    omega arith

-- nothing counts nothing
pub count_none : (f : ℕ → Bool) (n : ℕ) → ((i : ℕ) → f i ≡ false) → count f n ≡ 0
unfolding count
count_none f zero none = refl
count_none f (suc n) none = let e = count_none f n none in rw (none n) (omega arith)
