-- The last listed variable of a mask.
use Prim.Native.Nat.{ℕ, suc, ◌+◌, ◌-◌, ◌^◌, ◌≤◌, ◌<◌, suc-le-suc}
use mathlib.Core.Bool.{true, false}
use mathlib.Core.List.{List, [], ◌∷◌, ◌++◌}
use mathlib.Core.Logic.{⊎_elim}
use mathlib.Core.Path.{◌≡◌, refl, sym, ap, ◌∙◌}
use native.Mathlib.Decide.{ℕ_discrete}
use native.Mathlib.Omega.{arith}
use lib.ListN.{length, get_or}
use Rattle.std.specs.Int.Count.{count_leading_zeros, leading_of_zero}
use Rattle.std.proofs.lemmas.Nat.{leading_top}
use Rattle.lists.proofs.TestLaws.{bool_cases, bool_clash}
use Rattle.masks.specs.Mask.{bit, members}
use Rattle.masks.proofs.BitLaws.{bit-none, bit_below}
use Rattle.masks.proofs.MembersLaws.{mask_lt, members-none, members_are, members_wide}
use Rattle.splitting.specs.InnerChoose.{greatest}
use Rattle.splitting.specs.Choosing.{last}

-- what holds of the members holds of the greatest
last_is : (P : ℕ → Type 0) (l : List ℕ) → (length l ≡ 0 → P 0) → ((j : ℕ) → j < length l → P (get_or l j 0)) → P (last l)
unfolding last
last_is P [] p h = p refl
last_is P (x ∷ []) p h = h 0 (omega arith)
last_is P (x ∷ (y ∷ l)) p h = last_is P (y ∷ l) (λ e. absurd (omega arith)) (λ j m. h (suc j) (suc-le-suc m))

pub greatest_below : (m : ℕ) → greatest m < 64
greatest_below m = last_is (λ x. x < 64) (members m 64) (λ e. omega arith) (λ j l. (members_are m 64 j l).0)

-- ---- by the highest digit

last_snoc : (l : List ℕ) (x : ℕ) → last (l ++ (x ∷ [])) ≡ x
unfolding last
last_snoc [] x = refl
last_snoc (y ∷ []) x = refl
last_snoc (y ∷ (z ∷ l)) x = last_snoc (z ∷ l) x

-- a digit that a number reaches, and not the next, is set
top_set : (m j : ℕ) → 2 ^ j ≤ m → m < 2 ^ suc j → bit m j ≡ true
top_set m j l h = ⊎_elim (λ t. t) (λ f. absurd (omega (arith, mask_lt j m (λ i t. under i t f)))) (bool_cases (bit m j))
  where
    under : (i : ℕ) → bit m i ≡ true → bit m j ≡ false → i < j
    under i t f =
        let k = bit_below (suc j) i m h t in
        let ne : i ≡ j → ⊥ = λ e. bool_clash (rw e at t) f in
        omega arith

-- it is the greatest member
greatest_is : (m j : ℕ) → 2 ^ j ≤ m → m < 2 ^ suc j → j < 64 → greatest m ≡ j
unfolding members
greatest_is m j l h b =
    let e : 64 ≡ suc j + (64 - suc j) = omega arith in
    ap (λ (n : ℕ). last (members m n)) e ∙ ap last (members_wide (suc j) (64 - suc j) m h) ∙ rw (members, top_set m j l h) (last_snoc (members m j) j)

pub greatest_leading : (m : ℕ) → m < 2 ^ 64 → 63 - count_leading_zeros 64 m ≡ greatest m
unfolding last
greatest_leading m h = go (ℕ_discrete m 0)
  where
    go : Dec (m ≡ 0) → 63 - count_leading_zeros 64 m ≡ greatest m
    go (yes z) = rw (z, leading_of_zero 64, members-none 0 64 (λ i l. bit-none i))
    go (no z) =
        let t = leading_top 64 m (omega arith) h in
        let e : 63 - count_leading_zeros 64 m ≡ t.0 = omega (arith, t.1) in
        e ∙ sym (greatest_is m t.0 t.2 t.3 (omega (arith, t.1)))

pub greatest_member : (m : ℕ) → m < 2 ^ 64 → (m ≡ 0 → ⊥) → bit m (greatest m) ≡ true
greatest_member m h z =
    let t = leading_top 64 m (omega arith) h in
    rw (greatest_is m t.0 t.2 t.3 (omega (arith, t.1))) (top_set m t.0 t.2 t.3)
