-- The lowest and the greatest member of a mask, and its members, as the variables with a test.
use Prim.Native.Nat.{ℕ, zero-le, zero, suc, ◌+◌, ◌-◌, ◌^◌, ◌≤◌, ◌<◌}
use mathlib.Core.Path.{◌≡◌, refl, sym, ◌∙◌, ap}
use mathlib.Core.Bool.{Bool, true, false}
use mathlib.Core.List.{List, ◌++◌}
use mathlib.Core.Logic.{⊎_elim}
use native.Mathlib.Nat.{eq-or-lt_of_le}
use native.Mathlib.Omega.{arith}
use lib.Pow.{pow_mono}
use Rattle.lists.proofs.TestLaws.{bool_clash}
use Rattle.masks.specs.Mask.{bit, members, only_if}
use Rattle.masks.specs.InnerMask.{lowest}
use Rattle.masks.proofs.BitLaws.{bit-none}
use Rattle.masks.proofs.MembersLaws.{lowest_is, mask_lt, members_wide}
use Rattle.matching.proofs.Counting.{lt_or_le}
use Rattle.splitting.specs.Nodes.{first_from, lowest_with, upward_from, upward}
use Rattle.splitting.proofs.SearchLaws.{lowest_some, lowest_found, upward_more}

-- below the lowest the test does not hold
first_least : (f : ℕ → Bool) (v k i : ℕ) → v ≤ i → i < first_from f v k → f i ≡ false
unfolding first_from
first_least f v zero i p q = absurd (omega arith)
first_least f v (suc k) i p q = at (λ p q. first_least f (suc v) k i p q) (f v) refl q
  where
    at : (suc v ≤ i → i < first_from f (suc v) k → f i ≡ false) → (b : Bool) → f v ≡ b → i < elim b [ true ↦ v | false ↦ first_from f (suc v) k ] → f i ≡ false
    at rec true e q = absurd (omega arith)
    at rec false e q = ⊎_elim (λ (same : v ≡ i). rw same at e) (λ (l : v < i). rec l q) (eq-or-lt_of_le p)

upward_members : (m : ℕ) (f : ℕ → Bool) → ((v : ℕ) → bit m v ≡ f v) → (k : ℕ) → members m k ≡ upward f k
unfolding members upward_from
upward_members m f same zero = refl
upward_members m f same (suc k) =
    let q : 0 + k ≡ k = omega arith in
    ap (λ (l : List ℕ). l ++ only_if (bit m k) k) (upward_members m f same k)
    ∙ ap (λ (b : Bool). upward f k ++ only_if b k) (same k)
    ∙ ap (λ (j : ℕ). upward f k ++ only_if (f j) j) (sym q)
    ∙ sym (upward_more f 0 k)

-- A test that holds below n only, and the mask of the variables with it.
module _ (n m : ℕ) (f : ℕ → Bool) (fits : n ≤ 64) (same : (v : ℕ) → bit m v ≡ f v) (low : (v : ℕ) → f v ≡ true → v < n) where
  -- an empty mask: no variable has it
  pub lowest_empty : m ≡ 0 → n ≤ lowest_with f n
  lowest_empty e =
      ⊎_elim
      (λ (l : lowest_with f n < n).
      bool_clash (same (lowest_with f n) ∙ lowest_some f n l) (ap (λ (k : ℕ). bit k (lowest_with f n)) e ∙ bit-none (lowest_with f n)))
      (λ l. l)
      (lt_or_le (lowest_with f n) n)

  mask_word : m < 2 ^ 64
  mask_word =
      let p : 2 ^ n ≤ 2 ^ 64 = pow_mono fits in
      omega (arith, mask_lt n m (λ i h. low i (sym (same i) ∙ h)))

  -- another: its lowest member is the lowest variable with it
  pub lowest_member : (m ≡ 0 → ⊥) → (lowest_with f n < n) × (lowest m ≡ lowest_with f n)
  lowest_member ne =
      let l = lowest_is 64 m mask_word (omega arith) in
      let t : f (lowest m) ≡ true = sym (same (lowest m)) ∙ l.set in
      let w = lowest_found f n (lowest m) (low (lowest m) t) t in (
        w.0,
        ⊎_elim
            (λ (h : lowest m < lowest_with f n). bool_clash t (first_least f 0 n (lowest m) zero-le h))
            (λ (h : lowest_with f n ≤ lowest m).
            ⊎_elim
            (λ (e : lowest_with f n ≡ lowest m). sym e)
            (λ (g : lowest_with f n < lowest m). bool_clash (same (lowest_with f n) ∙ w.1) (l.first (lowest_with f n) g))
            (eq-or-lt_of_le h))
            (lt_or_le (lowest m) (lowest_with f n)),
      )

  -- the members are the variables with it, upward
  pub members_upward : members m 64 ≡ upward f n
  members_upward =
      let q : 64 ≡ n + (64 - n) = omega arith in
      ap (members m) q ∙ members_wide n (64 - n) m (mask_lt n m (λ i h. low i (sym (same i) ∙ h))) ∙ upward_members m f same n
