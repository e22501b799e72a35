-- The beginning that two trails share.
use Prim.Native.Nat.{ℕ, zero, suc, ◌≤◌}
use mathlib.Core.Bool.{Bool, true, false, cond, beq}
use mathlib.Core.List.{List, [], ◌∷◌, ◌++◌}
use mathlib.Core.Path.{◌≡◌, refl, ap, ap₂}
use native.Mathlib.Omega.{arith}
use lib.Dec.{eqb}
use lib.ListN.{length, take}
use borrow.Author.Tests.{eqb-true, eq-eqb}
use Rattle.lists.proofs.TestLaws.{bool_clash, and_left, and_right, and_both, signs_equal}
use Rattle.formula.specs.Format.{Literal}
use Rattle.walk.specs.Gaps.{same_literal, shared, Longest}

-- the test tells whether two literals are the same
same_equal : (l m : Literal) → same_literal l m ≡ true → l ≡ m
same_equal l m e =
    let v = eqb-true l.variable m.variable (and_left _ _ e) in
    let p = signs_equal l.positive m.positive (and_right (eqb l.variable m.variable) _ e) in
    λ i. record { variable = v i; positive = p i }

equal_same : (l m : Literal) → l ≡ m → same_literal l m ≡ true
equal_same l m e = rw e (and_both _ _ (eq-eqb m.variable m.variable refl) (same_sign m.positive))
  where
    same_sign : (b : Bool) → beq b b ≡ true
    same_sign true = refl
    same_sign false = refl

-- behind what they have in common, two trails that differ share nothing
pub shared_part : (x : List Literal) (l m : Literal) (y z : List Literal) → same_literal l m ≡ false → shared (x ++ (l ∷ y)) (x ++ (m ∷ z)) ≡ length x
unfolding shared
shared_part [] l m y z e = rw e
shared_part (k ∷ x) l m y z e = rw (equal_same k k refl) (ap suc (shared_part x l m y z e))

-- what is shared is the longest beginning
pub shared_longest : (x y : List Literal) → Longest x y (shared x y)
unfolding shared
shared_longest [] y = record {
  in_earlier = omega arith;
  in_later = omega arith;
  same = refl;
  differ = λ l m x' y' h. let z : ◌≡◌ {A = ℕ} 0 1 = cc in absurd (omega arith);
  most = λ j h k e. h;
}
shared_longest (l ∷ x) [] = record {
  in_earlier = omega arith;
  in_later = omega arith;
  same = refl;
  differ = λ k m x' y' h g. let z : ◌≡◌ {A = ℕ} 0 1 = cc in absurd (omega arith);
  most = λ j h k e. k;
}
shared_longest (l ∷ x) (m ∷ y) = at (same_literal l m) refl (shared_longest x y)
  where
    none : same_literal l m ≡ false → (j : ℕ) → take j (l ∷ x) ≡ take j (m ∷ y) → j ≤ 0
    none e zero h = omega arith
    none e (suc j) h = let q : l ≡ m = cc in bool_clash (equal_same l m q) e

    less : (j : ℕ) → Longest x y (shared x y) → j ≤ suc (length x) → j ≤ suc (length y) → take j (l ∷ x) ≡ take j (m ∷ y) → j ≤ suc (shared x y)
    less zero i h k e = omega arith
    less (suc j) i h k e = let q : take j x ≡ take j y = cc in omega (arith, i.most j (omega arith) (omega arith) q)

    at : (b : Bool) → same_literal l m ≡ b → Longest x y (shared x y) → Longest (l ∷ x) (m ∷ y) (cond b (suc (shared x y)) 0)
    at true e i = record {
      in_earlier = omega (arith, i.in_earlier);
      in_later = omega (arith, i.in_later);
      same = ap₂ {C = List Literal} (λ k r. k ∷ r) (same_equal l m e) i.same;
      differ = i.differ;
      most = λ j. less j i;
    }
    at false e i = record {
      in_earlier = omega arith;
      in_later = omega arith;
      same = refl;
      differ = λ k n x' y' h g q. let p : l ≡ m = cc in bool_clash (equal_same l m p) e;
      most = λ j h k. none e j;
    }
