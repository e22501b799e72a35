-- One list in two ways as a first part, an element, and the rest.
use Prim.Native.Nat.{◌<◌}
use mathlib.Core.List.{List, [], ◌∷◌, ◌++◌}
use mathlib.Core.Logic.{◌⊎◌, inl, inr, ⊎_elim}
use mathlib.Core.Path.{◌≡◌, refl, sym, ap}
use native.Mathlib.Omega.{arith}
use lib.ListN.{length, length-append}

module _ {A : Type 0} where
  -- equal elements before equal lists
  cons_both : {x y : A} {a b : List A} → x ≡ y → a ≡ b → x ∷ a ≡ y ∷ b
  cons_both p q = rw (p, q)

  -- an element of a list with u at its end is u, behind all the others, or one of the others
  pub split_last : (p : List A) (u : A) (a : List A) (v : A) (c : List A) → p ++ (u ∷ []) ≡ a ++ (v ∷ c)
      → ((a ≡ p) × (v ≡ u)) ⊎ ((d : List A) × (p ≡ a ++ (v ∷ d)))
  split_last [] u [] v c e = let q : v ≡ u = cc in inl (refl, q)
  split_last [] u (x ∷ a) v c e = absurd (omega (arith, ap length e, length-append a (v ∷ c)))
  split_last (y ∷ p) u [] v c e = let q : y ≡ v = cc in inr (p, ap (λ (z : A). z ∷ p) q)
  split_last (y ∷ p) u (x ∷ a) v c e =
      let q : y ≡ x = cc in
      let t : p ++ (u ∷ []) ≡ a ++ (v ∷ c) = cc in
      ⊎_elim
      (λ w. inl (cons_both (sym q) w.0, w.1))
      (λ w. inr (w.0, cons_both q w.1))
      (split_last p u a v c t)

  -- of two elements the one that stands before the other is one of those before it
  pub split_before : (a : List A) (u : A) (b c : List A) (v : A) (d : List A) → a ++ (u ∷ b) ≡ c ++ (v ∷ d) → length a < length c
      → (r : List A) × (c ≡ a ++ (u ∷ r))
  split_before a u b [] v d e h = absurd (omega arith)
  split_before [] u b (y ∷ c) v d e h = let q : y ≡ u = cc in (c, rw q)
  split_before (x ∷ a) u b (y ∷ c) v d e h =
      let q : y ≡ x = cc in
      let t : a ++ (u ∷ b) ≡ c ++ (v ∷ d) = cc in
      let w = split_before a u b c v d t (omega arith) in
      (w.0, cons_both q w.1)
