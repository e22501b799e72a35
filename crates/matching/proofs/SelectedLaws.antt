-- Laws of the elements that marks select from a list.
use Prim.Native.Nat.{ℕ, zero, suc, ◌≤◌, ◌<◌}
use mathlib.Core.Path.{◌≡◌, refl, sym, ap, ◌∙◌}
use mathlib.Core.Bool.{Bool, true, false, cond}
use mathlib.Core.List.Sublistᴰ
use mathlib.Core.List.{List, [], ◌∷◌, ◌++◌, map, Sublistᴰ}
use native.Mathlib.Omega.{arith}
use lib.ListN.{length, get_or, set, replicate}
use lib.Dec.{eqb}
use borrow.Author.Tests.{eqb-false}
use Rattle.matching.specs.Sets.{selected}

module _ {A : Type 0} where
  -- of no element
  pub selected_empty : (marks : List ℕ) → selected {A = A} marks [] ≡ []
  unfolding selected
  selected_empty [] = refl
  selected_empty (mark ∷ marks) = refl

  -- all of them, if each has a mark
  pub selected_all : (k : ℕ) (l : List A) → length l ≤ k → selected (replicate k 1) l ≡ l
  unfolding selected
  selected_all zero [] h = refl
  selected_all zero (x ∷ l) h = absurd (omega arith)
  selected_all (suc k) [] h = refl
  selected_all (suc k) (x ∷ l) h = ap (λ (m : List A). x ∷ m) (selected_all k l (omega arith))

  -- no more are selected than there are
  pub selected_few : (marks : List ℕ) (l : List A) → length (selected marks l) ≤ length l
  unfolding selected
  selected_few [] l = omega arith
  selected_few (mark ∷ marks) [] = omega arith
  selected_few (mark ∷ marks) (x ∷ l) = at (eqb mark 0) (selected_few marks l)
    where
      at : (b : Bool) → length (selected marks l) ≤ length l → length (cond b (selected marks l) (x ∷ selected marks l)) ≤ suc (length l)
      at true h = omega arith
      at false h = omega arith

  -- what is selected is a sub-list,
  pub selected_sub : (marks : List ℕ) (l : List A) → Sublistᴰ (selected marks l) l
  unfolding selected
  selected_sub [] l = Sublistᴰ.nil-sublist l
  selected_sub (mark ∷ marks) [] = Sublistᴰ.slnil
  selected_sub (mark ∷ marks) (x ∷ l) = at (eqb mark 0) (selected_sub marks l)
    where
      at : (b : Bool) → Sublistᴰ (selected marks l) l → Sublistᴰ (cond b (selected marks l) (x ∷ selected marks l)) (x ∷ l)
      at true s = Sublistᴰ.cons s
      at false s = Sublistᴰ.cons-cons refl s

  -- and every sub-list is selected by some marks
  pub sub_selected : {k l : List A} → Sublistᴰ k l → (marks : List ℕ) × (selected marks l ≡ k)
  unfolding selected
  sub_selected Sublistᴰ.slnil = ([], refl)
  sub_selected (Sublistᴰ.cons s) = let w = sub_selected s in (0 ∷ w.0, w.1)
  sub_selected (Sublistᴰ.cons-cons {a = x} {b = y} {l₁ = k} e s) =
      let w = sub_selected s in (1 ∷ w.0, ap (λ (j : List A). y ∷ j) w.1 ∙ ap (λ (z : A). z ∷ k) (sym e))

  -- one element more, where there is a mark for it
  pub selected_more : (marks : List ℕ) (l : List A) (x : A) → length l < length marks
      → selected marks (l ++ (x ∷ [])) ≡ selected marks l ++ cond (eqb (get_or marks (length l) 0) 0) [] (x ∷ [])
  unfolding selected
  selected_more [] l x h = absurd (omega arith)
  selected_more (mark ∷ marks) [] x h = rw (selected_empty marks)
  selected_more (mark ∷ marks) (y ∷ l) x h = at (eqb mark 0) (selected_more marks l x (omega arith))
    where
      rest : List A
      rest = cond (eqb (get_or marks (length l) 0) 0) [] (x ∷ [])

      at : (b : Bool) → selected marks (l ++ (x ∷ [])) ≡ selected marks l ++ rest
          → cond b (selected marks (l ++ (x ∷ []))) (y ∷ selected marks (l ++ (x ∷ []))) ≡ cond b (selected marks l) (y ∷ selected marks l) ++ rest
      at true e = e
      at false e = ap (λ (k : List A). y ∷ k) e

  -- marks behind the last element change nothing
  pub selected_front : (marks more : List ℕ) (l : List A) → length l ≤ length marks → selected (marks ++ more) l ≡ selected marks l
  unfolding selected
  selected_front [] [] [] h = refl
  selected_front [] (k ∷ more) [] h = refl
  selected_front [] more (x ∷ l) h = absurd (omega arith)
  selected_front (mark ∷ marks) more [] h = refl
  selected_front (mark ∷ marks) more (x ∷ l) h = ap (λ (k : List A). cond (eqb mark 0) k (x ∷ k)) (selected_front marks more l (omega arith))

  -- what is selected stands in the list, with a mark that is not 0
  abbrev Origin : List ℕ → List A → A → A → Type 0
  Origin marks l d y = (c : ℕ) × (c < length marks) × (c < length l) × (get_or marks c 0 ≡ 0 → ⊥) × (y ≡ get_or l c d)

  pub selected_from : (marks : List ℕ) (l : List A) (d : A) (i : ℕ) → i < length (selected marks l) → Origin marks l d (get_or (selected marks l) i d)
  unfolding selected
  selected_from [] l d i h = absurd (omega arith)
  selected_from (mark ∷ marks) [] d i h = absurd (omega arith)
  selected_from (mark ∷ marks) (x ∷ l) d i h = at (eqb mark 0) refl (λ j k. selected_from marks l d j k) i h
    where
      rest : ((j : ℕ) → j < length (selected marks l) → Origin marks l d (get_or (selected marks l) j d))
          → (j : ℕ) → j < length (selected marks l) → Origin (mark ∷ marks) (x ∷ l) d (get_or (selected marks l) j d)
      rest rec j k = let w = rec j k in (suc w.0, omega (arith, w.1), omega (arith, w.2), w.3, w.4)

      at : (b : Bool) → eqb mark 0 ≡ b → ((j : ℕ) → j < length (selected marks l) → Origin marks l d (get_or (selected marks l) j d))
          → (j : ℕ) → j < length (cond b (selected marks l) (x ∷ selected marks l))
          → Origin (mark ∷ marks) (x ∷ l) d (get_or (cond b (selected marks l) (x ∷ selected marks l)) j d)
      at true e rec j k = rest rec j k
      at false e rec zero k = (0, omega arith, omega arith, eqb-false mark 0 e, refl)
      at false e rec (suc j) k = rest rec j (omega arith)

  -- a proper part of what is selected lacks one of its elements: it is a part of what is selected without that
  abbrev Lacks : List A → List ℕ → List A → Type 0
  Lacks ds marks l = (i : ℕ) × (i < length l) × (get_or marks i 0 ≡ 0 → ⊥) × Sublistᴰ ds (selected (set marks i 0) l)

  pub part_lacks : (marks : List ℕ) (l ds : List A) → Sublistᴰ ds (selected marks l) → length ds < length (selected marks l) → Lacks ds marks l
  unfolding selected
  part_lacks [] l ds s h = absurd (omega arith)
  part_lacks (mark ∷ marks) [] ds s h = absurd (omega arith)
  part_lacks (mark ∷ marks) (x ∷ l) ds s h = at (eqb mark 0) refl (part_lacks marks l) ds s h
    where
      at : (b : Bool) → eqb mark 0 ≡ b → ((ds : List A) → Sublistᴰ ds (selected marks l) → length ds < length (selected marks l) → Lacks ds marks l)
          → (ds : List A) → Sublistᴰ ds (cond b (selected marks l) (x ∷ selected marks l)) → length ds < length (cond b (selected marks l) (x ∷ selected marks l))
          → Lacks ds (mark ∷ marks) (x ∷ l)
      at true e rec ds s h = let w = rec ds s h in (suc w.0, omega (arith, w.1), w.2, rw e w.3)
      at false e rec ds (Sublistᴰ.cons s) h = (0, omega arith, eqb-false mark 0 e, s)
      at false e rec (y ∷ ds) (Sublistᴰ.cons-cons q s) h =
          let w = rec ds s (omega arith) in (suc w.0, omega (arith, w.1), w.2, rw e (Sublistᴰ.cons-cons q w.3))

module _ {A B : Type 0} where
  -- to select and to map are the same in either order
  pub selected_map : (f : A → B) (marks : List ℕ) (l : List A) → selected marks (map f l) ≡ map f (selected marks l)
  unfolding selected
  selected_map f [] l = refl
  selected_map f (mark ∷ marks) [] = refl
  selected_map f (mark ∷ marks) (x ∷ l) = at (eqb mark 0) (selected_map f marks l)
    where
      at : (b : Bool) → selected marks (map f l) ≡ map f (selected marks l)
          → cond b (selected marks (map f l)) (f x ∷ selected marks (map f l)) ≡ map f (cond b (selected marks l) (x ∷ selected marks l))
      at true e = e
      at false e = ap (λ (k : List B). f x ∷ k) e

  -- of lists of one length as many are selected
  pub selected_size : (marks : List ℕ) (l : List A) (k : List B) → length l ≡ length k → length (selected marks l) ≡ length (selected marks k)
  unfolding selected
  selected_size [] l k e = refl
  selected_size (mark ∷ marks) [] [] e = refl
  selected_size (mark ∷ marks) [] (y ∷ k) e = absurd (omega arith)
  selected_size (mark ∷ marks) (x ∷ l) [] e = absurd (omega arith)
  selected_size (mark ∷ marks) (x ∷ l) (y ∷ k) e = at (eqb mark 0) (selected_size marks l k (omega arith))
    where
      at : (b : Bool) → length (selected marks l) ≡ length (selected marks k)
          → length (cond b (selected marks l) (x ∷ selected marks l)) ≡ length (cond b (selected marks k) (y ∷ selected marks k))
      at true h = h
      at false h = ap suc h
