-- The tests of check decide what a model is.
use Prim.Native.Nat.{ℕ, ◌+◌, ◌-◌, ◌/◌, ◌^◌, ◌≤◌}
use mathlib.Core.Bool.{true, false, not, ◌||◌, true≢false, or-true}
use mathlib.Core.List.Memᴰ
use mathlib.Core.List.{List, [], ◌∷◌, Memᴰ}
use mathlib.Core.Logic.{◌⊎◌, inl, inr}
use mathlib.Core.Path.{◌≡◌, refl, sym, ap, ◌∙◌, subst}
use native.Mathlib.Omega.{arith}
use lib.Dec.{eqb}
use borrow.Author.Tests.{eqb-false, not-true, ne_eqb}
use Rattle.std.proofs.lemmas.Bool.{false_from_ne_true}
use Rattle.lists.proofs.TestLaws.{and_left, and_right, and_both, or_cases, signs_equal, sign_itself}
use Rattle.masks.specs.Mask.{bit}
use Rattle.masks.proofs.BitLaws.{bit_shift}
use Rattle.masks.proofs.MembersLaws.{some_member, member_some}
use Rattle.formula.specs.Format.{Literal}
use Rattle.formula.specs.Models.{Model}
use Rattle.formula.specs.InnerModels.{stands, holds, satisfied, stray}

-- a literal that stands
abbrev Standing : ℕ → List Literal → Type 0
Standing a c = (l : Literal) × Memᴰ l c × (bit a l.variable ≡ l.positive)

holds_some : (a : ℕ) (c : List Literal) → holds a c ≡ true → Standing a c
unfolding holds
holds_some a [] e = absurd (true≢false (sym e))
holds_some a (l ∷ c) e = go (or_cases (stands a l) (holds a c) e) (holds_some a c)
  where
    go : (stands a l ≡ true) ⊎ (holds a c ≡ true) → (holds a c ≡ true → Standing a c) → Standing a (l ∷ c)
    go (inl h) ih = (l, Memᴰ.head refl, signs_equal (bit a l.variable) l.positive h)
    go (inr h) ih = let w = ih h in (w.0, Memᴰ.tail w.1, w.2)

some_holds : (a : ℕ) (c : List Literal) → Standing a c → holds a c ≡ true
unfolding holds
some_holds a [] w = absurd (Memᴰ.not-nil w.1)
some_holds a (l ∷ c) w = go (Memᴰ.cases_cons w.1) (some_holds a c)
  where
    go : (w.0 ≡ l) ⊎ Memᴰ w.0 c → (Standing a c → holds a c ≡ true) → stands a l || holds a c ≡ true
    go (inl e) ih = let q : bit a l.variable ≡ l.positive = subst (λ (k : Literal). bit a k.variable ≡ k.positive) e w.2 in rw (q, sign_itself l.positive)
    go (inr m) ih = rw (ih (w.0, m, w.2)) (or-true (stands a l))

-- every clause has a literal that stands
abbrev Satisfying : ℕ → List (List Literal) → Type 0
Satisfying a cs = (c : List Literal) → Memᴰ c cs → Standing a c

satisfied_all : (a : ℕ) (cs : List (List Literal)) → satisfied a cs ≡ true → Satisfying a cs
unfolding satisfied
satisfied_all a [] e c m = absurd (Memᴰ.not-nil m)
satisfied_all a (d ∷ cs) e c m = go (Memᴰ.cases_cons m) (satisfied_all a cs (and_right (holds a d) (satisfied a cs) e) c)
  where
    go : (c ≡ d) ⊎ Memᴰ c cs → (Memᴰ c cs → Standing a c) → Standing a c
    go (inl q) ih = subst (Standing a) (sym q) (holds_some a d (and_left (holds a d) (satisfied a cs) e))
    go (inr n) ih = ih n

all_satisfied : (a : ℕ) (cs : List (List Literal)) → Satisfying a cs → satisfied a cs ≡ true
unfolding satisfied
all_satisfied a [] w = refl
all_satisfied a (d ∷ cs) w = and_both (holds a d) (satisfied a cs) (some_holds a d (w d (Memᴰ.head refl))) (all_satisfied a cs (λ c m. w c (Memᴰ.tail m)))

-- a stray variable is one from n on that is true
pub stray_some : (n a : ℕ) → stray n a ≡ true → (v : ℕ) × (n ≤ v) × (bit a v ≡ true)
stray_some n a e =
    let w = some_member (a / 2 ^ n) (eqb-false (a / 2 ^ n) 0 (not-true (eqb (a / 2 ^ n) 0) e)) in
    (n + w.0, omega arith, sym (bit_shift a n w.0) ∙ w.1)

pub some_stray : (n a v : ℕ) → n ≤ v → bit a v ≡ true → stray n a ≡ true
some_stray n a v l e =
    let q : v ≡ n + (v - n) = omega arith in
    ap not (ne_eqb (a / 2 ^ n) 0 (member_some (a / 2 ^ n) (v - n) (bit_shift a n (v - n) ∙ ap (bit a) (sym q) ∙ e)))

-- if none is, no variable from n on is true
pub stray_none : (n a : ℕ) → stray n a ≡ false → (v : ℕ) → n ≤ v → bit a v ≡ false
stray_none n a e v l = false_from_ne_true (bit a v) (λ q. true≢false (sym (some_stray n a v l q) ∙ e))

-- and the other way round
pub none_stray : (n a : ℕ) → ((v : ℕ) → n ≤ v → bit a v ≡ false) → stray n a ≡ false
none_stray n a h = false_from_ne_true (stray n a) (λ e. let w = stray_some n a e in true≢false (sym w.2 ∙ h w.0 w.1))

-- the tests hold of a model
pub model_tests : (n : ℕ) (cs : List (List Literal)) (a : ℕ) → Model n cs a → (stray n a ≡ false) × (satisfied a cs ≡ true)
model_tests n cs a m = (none_stray n a m.none_above, all_satisfied a cs m.satisfies)

-- and of nothing else
pub tests_model : (n : ℕ) (cs : List (List Literal)) (a : ℕ) → stray n a ≡ false → satisfied a cs ≡ true → Model n cs a
tests_model n cs a e h = record { satisfies = satisfied_all a cs h; none_above = stray_none n a e }
