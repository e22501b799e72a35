-- Laws of the lowest variable with a test and of the variables with it, upward.
use Prim.Native.Nat.{ℕ, zero, suc, ◌+◌, ◌≤◌, ◌<◌}
use mathlib.Core.Path.{◌≡◌, refl, sym, ap, ◌∙◌}
use mathlib.Core.Bool.{Bool, true, false, cond}
use mathlib.Core.List.Memᴰ
use mathlib.Core.List.{List, [], ◌∷◌, ◌++◌, append-nil, Memᴰ}
use mathlib.Core.Logic.{◌⊎◌, inl, inr, ⊎_elim}
use native.Mathlib.Nat.{eq-or-lt_of_le}
use native.Mathlib.Omega.{arith}
use lib.ListN.{length}
use lib.Dec.{eqb, ltb}
use borrow.Author.Tests.{eqb-true, eq-eqb, ne_eqb, ltb-true, ltb-false}
use Rattle.lists.specs.Every.{Every}
use Rattle.lists.proofs.TestLaws.{or_cases, bool_cases, bool_clash, or_left, or_right}
use Rattle.masks.specs.Mask.{only_if}
use Rattle.matching.proofs.Counting.{count}
use Rattle.splitting.specs.Nodes.{first_from, lowest_with, upward_from, upward}
use Rattle.splitting.specs.Choosing.{among, last}

-- ── The lowest ───────────────────────────────────────────────────────────────────────────────────────────────────────

first_some : (f : ℕ → Bool) (v k : ℕ) → first_from f v k < v + k → f (first_from f v k) ≡ true
unfolding first_from
first_some f v zero h = absurd (omega arith)
first_some f v (suc k) h = at (λ l. first_some f (suc v) k l) (f v) refl h
  where
    at : (first_from f (suc v) k < suc v + k → f (first_from f (suc v) k) ≡ true) → (b : Bool) → f v ≡ b
        → elim b [ true ↦ v | false ↦ first_from f (suc v) k ] < v + suc k → f (elim b [ true ↦ v | false ↦ first_from f (suc v) k ]) ≡ true
    at rec true e h = e
    at rec false e h = rec (omega arith)

first_none : (f : ℕ → Bool) (v k : ℕ) → v + k ≤ first_from f v k → (i : ℕ) → v ≤ i → i < v + k → f i ≡ false
unfolding first_from
first_none f v zero h i p q = absurd (omega arith)
first_none f v (suc k) h i p q = at (λ l p. first_none f (suc v) k l i p (omega arith)) (f v) refl h
  where
    at : (suc v + k ≤ first_from f (suc v) k → suc v ≤ i → f i ≡ false) → (b : Bool) → f v ≡ b
        → v + suc k ≤ elim b [ true ↦ v | false ↦ first_from f (suc v) k ] → f i ≡ false
    at rec true e h = absurd (omega arith)
    at rec false e h = ⊎_elim (λ (same : v ≡ i). rw same at e) (λ (l : v < i). rec (omega arith) l) (eq-or-lt_of_le p)

-- below n the test holds of it
pub lowest_some : (f : ℕ → Bool) (n : ℕ) → lowest_with f n < n → f (lowest_with f n) ≡ true
lowest_some f n h = first_some f 0 n (omega arith)

-- otherwise it holds of none
pub lowest-none : (f : ℕ → Bool) (n : ℕ) → n ≤ lowest_with f n → (i : ℕ) → i < n → f i ≡ false
lowest-none f n h i l = first_none f 0 n (omega arith) i (omega arith) (omega arith)

-- if the test holds of one below n, there is a lowest
pub lowest_found : (f : ℕ → Bool) (n i : ℕ) → i < n → f i ≡ true → (lowest_with f n < n) × (f (lowest_with f n) ≡ true)
lowest_found f n i l t =
    ⊎_elim
    (λ h. let k = ltb-true (lowest_with f n) n h in (k, lowest_some f n k))
    (λ h. bool_clash t (lowest-none f n (ltb-false (lowest_with f n) n h) i l))
    (bool_cases (ltb (lowest_with f n) n))

-- ── Lists of variables ───────────────────────────────────────────────────────────────────────────────────────────────

-- the first is on the list
pub among_here : (x : ℕ) (l : List ℕ) → among (x ∷ l) x ≡ true
unfolding among
among_here x l = or_left (eqb x x) (among l x) (eq-eqb x x refl)

-- what is on the rest is on the list
pub among_more : (x y : ℕ) (l : List ℕ) → among l x ≡ true → among (y ∷ l) x ≡ true
unfolding among
among_more x y l t = or_right (eqb y x) (among l x) t

-- another than the first is on the list if it is on the rest
pub among_other : (x y : ℕ) (l : List ℕ) → (x ≡ y → ⊥) → among (x ∷ l) y ≡ among l y
unfolding among
among_other x y l ne = rw (ne_eqb x y ne)

-- what is on the list is the first or on the rest
pub among_cases : (x y : ℕ) (l : List ℕ) → among (y ∷ l) x ≡ true → (x ≡ y) ⊎ (among l x ≡ true)
unfolding among
among_cases x y l t = ⊎_elim (λ e. inl (sym (eqb-true y x e))) (λ r. inr r) (or_cases (eqb y x) (among l x) t)

-- an element is on the list
pub mem_among : (l : List ℕ) (x : ℕ) → Memᴰ x l → among l x ≡ true
mem_among [] x m = absurd (Memᴰ.not-nil m)
mem_among (y ∷ l) x m = ⊎_elim (λ (e : x ≡ y). rw e (among_here y l)) (λ k. among_more x y l (mem_among l x k)) (Memᴰ.cases_cons m)

-- nothing is on the empty list
pub among_none : {C : Type 0} (x : ℕ) → among [] x ≡ true → C
unfolding among
among_none x t = bool_clash t refl

-- what is on two lists is on one of them
pub among-append : (l r : List ℕ) (x : ℕ) → among (l ++ r) x ≡ true → (among l x ≡ true) ⊎ (among r x ≡ true)
among-append [] r x t = inr t
among-append (y ∷ l) r x t =
    ⊎_elim
    (λ (e : x ≡ y). inl (rw e (among_here y l)))
    (λ m. ⊎_elim (λ u. inl (among_more x y l u)) (λ u. inr u) (among-append l r x m))
    (among_cases x y (l ++ r) t)

-- and the other way round
pub among_left : (l r : List ℕ) (x : ℕ) → among l x ≡ true → among (l ++ r) x ≡ true
among_left [] r x t = among_none x t
among_left (y ∷ l) r x t =
    ⊎_elim (λ (e : x ≡ y). rw e (among_here y (l ++ r))) (λ m. among_more x y (l ++ r) (among_left l r x m)) (among_cases x y l t)

-- and the other way round
pub among-right : (l r : List ℕ) (x : ℕ) → among r x ≡ true → among (l ++ r) x ≡ true
among-right [] r x t = t
among-right (y ∷ l) r x t = among_more x y (l ++ r) (among-right l r x t)

-- what holds of all that is on the list
pub every_among : (P : ℕ → Type 0) (l : List ℕ) → ((x : ℕ) → among l x ≡ true → P x) → Every P l
every_among P [] h = tt
every_among P (x ∷ l) h = (h x (among_here x l), every_among P l (λ y m. h y (among_more y x l m)))

-- the last of a list that is not empty is on it
pub last-among : (x : ℕ) (l : List ℕ) → among (x ∷ l) (last (x ∷ l)) ≡ true
unfolding last
last-among x [] = among_here x []
last-among x (y ∷ l) = among_more (last (y ∷ l)) x (y ∷ l) (last-among y l)

-- what stands before does not matter for the last
pub last-append : (l : List ℕ) (x : ℕ) (r : List ℕ) → last (l ++ (x ∷ r)) ≡ last (x ∷ r)
unfolding last
last-append [] x r = refl
last-append (y ∷ []) x r = refl
last-append (y ∷ (z ∷ l)) x r = last-append (z ∷ l) x r

-- ── Upward ───────────────────────────────────────────────────────────────────────────────────────────────────────────

pub upward_from_of : (f : ℕ → Bool) (v k x : ℕ) → among (upward_from f v k) x ≡ true → (v ≤ x) × (x < v + k) × (f x ≡ true)
unfolding upward_from
upward_from_of f v zero x t = among_none x t
upward_from_of f v (suc k) x t = go (λ u. let r = upward_from_of f (suc v) k x u in (omega (arith, r.0), omega (arith, r.1), r.2)) (f v) refl t
  where
    go : (among (upward_from f (suc v) k) x ≡ true → (v ≤ x) × (x < v + suc k) × (f x ≡ true)) → (b : Bool) → f v ≡ b
        → among (cond b (v ∷ upward_from f (suc v) k) (upward_from f (suc v) k)) x ≡ true → (v ≤ x) × (x < v + suc k) × (f x ≡ true)
    go tail true h t = ⊎_elim (λ (e : x ≡ v). (omega arith, omega arith, rw e h)) tail (among_cases x v (upward_from f (suc v) k) t)
    go tail false h t = tail t

upward_from_in : (f : ℕ → Bool) (v k x : ℕ) → v ≤ x → x < v + k → f x ≡ true → among (upward_from f v k) x ≡ true
unfolding upward_from
upward_from_in f v zero x p q t = absurd (omega arith)
upward_from_in f v (suc k) x p q t =
    ⊎_elim
    (λ (e : v ≡ x). let h : f v ≡ true = rw e t in rw h (rw e (among_here x (upward_from f (suc x) k))))
    (λ (l : v < x).
    let u = upward_from_in f (suc v) k x l (omega arith) t in
    ⊎_elim (λ (h : f v ≡ true). rw h (among_more x v (upward_from f (suc v) k) u)) (λ (h : f v ≡ false). rw h u) (bool_cases (f v)))
    (eq-or-lt_of_le p)

upward_from_length : (f : ℕ → Bool) (v k : ℕ) → length (upward_from f v k) + count f v ≡ count f (v + k)
unfolding upward_from count
upward_from_length f v zero = let e : v + 0 ≡ v = omega arith in rw e (omega arith)
upward_from_length f v (suc k) =
    let i = upward_from_length f (suc v) k in
    let e : suc v + k ≡ v + suc k = omega arith in
    ⊎_elim (λ (h : f v ≡ true). rw (h, ← e) (omega (arith, (rw h at i)))) (λ (h : f v ≡ false). rw (h, ← e) (omega (arith, (rw h at i)))) (bool_cases (f v))

-- the list has the variables below n that the test holds of, and no others
pub upward_of : (f : ℕ → Bool) (n x : ℕ) → among (upward f n) x ≡ true → (x < n) × (f x ≡ true)
upward_of f n x t = let w = upward_from_of f 0 n x t in (omega (arith, w.1), w.2)

pub upward_in : (f : ℕ → Bool) (n x : ℕ) → x < n → f x ≡ true → among (upward f n) x ≡ true
upward_in f n x l t = upward_from_in f 0 n x (omega arith) (omega arith) t

-- it has as many as the test holds of
pub upward-length : (f : ℕ → Bool) (n : ℕ) → length (upward f n) ≡ count f n
unfolding count
upward-length f n = let e = upward_from_length f 0 n in let z : 0 + n ≡ n = omega arith in omega (arith, (rw z at e))

-- one variable more at the end
pub upward_more : (f : ℕ → Bool) (v k : ℕ) → upward_from f v (suc k) ≡ upward_from f v k ++ only_if (f (v + k)) (v + k)
unfolding upward_from
upward_more f v zero = let q : v + 0 ≡ v = omega arith in rw q (go (f v))
  where
    go : (b : Bool) → cond b (v ∷ []) [] ≡ only_if b v
    go true = refl
    go false = refl
upward_more f v (suc k) = let q : v + suc k ≡ suc v + k = omega arith in rw q (go (f v) (upward_more f (suc v) k))
  where
    go : (b : Bool) → upward_from f (suc v) (suc k) ≡ upward_from f (suc v) k ++ only_if (f (suc v + k)) (suc v + k)
        → cond b (v ∷ upward_from f (suc v) (suc k)) (upward_from f (suc v) (suc k))
        ≡ cond b (v ∷ upward_from f (suc v) k) (upward_from f (suc v) k) ++ only_if (f (suc v + k)) (suc v + k)
    go true e = ap (λ (l : List ℕ). v ∷ l) e
    go false e = e

-- where the test holds of none there is none
pub upward-none : (f : ℕ → Bool) (v k : ℕ) → ((x : ℕ) → f x ≡ false) → upward_from f v k ≡ []
unfolding upward_from
upward-none f v zero h = refl
upward-none f v (suc k) h = rw (h v) (upward-none f (suc v) k h)

-- further variables change nothing where the test holds of none of them
pub upward_wide : (f : ℕ → Bool) (n d : ℕ) → ((x : ℕ) → n ≤ x → f x ≡ false) → upward f (n + d) ≡ upward f n
upward_wide f n zero h = let e : n + 0 ≡ n = omega arith in rw e
upward_wide f n (suc d) h =
    let e : n + suc d ≡ suc (n + d) = omega arith in
    rw (e, upward_more f 0 (n + d), h (0 + (n + d)) (omega arith)) (append-nil (upward f (n + d)) ∙ upward_wide f n d h)
