-- The number of links from a variable back to the new clause: re-matching ends there.
use mathlib.Core.Path.{◌≡◌, sym, ◌∙◌, ap}
use mathlib.Core.Bool.{true, false}
use mathlib.Core.Logic.{◌⊎◌, inl, inr, ⊎_elim}
use mathlib.Core.List.{List}
use Prim.Native.Nat.{ℕ, zero, suc, ◌≤◌, ◌<◌}
use native.Mathlib.Omega.{arith}
use lib.ListN.{length, set, length-set}
use lib.Seq.{get_or-set_other}
use lib.Dec.{eqb}
use borrow.Author.Tests.{eqb-true, eqb-false, eq-eqb, ne_eqb, lt-ltb, le-ltb}
use Rattle.std.proofs.lemmas.Bool.{cases_Bool}
use Rattle.matching.specs.Search.{rematch_from}
use Rattle.matching.specs.Inner.{at, distance}
use Rattle.matching.proofs.Counting.{lt_or_le}
use Rattle.matching.proofs.Augmenting.{Path, rematch_end, rematch-on}

distance_end : (k : ℕ) (links m : List ℕ) (v : ℕ) → at links v ≡ length m → distance (suc k) links m v ≡ 1
unfolding distance
distance_end k links m v e = rw (eq-eqb (at links v) (length m) e)

distance_on : (k : ℕ) (links m : List ℕ) (v : ℕ) → at links v < length m → distance (suc k) links m v ≡ suc (distance k links m (at m (at links v)))
unfolding distance
distance_on k links m v l = rw (ne_eqb (at links v) (length m) (omega arith), lt-ltb (at links v) (length m) l)

distance_off : (k : ℕ) (links m : List ℕ) (v : ℕ) → length m < at links v → distance (suc k) links m v ≡ suc (suc k)
unfolding distance
distance_off k links m v l = rw (ne_eqb (at links v) (length m) (omega arith), le-ltb (at links v) (length m) (omega arith))

-- a path leads to the new clause or to one that is matched
pub distance_cases : (k : ℕ) (links m : List ℕ) (v : ℕ) → distance (suc k) links m v ≤ suc k → (at links v ≡ length m) ⊎ (at links v < length m)
distance_cases k links m v h =
    ⊎_elim
    (λ (l : at links v < length m). inr l)
    (λ (le : length m ≤ at links v).
    ⊎_elim
    (λ (t : eqb (at links v) (length m) ≡ true). inl (eqb-true (at links v) (length m) t))
    (λ (f : eqb (at links v) (length m) ≡ false).
    let ne = eqb-false (at links v) (length m) f in
    let d = distance_off k links m v (omega (arith, ne)) in absurd (omega arith))
    (cases_Bool (eqb (at links v) (length m))))
    (lt_or_le (at links v) (length m))

-- the distance does not depend on the bound
distance_same : (j k : ℕ) (links m : List ℕ) (v : ℕ) → distance j links m v ≤ j → distance k links m v ≤ k → distance j links m v ≡ distance k links m v
unfolding distance
distance_same zero k links m v a b = absurd (omega arith)
distance_same (suc j) zero links m v a b = absurd (omega arith)
distance_same (suc j) (suc k) links m v a b =
    ⊎_elim
    (λ (e : at links v ≡ length m). distance_end j links m v e ∙ sym (distance_end k links m v e))
    (λ (l : at links v < length m).
    let x = at m (at links v) in
    let p = distance_on j links m v l in
    let q = distance_on k links m v l in
    p ∙ ap suc (distance_same j k links m x (omega arith) (omega arith)) ∙ sym q)
    (distance_cases j links m v a)

pub distance_more : (k : ℕ) (links m : List ℕ) (v : ℕ) → distance k links m v ≤ k → distance (suc k) links m v ≡ distance k links m v
unfolding distance
distance_more zero links m v a = absurd (omega arith)
distance_more (suc k) links m v a =
    ⊎_elim
    (λ (e : at links v ≡ length m). distance_end (suc k) links m v e ∙ sym (distance_end k links m v e))
    (λ (l : at links v < length m).
    let p = distance_on k links m v l in
    distance_on (suc k) links m v l ∙ ap suc (distance_more k links m (at m (at links v)) (omega arith)) ∙ sym p)
    (distance_cases k links m v a)

-- A path that is shorter than that from v does not pass v's clause c, so that giving v to c leaves it.
distance_set : (links m : List ℕ) (c v d : ℕ) → c < length m → ((k : ℕ) → distance k links m (at m c) ≤ k → distance k links m (at m c) ≡ d)
    → (j x : ℕ) → distance j links m x ≤ j → distance j links m x ≤ d → distance j links (set m c v) x ≡ distance j links m x
unfolding distance
distance_set links m c v d lc same zero x a b = absurd (omega arith)
distance_set links m c v d lc same (suc j) x a b =
    let n = length-set m c v in
    ⊎_elim
    (λ (e : at links x ≡ length m). distance_end j links (set m c v) x (e ∙ sym n) ∙ sym (distance_end j links m x e))
    (λ (l : at links x < length m).
    let p = distance_on j links m x l in
    ⊎_elim
    (λ (t : eqb (at links x) c ≡ true).
    let q : at m (at links x) ≡ at m c = ap (at m) (eqb-true (at links x) c t) in
    let s : distance j links m (at m (at links x)) ≡ distance j links m (at m c) = ap (distance j links m) q in
    let r = same j (omega arith) in
    absurd (omega arith))
    (λ (f : eqb (at links x) c ≡ false).
    let q : at (set m c v) (at links x) ≡ at m (at links x) = get_or-set_other m c (at links x) v 0 (eqb-false (at links x) c f) in
    distance_on j links (set m c v) x (omega arith)
    ∙ ap suc (ap (distance j links (set m c v)) q ∙ distance_set links m c v d lc same j (at m (at links x)) (omega arith) (omega arith))
    ∙ sym p)
    (cases_Bool (eqb (at links x) c)))
    (distance_cases j links m x a)

-- one link less
pub distance_next : (k : ℕ) (links m : List ℕ) (v : ℕ) → distance (suc k) links m v ≤ suc k → at links v < length m
    → (suc (distance k links (set m (at links v) v) (at m (at links v))) ≡ distance (suc k) links m v)
    × (distance k links (set m (at links v) v) (at m (at links v)) ≤ k)
distance_next k links m v h l =
    let c = at links v in
    let x = at m c in
    let p = distance_on k links m v l in
    let b : distance k links m x ≤ k = omega arith in
    let s = distance_set links m c v (distance k links m x) l (λ j a. distance_same j k links m x a b) k x b (omega arith) in
    (omega arith, omega arith)

pub rematch-same : (j k : ℕ) (links m : List ℕ) (v : ℕ) → distance j links m v ≤ j → distance k links m v ≤ k → rematch_from j links m v ≡ rematch_from k links m v
unfolding distance
rematch-same zero k links m v a b = absurd (omega arith)
rematch-same (suc j) zero links m v a b = absurd (omega arith)
rematch-same (suc j) (suc k) links m v a b =
    ⊎_elim
    (λ (e : at links v ≡ length m). rematch_end j links m v e ∙ sym (rematch_end k links m v e))
    (λ (l : at links v < length m).
    let ne : at links v ≡ length m → ⊥ = omega arith in
    rematch-on j links m v ne
    ∙ rematch-same j k links (set m (at links v) v) (at m (at links v)) (distance_next j links m v a l).1 (distance_next k links m v b l).1
    ∙ sym (rematch-on k links m v ne))
    (distance_cases j links m v a)

-- an augmenting path ends
pub path_distance : (sets links m : List ℕ) (v : ℕ) → (P : Path sets links m v) → (k : ℕ) → P.age v < k → distance k links m v ≤ k
path_distance sets links m v P k l = go k v P.here l (omega arith)
  where
    go : (k x : ℕ) → P.seen x ≡ true → P.age x < k → P.age x ≤ P.age v → distance k links m x ≤ k
    go zero x t l b = absurd (omega arith)
    go (suc k) x t l b =
        ⊎_elim
        (λ (e : at links x ≡ length m). let d = distance_end k links m x e in omega arith)
        (λ w. let d = distance_on k links m x w.0 in let r = go k (at m (at links x)) w.1 (omega (arith, w.2)) (omega (arith, w.2)) in omega arith)
        (P.links_lead.earlier x t b)
