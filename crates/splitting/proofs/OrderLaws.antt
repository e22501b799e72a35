-- The order in which variables are tried: lists by counts, and how many clauses name a variable.
use Prim.Native.Nat.{ℕ, zero, suc, ◌+◌, ◌≤◌, ◌<◌}
use mathlib.Core.Path.{◌≡◌, refl, sym, ap₂, ◌∙◌}
use mathlib.Core.Bool.{Bool, true, false, not, cond, ◌&&◌, ◌||◌, and-true, and-false}
use mathlib.Core.List.Memᴰ
use mathlib.Core.List.{List, [], ◌∷◌, ◌++◌, Memᴰ}
use mathlib.Core.Logic.{inl, inr, ⊎_elim}
use native.Mathlib.Decide.{ℕ_discrete}
use native.Mathlib.Omega.{arith}
use lib.Dec.{eqb}
use lib.ListN.{length, length-append}
use borrow.Author.Tests.{eqb-true, eq-eqb, ne_eqb}
use Rattle.lists.specs.Distinct.{Distinct}
use Rattle.lists.proofs.TestLaws.{or_cases, bool_cases, bool_clash}
use Rattle.matching.proofs.Counting.{lt_or_le, one_if, count}
use Rattle.formula.specs.Format.{Literal, names}
use Rattle.formula.proofs.ClauseLaws.{named_as}
use Rattle.splitting.specs.Nodes.{named, upward_from, upward}
use Rattle.splitting.specs.Choosing.{occurrences, by_count, among}
use Rattle.splitting.specs.Terms.{Before, Ordered}
use Rattle.splitting.proofs.SearchLaws.{among_here, among_more, among_other, among_none, mem_among, among-append, among_left, among-right, upward_of, upward_in, upward-length, upward_from_of, upward-none, upward_wide}
use Rattle.splitting.proofs.ClauseLaws.{occurs_some, named_some, named_by}
use Rattle.splitting.proofs.CountLaws.{count_none}

-- ── Before ───────────────────────────────────────────────────────────────────────────────────────────────────────────

-- of two variables only one is before the other
pub before_once : (f : ℕ → ℕ) (x y : ℕ) → Before f x y → Before f y x → ⊥
before_once f x y p q =
    ⊎_elim
    (λ (a : f y < f x). ⊎_elim (λ (b : f x < f y). omega arith) (λ b. omega (arith, b.0)) q)
    (λ a. ⊎_elim (λ (b : f x < f y). omega (arith, a.0)) (λ b. omega (arith, a.1, b.1)) q)
    p

-- in order, none stands twice
pub ordered_once : (f : ℕ → ℕ) (l : List ℕ) → Ordered f l → Distinct l
ordered_once f [] o = tt
ordered_once f (x ∷ l) o = (λ m. let b = o.0 x (mem_among l x m) in before_once f x x b b, ordered_once f l o.1)

-- behind the first stand all others
pub ordered_behind : (f : ℕ → ℕ) (x : ℕ) (l : List ℕ) → Ordered f (x ∷ l) → (v : ℕ) → among l v ≡ among (x ∷ l) v && not (eqb v x)
ordered_behind f x l o v = go (ℕ_discrete v x)
  where
    go : Dec (v ≡ x) → among l v ≡ among (x ∷ l) v && not (eqb v x)
    go (yes e) =
        ⊎_elim
        (λ t. let b : Before f x x = rw e at (o.0 v t) in absurd (before_once f x x b b))
        (λ t. rw (eq-eqb v x e, and-false (among (x ∷ l) v)) t)
        (bool_cases (among l v))
    go (no q) = rw (ne_eqb v x q, and-true (among (x ∷ l) v)) (sym (among_other x v l (λ e. q (sym e))))

-- two lists in order that have the same variables are equal
pub ordered_one : (f : ℕ → ℕ) (l r : List ℕ) → Ordered f l → Ordered f r → ((v : ℕ) → among l v ≡ among r v) → l ≡ r
ordered_one f [] [] o p h = refl
ordered_one f [] (y ∷ r) o p h = among_none y (h y ∙ among_here y r)
ordered_one f (x ∷ l) [] o p h = among_none x (sym (h x) ∙ among_here x l)
ordered_one f (x ∷ l) (y ∷ r) o p h = go (ordered_one f l r o.1 p.1) (ℕ_discrete x y)
  where
    go : (((v : ℕ) → among l v ≡ among r v) → l ≡ r) → Dec (x ≡ y) → x ∷ l ≡ y ∷ r
    go rec (yes e) =
        ap₂ (λ (z : ℕ) (k : List ℕ). z ∷ k) e
        (rec (λ v. ordered_behind f x l o v ∙ ap₂ (λ (b : Bool) (z : ℕ). b && not (eqb v z)) (h v) e ∙ sym (ordered_behind f y r p v)))
    go rec (no q) =
        absurd
        (before_once f x y
        (o.0 y (sym (among_other x y l q) ∙ h y ∙ among_here y r))
        (p.0 x (sym (among_other y x r (λ e. q (sym e))) ∙ sym (h x) ∙ among_here x l)))

-- two ordered lists, each of the first before each of the second
ordered_append : (f : ℕ → ℕ) (l r : List ℕ) → Ordered f l → Ordered f r → ((x y : ℕ) → among l x ≡ true → among r y ≡ true → Before f x y) → Ordered f (l ++ r)
ordered_append f [] r p q h = q
ordered_append f (x ∷ l) r p q h = (
  λ y t. ⊎_elim (p.0 y) (λ m. h x y (among_here x l) m) (among-append l r y t),
  ordered_append f l r p.1 q (λ z y m t. h z y (among_more z x l m) t),
)

-- variables with the same count, upward
upward_ordered : (f : ℕ → ℕ) (g : ℕ → Bool) (k : ℕ) → ((v : ℕ) → g v ≡ true → f v ≡ k) → (v d : ℕ) → Ordered f (upward_from g v d)
unfolding upward_from
upward_ordered f g k same v zero = tt
upward_ordered f g k same v (suc d) = go (upward_ordered f g k same (suc v) d) (g v) refl
  where
    go : Ordered f (upward_from g (suc v) d) → (b : Bool) → g v ≡ b → Ordered f (cond b (v ∷ upward_from g (suc v) d) (upward_from g (suc v) d))
    go rec true e = (λ y t. let w = upward_from_of g (suc v) d y t in inr (same v e ∙ sym (same y w.2), w.0), rec)
    go rec false e = rec

-- ── Lists by counts ──────────────────────────────────────────────────────────────────────────────────────────────────

module _ (f : ℕ → ℕ) (n : ℕ) where
  -- the variables with this count
  abbrev level : ℕ → ℕ → Bool
  level k v = eqb (f v) k

  -- the list has the variables below n with a count from 1 to k, and no others
  pub by_count_of : (k v : ℕ) → among (by_count f n k) v ≡ true → (v < n) × (0 < f v) × (f v ≤ k)
  unfolding by_count
  by_count_of zero v t = among_none v t
  by_count_of (suc k) v t =
      ⊎_elim
      (λ u. let w = upward_of (level (suc k)) n v u in let e = eqb-true (f v) (suc k) w.1 in (w.0, omega arith, omega arith))
      (λ u. let w = by_count_of k v u in (w.0, w.1, omega (arith, w.2)))
      (among-append (upward (level (suc k)) n) (by_count f n k) v t)

  pub by_count_in : (k v : ℕ) → v < n → 0 < f v → f v ≤ k → among (by_count f n k) v ≡ true
  unfolding by_count
  by_count_in zero v l p q = absurd (omega arith)
  by_count_in (suc k) v l p q =
      ⊎_elim
      (λ (t : f v < suc k). among-right (upward (level (suc k)) n) (by_count f n k) v (by_count_in k v l p (omega arith)))
      (λ (t : suc k ≤ f v).
      among_left (upward (level (suc k)) n) (by_count f n k) v (upward_in (level (suc k)) n v l (eq-eqb (f v) (suc k) (omega arith))))
      (lt_or_le (f v) (suc k))

  -- it is in order
  pub by_count_ordered : (k : ℕ) → Ordered f (by_count f n k)
  unfolding by_count
  by_count_ordered zero = tt
  by_count_ordered (suc k) =
      ordered_append f (upward (level (suc k)) n) (by_count f n k) (upward_ordered f (level (suc k)) (suc k) (λ v t. eqb-true (f v) (suc k) t) 0 n) (by_count_ordered k)
      (λ x y t u.
      let a = eqb-true (f x) (suc k) (upward_of (level (suc k)) n x t).1 in
      let b = (by_count_of k y u).2 in
      inl (omega arith))

  -- the variables with a count from 1 to k
  unfoldable pub counted_to : ℕ → ℕ → Bool
  counted_to zero v = false
  counted_to (suc k) v = level (suc k) v || counted_to k v

  pub counted_of : (k v : ℕ) → counted_to k v ≡ true → (0 < f v) × (f v ≤ k)
  unfolding counted_to
  counted_of zero v t = bool_clash t refl
  counted_of (suc k) v t =
      ⊎_elim
      (λ u. let e = eqb-true (f v) (suc k) u in (omega arith, omega arith))
      (λ u. let w = counted_of k v u in (w.0, omega (arith, w.1)))
      (or_cases (level (suc k) v) (counted_to k v) t)

  -- they are as many as the list has
  count_either : (g h : ℕ → Bool) → ((v : ℕ) → g v ≡ true → h v ≡ true → ⊥) → (m : ℕ) → count (λ v. g v || h v) m ≡ count g m + count h m
  unfolding count
  count_either g h apart zero = refl
  count_either g h apart (suc m) = go (g m) (h m) refl refl (count_either g h apart m)
    where
      go : (x y : Bool) → g m ≡ x → h m ≡ y → count (λ v. g v || h v) m ≡ count g m + count h m
          → one_if (x || y) + count (λ v. g v || h v) m ≡ one_if x + count g m + (one_if y + count h m)
      go true true p q e = absurd (apart m p q)
      go true false p q e = omega arith
      go false true p q e = omega arith
      go false false p q e = omega arith

  pub by_count_length : (k : ℕ) → length (by_count f n k) ≡ count (counted_to k) n
  unfolding by_count counted_to
  by_count_length zero = sym (count_none (λ _. false) n (λ _. refl))
  by_count_length (suc k) =
      length-append (upward (level (suc k)) n) (by_count f n k)
      ∙ ap₂ (λ (x y : ℕ). x + y) (upward-length (level (suc k)) n) (by_count_length k)
      ∙ sym (count_either (level (suc k)) (counted_to k) (λ v t u. let e = eqb-true (f v) (suc k) t in let w = (counted_of k v u).1 in omega arith) n)

-- a greater bound on the counts changes nothing where all are within the lesser,
pub by_count_high : (f : ℕ → ℕ) (n k d : ℕ) → ((v : ℕ) → f v ≤ k) → by_count f n (d + k) ≡ by_count f n k
unfolding by_count
by_count_high f n k zero h = let e : 0 + k ≡ k = omega arith in rw e
by_count_high f n k (suc d) h =
    let e : suc d + k ≡ suc (d + k) = omega arith in
    rw (e, upward-none (λ v. eqb (f v) (suc (d + k))) 0 n (λ v. ne_eqb (f v) (suc (d + k)) (λ q. omega (arith, h v)))) (by_count_high f n k d h)

-- nor do more variables, where none of them is counted.
pub by_count_wide : (f : ℕ → ℕ) (n d k : ℕ) → ((v : ℕ) → n ≤ v → f v ≡ 0) → by_count f (n + d) k ≡ by_count f n k
unfolding by_count
by_count_wide f n d zero h = refl
by_count_wide f n d (suc k) h =
    ap₂ (λ (x y : List ℕ). x ++ y) (upward_wide (λ v. eqb (f v) (suc k)) n d (λ v l. ne_eqb (f v) (suc k) (λ e. omega (arith, h v l)))) (by_count_wide f n d k h)

-- ── How many clauses name a variable ─────────────────────────────────────────────────────────────────────────────────

-- one more, or not
pub one_more_le : (b : Bool) {x k : ℕ} → x ≤ k → cond b (suc x) x ≤ suc k
one_more_le true h = omega arith
one_more_le false h = omega arith

pub occurrences_le : (cs : List (List Literal)) (v : ℕ) → occurrences cs v ≤ length cs
unfolding occurrences
occurrences_le [] v = omega arith
occurrences_le (c ∷ cs) v = one_more_le (names c v) (occurrences_le cs v)

-- a variable that is counted is named by some clause,
occurrences_some : (cs : List (List Literal)) (v : ℕ) → 0 < occurrences cs v → (c : List Literal) × Memᴰ c cs × (names c v ≡ true)
unfolding occurrences
occurrences_some [] v h = absurd (omega arith)
occurrences_some (c ∷ cs) v h = go (λ k. let w = occurrences_some cs v k in (w.0, Memᴰ.tail w.1, w.2)) (names c v) refl h
  where
    Some : Type 0
    Some = (d : List Literal) × Memᴰ d (c ∷ cs) × (names d v ≡ true)

    go : (0 < occurrences cs v → Some) → (b : Bool) → names c v ≡ b → 0 < cond b (suc (occurrences cs v)) (occurrences cs v) → Some
    go rec true e h = (c, Memᴰ.head refl, e)
    go rec false e h = rec h

-- and one that some clause names is counted
occurrences_by : (cs : List (List Literal)) (c : List Literal) (v : ℕ) → Memᴰ c cs → names c v ≡ true → 0 < occurrences cs v
unfolding occurrences
occurrences_by [] c v m t = absurd (Memᴰ.not-nil m)
occurrences_by (d ∷ cs) c v m t =
    ⊎_elim
    (λ (e : c ≡ d). let h : names d v ≡ true = rw e at t in rw h (omega arith))
    (λ more. go (names d v) (occurrences_by cs c v more t))
    (Memᴰ.cases_cons m)
  where
    go : (b : Bool) → 0 < occurrences cs v → 0 < cond b (suc (occurrences cs v)) (occurrences cs v)
    go true h = omega arith
    go false h = h

pub occurrences-named : (cs : List (List Literal)) (v : ℕ) → 0 < occurrences cs v → named cs v ≡ true
occurrences-named cs v h = let w = occurrences_some cs v h in named_by cs w.0 v w.1 w.2

pub named-occurrences : (cs : List (List Literal)) (v : ℕ) → named cs v ≡ true → 0 < occurrences cs v
named-occurrences cs v t =
    let s = named_some cs v t in
    let w = occurs_some cs v s.0 s.1 in
    occurrences_by cs w.0 v w.1 (named_as w.0 v s.0 w.2)
