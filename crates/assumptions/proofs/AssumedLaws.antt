-- What is read of a list of assumptions, against what is told of it: the first bad one, or the literals of all.
use Prim.Native.Nat.{ℕ, suc, ◌-◌, ◌<◌, ◌≤◌}
use mathlib.Core.Bool.{Bool, true, false, cond, ◌||◌}
use mathlib.Core.List.Memᴰ
use mathlib.Core.List.{List, [], ◌∷◌, ◌++◌, map, map-append, append-nil, Memᴰ}
use mathlib.Core.Logic.{◌⊎◌, inl, inr, ⊎_elim}
use mathlib.Core.Path.{◌≡◌, refl, sym, ◌∙◌, ap, subst}
use native.Mathlib.Omega.{arith}
use lib.Dec.{eqb, ltb}
use lib.ListN.{length, length-append, length-map}
use lib.Seq.{append_snoc}
use borrow.Author.Tests.{eqb-true, eqb-false, eq-eqb, ltb-true, ltb-false, lt-ltb}
use Rattle.lists.specs.Every.{Every}
use Rattle.lists.proofs.EveryLaws.{every_append}
use Rattle.lists.proofs.TestLaws.{or_cases, or-none, or_left, or_right, bool_clash}
use Rattle.formula.specs.Format.{Literal, names, ClauseOver}
use Rattle.formula.proofs.FormatLaws.{clause_more}
use Rattle.formula.proofs.LengthLaws.{clause_le}
use Rattle.formula.proofs.RepeatLaws.{over_none}
use Rattle.assumptions.specs.declared.Assumption.{Assumption}
use Rattle.assumptions.specs.Assumed.{Assumed, literals, bad, literal_of, is_bad, assumed_from, assumed}
use Rattle.assumptions.specs.FirstBad.{Bad, NoneBad, FirstBad}
use Rattle.assumptions.proofs.SplitLaws.{split_last, split_before}

-- ---- bad, by the test and as told

-- the variables of a list count from 1
abbrev FromOne : List Assumption → Type 0
FromOne us = Every (λ u. 1 ≤ u.variable) us

-- a variable that the literals name is one of the list's
named_some : (us : List Assumption) (s : ℕ) → FromOne us → 1 ≤ s → names (map literal_of us) (s - 1) ≡ true
    → (w : Assumption) × Memᴰ w us × (w.variable ≡ s)
unfolding names
named_some [] s o h e = bool_clash {x = true} refl (sym e)
named_some (u ∷ us) s o h e =
    ⊎_elim
    (λ q. let k = eqb-true (u.variable - 1) (s - 1) q in let l = o.0 in (u, Memᴰ.head refl, omega arith))
    (λ q. let w = named_some us s o.1 h q in (w.0, Memᴰ.tail w.1, w.2))
    (or_cases (eqb (u.variable - 1) (s - 1)) (names (map literal_of us) (s - 1)) e)

-- and the literals name the list's
some_named : (us : List Assumption) (w : Assumption) → Memᴰ w us → names (map literal_of us) (w.variable - 1) ≡ true
unfolding names
some_named [] w m = absurd (Memᴰ.not-nil m)
some_named (u ∷ us) w m =
    ⊎_elim
    (λ (q : w ≡ u). or_left (eqb (u.variable - 1) (w.variable - 1)) _ (eq-eqb (u.variable - 1) (w.variable - 1) (rw q)))
    (λ (q : Memᴰ w us). or_right (eqb (u.variable - 1) (w.variable - 1)) _ (some_named us w q))
    (Memᴰ.cases_cons m)

module _ (n : ℕ) (us : List Assumption) (u : Assumption) where
  tested_bad : FromOne us → is_bad n (map literal_of us) u ≡ true → Bad n us u
  unfolding is_bad
  tested_bad o e = go (eqb u.variable 0) refl e
    where
      go : (t : Bool) → eqb u.variable 0 ≡ t → t || (ltb n u.variable || names (map literal_of us) (u.variable - 1)) ≡ true → Bad n us u
      go true z q = inl (eqb-true u.variable 0 z)
      go false z q =
          let k = eqb-false u.variable 0 z in
          ⊎_elim
          (λ l. inr (inl (ltb-true n u.variable l)))
          (λ l. inr (inr (named_some us u.variable o (omega (arith, k)) l)))
          (or_cases (ltb n u.variable) (names (map literal_of us) (u.variable - 1)) q)

  bad_tested : Bad n us u → is_bad n (map literal_of us) u ≡ true
  unfolding is_bad
  bad_tested (inl z) = or_left _ _ (eq-eqb u.variable 0 z)
  bad_tested (inr (inl l)) = or_right (eqb u.variable 0) _ (or_left _ _ (lt-ltb n u.variable l))
  bad_tested (inr (inr w)) =
      or_right (eqb u.variable 0) _ (or_right (ltb n u.variable) _ (rw w.2 at (some_named us w.0 w.1)))

-- ---- a list of which none is bad

pub record Good (n : ℕ) (us : List Assumption) : Type 0 where
  pub none : NoneBad n us
  pub from_one : FromOne us
  pub over : ClauseOver n (map literal_of us)

good_none : (n : ℕ) → Good n []
good_none n = record {
  none = λ p u q e b. omega (arith, ap length e, length-append p (u ∷ q));
  from_one = tt;
  over = over_none;
}

-- and one more that is not
none_more : (n : ℕ) (us : List Assumption) (u : Assumption) → NoneBad n us → (Bad n us u → ⊥) → NoneBad n (us ++ (u ∷ []))
none_more n us u none not_bad p v q e b = go (split_last us u p v q e)
  where
    go : ((p ≡ us) × (v ≡ u)) ⊎ ((d : List Assumption) × (us ≡ p ++ (v ∷ d))) → ⊥
    go (inl w) = not_bad (rw (← w.0, ← w.1) b)
    go (inr w) = none p v w.0 w.1 b

good_more : (n : ℕ) (us : List Assumption) (u : Assumption) → Good n us → is_bad n (map literal_of us) u ≡ false → Good n (us ++ (u ∷ []))
unfolding is_bad
good_more n us u g e =
    let a = or-none (eqb u.variable 0) (ltb n u.variable || names (map literal_of us) (u.variable - 1)) e in
    let b = or-none (ltb n u.variable) (names (map literal_of us) (u.variable - 1)) a.1 in
    let z = eqb-false u.variable 0 a.0 in
    let l = ltb-false n u.variable b.0 in
    let h : 1 ≤ u.variable = omega (arith, z) in
    let k : u.variable - 1 < n = omega arith in
    record {
      none = none_more n us u g.none (λ q. bool_clash (bad_tested n us u q) e);
      from_one = every_append (λ w. 1 ≤ w.variable) us (u ∷ []) g.from_one (h, tt);
      over = rw map-append (clause_more (literal_of u) g.over k b.1);
    }

-- it has n assumptions at most
good_le : {n : ℕ} {us : List Assumption} → Good n us → length us ≤ n
good_le {n} {us} g = omega (arith, clause_le g.over, length-map us literal_of)

-- ---- what reading gives

-- what is told of a list that is read so
abbrev Means : ℕ → List Assumption → Assumed → Type 0
Means n us (literals t) = (t ≡ map literal_of us) × Good n us
Means n us (bad i) = FirstBad n us i × (i ≤ n)

means_from : (n : ℕ) (p us : List Assumption) → Good n p → Means n (p ++ us) (assumed_from n (length p) (map literal_of p) us)
unfolding assumed_from
means_from n p [] g = rw append-nil (refl, g)
means_from n p (u ∷ us) g = go (is_bad n (map literal_of p) u) refl (λ h. means_from n (p ++ (u ∷ [])) us h)
  where
    go : (b : Bool) → is_bad n (map literal_of p) u ≡ b
        → (Good n (p ++ (u ∷ [])) → Means n ((p ++ (u ∷ [])) ++ us) (assumed_from n (length (p ++ (u ∷ []))) (map literal_of (p ++ (u ∷ []))) us))
        → Means n (p ++ (u ∷ us)) (cond b (bad (length p)) (assumed_from n (suc (length p)) (map literal_of p ++ (literal_of u ∷ [])) us))
    go true e ih = (
      record { before = p; at = u; after = us; split = refl; place = refl; bad = tested_bad n p u g.from_one e; none_before = g.none },
      good_le g,
    )
    go false e ih =
        let l : length (p ++ (u ∷ [])) ≡ suc (length p) = length-append p (u ∷ []) ∙ omega arith in
        rw (append_snoc, l, map-append) at (ih (good_more n p u g e))

means : (n : ℕ) (us : List Assumption) → Means n us (assumed n us)
unfolding assumed
means n us = means_from n [] us (good_none n)

-- so it is of the one outcome, whichever
means_of : (n : ℕ) (us : List Assumption) (a : Assumed) → assumed n us ≡ a → Means n us a
means_of n us a e = subst (Means n us) e (means n us)

-- ---- the first bad one

-- it is bad, so not none is
first_some : {n : ℕ} {us : List Assumption} {i : ℕ} → FirstBad n us i → NoneBad n us → ⊥
first_some f none = none f.before f.at f.after f.split f.bad

-- none stands before it
first_least : {n : ℕ} {us : List Assumption} {i j : ℕ} → FirstBad n us i → FirstBad n us j → i < j → ⊥
first_least f g h =
    let a = f.place in
    let b = g.place in
    let w = split_before f.before f.at f.after g.before g.at g.after (sym f.split ∙ g.split) (omega arith) in
    g.none_before f.before f.at w.0 w.1 f.bad

first_one : {n : ℕ} {us : List Assumption} {i j : ℕ} → FirstBad n us i → FirstBad n us j → i ≡ j
first_one {n} {us} {i} {j} f g =
    let h = first_least f g in
    let k = first_least g f in
    omega (arith, h, k)

-- ---- both ways

module _ (n : ℕ) (us : List Assumption) where
  pub bad_first : (i : ℕ) → assumed n us ≡ bad i → FirstBad n us i
  bad_first i e = (means_of n us (bad i) e).0

  pub first_bad : (i : ℕ) → FirstBad n us i → assumed n us ≡ bad i
  first_bad i f = go (assumed n us) refl
    where
      go : (a : Assumed) → assumed n us ≡ a → a ≡ bad i
      go (literals t) e = absurd (first_some f (means_of n us (literals t) e).1.none)
      go (bad j) e = ap bad (first_one (bad_first j e) f)

  pub literals_good : (t : List Literal) → assumed n us ≡ literals t → Good n us
  literals_good t e = (means_of n us (literals t) e).1

  pub literals_all : (t : List Literal) → assumed n us ≡ literals t → t ≡ map literal_of us
  literals_all t e = (means_of n us (literals t) e).0

  pub none_literals : NoneBad n us → assumed n us ≡ literals (map literal_of us)
  none_literals none = go (assumed n us) refl
    where
      go : (a : Assumed) → assumed n us ≡ a → a ≡ literals (map literal_of us)
      go (literals t) e = ap literals (literals_all t e)
      go (bad i) e = absurd (first_some (bad_first i e) none)

  -- the literals are a clause over n variables
  pub literals_clause : (t : List Literal) → assumed n us ≡ literals t → ClauseOver n t
  literals_clause t e = rw (literals_all t e) (literals_good t e).over

  -- a list of more than n has a bad one among its first n + 1
  pub more_bad : n < length us → (i : ℕ) × (i ≤ n) × (assumed n us ≡ bad i)
  more_bad h = go (assumed n us) refl
    where
      go : (a : Assumed) → assumed n us ≡ a → (i : ℕ) × (i ≤ n) × (a ≡ bad i)
      go (literals t) e = absurd (omega (arith, good_le (literals_good t e)))
      go (bad i) e = (i, (means_of n us (bad i) e).1, refl)
