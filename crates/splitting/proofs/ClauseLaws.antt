-- Laws of what clauses name: one clause, a list of clauses, and a clause less a variable.
use Prim.Native.Nat.{ℕ}
use mathlib.Core.Path.{◌≡◌, refl, sym, ◌∙◌, subst}
use mathlib.Core.Bool.{Bool, true, false, not, ◌&&◌, xor, beq, ◌||◌}
use mathlib.Core.List.Memᴰ
use mathlib.Core.List.{List, [], ◌∷◌, ◌++◌, map, Memᴰ}
use mathlib.Core.Logic.{⊎_elim}
use lib.Dec.{eqb}
use borrow.Author.Tests.{eqb-true, ne_eqb}
use Rattle.lists.proofs.TestLaws.{and_left, and_right, or_cases, bool_cases, bool_clash, or-none, or_left, or_right, signs_equal}
use Rattle.lists.proofs.SublistLaws.{Within}
use Rattle.formula.specs.Format.{Literal, names, names_as}
use Rattle.formula.proofs.FormatLaws.{names_either, names_own}
use Rattle.splitting.specs.Nodes.{less, occurs, named}
use Rattle.splitting.specs.Stripping.{pure}

-- ── One clause ───────────────────────────────────────────────────────────────────────────────────────────────────────

-- a literal names its variable
pub literal_names : (c : List Literal) (l : Literal) → Memᴰ l c → names_as c l.variable l.positive ≡ true
unfolding names_as
literal_names [] l m = absurd (Memᴰ.not-nil m)
literal_names (k ∷ c) l m =
    ⊎_elim
    (λ (e : l ≡ k). rw e (names_own k c))
    (λ more. or_right (eqb k.variable l.variable && beq k.positive l.positive) (names_as c l.variable l.positive) (literal_names c l more))
    (Memᴰ.cases_cons m)

-- and a named variable has a literal
pub names_literal : (c : List Literal) (v : ℕ) (s : Bool) → names_as c v s ≡ true → (l : Literal) × Memᴰ l c × (l.variable ≡ v) × (l.positive ≡ s)
unfolding names_as
names_literal [] v s t = bool_clash t refl
names_literal (k ∷ c) v s t =
    ⊎_elim
    (λ h. (
      k,
      Memᴰ.head refl,
      eqb-true k.variable v (and_left (eqb k.variable v) (beq k.positive s) h),
      signs_equal k.positive s (and_right (eqb k.variable v) (beq k.positive s) h),
    ))
    (λ h. let w = names_literal c v s h in (w.0, Memᴰ.tail w.1, w.2, w.3))
    (or_cases (eqb k.variable v && beq k.positive s) (names_as c v s) t)

-- what is named is named one way
pub names_some : (c : List Literal) (v : ℕ) → names c v ≡ true → (s : Bool) × (names_as c v s ≡ true)
names_some c v t =
    ⊎_elim (λ h. (true, h)) (λ h. (false, h)) (or_cases (names_as c v true) (names_as c v false) (sym (names_either c v true) ∙ t))

-- not named is not named one way
pub names-none : (c : List Literal) (v : ℕ) → names c v ≡ false → (s : Bool) → names_as c v s ≡ false
names-none c v f s = (or-none (names_as c v s) (names_as c v (not s)) (sym (names_either c v s) ∙ f)).0

-- ── A clause less a variable ─────────────────────────────────────────────────────────────────────────────────────────

pub less_self : (x : ℕ) (c : List Literal) (s : Bool) → names_as (less x c) x s ≡ false
unfolding less names_as
less_self x [] s = refl
less_self x (l ∷ c) s =
    let r = less_self x c s in
    ⊎_elim (λ (t : eqb l.variable x ≡ true). rw t r) (λ (f : eqb l.variable x ≡ false). rw (f, f) r) (bool_cases (eqb l.variable x))

-- other variables stay as they are
pub less_other : (x : ℕ) (c : List Literal) (y : ℕ) (s : Bool) → (y ≡ x → ⊥) → names_as (less x c) y s ≡ names_as c y s
unfolding less names_as
less_other x [] y s ne = refl
less_other x (l ∷ c) y s ne =
    let r = less_other x c y s ne in
    ⊎_elim
    (λ (t : eqb l.variable x ≡ true). let e = ne_eqb l.variable y (λ q. ne (sym q ∙ eqb-true l.variable x t)) in rw (t, e) r)
    (λ (f : eqb l.variable x ≡ false). rw (f, r))
    (bool_cases (eqb l.variable x))

-- what the clause still names it named, and it is not x
pub less_of : (x : ℕ) (c : List Literal) (y : ℕ) (s : Bool) → names_as (less x c) y s ≡ true → (names_as c y s ≡ true) × (y ≡ x → ⊥)
less_of x c y s t =
    let ne : y ≡ x → ⊥ = λ e. bool_clash t (subst (λ z. names_as (less x c) z s ≡ false) (sym e) (less_self x c s)) in
    (sym (less_other x c y s ne) ∙ t, ne)

-- ── A list of clauses ────────────────────────────────────────────────────────────────────────────────────────────────

-- what occurs is named by some clause
pub occurs_some : (cs : List (List Literal)) (v : ℕ) (s : Bool) → occurs cs v s ≡ true → (c : List Literal) × Memᴰ c cs × (names_as c v s ≡ true)
unfolding occurs
occurs_some [] v s t = bool_clash t refl
occurs_some (c ∷ cs) v s t =
    ⊎_elim
    (λ h. (c, Memᴰ.head refl, h))
    (λ h. let w = occurs_some cs v s h in (w.0, Memᴰ.tail w.1, w.2))
    (or_cases (names_as c v s) (occurs cs v s) t)

-- what some clause names occurs
pub occurs_in : (cs : List (List Literal)) (c : List Literal) (v : ℕ) (s : Bool) → Memᴰ c cs → names_as c v s ≡ true → occurs cs v s ≡ true
unfolding occurs
occurs_in [] c v s m t = absurd (Memᴰ.not-nil m)
occurs_in (d ∷ cs) c v s m t =
    ⊎_elim
    (λ (e : c ≡ d). or_left (names_as d v s) (occurs cs v s) (rw e at t))
    (λ more. or_right (names_as d v s) (occurs cs v s) (occurs_in cs c v s more t))
    (Memᴰ.cases_cons m)

-- among the clauses of a list nothing else occurs
pub occurs_within : (ds cs : List (List Literal)) (v : ℕ) (s : Bool) → Within ds cs → occurs ds v s ≡ true → occurs cs v s ≡ true
occurs_within ds cs v s w t = let c = occurs_some ds v s t in occurs_in cs c.0 v s (w c.0 c.1) c.2

-- in two lists occurs what occurs in either
pub occurs-append : (ds cs : List (List Literal)) (v : ℕ) (s : Bool) → occurs (ds ++ cs) v s ≡ occurs ds v s || occurs cs v s
unfolding occurs
occurs-append [] cs v s = refl
occurs-append (d ∷ ds) cs v s = rw (occurs-append ds cs v s) (assoc (names_as d v s) (occurs ds v s) (occurs cs v s))
  where
    assoc : (a b c : Bool) → a || (b || c) ≡ (a || b) || c
    assoc true b c = refl
    assoc false b c = refl

-- where x is gone, other variables occur as before
pub occurs-less : (x : ℕ) (cs : List (List Literal)) (y : ℕ) (s : Bool) → (y ≡ x → ⊥) → occurs (map (less x) cs) y s ≡ occurs cs y s
unfolding occurs
occurs-less x [] y s ne = refl
occurs-less x (c ∷ cs) y s ne = rw (less_other x c y s ne, occurs-less x cs y s ne)

-- what is named occurs one way
pub named_some : (cs : List (List Literal)) (v : ℕ) → named cs v ≡ true → (s : Bool) × (occurs cs v s ≡ true)
unfolding named
named_some cs v t = ⊎_elim (λ h. (true, h)) (λ h. (false, h)) (or_cases (occurs cs v true) (occurs cs v false) t)

-- what occurs is named
pub named_in : (cs : List (List Literal)) (v : ℕ) (s : Bool) → occurs cs v s ≡ true → named cs v ≡ true
unfolding named
named_in cs v true t = or_left (occurs cs v true) (occurs cs v false) t
named_in cs v false t = or_right (occurs cs v true) (occurs cs v false) t

-- a clause of the list that names v makes it named
pub named_by : (cs : List (List Literal)) (c : List Literal) (v : ℕ) → Memᴰ c cs → names c v ≡ true → named cs v ≡ true
named_by cs c v m t = let w = names_some c v t in named_in cs v w.0 (occurs_in cs c v w.0 m w.1)

-- among the clauses of a list nothing else is named
pub named_within : (ds cs : List (List Literal)) (v : ℕ) → Within ds cs → named ds v ≡ true → named cs v ≡ true
named_within ds cs v w t = let s = named_some ds v t in named_in cs v s.0 (occurs_within ds cs v s.0 w s.1)

-- ── Pure variables ───────────────────────────────────────────────────────────────────────────────────────────────────

-- a variable that is not pure occurs both ways or not at all
pub not-pure : (cs : List (List Literal)) (v : ℕ) → pure cs v ≡ false → occurs cs v true ≡ occurs cs v false
unfolding pure xor
not-pure cs v f = same (occurs cs v true) (occurs cs v false) f
  where
    same : (a b : Bool) → xor a b ≡ false → a ≡ b
    same true true e = refl
    same true false e = bool_clash refl e
    same false true e = bool_clash refl e
    same false false e = refl

-- and such a one is not pure
pub pure-not : (cs : List (List Literal)) (v : ℕ) → occurs cs v true ≡ occurs cs v false → pure cs v ≡ false
unfolding pure xor
pure-not cs v e = apart (occurs cs v true) (occurs cs v false) e
  where
    apart : (a b : Bool) → a ≡ b → xor a b ≡ false
    apart true true e = refl
    apart true false e = e
    apart false true e = sym e
    apart false false e = refl

-- it occurs the other way if it occurs one way
pub other_way : (cs : List (List Literal)) (v : ℕ) → pure cs v ≡ false → (s t : Bool) → occurs cs v s ≡ true → occurs cs v t ≡ true
other_way cs v f true true h = h
other_way cs v f true false h = sym (not-pure cs v f) ∙ h
other_way cs v f false true h = not-pure cs v f ∙ h
other_way cs v f false false h = h

-- a pure variable occurs one way and not the other
pub pure_ways : (cs : List (List Literal)) (v : ℕ) → pure cs v ≡ true → (s : Bool) × (occurs cs v s ≡ true) × (occurs cs v (not s) ≡ false)
unfolding pure xor
pure_ways cs v t = ways (occurs cs v true) (occurs cs v false) refl refl t
  where
    ways : (a b : Bool) → occurs cs v true ≡ a → occurs cs v false ≡ b → xor a b ≡ true → (s : Bool) × (occurs cs v s ≡ true) × (occurs cs v (not s) ≡ false)
    ways true true p q e = bool_clash e refl
    ways true false p q e = (true, p, q)
    ways false true p q e = (false, q, p)
    ways false false p q e = bool_clash e refl

-- a pure variable is named
pub pure-named : (cs : List (List Literal)) (v : ℕ) → pure cs v ≡ true → named cs v ≡ true
pure-named cs v t = let w = pure_ways cs v t in named_in cs v w.0 w.1

-- where x is pure, a part in which it is not pure does not have it
pub outside : (ds cs : List (List Literal)) (x : ℕ) → ((s : Bool) → occurs ds x s ≡ true → occurs cs x s ≡ true) → pure ds x ≡ false → pure cs x ≡ true
    → (s : Bool) → occurs ds x s ≡ false
outside ds cs x sub f t s =
    let w = pure_ways cs x t in
    ⊎_elim (λ h. bool_clash (sub (not w.0) (other_way ds x f s (not w.0) h)) w.2) (λ e. e) (bool_cases (occurs ds x s))
