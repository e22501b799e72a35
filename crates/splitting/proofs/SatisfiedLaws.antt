-- What remains at the node of a trail, clause by clause: a clause that the trail satisfies is gone, another loses the trail's variables.
use Prim.Native.Nat.{ℕ, ◌<◌}
use mathlib.Core.Path.{◌≡◌, refl, sym, ◌∙◌, ap}
use mathlib.Core.Bool.{Bool, true, false, cond, not, ◌&&◌, ◌||◌, or_assoc, or-false}
use mathlib.Core.List.{List, [], ◌∷◌, ◌++◌, Memᴰ}
use lib.Dec.{eqb}
use borrow.Author.Tests.{eq-eqb, ne_eqb}
use Rattle.lists.proofs.TestLaws.{bool_clash, or-none}
use Rattle.lists.specs.Every.{Every}
use Rattle.formula.specs.Format.{Literal, names, names_as, distinct, ClauseOver}
use Rattle.formula.specs.InnerMasked.{clause_of}
use Rattle.formula.proofs.ClauseLaws.{clause_side, named_as}
use Rattle.formula.proofs.FormatLaws.{distinct_rest}
use Rattle.formula.specs.declared.assignment.Assignment.{Assignment}
use Rattle.splitting.specs.Nodes.{less, assign, remaining, satisfied_by}
use Rattle.formula.specs.InnerAssignment.{satisfied_under, unassigned, set_to}
use Rattle.splitting.specs.InnerChoose.{assign_all, assignment_of}
use Rattle.splitting.proofs.ClauseLaws.{less_other, less_of, names_some}
use Rattle.splitting.proofs.NodeLaws.{assign_in}
use Rattle.splitting.proofs.MaskNodeLaws.{meets-none, satisfied_more}

-- the clause less the variables of a trail
unfoldable pub less_all : List Literal → List Literal → List Literal
less_all [] c = c
less_all (l ∷ t) c = less_all t (less l.variable c)

-- it names what the clause names and the trail does not
pub less_all_names : (t c : List Literal) (v : ℕ) → names (less_all t c) v ≡ true → (names c v ≡ true) × (names t v ≡ false)
unfolding less_all names
less_all_names [] c v h = (h, refl)
less_all_names (l ∷ t) c v h =
    let r = less_all_names t (less l.variable c) v h in
    let s = names_some (less l.variable c) v r.0 in
    let w = less_of l.variable c v s.0 s.1 in
    (named_as c v s.0 w.0, rw (ne_eqb l.variable v (λ q. w.1 (sym q))) r.1)

-- variables that the trail does not have it names as the clause does
pub less_all_other : (t c : List Literal) (v : ℕ) (sign : Bool) → names t v ≡ false → names_as (less_all t c) v sign ≡ names_as c v sign
unfolding less_all names
less_all_other [] c v sign f = refl
less_all_other (l ∷ t) c v sign f =
    let w = or-none (eqb l.variable v) (names t v) f in
    less_all_other t (less l.variable c) v sign w.1 ∙ less_other l.variable c v sign (λ q. bool_clash (eq-eqb l.variable v (sym q)) w.0)

-- a variable less does not change whether a trail without it satisfies the clause
satisfied_less : (x : ℕ) (t c : List Literal) → names t x ≡ false → satisfied_by t (less x c) ≡ satisfied_by t c
unfolding satisfied_by names
satisfied_less x [] c f = refl
satisfied_less x (l ∷ t) c f =
    let w = or-none (eqb l.variable x) (names t x) f in
    rw (satisfied_less x t c w.1, less_other x c l.variable l.positive (λ q. bool_clash (eq-eqb l.variable x q) w.0))

-- so it names exactly what the clause names and the trail does not
pub less_all_named : (t c : List Literal) (v : ℕ) → names (less_all t c) v ≡ names c v && not (names t v)
less_all_named t c v = at (names (less_all t c) v) (names c v) (names t v) refl refl refl
  where
    at : (x y z : Bool) → names (less_all t c) v ≡ x → names c v ≡ y → names t v ≡ z → x ≡ y && not z
    at true y z e f g = let w = less_all_names t c v e in sym (rw (← f, ← g, w.0, w.1) refl)
    at false true true e f g = refl
    at false false z e f g = refl
    at false true false e f g =
        let w = names_some c v f in
        bool_clash (named_as (less_all t c) v w.0 (less_all_other t c v w.0 g ∙ w.1)) e

-- a literal more
pub satisfied_snoc : (t : List Literal) (l : Literal) (c : List Literal) → satisfied_by (t ++ (l ∷ [])) c ≡ satisfied_by t c || names_as c l.variable l.positive
unfolding satisfied_by
satisfied_snoc [] l c = or-false (names_as c l.variable l.positive)
satisfied_snoc (k ∷ t) l c =
    ap (λ (b : Bool). names_as c k.variable k.positive || b) (satisfied_snoc t l c)
    ∙ sym (or_assoc (names_as c k.variable k.positive) (satisfied_by t c) (names_as c l.variable l.positive))

-- a clause that the trail does not satisfy leaves what is left of it
pub remaining_in : (t c : List Literal) (cs : List (List Literal)) → distinct t ≡ true → Memᴰ c cs → satisfied_by t c ≡ false → Memᴰ (less_all t c) (remaining t cs)
unfolding remaining satisfied_by less_all
remaining_in [] c cs d m f = m
remaining_in (l ∷ t) c cs d m f =
    let r = distinct_rest l t d in
    let w = or-none (names_as c l.variable l.positive) (satisfied_by t c) f in
    remaining_in t (less l.variable c) (assign l.variable l.positive cs) r.1 (assign_in l.variable l.positive cs c m w.0)
    (satisfied_less l.variable t c r.0 ∙ w.1)

-- one clause more
pub remaining_cons : (t c : List Literal) (cs : List (List Literal)) → distinct t ≡ true
    → remaining t (c ∷ cs) ≡ cond (satisfied_by t c) (remaining t cs) (less_all t c ∷ remaining t cs)
unfolding remaining satisfied_by less_all assign
remaining_cons [] c cs d = refl
remaining_cons (l ∷ t) c cs d = go (remaining_cons t (less l.variable c) (assign l.variable l.positive cs) (distinct_rest l t d).1) (names_as c l.variable l.positive)
  where
    later : List (List Literal)
    later = assign l.variable l.positive cs

    go : remaining t (less l.variable c ∷ later) ≡ cond (satisfied_by t (less l.variable c)) (remaining t later) (less_all t (less l.variable c) ∷ remaining t later)
        → (b : Bool)
        → remaining t (cond b later (less l.variable c ∷ later))
        ≡ cond (b || satisfied_by t c) (remaining t later) (less_all t (less l.variable c) ∷ remaining t later)
    go rec true = refl
    go rec false = rw (← (satisfied_less l.variable t c (distinct_rest l t d).0)) rec

-- the same over masks
satisfied_all : (t : List Literal) (a : Assignment) (c : List Literal)
    → satisfied_under (assign_all a t) (clause_of c) ≡ satisfied_under a (clause_of c) || satisfied_by t c
unfolding assign_all satisfied_by
satisfied_all [] a c = sym (or-false (satisfied_under a (clause_of c)))
satisfied_all (l ∷ t) a c =
    satisfied_all t (set_to a l.variable l.positive) c
    ∙ ap (λ (x : Bool). x || satisfied_by t c) (satisfied_more a (clause_of c) l.variable l.positive ∙ ap (λ (x : Bool). satisfied_under a (clause_of c) || x) (clause_side c l.positive l.variable))
    ∙ or_assoc (satisfied_under a (clause_of c)) (names_as c l.variable l.positive) (satisfied_by t c)

pub satisfied_masks : (t c : List Literal) → satisfied_under (assignment_of t) (clause_of c) ≡ satisfied_by t c
satisfied_masks t c = satisfied_all t unassigned c ∙ rw (meets-none (clause_of c).positive, meets-none (clause_of c).negative)

-- what remains of clauses over n variables are such clauses
less_every : (P : Literal → Type 0) (x : ℕ) (c : List Literal) → Every P c → Every P (less x c)
unfolding less
less_every P x [] h = tt
less_every P x (l ∷ c) h = go (less_every P x c h.1) (eqb l.variable x)
  where
    go : Every P (less x c) → (b : Bool) → Every P (cond b (less x c) (l ∷ less x c))
    go rec true = rec
    go rec false = (h.0, rec)

less_unnamed : (x : ℕ) (c : List Literal) (v : ℕ) → names c v ≡ false → names (less x c) v ≡ false
less_unnamed x c v f = go (names (less x c) v) refl
  where
    go : (b : Bool) → names (less x c) v ≡ b → b ≡ false
    go true e =
        let s = names_some (less x c) v e in
        bool_clash (named_as c v s.0 (less_of x c v s.0 s.1).0) f
    go false e = refl

less_once : (x : ℕ) (c : List Literal) → distinct c ≡ true → distinct (less x c) ≡ true
unfolding less distinct
less_once x [] d = refl
less_once x (l ∷ c) d = go (less_once x c (distinct_rest l c d).1) (eqb l.variable x)
  where
    go : distinct (less x c) ≡ true → (b : Bool) → distinct (cond b (less x c) (l ∷ less x c)) ≡ true
    go rec true = rec
    go rec false = rw (less_unnamed x c l.variable (distinct_rest l c d).0) rec

less_over : (n x : ℕ) (c : List Literal) → ClauseOver n c → ClauseOver n (less x c)
less_over n x c w = record { below = less_every (λ l. l.variable < n) x c w.below; once = less_once x c w.once }

assign_over : (n v : ℕ) (b : Bool) (cs : List (List Literal)) → Every (ClauseOver n) cs → Every (ClauseOver n) (assign v b cs)
unfolding assign
assign_over n v b [] h = tt
assign_over n v b (c ∷ cs) h = go (assign_over n v b cs h.1) (names_as c v b)
  where
    go : Every (ClauseOver n) (assign v b cs) → (t : Bool) → Every (ClauseOver n) (cond t (assign v b cs) (less v c ∷ assign v b cs))
    go rec true = rec
    go rec false = (less_over n v c h.0, rec)

pub remaining-over : (n : ℕ) (t : List Literal) (cs : List (List Literal)) → Every (ClauseOver n) cs → Every (ClauseOver n) (remaining t cs)
unfolding remaining
remaining-over n [] cs h = h
remaining-over n (l ∷ t) cs h = remaining-over n t (assign l.variable l.positive cs) (assign_over n l.variable l.positive cs h)
