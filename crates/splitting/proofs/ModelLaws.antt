-- Laws of satisfying assignments: what assigning, stripping and matching do to them, and models as masks.
use Prim.Native.Nat.{ℕ, zero, suc, ◌-◌, ◌≤◌, ◌<◌}
use mathlib.Core.Path.{◌≡◌, refl, sym, ◌∙◌, ap, subst}
use mathlib.Core.Bool.{Bool, true, false, not, cond}
use mathlib.Core.List.Memᴰ
use mathlib.Core.List.{List, [], ◌∷◌, map, Memᴰ}
use mathlib.Core.Logic.{⊎_elim}
use native.Mathlib.Omega.{arith}
use lib.ListN.{length, get_or, length-map}
use lib.Dec.{eqb}
use borrow.Author.Tests.{eq-eqb, ne_eqb}
use Rattle.lists.proofs.TestLaws.{both_signs, bool_cases, bool_clash, or_left, or_right}
use Rattle.lists.proofs.SublistLaws.{element_place}
use Rattle.masks.specs.Mask.{bit, with}
use Rattle.masks.proofs.BitLaws.{bit-none, bit-with-same, bit-with_other}
use Rattle.matching.specs.InnerMatched.{Matched}
use Rattle.matching.specs.Search.{owner}
use Rattle.matching.proofs.Counting.{below_cases}
use Rattle.matching.proofs.OwnerLaws.{owner_is}
use Rattle.formula.specs.Format.{Literal, names, names_as, distinct}
use Rattle.formula.specs.Models.{Model}
use Rattle.formula.specs.Masked.{variables}
use Rattle.formula.proofs.ClauseLaws.{named_as}
use Rattle.formula.proofs.FormatLaws.{distinct_rest}
use Rattle.splitting.specs.Nodes.{less, assign, remaining, occurs, named}
use Rattle.splitting.specs.Stripping.{not_naming, stripped}
use Rattle.splitting.specs.Terms.{Below, Agrees}
use Rattle.splitting.proofs.ClauseLaws.{literal_names, names_literal, names_some, less_of, less_other, occurs_in, named_in, pure_ways}
use Rattle.splitting.proofs.StrippingLaws.{not_naming_in, strip_ind}
use Rattle.splitting.proofs.NodeLaws.{assign_in, assign_of, named-remaining}
use Rattle.splitting.proofs.MatchedLaws.{matches_names}

-- every clause has a variable standing the way that the clause names it
abbrev pub Satisfies : (ℕ → Bool) → List (List Literal) → Type 0
Satisfies a cs = (c : List Literal) → Memᴰ c cs → (v : ℕ) × (names_as c v (a v) ≡ true)

-- ── Assigning ────────────────────────────────────────────────────────────────────────────────────────────────────────

-- what satisfies the clauses satisfies what an assignment leaves of them, if it has the value
pub satisfies_assign : (a : ℕ → Bool) (v : ℕ) (b : Bool) (cs : List (List Literal)) → Satisfies a cs → a v ≡ b → Satisfies a (assign v b cs)
satisfies_assign a v b cs sat e d m =
    let c = assign_of v b cs d m in
    let w = sat c.0 c.1 in
    let ne : w.0 ≡ v → ⊥ = λ q. bool_clash (subst (λ s. names_as c.0 v s ≡ true) e (subst (λ x. names_as c.0 x (a x) ≡ true) q w.1)) c.3 in
    (w.0, subst (λ (k : List Literal). names_as k w.0 (a w.0) ≡ true) (sym c.2) (less_other v c.0 w.0 (a w.0) ne ∙ w.1))

-- and the other way round
assign_satisfies : (a : ℕ → Bool) (v : ℕ) (b : Bool) (cs : List (List Literal)) → Satisfies a (assign v b cs) → a v ≡ b → Satisfies a cs
assign_satisfies a v b cs sat e c m =
    ⊎_elim
    (λ (h : names_as c v b ≡ true). (v, rw e h))
    (λ (f : names_as c v b ≡ false).
    let w = sat (less v c) (assign_in v b cs c m f) in
    (w.0, (less_of v c w.0 (a w.0) w.1).0))
    (bool_cases (names_as c v b))

-- and what a trail leaves of them, if it agrees with the trail
pub satisfies_remaining : (a : ℕ → Bool) (t : List Literal) (cs : List (List Literal)) → Satisfies a cs → Agrees a t → Satisfies a (remaining t cs)
unfolding remaining
satisfies_remaining a [] cs sat g = sat
satisfies_remaining a (l ∷ t) cs sat g =
    satisfies_remaining a t (assign l.variable l.positive cs) (satisfies_assign a l.variable l.positive cs sat (g l (Memᴰ.head refl)))
    (λ k m. g k (Memᴰ.tail m))

-- and the other way round
pub remaining_satisfies : (a : ℕ → Bool) (t : List Literal) (cs : List (List Literal)) → Satisfies a (remaining t cs) → Agrees a t → Satisfies a cs
unfolding remaining
remaining_satisfies a [] cs sat g = sat
remaining_satisfies a (l ∷ t) cs sat g =
    assign_satisfies a l.variable l.positive cs
    (remaining_satisfies a t (assign l.variable l.positive cs) sat (λ k m. g k (Memᴰ.tail m)))
    (g l (Memᴰ.head refl))

-- only the named variables matter
pub satisfies_same : (a b : ℕ → Bool) (cs : List (List Literal)) → ((v : ℕ) → named cs v ≡ true → a v ≡ b v) → Satisfies a cs → Satisfies b cs
satisfies_same a b cs same sat c m =
    let w = sat c m in
    (w.0, subst (λ s. names_as c w.0 s ≡ true) (same w.0 (named_in cs w.0 (a w.0) (occurs_in cs c w.0 (a w.0) m w.1))) w.1)

-- the trail's values, and a elsewhere
unfoldable pub under : List Literal → (ℕ → Bool) → ℕ → Bool
under [] a v = a v
under (l ∷ t) a v = cond (eqb l.variable v) l.positive (under t a v)

-- other variables stay as they are
pub under_other : (t : List Literal) (a : ℕ → Bool) (v : ℕ) → names t v ≡ false → under t a v ≡ a v
unfolding under names
under_other [] a v f = refl
under_other (l ∷ t) a v f =
    ⊎_elim
    (λ (h : eqb l.variable v ≡ true). bool_clash (or_left (eqb l.variable v) (names t v) h) f)
    (λ (h : eqb l.variable v ≡ false).
    rw h (under_other t a v (⊎_elim (λ k. bool_clash (or_right (eqb l.variable v) (names t v) k) f) (λ k. k) (bool_cases (names t v)))))
    (bool_cases (eqb l.variable v))

-- it agrees with the trail
pub under_agrees : (t : List Literal) (a : ℕ → Bool) → distinct t ≡ true → Agrees (under t a) t
unfolding under
under_agrees [] a d l m = absurd (Memᴰ.not-nil m)
under_agrees (k ∷ t) a d l m =
    ⊎_elim
    (λ (e : l ≡ k). rw (e, eq-eqb k.variable k.variable refl))
    (λ more.
    let r = distinct_rest k t d in
    let ne : k.variable ≡ l.variable → ⊥ =
    λ q. bool_clash (named_as t l.variable l.positive (literal_names t l more)) (subst (λ v. names t v ≡ false) q r.0) in
    rw (ne_eqb k.variable l.variable ne) (under_agrees t a r.1 l more))
    (Memᴰ.cases_cons m)

-- what satisfies the clauses of a node gives what satisfies the formula and agrees with the trail
pub under_satisfies : (a : ℕ → Bool) (t : List Literal) (cs : List (List Literal)) → distinct t ≡ true → Satisfies a (remaining t cs) → Satisfies (under t a) cs
under_satisfies a t cs d sat =
    remaining_satisfies (under t a) t cs
    (satisfies_same a (under t a) (remaining t cs) (λ v h. sym (under_other t a v (named-remaining t cs v h).1)) sat)
    (under_agrees t a d)

-- v with the value b, and a elsewhere
abbrev pub given : ℕ → Bool → List Literal
given v b = record { variable = v; positive = b } ∷ []

-- v has the value
pub given_same : (v : ℕ) (b : Bool) (a : ℕ → Bool) → under (given v b) a v ≡ b
unfolding under
given_same v b a = rw (eq-eqb v v refl)

given_other : (v : ℕ) (b : Bool) (a : ℕ → Bool) (w : ℕ) → (w ≡ v → ⊥) → under (given v b) a w ≡ a w
unfolding under
given_other v b a w ne = rw (ne_eqb v w (λ e. ne (sym e)))

-- ── Stripping ────────────────────────────────────────────────────────────────────────────────────────────────────────

-- a pure variable gets the value that it is named with
pure_satisfies : (cs : List (List Literal)) (x : ℕ) (s : Bool) (a : ℕ → Bool) → occurs cs x (not s) ≡ false → Satisfies a (not_naming x cs) → Satisfies (under (given x s) a) cs
pure_satisfies cs x s a off sat c m =
    ⊎_elim
    (λ (h : names_as c x s ≡ true). (x, rw (given_same x s a) h))
    (λ (f : names_as c x s ≡ false).
    let g : names_as c x (not s) ≡ false = ⊎_elim (λ t. bool_clash (occurs_in cs c x (not s) m t) off) (λ e. e) (bool_cases (names_as c x (not s))) in
    let none = both_signs (λ u. names_as c x u ≡ false) s f g in
    let w = sat c (not_naming_in x cs c m (⊎_elim (λ t. let k = names_some c x t in bool_clash k.1 (none k.0)) (λ e. e) (bool_cases (names c x)))) in
    let ne : w.0 ≡ x → ⊥ = λ q. bool_clash (subst (λ v. names_as c v (a v) ≡ true) q w.1) (none (a x)) in
    (w.0, rw (given_other x s a w.0 ne) w.1))
    (bool_cases (names_as c x s))

-- what satisfies the clauses that are left gives what satisfies all
pub left_satisfies : (n : ℕ) (a : ℕ → Bool) (cs : List (List Literal)) → Satisfies a (stripped n cs).left → (b : ℕ → Bool) × Satisfies b cs
left_satisfies n a =
    strip_ind n (λ cs l left. Satisfies a left → (b : ℕ → Bool) × Satisfies b cs)
    (λ cs _ sat. (a, sat))
    (λ cs left l x _ p rec sat.
    let w = rec sat in
    let s = pure_ways cs x p in
    (under (given x s.0) w.0, pure_satisfies cs x s.0 w.0 s.2 w.1))

-- ── Matchings ────────────────────────────────────────────────────────────────────────────────────────────────────────

-- matched clauses can be satisfied: each by its own variable
pub matched_satisfies : (cs : List (List Literal)) → Matched (map variables cs) → (a : ℕ → Bool) × Satisfies a cs
matched_satisfies cs (vs, M) = (λ x. names_as (get_or cs (owner vs x - 1) []) x true, λ c m. let p = element_place cs c [] m in here c p.0 p.1 p.2)
  where
    owned : (i : ℕ) → i < length cs → owner vs (get_or vs i 0) - 1 ≡ i
    owned i l =
        let h = length-map cs variables in
        let e = owner_is vs (get_or vs i 0) i
        (λ j k u w. M.distinct j k (omega (arith, M.one_each)) (omega (arith, M.one_each)))
        (omega (arith, M.one_each)) refl in
        omega arith

    here : (c : List Literal) (i : ℕ) → i < length cs → get_or cs i [] ≡ c → (v : ℕ) × (names_as c v (names_as (get_or cs (owner vs v - 1) []) v true) ≡ true)
    here c i l e =
        let v = get_or vs i 0 in
        let w = names_some c v (subst (λ (d : List Literal). names d v ≡ true) e (matches_names cs vs M i l)) in
        let q : names_as (get_or cs (owner vs v - 1) []) v true ≡ names_as c v true =
        ap (λ k. names_as (get_or cs k []) v true) (owned i l) ∙ ap (λ (d : List Literal). names_as d v true) e in
        (v, subst (λ s. names_as c v s ≡ true) (sym q) (own c v w.0 w.1))
      where
        own : (c : List Literal) (v : ℕ) (s : Bool) → names_as c v s ≡ true → names_as c v (names_as c v true) ≡ true
        own c v true t = rw t t
        own c v false t =
            ⊎_elim (λ (h : names_as c v true ≡ true). rw h h) (λ (f : names_as c v true ≡ false). rw f t) (bool_cases (names_as c v true))

-- ── Models ───────────────────────────────────────────────────────────────────────────────────────────────────────────

-- the mask of the variables below n that a makes true
unfoldable pub mask : ℕ → (ℕ → Bool) → ℕ
mask zero a = 0
mask (suc n) a = cond (a n) (with (mask n a) n) (mask n a)

-- it has none from n on
pub mask_above : (n : ℕ) (a : ℕ → Bool) (v : ℕ) → n ≤ v → bit (mask n a) v ≡ false
unfolding mask
mask_above zero a v l = bit-none v
mask_above (suc n) a v l = go (a n) (mask_above n a v (omega arith))
  where
    go : (b : Bool) → bit (mask n a) v ≡ false → bit (cond b (with (mask n a) n) (mask n a)) v ≡ false
    go true e = bit-with_other (mask n a) n v (λ e. omega arith) ∙ e
    go false e = e

-- the mask says what a says
pub mask_below : (n : ℕ) (a : ℕ → Bool) (v : ℕ) → v < n → bit (mask n a) v ≡ a v
unfolding mask
mask_below zero a v l = absurd (omega arith)
mask_below (suc n) a v l =
    ⊎_elim (λ (e : v ≡ n). rw e (here (a n) refl)) (λ (k : v < n). there (a n) (omega arith) (mask_below n a v k)) (below_cases l)
  where
    here : (b : Bool) → a n ≡ b → bit (cond b (with (mask n a) n) (mask n a)) n ≡ a n
    here true e = bit-with-same (mask n a) n ∙ sym e
    here false e = mask_above n a n (omega arith) ∙ sym e

    there : (b : Bool) → v < n → bit (mask n a) v ≡ a v → bit (cond b (with (mask n a) n) (mask n a)) v ≡ a v
    there true k e = bit-with_other (mask n a) n v (λ q. omega arith) ∙ e
    there false k e = e

-- it is a model if it satisfies the clauses
pub mask_model : (n : ℕ) (a : ℕ → Bool) (cs : List (List Literal)) → Below n cs → Satisfies a cs → Model n cs (mask n a)
mask_model n a cs low sat = record {
  satisfies = λ c m.
      let w = sat c m in
      let l = names_literal c w.0 (a w.0) w.1 in
      let k = low w.0 (named_in cs w.0 (a w.0) (occurs_in cs c w.0 (a w.0) m w.1)) in
      (l.0, l.1, ap (bit (mask n a)) l.2 ∙ mask_below n a w.0 k ∙ sym l.3);
  none_above = λ v h. mask_above n a v h;
}

-- a model satisfies the clauses
pub model_satisfies : (n : ℕ) (cs : List (List Literal)) (a : ℕ) → Model n cs a → Satisfies (bit a) cs
model_satisfies n cs a M c m =
    let l = M.satisfies c m in
    (l.0.variable, subst (λ s. names_as c l.0.variable s ≡ true) (sym l.2) (literal_names c l.0 l.1))

-- and the other way round
pub satisfies_model : (n : ℕ) (cs : List (List Literal)) (a : ℕ) → Satisfies (bit a) cs → ((v : ℕ) → n ≤ v → bit a v ≡ false) → Model n cs a
satisfies_model n cs a sat none = record {
  satisfies = λ c m.
      let w = sat c m in
      let l = names_literal c w.0 (bit a w.0) w.1 in
      (l.0, l.1, ap (bit a) l.2 ∙ sym l.3);
  none_above = none;
}
