-- Laws of assigning a variable, and of the clauses that remain at the node of a trail.
use Prim.Native.Nat.{ℕ, suc, ◌≤◌, ◌<◌}
use mathlib.Core.Path.{◌≡◌, refl, sym, ◌∙◌, ap, subst}
use mathlib.Core.Bool.{Bool, true, false, cond}
use mathlib.Core.List.Memᴰ
use mathlib.Core.List.Sublistᴰ
use mathlib.Core.List.{List, [], ◌∷◌, ◌++◌, map, Memᴰ, Sublistᴰ}
use mathlib.Core.Logic.{◌⊎◌, inl, inr, ⊎_elim}
use native.Mathlib.Omega.{arith}
use lib.ListN.{length}
use borrow.Author.Tests.{ne_eqb}
use Rattle.lists.proofs.TestLaws.{bool_clash}
use Rattle.lists.specs.Every.{Every}
use Rattle.lists.proofs.EveryLaws.{every_element}
use Rattle.formula.specs.Format.{Literal, names, names_as, ClauseOver}
use Rattle.formula.proofs.ClauseLaws.{named_as}
use Rattle.splitting.specs.Nodes.{less, assign, remaining, named}
use Rattle.splitting.specs.Choosing.{emptied}
use Rattle.splitting.specs.Terms.{Below}
use Rattle.splitting.proofs.ClauseLaws.{literal_names, names_literal, less_of, occurs_some, occurs_in, named_some, named_in}

-- ── One assignment ───────────────────────────────────────────────────────────────────────────────────────────────────

-- a clause that v = b does not satisfy leaves what is left of it
pub assign_in : (v : ℕ) (b : Bool) (cs : List (List Literal)) (c : List Literal) → Memᴰ c cs → names_as c v b ≡ false → Memᴰ (less v c) (assign v b cs)
unfolding assign
assign_in v b [] c m f = absurd (Memᴰ.not-nil m)
assign_in v b (d ∷ cs) c m f = go (names_as d v b) refl (Memᴰ.cases_cons m) (λ k. assign_in v b cs c k f)
  where
    go : (a : Bool) → names_as d v b ≡ a → (c ≡ d) ⊎ Memᴰ c cs → (Memᴰ c cs → Memᴰ (less v c) (assign v b cs))
        → Memᴰ (less v c) (cond a (assign v b cs) (less v d ∷ assign v b cs))
    go true e (inl q) rec = bool_clash e (rw q at f)
    go true e (inr k) rec = rec k
    go false e (inl q) rec = Memᴰ.head (ap (less v) q)
    go false e (inr k) rec = Memᴰ.tail (rec k)

-- a sub-list of the clauses that v = b does not satisfy, less v
pub record Origin (v : ℕ) (b : Bool) (rs cs : List (List Literal)) : Type 0 where
  pub clauses : List (List Literal)
  pub sub : Sublistᴰ clauses cs
  pub left : rs ≡ map (less v) clauses
  pub unsatisfied : (c : List Literal) → Memᴰ c clauses → names_as c v b ≡ false

-- every sub-list of what is left comes from one
pub assign-origin : (v : ℕ) (b : Bool) (cs : List (List Literal)) {rs : List (List Literal)} → Sublistᴰ rs (assign v b cs) → Origin v b rs cs
unfolding assign
assign-origin v b [] s = record { clauses = []; sub = Sublistᴰ.slnil; left = Sublistᴰ.eq-nil s; unsatisfied = λ c m. absurd (Memᴰ.not-nil m) }
assign-origin v b (d ∷ cs) {rs} s = go (λ s. assign-origin v b cs s) (λ r s. assign-origin v b cs s) (names_as d v b) refl s
  where
    skip : Origin v b rs cs → Origin v b rs (d ∷ cs)
    skip o = record { clauses = o.clauses; sub = Sublistᴰ.cons o.sub; left = o.left; unsatisfied = o.unsatisfied }

    take : (r : List (List Literal)) → rs ≡ less v d ∷ r → names_as d v b ≡ false → Origin v b r cs → Origin v b rs (d ∷ cs)
    take r e f o = record {
      clauses = d ∷ o.clauses;
      sub = Sublistᴰ.cons-cons refl o.sub;
      left = e ∙ ap (λ (l : List (List Literal)). less v d ∷ l) o.left;
      unsatisfied = λ c m. ⊎_elim (λ (q : c ≡ d). rw q f) (λ more. o.unsatisfied c more) (Memᴰ.cases_cons m);
    }

    go : (Sublistᴰ rs (assign v b cs) → Origin v b rs cs) → ((r : List (List Literal)) → Sublistᴰ r (assign v b cs) → Origin v b r cs)
        → (a : Bool) → names_as d v b ≡ a → Sublistᴰ rs (cond a (assign v b cs) (less v d ∷ assign v b cs)) → Origin v b rs (d ∷ cs)
    go rec each true e s = skip (rec s)
    go rec each false e s = ⊎_elim (λ k. skip (rec k)) (λ w. take w.0 w.1 e (each w.0 w.2)) (Sublistᴰ.cases_cons s)

-- and every such sub-list leaves one
pub assign_sub : (v : ℕ) (b : Bool) {ds cs : List (List Literal)} → Sublistᴰ ds cs → ((c : List Literal) → Memᴰ c ds → names_as c v b ≡ false)
    → Sublistᴰ (map (less v) ds) (assign v b cs)
unfolding assign
assign_sub v b Sublistᴰ.slnil off = Sublistᴰ.slnil
assign_sub v b (Sublistᴰ.cons {a = c} {l₁ = ds} {l₂ = cs} s) off = go (names_as c v b) (assign_sub v b s off)
  where
    go : (a : Bool) → Sublistᴰ (map (less v) ds) (assign v b cs) → Sublistᴰ (map (less v) ds) (cond a (assign v b cs) (less v c ∷ assign v b cs))
    go true s = s
    go false s = Sublistᴰ.cons s
assign_sub v b (Sublistᴰ.cons-cons {a = d} {b = c} {l₁ = ds} {l₂ = cs} e s) off =
    go (names_as c v b) refl (assign_sub v b s (λ k m. off k (Memᴰ.tail m)))
  where
    go : (a : Bool) → names_as c v b ≡ a → Sublistᴰ (map (less v) ds) (assign v b cs)
        → Sublistᴰ (less v d ∷ map (less v) ds) (cond a (assign v b cs) (less v c ∷ assign v b cs))
    go true t s = bool_clash t (rw e at (off d (Memᴰ.head refl)))
    go false f s = Sublistᴰ.cons-cons (ap (less v) e) s

-- a clause that is left comes from one
pub assign_of : (v : ℕ) (b : Bool) (cs : List (List Literal)) (d : List Literal) → Memᴰ d (assign v b cs)
    → (c : List Literal) × Memᴰ c cs × (d ≡ less v c) × (names_as c v b ≡ false)
unfolding assign
assign_of v b [] d m = absurd (Memᴰ.not-nil m)
assign_of v b (c ∷ cs) d m = go (λ k. let w = assign_of v b cs d k in (w.0, Memᴰ.tail w.1, w.2, w.3)) (names_as c v b) refl m
  where
    go : (Memᴰ d (assign v b cs) → (k : List Literal) × Memᴰ k (c ∷ cs) × (d ≡ less v k) × (names_as k v b ≡ false))
        → (a : Bool) → names_as c v b ≡ a → Memᴰ d (cond a (assign v b cs) (less v c ∷ assign v b cs))
        → (k : List Literal) × Memᴰ k (c ∷ cs) × (d ≡ less v k) × (names_as k v b ≡ false)
    go rec true e m = rec m
    go rec false e m = ⊎_elim (λ q. (c, Memᴰ.head refl, q, e)) rec (Memᴰ.cases_cons m)

-- what is named after the assignment was named, and is not v
pub named-assign : (v : ℕ) (b : Bool) (cs : List (List Literal)) (w : ℕ) → named (assign v b cs) w ≡ true → (named cs w ≡ true) × (w ≡ v → ⊥)
named-assign v b cs w t =
    let s = named_some (assign v b cs) w t in
    let d = occurs_some (assign v b cs) w s.0 s.1 in
    let c = assign_of v b cs d.0 d.1 in
    let l = less_of v c.0 w s.0 (subst (λ (k : List Literal). names_as k w s.0 ≡ true) c.2 d.2) in
    (named_in cs w s.0 (occurs_in cs c.0 w s.0 c.1 l.0), l.1)

-- an assignment names no new variable
pub below_assign : (n v : ℕ) (b : Bool) (cs : List (List Literal)) → Below n cs → Below n (assign v b cs)
below_assign n v b cs low w t = low w (named-assign v b cs w t).0

-- and makes no new clause
pub length-assign : (v : ℕ) (b : Bool) (cs : List (List Literal)) → length (assign v b cs) ≤ length cs
unfolding assign
length-assign v b [] = omega arith
length-assign v b (c ∷ cs) = go (names_as c v b) (length-assign v b cs)
  where
    go : (a : Bool) → length (assign v b cs) ≤ length cs → length (cond a (assign v b cs) (less v c ∷ assign v b cs)) ≤ suc (length cs)
    go true h = omega arith
    go false h = omega arith

-- ── Empty clauses ────────────────────────────────────────────────────────────────────────────────────────────────────

-- where a clause is emptied, the list has the empty one
pub emptied_some : (cs : List (List Literal)) → emptied cs ≡ true → Memᴰ {A = List Literal} [] cs
unfolding emptied
emptied_some [] t = bool_clash t refl
emptied_some ([] ∷ cs) t = Memᴰ.head refl
emptied_some ((l ∷ c) ∷ cs) t = Memᴰ.tail (emptied_some cs t)

-- where none is empty, each clause names a variable
pub emptied-none : (cs : List (List Literal)) → emptied cs ≡ false → (c : List Literal) → Memᴰ c cs → (v : ℕ) × (names c v ≡ true)
unfolding emptied
emptied-none [] f c m = absurd (Memᴰ.not-nil m)
emptied-none ([] ∷ cs) f c m = bool_clash refl f
emptied-none ((l ∷ d) ∷ cs) f c m =
    ⊎_elim (λ (e : c ≡ l ∷ d). (l.variable, rw e (first l d))) (λ more. emptied-none cs f c more) (Memᴰ.cases_cons m)
  where
    first : (l : Literal) (d : List Literal) → names (l ∷ d) l.variable ≡ true
    first l d = named_as (l ∷ d) l.variable l.positive (literal_names (l ∷ d) l (Memᴰ.head refl))

-- ── Trails ───────────────────────────────────────────────────────────────────────────────────────────────────────────

-- a trail after another
pub remaining-append : (s t : List Literal) (cs : List (List Literal)) → remaining (s ++ t) cs ≡ remaining t (remaining s cs)
unfolding remaining
remaining-append [] t cs = refl
remaining-append (l ∷ s) t cs = remaining-append s t (assign l.variable l.positive cs)

-- one more assignment
pub remaining_snoc : (t : List Literal) (l : Literal) (cs : List (List Literal)) → remaining (t ++ (l ∷ [])) cs ≡ assign l.variable l.positive (remaining t cs)
unfolding remaining
remaining_snoc t l cs = remaining-append t (l ∷ []) cs

-- what is named at a node is named in the formula and not assigned
pub named-remaining : (t : List Literal) (cs : List (List Literal)) (w : ℕ) → named (remaining t cs) w ≡ true → (named cs w ≡ true) × (names t w ≡ false)
unfolding remaining names
named-remaining [] cs w h = (h, refl)
named-remaining (l ∷ t) cs w h =
    let r = named-remaining t (assign l.variable l.positive cs) w h in
    let a = named-assign l.variable l.positive cs w r.0 in
    let e = ne_eqb l.variable w (λ q. a.1 (sym q)) in
    (a.0, rw e r.1)

-- a node names no new variable
pub below_remaining : (n : ℕ) (t : List Literal) (cs : List (List Literal)) → Below n cs → Below n (remaining t cs)
below_remaining n t cs low w h = low w (named-remaining t cs w h).0

-- and has no new clause
pub length-remaining : (t : List Literal) (cs : List (List Literal)) → length (remaining t cs) ≤ length cs
unfolding remaining
length-remaining [] cs = omega arith
length-remaining (l ∷ t) cs = omega (arith, length-remaining t (assign l.variable l.positive cs), length-assign l.variable l.positive cs)

-- ── Formulas ─────────────────────────────────────────────────────────────────────────────────────────────────────────

-- a formula over n variables names only those below n
pub clauses_below : (n : ℕ) (cs : List (List Literal)) → Every (ClauseOver n) cs → Below n cs
clauses_below n cs over v t =
    let s = named_some cs v t in
    let c = occurs_some cs v s.0 s.1 in
    let l = names_literal c.0 v s.0 c.2 in
    subst (λ w. w < n) l.2 (every_element (λ (l : Literal). l.variable < n) c.0 l.0 (every_element (ClauseOver n) cs c.0 over c.1).below l.1)
