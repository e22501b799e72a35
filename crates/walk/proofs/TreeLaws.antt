-- What the choice of a task gives to the walk: its tree is live, its choice splits the models, and choosing is cheap.
use Prim.Native.Nat.{ℕ, zero, suc, ◌+◌, ◌*◌, ◌≤◌, ◌<◌}
use mathlib.Core.Bool.{Bool, true, false, true≢false}
use mathlib.Core.List.Memᴰ
use mathlib.Core.List.{List, [], ◌∷◌, ◌++◌, append_assoc, append-nil, Memᴰ}
use mathlib.Core.Logic.{◌⊎◌, inl, inr, ⊎_elim}
use mathlib.Core.Path.{◌≡◌, refl, sym, ap, ◌∙◌, subst}
use native.Mathlib.Nat.{mul_assoc}
use native.Mathlib.Numerals.{add-one}
use native.Mathlib.Omega.{arith}
use lib.Dec.{eqb}
use lib.ListN.{length}
use borrow.Author.Tests.{eqb-true}
use Rattle.limits.specs.Limits.{max_variables}
use Rattle.lists.proofs.TestLaws.{or_cases, or-none, or_right, bool_cases, bool_clash}
use Rattle.masks.specs.Mask.{bit}
use Rattle.masks.proofs.BitLaws.{bit_above}
use Rattle.formula.specs.Format.{Literal, names, distinct}
use Rattle.formula.proofs.FormatLaws.{names-append, clause_more}
use Rattle.formula.specs.Models.{Model}
use Rattle.splitting.specs.declared.Choice.{Choice}
use Rattle.splitting.specs.Nodes.{remaining, named}
use Rattle.splitting.specs.Terms as terms
use Rattle.splitting.specs.Terms.{Sound, Trail, Covers, ModelAt, Unassigned, Assigns, opened}
use Rattle.splitting.proofs.NodeLaws.{named-remaining, remaining-append}
use Rattle.splitting.proofs.Theorems.{open_sound, sound_model, formula_below, remaining_snoc, trail_lacks, trail_full, full_model, open_means, choice_cost, choice_cost_sound}
use Rattle.walk.specs.Task.{Task, to_assign, ModelFor, Posed}
use Rattle.walk.specs.Plain.{Entry, end, assignment, choice_literal, node_walk, plain_walk}
use Rattle.walk.specs.InnerStack.{Stack, empty, push, depth, trail_of, tree}
use Rattle.walk.proofs.RestLaws.{entries, walk, Replayed, replayed_ind, Live}
use Rattle.walk.proofs.PositionLaws.{length_trail}
use Rattle.walk.proofs.ListingLaws.{Agrees, Splits}
use Rattle.walk.proofs.ByteLaws.{Below}
use Rattle.walk.proofs.AssignmentLaws.{assignment_agrees, assignment_lt, assignment-none, model_lt, same-assignment}

-- a task's plain walk is that of its tree
node_same : (T : Task) (k : ℕ) (t : Stack) → node_walk T k (T.before ++ trail_of t) ≡ entries (tree T) k t
unfolding node_walk entries trail_of
node_same T zero t = refl
node_same T (suc k) t =
    let c = (tree T).choose t in
    let i : (b : Bool) → node_walk T k ((T.before ++ trail_of t) ++ (choice_literal c b ∷ [])) ≡ entries (tree T) k (push c.variable b t) =
    λ b. ap (node_walk T k) (append_assoc T.before (trail_of t) (choice_literal c b ∷ [])) ∙ node_same T k (push c.variable b t) in
    rw (i false, i true)

-- and so of the whole
pub walk_same : (T : Task) → plain_walk T ≡ walk (tree T)
unfolding plain_walk walk trail_of
walk_same T =
    ap (λ (l : List Entry). l ++ (end ∷ []))
    (ap (node_walk T (to_assign T)) (sym (append-nil T.before)) ∙ node_same T (to_assign T) empty)

-- agreeing with a trail, newest first or in order
pub trail_agrees : (a : ℕ) (t : Stack) → terms.Agrees (bit a) (trail_of t) → Agrees a t
unfolding trail_of
trail_agrees a empty g = tt
trail_agrees a (push v b t) g = (
  g (record { variable = v; positive = b }) (Memᴰ.append_right (trail_of t) (Memᴰ.head refl)),
  trail_agrees a t (λ l m. g l (Memᴰ.append_left _ m)),
)

-- and back
pub agrees_trail : (a : ℕ) (t : Stack) → Agrees a t → terms.Agrees (bit a) (trail_of t)
unfolding trail_of
agrees_trail a empty g l m = absurd (Memᴰ.not-nil m)
agrees_trail a (push v b t) g l m =
    ⊎_elim (λ (i : Memᴰ l (trail_of t)). agrees_trail a t g.1 l i)
    (λ (i : Memᴰ l (record { variable = v; positive = b } ∷ [])).
    subst (λ (k : Literal). bit a k.variable ≡ k.positive) (sym (Memᴰ.eq_of_singleton i)) g.0)
    (Memᴰ.append_cases (trail_of t) m)

module _ (T : Task) (P : Posed T) where
  fits : T.variables ≤ 64
  fits = omega (arith, P.most)

  low : terms.Below T.variables T.clauses
  low = formula_below T.variables T.clauses P.clauses

  abbrev picked : Stack → Choice
  picked t = (tree T).choose t

  -- all that is assigned at a node
  abbrev assigned : Stack → List Literal
  assigned t = T.before ++ trail_of t

  covered : (t : Stack) → Covers T.scope (remaining (assigned t) T.clauses)
  covered t v h =
      P.covers v
      (named-remaining (trail_of t) (remaining T.before T.clauses) v
      (subst (λ (ds : List (List Literal)). named ds v ≡ true) (remaining-append T.before (trail_of t) T.clauses) h)).0

  -- what holds at every node
  record Node (t : Stack) : Type 0 where
    trail : Trail T.variables (assigned t)
    own : Trail T.variables (trail_of t)
    inside : (v : ℕ) → names (trail_of t) v ≡ true → bit T.scope v ≡ true
    sound : Sound T.variables (remaining (assigned t) T.clauses)
    below : Below max_variables t

  root : Node empty
  unfolding trail_of distinct names
  root = record {
    trail = rw append-nil P.before;
    own = record { below = tt; once = refl };
    inside = λ v h. absurd (true≢false (sym h));
    sound = rw append-nil P.sound;
    below = tt;
  }

  lacking : (t : Stack) → Node t → depth t < to_assign T → Unassigned T.variables T.scope (assigned t)
  lacking t N h =
      let w = trail_lacks T.variables T.scope (trail_of t) fits P.below N.own (let e = length_trail t in omega arith) in
      (w.0, w.1, w.2, rw (names-append T.before (trail_of t) w.0, P.apart w.0 w.2, w.3))

  -- the choice is a variable to assign that is not assigned yet, and opens what some model has
  record Chosen (t : Stack) : Type 0 where
    below : (picked t).variable < T.variables
    inside : bit T.scope (picked t).variable ≡ true
    fresh : names (assigned t) (picked t).variable ≡ false
    open_model : (b : Bool) → opened (picked t) b ≡ true → (a : ℕ) × ModelAt T.variables T.scope T.clauses (assigned t) a × (bit a (picked t).variable ≡ b)
    any_open : (b : Bool) (a : ℕ) → Model T.variables T.clauses a → terms.Agrees (bit a) (assigned t) → bit a (picked t).variable ≡ b → opened (picked t) b ≡ true

  choosing : (t : Stack) → Node t → depth t < to_assign T → Chosen t
  choosing t N h =
      let w = open_means T.variables T.scope T.clauses (assigned t) fits P.clauses (covered t) N.trail (lacking t N h) N.sound in
      record { below = w.0; inside = w.1; fresh = w.2; open_model = w.3; any_open = w.4 }

  -- one assignment more
  child : (t : Stack) → Node t → depth t < to_assign T → (b : Bool) → opened (picked t) b ≡ true → Node (push (picked t).variable b t)
  unfolding trail_of names
  child t N h b o = record {
    trail = subst (Trail T.variables) e (clause_more l N.trail w.below w.fresh);
    own = clause_more l N.own w.below (or-none (names T.before l.variable) _ (sym (names-append T.before (trail_of t) l.variable) ∙ w.fresh)).1;
    inside = λ v k. ⊎_elim (λ x. N.inside v x) (λ x. own v x) (or_cases (names (trail_of t) v) (names (l ∷ []) v) (sym (names-append (trail_of t) (l ∷ []) v) ∙ k));
    sound = subst (λ (u : List Literal). Sound T.variables (remaining u T.clauses)) e
        (rw (remaining_snoc (assigned t) l T.clauses) (open_sound T.variables T.scope T.clauses (assigned t) fits low N.sound b o));
    below = (omega (arith, w.below, P.most), N.below);
  }
    where
      w : Chosen t
      w = choosing t N h

      l : Literal
      l = record { variable = (picked t).variable; positive = b }

      e : assigned t ++ (l ∷ []) ≡ T.before ++ (trail_of t ++ (l ∷ []))
      e = append_assoc T.before (trail_of t) (l ∷ [])

      own : (v : ℕ) → names (l ∷ []) v ≡ true → bit T.scope v ≡ true
      own v k = ⊎_elim (λ q. rw (← eqb-true l.variable v q) w.inside) (λ q. bool_clash q refl) (or_cases (eqb l.variable v) false k)

  node : (t : Stack) → Replayed (tree T) t → Node t
  node = replayed_ind (tree T) Node root (λ t r N h b o. child t N h b o)

  -- the variables of a trail are below 48
  pub trail_below : (t : Stack) → Replayed (tree T) t → Below max_variables t
  trail_below t r = (node t r).below

  -- what is assigned at a node: variables below n, none twice
  pub trail_over : (t : Stack) → Replayed (tree T) t → Trail T.variables (assigned t)
  trail_over t r = (node t r).trail

  -- the variables of a trail are among those to assign
  pub trail_inside : (t : Stack) → Replayed (tree T) t → (v : ℕ) → names (trail_of t) v ≡ true → bit T.scope v ≡ true
  trail_inside t r = (node t r).inside

  -- the chosen variable is below n and not assigned yet
  pub choice_fresh : (t : Stack) → Replayed (tree T) t → depth t < to_assign T
      → ((picked t).variable < T.variables) × (names (assigned t) (picked t).variable ≡ false)
  choice_fresh t r h = let w = choosing t (node t r) h in (w.below, w.fresh)

  -- where the trail is not full, a variable is left to assign
  pub trail_lacking : (t : Stack) → Replayed (tree T) t → depth t < to_assign T → Unassigned T.variables T.scope (assigned t)
  trail_lacking t r h = lacking t (node t r) h

  -- a model at a node is one of the task that agrees with the trail
  leave : (t : Stack) → Node t → (a : ℕ) → ModelAt T.variables T.scope T.clauses (assigned t) a → ModelFor T a × Agrees a t
  leave t N a m = (
    record {
      model = m.model;
      agrees = λ l i. m.agrees l (Memᴰ.append_left (trail_of t) i);
      within = λ v h. ⊎_elim (λ x. inl x) (λ x. at v x) (m.within v h);
    },
    trail_agrees a t (λ l i. m.agrees l (Memᴰ.append_right T.before i)),
  )
    where
      at : (v : ℕ) → names (assigned t) v ≡ true → (bit T.scope v ≡ true) ⊎ (names T.before v ≡ true)
      at v x =
          ⊎_elim (λ y. inr y) (λ y. inl (N.inside v y)) (or_cases (names T.before v) (names (trail_of t) v) (sym (names-append T.before (trail_of t) v) ∙ x))

  -- and the other way round
  enter : (t : Stack) (a : ℕ) → ModelFor T a → Agrees a t → ModelAt T.variables T.scope T.clauses (assigned t) a
  enter t a m g = record {
    model = m.model;
    agrees = λ l i. ⊎_elim (λ (j : Memᴰ l T.before). m.agrees l j) (λ (j : Memᴰ l (trail_of t)). agrees_trail a t g l j) (Memᴰ.append_cases T.before i);
    within = λ v h. ⊎_elim (λ x. inl x) (λ x. inr (names-append T.before (trail_of t) v ∙ rw x)) (m.within v h);
  }

  -- a value is open exactly if some model agrees with it
  pub open_model : (t : Stack) → Replayed (tree T) t → depth t < to_assign T → (b : Bool) → opened (picked t) b ≡ true
      → (a : ℕ) × ModelFor T a × Agrees a (push (picked t).variable b t)
  open_model t r h b o =
      let N = node t r in
      let w = (choosing t N h).open_model b o in
      let x = leave t N w.0 w.1 in
      (w.0, x.0, (w.2, x.1))

  -- and already if a model of the formula does, whatever it has of variables that are not to be assigned
  pub any_open : (t : Stack) → Replayed (tree T) t → depth t < to_assign T → (b : Bool) (a : ℕ) → Model T.variables T.clauses a → terms.Agrees (bit a) (assigned t)
      → bit a (picked t).variable ≡ b → opened (picked t) b ≡ true
  any_open t r h b a m g e = (choosing t (node t r) h).any_open b a m g e

  -- and back
  pub model_open : (t : Stack) → Replayed (tree T) t → depth t < to_assign T → (b : Bool) → (a : ℕ) → ModelFor T a → Agrees a (push (picked t).variable b t)
      → opened (picked t) b ≡ true
  model_open t r h b a m g = any_open t r h b a m.model (enter t a m g.1).agrees g.0

  has_model : (t : Stack) → Node t → (a : ℕ) × ModelFor T a × Agrees a t
  has_model t N =
      let w = sound_model T.variables T.scope T.clauses (assigned t) low (covered t) N.trail N.sound in
      let x = leave t N w.0 w.1 in
      (w.0, x.0, x.1)

  -- where a variable is left to assign, a value is open
  pub live : Live (tree T)
  live = record { alive = alive }
    where
      alive : (t : Stack) → Replayed (tree T) t → depth t < to_assign T → (picked t).false_open ≡ false → (picked t).true_open ≡ true
      alive t r h o = let w = has_model t (node t r) in at w.0 w.1 w.2 (bit w.0 (picked t).variable) refl
        where
          at : (a : ℕ) → ModelFor T a → Agrees a t → (x : Bool) → bit a (picked t).variable ≡ x → (picked t).true_open ≡ true
          at a m g true e = model_open t r h true a m (e, g)
          at a m g false e = absurd (true≢false (sym (model_open t r h false a m (e, g)) ∙ o))

  -- a full trail assigns every variable to assign
  own_assigns : (t : Stack) → Node t → depth t ≡ to_assign T → Assigns T.scope (trail_of t)
  own_assigns t N h = trail_full T.variables T.scope (trail_of t) fits P.below N.own N.inside (length_trail t ∙ h)

  full_assigns : (t : Stack) → Node t → depth t ≡ to_assign T → Assigns T.scope (assigned t)
  full_assigns t N h v b = names-append T.before (trail_of t) v ∙ or_right (names T.before v) _ (own_assigns t N h v b)

  -- so does that of a full node
  pub full_every : (t : Stack) → Replayed (tree T) t → depth t ≡ to_assign T → Assigns T.scope (trail_of t)
  full_every t r h = own_assigns t (node t r) h

  -- its assignment is a model
  full_at : (t : Stack) → Node t → depth t ≡ to_assign T → ModelAt T.variables T.scope T.clauses (assigned t) (assignment (assigned t))
  full_at t N h =
      let g = assignment_agrees T.variables (assigned t) N.trail in
      record {
        model = full_model T.variables T.scope T.clauses (assigned t) (covered t) (full_assigns t N h) N.sound (assignment (assigned t)) g
            (λ v k. bit_above T.variables v (assignment (assigned t)) (assignment_lt T.variables (assigned t) N.trail.below) k);
        agrees = g;
        within = λ v k. ⊎_elim (λ x. inr x) (λ x. bool_clash k (assignment-none (assigned t) v x)) (bool_cases (names (assigned t) v));
      }

  -- and no other model agrees with it
  full_one : (t : Stack) → Node t → depth t ≡ to_assign T → (a : ℕ) → ModelFor T a → Agrees a t → a ≡ assignment (assigned t)
  full_one t N h a m g =
      same-assignment T.variables (assigned t) N.trail a (model_lt T.variables T.clauses a m.model) (enter t a m g).agrees
      (λ v f. ⊎_elim (λ x. absurd (other v f (m.within v x))) (λ x. x) (bool_cases (bit a v)))
    where
      other : (v : ℕ) → names (assigned t) v ≡ false → (bit T.scope v ≡ true) ⊎ (names T.before v ≡ true) → ⊥
      other v f (inl x) = bool_clash (full_assigns t N h v x) f
      other v f (inr x) = bool_clash (names-append T.before (trail_of t) v ∙ rw x) f

  -- a full trail is one model, and no model has a closed value
  pub splits : Splits (tree T) (ModelFor T)
  splits = record {
    full_model = λ t r h. let N = node t r in leave t N (assignment (assigned t)) (full_at t N h);
    full_only = λ t r h a m g. full_one t (node t r) h a m g;
    closed_none = λ t r h b o a m g. true≢false (sym (model_open t r h b a m g) ∙ o);
  }

  -- one choice makes at most s × m × (m + 1) expansions, s the variables to assign, m the clauses
  pub cheap : (t : Stack) → (picked t).expansions ≤ to_assign T * length T.clauses * (length T.clauses + 1)
  cheap t =
      let m = length T.clauses in
      let e : to_assign T * m * (m + 1) ≡ to_assign T * (m * suc m) = mul_assoc (to_assign T) m (m + 1) ∙ rw (add-one m) refl in
      rw e (choice_cost T.variables T.scope T.clauses (assigned t) fits low (covered t))

  -- and at a node of the walk at most s × n × (n + 1)
  pub cheap_sound : (t : Stack) → Replayed (tree T) t → (picked t).expansions ≤ to_assign T * (T.variables * suc T.variables)
  cheap_sound t r = choice_cost_sound T.variables T.scope T.clauses (assigned t) fits low (covered t) (node t r).sound
