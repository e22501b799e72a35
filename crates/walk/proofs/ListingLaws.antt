-- The models in a node's plain walk are those that agree with the node, each once. Over any tree whose choice splits the models.
use Prim.Native.Nat.{ℕ, zero, suc, ◌+◌, ◌<◌}
use mathlib.Core.Bool.{Bool, true, false, true≢false}
use mathlib.Core.List.Memᴰ
use mathlib.Core.List.{List, [], ◌∷◌, ◌++◌, append-nil, Memᴰ}
use mathlib.Core.Logic.{◌⊎◌, inl, inr, ◌↔◌}
use mathlib.Core.Path.{◌≡◌, refl, sym, ap, ap₂, ◌∙◌, subst}
use native.Mathlib.Nat.{add-zero}
use native.Mathlib.Omega.{arith}
use Rattle.lists.specs.Distinct.{Distinct}
use Rattle.lists.proofs.DistinctLaws.{distinct_append}
use Rattle.masks.specs.Mask.{bit}
use Rattle.formula.specs.Format.{Literal}
use Rattle.splitting.specs.Terms.{opened}
use Rattle.walk.specs.Plain.{Entry, assigns, undoes, model, end, value_walk, models_of}
use Rattle.walk.specs.InnerStack.{Stack, empty, push, depth, Tree}
use Rattle.walk.proofs.RestLaws.{entries, walk, Replayed, Live}

abbrev when : Bool → List ℕ → List ℕ
when true l = l
when false l = []

when_element : {a : ℕ} (x : Bool) (l : List ℕ) → Memᴰ a (when x l) → (x ≡ true) × Memᴰ a l
when_element true l m = (refl, m)
when_element false l m = absurd (Memᴰ.not-nil m)

element_when : {a : ℕ} (x : Bool) (l : List ℕ) → x ≡ true → Memᴰ a l → Memᴰ a (when x l)
element_when true l e m = m
element_when false l e m = absurd (true≢false (sym e))

when_distinct : (x : Bool) (l : List ℕ) → (x ≡ true → Distinct l) → Distinct (when x l)
when_distinct true l h = h refl
when_distinct false l h = tt

-- the models of two lists of entries
pub models_append : (l r : List Entry) → models_of (l ++ r) ≡ models_of l ++ models_of r
unfolding models_of
models_append [] r = refl
models_append (assigns x e ∷ l) r = models_append l r
models_append (undoes ∷ l) r = models_append l r
models_append (model a ∷ l) r = ap {B = List ℕ} (λ x. a ∷ x) (models_append l r)
models_append (end ∷ l) r = models_append l r

models_value : (x : Bool) (l : Literal) (e : ℕ) (es : List Entry) → models_of (value_walk x l e es) ≡ when x (models_of es)
unfolding models_of
models_value true l e es = models_append es (undoes ∷ []) ∙ append-nil (models_of es)
models_value false l e es = refl

-- the assignment has the values of the trail
abbrev pub Agrees : ℕ → Stack → Type 0
Agrees a empty = Unit {0}
Agrees a (push v b t) = (bit a v ≡ b) × Agrees a t

-- what the listing needs of the choice: at full length the trail's assignment is the one model that agrees with it; no model has a
-- closed value
pub record Splits (K : Tree) (Model : ℕ → Type 0) : Type 0 where
  pub full_model : (t : Stack) → Replayed K t → depth t ≡ K.size → Model (K.result t) × Agrees (K.result t) t
  pub full_only : (t : Stack) → Replayed K t → depth t ≡ K.size → (a : ℕ) → Model a → Agrees a t → a ≡ K.result t
  pub closed_none : (t : Stack) → Replayed K t → depth t < K.size → (b : Bool) → opened (K.choose t) b ≡ false → (a : ℕ) → Model a
      → Agrees a (push (K.choose t).variable b t) → ⊥

module _ (K : Tree) (Model : ℕ → Type 0) (P : Splits K Model) where
  listing_split : (d : ℕ) (t : Stack) → models_of (entries K (suc d) t)
      ≡ when (K.choose t).false_open (models_of (entries K d (push (K.choose t).variable false t)))
      ++ when (K.choose t).true_open (models_of (entries K d (push (K.choose t).variable true t)))
  unfolding entries
  listing_split d t = models_append (value_walk (K.choose t).false_open _ _ _) (value_walk (K.choose t).true_open _ _ _)
      ∙ ap₂ {C = List ℕ} (λ x y. x ++ y) (models_value (K.choose t).false_open _ _ _) (models_value (K.choose t).true_open _ _ _)

  -- nothing else
  pub listed_model : (d : ℕ) (t : Stack) → Replayed K t → d + depth t ≡ K.size → (a : ℕ) → Memᴰ a (models_of (entries K d t)) → Model a × Agrees a t
  unfolding entries models_of
  listed_model zero t r h a m = at (Memᴰ.cases_cons m)
    where
      at : (a ≡ K.result t) ⊎ Memᴰ a [] → Model a × Agrees a t
      at (inl e) = subst (λ (z : ℕ). Model z × Agrees z t) (sym e) (P.full_model t r (omega arith))
      at (inr n) = absurd (Memᴰ.not-nil n)
  listed_model (suc d) t r h a m =
      at (listed_model d (push (K.choose t).variable false t)) (listed_model d (push (K.choose t).variable true t))
      (Memᴰ.append_cases (when (K.choose t).false_open _) (rw (listing_split d t) at m))
    where
      Sub : Bool → Type 0
      Sub b = Replayed K (push (K.choose t).variable b t) → d + suc (depth t) ≡ K.size → (a : ℕ)
          → Memᴰ a (models_of (entries K d (push (K.choose t).variable b t))) → Model a × Agrees a (push (K.choose t).variable b t)

      at : Sub false → Sub true
          → Memᴰ a (when (K.choose t).false_open (models_of (entries K d (push (K.choose t).variable false t))))
          ⊎ Memᴰ a (when (K.choose t).true_open (models_of (entries K d (push (K.choose t).variable true t))))
          → Model a × Agrees a t
      at f g (inl n) =
          let w = when_element (K.choose t).false_open _ n in
          let i = f (r, omega arith, refl, w.0) (omega arith) a w.1 in
          (i.0, i.1.1)
      at f g (inr n) =
          let w = when_element (K.choose t).true_open _ n in
          let i = g (r, omega arith, refl, w.0) (omega arith) a w.1 in
          (i.0, i.1.1)

  abbrev Lists : ℕ → Stack → Type 0
  Lists d t = Replayed K t → d + depth t ≡ K.size → (a : ℕ) → Model a → Agrees a t → Memᴰ a (models_of (entries K d t))

  -- every one
  pub model_listed : (d : ℕ) (t : Stack) → Lists d t
  unfolding entries models_of
  model_listed zero t r h a p g = Memᴰ.head (P.full_only t r (omega arith) a p g)
  model_listed (suc d) t r h a p g = rw (listing_split d t) (value (λ b. model_listed d (push (K.choose t).variable b t)) (bit a (K.choose t).variable) refl)
    where
      sub : (b : Bool) → List ℕ
      sub b = models_of (entries K d (push (K.choose t).variable b t))

      open_at : (b : Bool) → bit a (K.choose t).variable ≡ b → (x : Bool) → opened (K.choose t) b ≡ x → opened (K.choose t) b ≡ true
      open_at b e true o = o
      open_at b e false o = absurd (P.closed_none t r (omega arith) b o a p (e, g))

      value : ((b : Bool) → Lists d (push (K.choose t).variable b t)) → (b : Bool) → bit a (K.choose t).variable ≡ b
          → Memᴰ a (when (K.choose t).false_open (sub false) ++ when (K.choose t).true_open (sub true))
      value ih false e =
          let o = open_at false e (K.choose t).false_open refl in
          Memᴰ.append_left _ (element_when (K.choose t).false_open _ o (ih false (r, omega arith, refl, o) (omega arith) a p (e, g)))
      value ih true e =
          let o = open_at true e (K.choose t).true_open refl in
          Memᴰ.append_right (when (K.choose t).false_open (sub false))
          (element_when (K.choose t).true_open _ o (ih true (r, omega arith, refl, o) (omega arith) a p (e, g)))

  -- each once
  pub listed_distinct : (d : ℕ) (t : Stack) → Replayed K t → d + depth t ≡ K.size → Distinct (models_of (entries K d t))
  unfolding entries models_of
  listed_distinct zero t r h = (λ m. Memᴰ.not-nil m, tt)
  listed_distinct (suc d) t r h = rw (listing_split d t)
      (distinct_append (when (K.choose t).false_open _) (when (K.choose t).true_open _)
      (when_distinct (K.choose t).false_open _ (λ o. listed_distinct d _ (r, omega arith, refl, o) (omega arith)))
      (when_distinct (K.choose t).true_open _ (λ o. listed_distinct d _ (r, omega arith, refl, o) (omega arith)))
      (λ a m₀ m₁.
      let w₀ = when_element (K.choose t).false_open _ m₀ in
      let w₁ = when_element (K.choose t).true_open _ m₁ in
      let i₀ = listed_model d (push (K.choose t).variable false t) (r, omega arith, refl, w₀.0) (omega arith) a w₀.1 in
      let i₁ = listed_model d (push (K.choose t).variable true t) (r, omega arith, refl, w₁.0) (omega arith) a w₁.1 in
      true≢false (sym i₁.1.0 ∙ i₀.1.0)))

  walk_models : models_of (walk K) ≡ models_of (entries K K.size empty)
  unfolding walk models_of
  walk_models = models_append (entries K K.size empty) (end ∷ []) ∙ append-nil _

  -- the walk lists the models and nothing else
  pub walk_lists : (a : ℕ) → Memᴰ a (models_of (walk K)) ↔ Model a
  walk_lists a = (
    λ m. (listed_model K.size empty tt (omega (arith, add-zero K.size)) a (rw walk_models at m)).0,
    λ p. rw walk_models (model_listed K.size empty tt (omega arith) a p tt),
  )

  -- each once
  pub walk_distinct : Distinct (models_of (walk K))
  walk_distinct = rw walk_models (listed_distinct K.size empty tt (omega arith))

  -- a node that choosing leads to agrees with some model
  pub node_model : Live K → (d : ℕ) (t : Stack) → Replayed K t → d + depth t ≡ K.size → (a : ℕ) × Model a × Agrees a t
  node_model L zero t r h = let f = P.full_model t r (omega arith) in (K.result t, f.0, f.1)
  node_model L (suc d) t r h = at (λ b. node_model L d (push (K.choose t).variable b t)) (K.choose t).false_open refl
    where
      at : ((b : Bool) → Replayed K (push (K.choose t).variable b t) → d + suc (depth t) ≡ K.size
          → (a : ℕ) × Model a × Agrees a (push (K.choose t).variable b t))
          → (x : Bool) → (K.choose t).false_open ≡ x → (a : ℕ) × Model a × Agrees a t
      at ih true o = let i = ih false (r, omega arith, refl, o) (omega arith) in (i.0, i.1, i.2.1)
      at ih false o = let i = ih true (r, omega arith, refl, L.alive t r (omega arith) o) (omega arith) in (i.0, i.1, i.2.1)

-- Two trees that split the same models list the same ones, in whichever order each of them chooses variables.
pub same-listed : (J K : Tree) (Model : ℕ → Type 0) → Splits J Model → Splits K Model → (a : ℕ) → Memᴰ a (models_of (walk J)) ↔ Memᴰ a (models_of (walk K))
same-listed J K Model P Q a =
    let j = walk_lists J Model P a in
    let k = walk_lists K Model Q a in
    (λ m. k.1 (j.0 m), λ m. j.1 (k.0 m))
