-- Where one choice makes at most B expansions at every node of the walk, so does one assignment. Over any tree.
use Prim.Native.Nat.{ℕ, zero, suc, ◌+◌, ◌≤◌, ◌<◌}
use mathlib.Core.Bool.{Bool, true, false, cond}
use mathlib.Core.List.Memᴰ
use mathlib.Core.List.{List, [], ◌∷◌, ◌++◌, Memᴰ}
use mathlib.Core.Logic.{◌⊎◌, inl, inr, ⊎_elim}
use mathlib.Core.Path.{◌≡◌, refl}
use native.Mathlib.Omega.{arith}
use Rattle.formula.specs.Format.{Literal}
use Rattle.splitting.specs.declared.Choice.{Choice}
use Rattle.walk.specs.Plain.{Entry, assigns, undoes, model, end, value_walk, choice_literal, step_expansions}
use Rattle.walk.specs.InnerStack.{Stack, empty, push, depth, Tree}
use Rattle.walk.proofs.RestLaws.{entries, walk, Replayed}

-- an assignment costs at most what the choice costs
pub step_cheap : (B : ℕ) (c : Choice) (b : Bool) → c.expansions ≤ B → step_expansions c b ≤ B
step_cheap B c false h = h
step_cheap B c true h = at c.false_open
  where
    at : (x : Bool) → cond x 0 c.expansions ≤ B
    at true = omega arith
    at false = h

-- no assignment among the entries has more than B expansions
abbrev Cheap : ℕ → List Entry → Type 0
Cheap B es = (l : Literal) (e : ℕ) → Memᴰ (assigns l e) es → e ≤ B

cheap_none : (B : ℕ) (x : Entry) → ((l : Literal) (e : ℕ) → assigns l e ≡ x → ⊥) → Cheap B (x ∷ [])
cheap_none B x f l e m = absurd (f l e (Memᴰ.eq_of_singleton m))

cheap_append : (B : ℕ) (xs ys : List Entry) → Cheap B xs → Cheap B ys → Cheap B (xs ++ ys)
cheap_append B xs ys h k l e m =
    ⊎_elim (λ (i : Memᴰ (assigns l e) xs). h l e i) (λ (i : Memᴰ (assigns l e) ys). k l e i) (Memᴰ.append_cases xs m)

not_undo : (l : Literal) (e : ℕ) → assigns l e ≡ undoes → ⊥
not_undo l e q = let z : ◌≡◌ {A = ℕ} 0 1 = cc in omega arith

not_model : (a : ℕ) (l : Literal) (e : ℕ) → assigns l e ≡ model a → ⊥
not_model a l e q = let z : ◌≡◌ {A = ℕ} 0 1 = cc in omega arith

not_end : (l : Literal) (e : ℕ) → assigns l e ≡ end → ⊥
not_end l e q = let z : ◌≡◌ {A = ℕ} 0 1 = cc in omega arith

-- what is below an open value counts alone
cheap_value : (B : ℕ) (x : Bool) (k : Literal) (f : ℕ) (es : List Entry) → f ≤ B → (x ≡ true → Cheap B es) → Cheap B (value_walk x k f es)
cheap_value B true k f es h c l e m = at (Memᴰ.cases_cons m)
  where
    at : (assigns l e ≡ assigns k f) ⊎ Memᴰ (assigns l e) (es ++ (undoes ∷ [])) → e ≤ B
    at (inl q) = let z : e ≡ f = cc in omega arith
    at (inr i) = cheap_append B es (undoes ∷ []) (c refl) (cheap_none B undoes not_undo) l e i
cheap_value B false k f es h c l e m = absurd (Memᴰ.not-nil m)

-- the choices where the walk comes are cheap
module _ (K : Tree) (B : ℕ) (cheap : (t : Stack) → Replayed K t → (K.choose t).expansions ≤ B) where
  entries_cheap : (d : ℕ) (t : Stack) → Replayed K t → depth t + d ≡ K.size → Cheap B (entries K d t)
  unfolding entries
  entries_cheap zero t r h = cheap_none B (model (K.result t)) (not_model (K.result t))
  entries_cheap (suc d) t r h =
      let c = K.choose t in
      let deeper : depth t < K.size = omega arith in
      cheap_append B _ _
      (cheap_value B c.false_open (choice_literal c false) (step_expansions c false) _ (step_cheap B c false (cheap t r))
      (λ o. entries_cheap d (push c.variable false t) (r, deeper, refl, o) (omega arith)))
      (cheap_value B c.true_open (choice_literal c true) (step_expansions c true) _ (step_cheap B c true (cheap t r))
      (λ o. entries_cheap d (push c.variable true t) (r, deeper, refl, o) (omega arith)))

  -- so no assignment of the walk costs more
  pub walk_cheap : Cheap B (walk K)
  unfolding walk
  walk_cheap = cheap_append B (entries K K.size empty) (end ∷ []) (entries_cheap K.size empty tt (omega arith)) (cheap_none B end not_end)
