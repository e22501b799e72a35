-- What open values mean: models that agree with the trail.
use Prim.Native.Nat.{ℕ, ◌≤◌, ◌<◌}
use mathlib.Core.Path.{◌≡◌, ◌∙◌, refl, sym, subst}
use mathlib.Core.Bool.{Bool, true, false, not, ◌&&◌, and-true}
use mathlib.Core.List.Memᴰ
use mathlib.Core.List.{List, [], ◌∷◌, ◌++◌}
use mathlib.Core.Logic.{◌⊎◌, inl, inr, ⊎_elim}
use lib.Dec.{eqb, ltb}
use borrow.Author.Tests.{eqb-true, ltb-true, ltb-false, not-true}
use Rattle.lists.proofs.EveryLaws.{every_element}
use Rattle.lists.proofs.TestLaws.{and_both, and_left, and_right, or_cases, bool_cases, bool_clash}
use Rattle.masks.specs.Mask.{bit}
use Rattle.formula.specs.Format.{Literal, names}
use Rattle.formula.specs.Models.{Model}
use Rattle.formula.proofs.FormatLaws.{names-append, clause_more}
use Rattle.splitting.specs.Nodes.{remaining, named}
use Rattle.splitting.specs.Choosing.{unassigned_of, choice}
use Rattle.splitting.specs.Terms.{Below, Sound, Trail, Agrees, Covers, ModelAt, Unassigned, opened}
use Rattle.splitting.proofs.NodeLaws.{named-assign, remaining_snoc, named-remaining, below_remaining}
use Rattle.splitting.proofs.ModelLaws.{Satisfies, satisfies_remaining, satisfies_same, under, under_other, under_agrees, under_satisfies, mask, mask_above, mask_below, mask_model, model_satisfies}
use Rattle.splitting.proofs.SoundLaws.{sound_satisfies}
use Rattle.splitting.proofs.ChoiceLaws.{chosen_free, chosen_open, chosen_closed}

-- a sound node has a model that agrees with the trail, and has no variable true but those of the mask and the trail
pub sound_agrees : (n scope : ℕ) (cs : List (List Literal)) (t : List Literal) → Below n cs → Covers scope (remaining t cs) → Trail n t → Sound n (remaining t cs)
    → (a : ℕ) × ModelAt n scope cs t a
sound_agrees n scope cs t low covers T S = (
  mask n all,
  record {
    model = mask_model n all cs low
        (under_satisfies inside t cs T.once (satisfies_same w.0 inside (remaining t cs) (λ v h. rw (covers v h) (sym (and-true (w.0 v)))) w.1));
    agrees = λ k m. mask_below n all k.variable (every_element (λ (k : Literal). k.variable < n) t k T.below m) ∙ under_agrees t inside T.once k m;
    within = λ v h. ⊎_elim (λ l. at v (sym (mask_below n all v (ltb-true v n l)) ∙ h)) (λ l. bool_clash h (mask_above n all v (ltb-false v n l))) (bool_cases (ltb v n));
  },
)
  where
    w : (a : ℕ → Bool) × Satisfies a (remaining t cs)
    w = sound_satisfies n (remaining t cs) S

    inside : ℕ → Bool
    inside v = w.0 v && bit scope v

    all : ℕ → Bool
    all = under t inside

    at : (v : ℕ) → all v ≡ true → (bit scope v ≡ true) ⊎ (names t v ≡ true)
    at v h =
        ⊎_elim (λ e. inr e) (λ e. inl (and_right (w.0 v) (bit scope v) (sym (under_other t inside v e) ∙ h))) (bool_cases (names t v))

-- a model that agrees with the trail has only open values
pub model_open : (n scope : ℕ) (cs : List (List Literal)) (t : List Literal) (b : Bool) (a : ℕ) → Model n cs a → Agrees (bit a) t
    → bit a (choice n scope cs t).variable ≡ b → opened (choice n scope cs t) b ≡ true
unfolding choice
model_open n scope cs t b a M g e =
    ⊎_elim
    (λ o. o)
    (λ c. absurd (chosen_closed n (unassigned_of scope t) (remaining t cs) b c (bit a) (satisfies_remaining (bit a) t cs (model_satisfies n cs a M) g) e))
    (bool_cases (opened (choice n scope cs t) b))

-- some value is open at a sound node
pub some_open : (n scope : ℕ) (cs : List (List Literal)) (t : List Literal) → Sound n (remaining t cs) → (b : Bool) × (opened (choice n scope cs t) b ≡ true)
unfolding choice
some_open n scope cs t S =
    let w = sound_satisfies n (remaining t cs) S in
    let b = w.0 (choice n scope cs t).variable in
    (b, ⊎_elim (λ o. o) (λ c. absurd (chosen_closed n (unassigned_of scope t) (remaining t cs) b c w.0 w.1 refl)) (bool_cases (opened (choice n scope cs t) b)))

module _ (n scope : ℕ) (cs : List (List Literal)) (t : List Literal) (fits : n ≤ 64) (low : Below n cs) (covers : Covers scope (remaining t cs)) (T : Trail n t)
    (S : Sound n (remaining t cs)) where
  abbrev new : ℕ
  new = (choice n scope cs t).variable

  -- the chosen variable is one of the mask and not yet assigned, where such a one is
  pub choice_new : Unassigned n scope t → (new < n) × (bit scope new ≡ true) × (names t new ≡ false)
  unfolding choice
  choice_new f =
      let w = chosen_free n (unassigned_of scope t) (remaining t cs) fits (below_remaining n t cs low) S
      (λ v h. unassigned v (covers v h) (named-remaining t cs v h).1)
      (f.0, f.1, unassigned f.0 f.2 f.3) in
      (w.0, and_left (bit scope new) (not (names t new)) w.1, not-true (names t new) (and_right (bit scope new) (not (names t new)) w.1))
    where
      unassigned : (v : ℕ) → bit scope v ≡ true → names t v ≡ false → unassigned_of scope t v ≡ true
      unassigned v h f = and_both (bit scope v) (not (names t v)) h (rw f)

  -- an open value has a model
  pub open_model : (new < n) × (bit scope new ≡ true) × (names t new ≡ false) → (b : Bool) → opened (choice n scope cs t) b ≡ true
      → (a : ℕ) × ModelAt n scope cs t a × (bit a new ≡ b)
  unfolding choice names
  open_model w b o =
      let e = remaining_snoc t l cs in
      let m = sound_agrees n scope cs (t ++ (l ∷ [])) low
      (λ v h. covers v (named-assign new b (remaining t cs) v (subst (λ (ds : List (List Literal)). named ds v ≡ true) e h)).0)
      (clause_more l T w.0 w.2)
      (subst (Sound n) (sym e) (chosen_open n (unassigned_of scope t) (remaining t cs) fits (below_remaining n t cs low) S b o)) in (
        m.0,
        record {
          model = m.1.model;
          agrees = λ k i. m.1.agrees k (Memᴰ.append_left (l ∷ []) i);
          within = λ v h. ⊎_elim (λ x. inl x) (λ x. inside v x) (m.1.within v h);
        },
        m.1.agrees l (Memᴰ.append_right t (Memᴰ.head refl)),
      )
    where
      l : Literal
      l = record { variable = new; positive = b }

      own : (v : ℕ) → names (l ∷ []) v ≡ true → bit scope v ≡ true
      own v h = ⊎_elim (λ q. rw (← eqb-true new v q) w.1) (λ q. bool_clash q refl) (or_cases (eqb new v) false h)

      inside : (v : ℕ) → names (t ++ (l ∷ [])) v ≡ true → (bit scope v ≡ true) ⊎ (names t v ≡ true)
      inside v h = ⊎_elim (λ x. inr x) (λ x. inl (own v x)) (or_cases (names t v) (names (l ∷ []) v) (sym (names-append t (l ∷ []) v) ∙ h))
