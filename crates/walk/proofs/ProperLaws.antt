-- The checkpoints that the test passes are the proper ones.
use Prim.Native.Nat.{ℕ, zero, suc, ◌+◌, ◌<◌, ◌≤◌}
use mathlib.Core.Bool.{true, not, ◌||◌, false≢true}
use mathlib.Core.List.{List, [], ◌∷◌, ◌++◌, append_assoc, append-nil}
use mathlib.Core.Logic.{◌⊎◌, inl, inr, ⊎_elim}
use mathlib.Core.Path.{◌≡◌, refl, sym, ap, ap₂, ◌∙◌, subst}
use native.Mathlib.Omega.{arith}
use lib.Dec.{eqb, ltb}
use lib.ListN.{length}
use borrow.Author.Tests.{eqb-true, eq-eqb, ltb-true, lt-ltb}
use Rattle.lists.proofs.TestLaws.{and_left, and_right, and_both, or_cases, or_right}
use Rattle.formula.specs.Format.{Literal}
use Rattle.splitting.specs.Terms.{opened}
use Rattle.walk.specs.Task.{Task, to_assign, choice_at}
use Rattle.walk.specs.Checkpoints.{Checkpoint, checkpoint_of}
use Rattle.walk.specs.Proper.{ByChoice, ModeFits, Proper}
use Rattle.walk.specs.InnerStack.{Stack, empty, push, depth, trail_of, tree}
use Rattle.walk.specs.InnerMachine.{Position}
use Rattle.walk.specs.InnerTest.{mode_of, stack_of, shown, is_empty, replays, fits}
use Rattle.walk.proofs.RestLaws.{Stops, Replayed, replayed_depth, Reachable, Live}
use Rattle.walk.proofs.PositionLaws.{length_trail}
use Rattle.walk.proofs.TestLaws.{replayed_replays, fits_stop, stop_fits}
use Rattle.walk.proofs.AcceptLaws.{mode_le, stack_replayed}

-- the stack of a trail, above s
abbrev stacked : Stack → List Literal → Stack
stacked s [] = s
stacked s (l ∷ t) = stacked (push l.variable l.positive s) t

stacked_trail : (t : List Literal) (s : Stack) → trail_of (stacked s t) ≡ trail_of s ++ t
unfolding trail_of
stacked_trail [] s = sym (append-nil (trail_of s))
stacked_trail (l ∷ t) s = stacked_trail t (push l.variable l.positive s) ∙ append_assoc (trail_of s) (l ∷ []) t

module _ (T : Task) where
  -- one literal more
  choice_more : (u t : List Literal) (l : Literal) → ByChoice T u t → l.variable ≡ (choice_at T (u ++ t)).variable
      → opened (choice_at T (u ++ t)) l.positive ≡ true → ByChoice T u (t ++ (l ∷ []))
  choice_more u [] l h v o =
      let e : u ++ [] ≡ u = append-nil u in
      (subst (λ (w : List Literal). l.variable ≡ (choice_at T w).variable) e v, subst (λ (w : List Literal). opened (choice_at T w) l.positive ≡ true) e o, tt)
  choice_more u (k ∷ t) l h v o =
      let e : u ++ (k ∷ t) ≡ (u ++ (k ∷ [])) ++ t = sym (append_assoc u (k ∷ []) t) in (
        h.0,
        h.1,
        choice_more (u ++ (k ∷ [])) t l h.2 (subst (λ (w : List Literal). l.variable ≡ (choice_at T w).variable) e v)
            (subst (λ (w : List Literal). opened (choice_at T w) l.positive ≡ true) e o),
      )

  -- a replayed trail is by choice
  replayed_choice : (t : Stack) → Replayed (tree T) t → ByChoice T [] (trail_of t)
  unfolding trail_of
  replayed_choice empty r = tt
  replayed_choice (push v b t) r = choice_more [] (trail_of t) (record { variable = v; positive = b }) (replayed_choice t r.0) r.2 r.3

  choice_replayed : (t : List Literal) (s : Stack) → Replayed (tree T) s → depth s + length t ≤ to_assign T → ByChoice T (trail_of s) t → Replayed (tree T) (stacked s t)
  unfolding trail_of
  choice_replayed [] s r d h = r
  choice_replayed (l ∷ t) s r d h = choice_replayed t (push l.variable l.positive s) (r, omega arith, h.0, h.1) (omega arith) h.2

  empty_length : (t : Stack) → is_empty t ≡ true → length (trail_of t) ≡ 0
  empty_length empty e = length_trail empty
  empty_length (push v b t) e = absurd (false≢true e)

  length_empty : (t : Stack) → length (trail_of t) ≡ 0 → is_empty t ≡ true
  length_empty empty e = refl
  length_empty (push v b t) e = let k = length_trail (push v b t) in absurd (omega arith)

  some_length : (t : Stack) → not (is_empty t) ≡ true → 0 < length (trail_of t)
  some_length empty e = absurd (false≢true e)
  some_length (push v b t) e = let k = length_trail (push v b t) in omega arith

  length_some : (t : Stack) → 0 < length (trail_of t) → not (is_empty t) ≡ true
  length_some empty h = let k = length_trail empty in absurd (omega arith)
  length_some (push v b t) h = refl

  -- the test of the mode is its condition
  fits_mode : (m : ℕ) (t : Stack) → m ≤ 4 → fits (tree T) m t ≡ true → ModeFits T m (trail_of t)
  unfolding fits
  fits_mode zero t h e = empty_length t e
  fits_mode (suc zero) t h e =
      ⊎_elim (λ (z : not (is_empty t) ≡ true). inl (some_length t z)) (λ (z : eqb (to_assign T) 0 ≡ true). inr (eqb-true (to_assign T) 0 z))
      (or_cases (not (is_empty t)) _ (and_left (not (is_empty t) || eqb (to_assign T) 0) _ e))
  fits_mode (suc (suc zero)) t h e =
      let x = and_right (replays (tree T) t) _ e in
      let y = and_right (ltb (depth t) (to_assign T)) _ x in
      let d : depth t < to_assign T = ltb-true _ _ (and_left (ltb (depth t) (to_assign T)) _ x) in
      let k = length_trail t in (
        omega arith,
        and_left (choice_at T (trail_of t)).false_open _ y,
        ⊎_elim (λ (z : not (is_empty t) ≡ true). inl (some_length t z)) (λ (z : (choice_at T (trail_of t)).true_open ≡ true). inr z)
            (or_cases (not (is_empty t)) _ (and_right (choice_at T (trail_of t)).false_open _ y)),
      )
  fits_mode (suc (suc (suc zero))) t h e =
      let x = and_right (replays (tree T) t) _ e in
      let y = and_right (ltb (depth t) (to_assign T)) _ x in
      let d : depth t < to_assign T = ltb-true _ _ (and_left (ltb (depth t) (to_assign T)) _ x) in
      let k = length_trail t in
      (omega arith, and_left (choice_at T (trail_of t)).true_open _ y, some_length t (and_right (choice_at T (trail_of t)).true_open _ y))
  fits_mode (suc (suc (suc (suc zero)))) t h e = empty_length t e
  fits_mode (suc (suc (suc (suc (suc m))))) t h e = absurd (omega arith)

  mode_fits : (m : ℕ) (t : Stack) → Replayed (tree T) t → ModeFits T m (trail_of t) → (m ≤ 4) × (fits (tree T) m t ≡ true)
  unfolding fits
  mode_fits zero t r f = (omega arith, length_empty t f)
  mode_fits (suc zero) t r f = (omega arith, and_both _ _ (at f) (replayed_replays (tree T) t r))
    where
      at : (0 < length (trail_of t)) ⊎ (to_assign T ≡ 0) → not (is_empty t) || eqb (to_assign T) 0 ≡ true
      at (inl z) = rw (length_some t z)
      at (inr z) = or_right (not (is_empty t)) _ (eq-eqb (to_assign T) 0 z)
  mode_fits (suc (suc zero)) t r f =
      let k = length_trail t in (
        omega arith,
        and_both _ _ (replayed_replays (tree T) t r) (and_both _ _ (lt-ltb (depth t) (to_assign T) (omega (arith, f.0))) (and_both _ _ f.1 (at f.2))),
      )
    where
      at : (0 < length (trail_of t)) ⊎ ((choice_at T (trail_of t)).true_open ≡ true) → not (is_empty t) || (choice_at T (trail_of t)).true_open ≡ true
      at (inl z) = rw (length_some t z)
      at (inr z) = or_right (not (is_empty t)) _ z
  mode_fits (suc (suc (suc zero))) t r f =
      let k = length_trail t in (
        omega arith,
        and_both _ _ (replayed_replays (tree T) t r) (and_both _ _ (lt-ltb (depth t) (to_assign T) (omega (arith, f.0))) (and_both _ _ f.1 (length_some t f.2))),
      )
  mode_fits (suc (suc (suc (suc zero)))) t r f = (omega arith, length_empty t f)
  mode_fits (suc (suc (suc (suc (suc m))))) t r f = absurd f

  module _ (L : Live (tree T)) where
    -- the checkpoint of a position at which a call can stop is proper
    shown_proper : (p : Position) → Reachable (tree T) p → Stops (tree T) p → Proper T (shown p)
    unfolding checkpoint_of
    shown_proper p o q =
        let r = stack_replayed (tree T) p o in
        let d = replayed_depth (tree T) (stack_of p) r in
        let k = length_trail (stack_of p) in
        record {
          trail = trail_of (stack_of p);
          short = omega arith;
          by_choice = replayed_choice (stack_of p) r;
          mode_fits = fits_mode (mode_of p) (stack_of p) (mode_le p) (stop_fits (tree T) L p o q);
          written = refl;
        }

    -- the same of any checkpoint
    pub stop_proper : (p : Position) (c : Checkpoint) → Reachable (tree T) p → Stops (tree T) p → shown p ≡ c → Proper T c
    stop_proper p c o q e = subst (Proper T) e (shown_proper p o q)

    -- a proper checkpoint is one of a position at which a call can stop
    pub proper_stop : (c : Checkpoint) → Proper T c → (p : Position) × Reachable (tree T) p × Stops (tree T) p × (shown p ≡ c)
    unfolding trail_of
    proper_stop c w =
        let u = stacked empty w.trail in
        let e : trail_of (stacked empty w.trail) ≡ w.trail = stacked_trail w.trail empty in
        let r = choice_replayed w.trail empty tt (omega (arith, w.short)) w.by_choice in
        let f = mode_fits c.mode (stacked empty w.trail) r (subst (ModeFits T c.mode) (sym e) w.mode_fits) in
        let x = fits_stop (tree T) L c.mode (stacked empty w.trail) f.0 f.1 in
        (x.position, x.fine, x.stops, ap₂ checkpoint_of x.mode (ap trail_of x.stack ∙ e) ∙ sym w.written)
