-- The mode's condition holds exactly where a call can stop. Over any tree.
use Prim.Native.Nat.{ℕ, zero, suc, ◌≤◌, ◌<◌}
use mathlib.Core.Bool.{Bool, true, false, cond, not, ◌||◌, false≢true}
use mathlib.Core.Logic.{inl, inr}
use mathlib.Core.Path.{◌≡◌, refl, sym}
use native.Mathlib.Omega.{arith}
use lib.Dec.{eqb, ltb}
use borrow.Author.Tests.{eqb-true, eqb-false, eq-eqb, ltb-true, lt-ltb}
use Rattle.lists.proofs.TestLaws.{and_left, and_right, and_both}
use Rattle.walk.specs.InnerStack.{Stack, empty, push, depth, Tree}
use Rattle.walk.specs.InnerMachine.{Position, down, full, back, over, rise, enter, next}
use Rattle.walk.specs.InnerTest.{mode_of, stack_of, is_empty, replays, fits}
use Rattle.walk.proofs.RestLaws.{Pauses, Stops, Replayed, Reachable, Live}
use Rattle.walk.proofs.PositionLaws.{full_stops}
use Rattle.walk.proofs.MetLaws.{down_quiet, start_stops}

module _ (K : Tree) where
  -- the replay tests that the trail is one of the tree
  pub replays_replayed : (t : Stack) → replays K t ≡ true → Replayed K t
  unfolding replays
  replays_replayed empty e = tt
  replays_replayed (push v b t) e =
      let x = and_right (replays K t) _ e in
      let y = and_right (ltb (depth t) K.size) _ x in (
        replays_replayed t (and_left (replays K t) _ e),
        ltb-true _ _ (and_left (ltb (depth t) K.size) _ x),
        eqb-true _ _ (and_left (eqb v (K.choose t).variable) _ y),
        and_right (eqb v (K.choose t).variable) _ y,
      )

  -- and passes each
  pub replayed_replays : (t : Stack) → Replayed K t → replays K t ≡ true
  unfolding replays
  replayed_replays empty r = refl
  replayed_replays (push v b t) r =
      and_both _ _ (replayed_replays t r.0) (and_both _ _ (lt-ltb _ _ r.1) (and_both _ _ (eq-eqb _ _ r.2) r.3))

  -- a position with this mode and trail, at which a call can stop
  pub record Stop (m : ℕ) (t : Stack) : Type 0 where
    pub position : Position
    pub fine : Reachable K position
    pub stops : Stops K position
    pub mode : mode_of position ≡ m
    pub stack : stack_of position ≡ t

  -- the condition gives the position
  pub fits_stop : Live K → (m : ℕ) (t : Stack) → m ≤ 4 → fits K m t ≡ true → Stop m t
  unfolding fits
  fits_stop L zero empty h e = record { position = down empty; fine = tt; stops = start_stops K L; mode = refl; stack = refl }
  fits_stop L zero (push v b t) h e = absurd (false≢true e)
  fits_stop L (suc zero) empty h e =
      let z = eqb-true K.size 0 (and_left (eqb K.size 0) _ e) in
      record { position = full empty; fine = (tt, sym z); stops = inl z; mode = refl; stack = refl }
  fits_stop L (suc zero) (push v b t) h e = at (eqb (suc (depth t)) K.size) refl
    where
      r : Replayed K (push v b t)
      r = replays_replayed (push v b t) e

      at : (x : Bool) → eqb (suc (depth t)) K.size ≡ x → Stop 1 (push v b t)
      at true q =
          let h = eqb-true (suc (depth t)) K.size q in
          record { position = full (push v b t); fine = (r, h); stops = full_stops K (push v b t) h; mode = refl; stack = refl }
      at false q =
          let ne : suc (depth t) ≡ K.size → ⊥ = eqb-false _ _ q in
          let h : suc (depth t) < K.size = omega (arith, r.1) in
          record { position = down (push v b t); fine = r; stops = inr (down_quiet K L (push v b t) h); mode = refl; stack = refl }
  fits_stop L (suc (suc zero)) t h e =
      let x = and_right (replays K t) _ e in
      let y = and_right (ltb (depth t) K.size) _ x in
      record {
        position = back false t;
        fine = (replays_replayed t (and_left (replays K t) _ e), ltb-true _ _ (and_left (ltb (depth t) K.size) _ x), and_left (K.choose t).false_open _ y);
        stops = inr (unfold next in (at (K.choose t).true_open t (and_right (K.choose t).false_open _ y)));
        mode = refl;
        stack = refl;
      }
    where
      at : (x : Bool) (u : Stack) → (not (is_empty u) || x) ≡ true → Pauses (cond x (enter 0 (K.choose t) true t) (rise u))
      at true u h = tt
      at false empty h = absurd (false≢true h)
      at false (push v b u) h = tt
  fits_stop L (suc (suc (suc zero))) t h e =
      let x = and_right (replays K t) _ e in
      let y = and_right (ltb (depth t) K.size) _ x in
      record {
        position = back true t;
        fine = (replays_replayed t (and_left (replays K t) _ e), ltb-true _ _ (and_left (ltb (depth t) K.size) _ x), and_left (K.choose t).true_open _ y);
        stops = inr (unfold next in (at t (and_right (K.choose t).true_open _ y)));
        mode = refl;
        stack = refl;
      }
    where
      at : (u : Stack) → not (is_empty u) ≡ true → Pauses (rise u)
      at empty h = absurd (false≢true h)
      at (push v b u) h = tt
  fits_stop L (suc (suc (suc (suc zero)))) empty h e = record { position = over; fine = tt; stops = inr (unfold next in tt); mode = refl; stack = refl }
  fits_stop L (suc (suc (suc (suc zero)))) (push v b t) h e = absurd (false≢true e)
  fits_stop L (suc (suc (suc (suc (suc m))))) t h e = absurd (omega arith)

  -- and holds of each
  pub stop_fits : Live K → (p : Position) → Reachable K p → Stops K p → fits K (mode_of p) (stack_of p) ≡ true
  unfolding fits next replays
  stop_fits L (down empty) o q = refl
  stop_fits L (down (push v b t)) o q = replayed_replays (push v b t) o
  stop_fits L (full empty) o q = and_both _ _ (eq-eqb K.size 0 (sym o.1)) refl
  stop_fits L (full (push v b t)) o q = replayed_replays (push v b t) o.0
  stop_fits L (back false t) o (inl z) = absurd (omega (arith, o.1))
  stop_fits L (back false t) o (inr q) =
      and_both _ _ (replayed_replays t o.0) (and_both _ _ (lt-ltb _ _ o.1) (and_both _ _ o.2 (at t (K.choose t).true_open q)))
    where
      at : (u : Stack) (x : Bool) → Pauses (cond x (enter 0 (K.choose t) true t) (rise u)) → (not (is_empty u) || x) ≡ true
      at empty true h = refl
      at empty false h = absurd h
      at (push v b u) x h = refl
  stop_fits L (back true t) o (inl z) = absurd (omega (arith, o.1))
  stop_fits L (back true t) o (inr q) =
      and_both _ _ (replayed_replays t o.0) (and_both _ _ (lt-ltb _ _ o.1) (and_both _ _ o.2 (at t q)))
    where
      at : (u : Stack) → Pauses (rise u) → not (is_empty u) ≡ true
      at empty h = absurd h
      at (push v b u) h = refl
  stop_fits L over o q = refl
