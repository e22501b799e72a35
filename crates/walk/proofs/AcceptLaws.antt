-- The test passes exactly the checkpoints of the positions at which a call can stop; a call from such a checkpoint goes on from the
-- position. Over any tree of at most 48 variables.
use Prim.Native.Nat.{ℕ, ◌≤◌}
use mathlib.Core.Bool.{true, false}
use mathlib.Core.List.{map}
use mathlib.Core.Path.{◌≡◌, refl, sym, ap, ap₂, ◌∙◌, subst}
use native.Mathlib.Omega.{arith}
use lib.ListN.{length, length-map}
use Rattle.limits.specs.Limits.{max_variables}
use Rattle.lists.proofs.PaddedLaws.{length_padded}
use Rattle.lists.proofs.TestLaws.{and_left, and_right, and_both}
use Rattle.walk.specs.Checkpoints.{byte, Checkpoint, trail_in, checkpoint_of}
use Rattle.walk.specs.InnerStack.{Stack, empty, push, trail_of, Tree}
use Rattle.walk.specs.InnerMachine.{Position, down, full, back, over, resume}
use Rattle.walk.specs.InnerTest.{mode_of, stack_of, shown, read, position_of, formed, fits, accepts}
use Rattle.walk.specs.InnerCall.{resumed_result, call_from}
use Rattle.walk.proofs.RestLaws.{Stops, Replayed, replayed_depth, Reachable, Live}
use Rattle.walk.proofs.PositionLaws.{position_back, length_trail}
use Rattle.walk.proofs.TestLaws.{fits_stop, stop_fits}
use Rattle.walk.proofs.ByteLaws.{Below, read_trail, read-written, written-formed, formed-written, formed_mode}

-- a position's mode is 0 to 4
pub mode_le : (p : Position) → mode_of p ≤ 4
mode_le (down empty) = omega arith
mode_le (down (push v b t)) = omega arith
mode_le (full t) = omega arith
mode_le (back false t) = omega arith
mode_le (back true t) = omega arith
mode_le over = omega arith

module _ (K : Tree) where
  -- the trail of a position
  pub stack_replayed : (p : Position) → Reachable K p → Replayed K (stack_of p)
  stack_replayed (down t) o = o
  stack_replayed (full t) o = o.0
  stack_replayed (back b t) o = o.0
  stack_replayed over o = tt

  -- the checkpoint of a position has 48 bytes
  pub shown_bytes : (p : Position) → Reachable K p → K.size ≤ max_variables → length (shown p).bytes ≡ max_variables
  unfolding checkpoint_of
  shown_bytes p o small =
      let t = stack_of p in
      let d = replayed_depth K t (stack_replayed p o) in
      let l = length_trail t in
      let m : length (map byte (trail_of t)) ≤ max_variables = rw length-map (omega arith) in
      length_padded max_variables 0 (map byte (trail_of t)) m

module _ (K : Tree) (L : Live K) (small : K.size ≤ max_variables) (low : (t : Stack) → Replayed K t → Below max_variables t) where
  shown_mode : (p : Position) → (shown p).mode ≡ mode_of p
  unfolding checkpoint_of
  shown_mode p = refl

  shown_read : (p : Position) → Reachable K p → read (shown p) ≡ stack_of p
  shown_read p o = read-written (mode_of p) (stack_of p) (low (stack_of p) (stack_replayed K p o))

  -- the trail in the checkpoint of a position is the position's
  pub shown_trail : (p : Position) → Reachable K p → trail_in (shown p) ≡ trail_of (stack_of p)
  shown_trail p o = sym (read_trail (shown p)) ∙ ap trail_of (shown_read p o)

  -- where a call can stop, the checkpoint passes the test
  pub shown_accepted : (p : Position) → Reachable K p → Stops K p → accepts K (shown p) ≡ true
  unfolding accepts
  shown_accepted p o q =
      let r = stack_replayed K p o in
      let d = replayed_depth K (stack_of p) r in
      and_both _ _ (written-formed (mode_of p) (stack_of p) (mode_le p) (omega arith) (low (stack_of p) r))
      (ap₂ (fits K) (shown_mode p) (shown_read p o) ∙ stop_fits K L p o q)

  -- and gives the position back
  pub shown_position : (p : Position) → Reachable K p → Stops K p → position_of K.size (shown p).mode (read (shown p)) ≡ p
  shown_position p o q = ap₂ (position_of K.size) (shown_mode p) (shown_read p o) ∙ position_back K p o q

  -- so a call from it goes on from the position
  pub call_shown : (b : ℕ) (p : Position) → Reachable K p → Stops K p → call_from K (shown p) b ≡ resumed_result (resume K b p)
  call_shown b p o q = ap (λ (x : Position). resumed_result (resume K b x)) (shown_position p o q)

  -- a checkpoint that passes is one of a position at which a call can stop
  pub record Stopped (c : Checkpoint) : Type 0 where
    pub position : Position
    pub fine : Reachable K position
    pub stops : Stops K position
    pub shows : shown position ≡ c

  -- the position of a checkpoint that passes
  pub accepted_stopped : (c : Checkpoint) → length c.bytes ≡ max_variables → accepts K c ≡ true → Stopped c
  unfolding accepts
  accepted_stopped c h e =
      let f = and_left (formed c) _ e in
      let s = fits_stop K L c.mode (read c) (formed_mode c f) (and_right (formed c) _ e) in
      record {
        position = s.position;
        fine = s.fine;
        stops = s.stops;
        shows = ap₂ (λ (m : ℕ) (t : Stack). checkpoint_of m (trail_of t)) s.mode s.stack ∙ formed-written c h f;
      }

  -- and each of them passes
  pub stopped_accepted : (c : Checkpoint) → Stopped c → accepts K c ≡ true
  stopped_accepted c s = subst (λ (x : Checkpoint). accepts K x ≡ true) s.shows (shown_accepted s.position s.fine s.stops)
