-- Positions and what is shown of them: the mode and the trail behind one more entry, and the position that these give back.
use Prim.Native.Nat.{ℕ, suc}
use mathlib.Core.Bool.{Bool, true, false, cond}
use mathlib.Core.List.{List, [], ◌∷◌, ◌++◌}
use mathlib.Core.Logic.{inl, inr}
use mathlib.Core.Path.{◌≡◌, refl, sym, ap}
use native.Mathlib.Omega.{arith}
use lib.Dec.{eqb}
use lib.ListN.{length, length-append}
use borrow.Author.Tests.{eq-eqb}
use Rattle.formula.specs.Format.{Literal}
use Rattle.walk.specs.Plain.{Entry, assigns, undoes, model, end}
use Rattle.walk.specs.Checkpoints.{Behind, without_last, last_value, past}
use Rattle.walk.specs.InnerStack.{Stack, empty, push, depth, trail_of, Tree}
use Rattle.walk.specs.InnerMachine.{Position, down, full, back, over, hands, descend, next}
use Rattle.walk.specs.InnerTest.{mode_of, stack_of, position_of}
use Rattle.walk.proofs.RestLaws.{Pauses, Stops, Reachable, Rising, from_full, from_back, Kind, k_model, k_assign, k_true, k_undo, k_end}

-- the last literal is dropped
pub without_last_snoc : (t : List Literal) (l : Literal) → without_last (t ++ (l ∷ [])) ≡ t
unfolding without_last
without_last_snoc [] l = refl
without_last_snoc (m ∷ []) l = refl
without_last_snoc (m ∷ (k ∷ t)) l = ap {B = List Literal} (λ x. m ∷ x) (without_last_snoc (k ∷ t) l)

-- its value is the last one
pub last_value_snoc : (t : List Literal) (l : Literal) → last_value (t ++ (l ∷ [])) ≡ l.positive
unfolding last_value
last_value_snoc [] l = refl
last_value_snoc (m ∷ []) l = refl
last_value_snoc (m ∷ (k ∷ t)) l = last_value_snoc (k ∷ t) l

-- the trail is as long as the stack is deep
pub length_trail : (t : Stack) → length (trail_of t) ≡ depth t
unfolding trail_of
length_trail empty = refl
length_trail (push v b t) = let i = length_trail t in simp length-append (omega arith)

-- the mode and the trail at a position
abbrev pub behind_of : Position → Behind
behind_of p = record { mode = mode_of p; trail = trail_of (stack_of p) }

module _ (K : Tree) where
  undo_past : (p : Position) (v : ℕ) (b : Bool) (t : Stack) → stack_of p ≡ push v b t → past (behind_of p) undoes ≡ behind_of (back b t)
  unfolding trail_of
  undo_past p v b t e = rw (e, last_value_snoc, without_last_snoc)

  rising_stack : {p : Position} {t : Stack} → Rising K p t → stack_of p ≡ t
  rising_stack (from_full h) = refl
  rising_stack (from_back b h) = refl

  -- the mode and the trail behind one more entry are those of the next position
  pub past_next : {p q : Position} {e : Entry} → Kind K p e q → past (behind_of p) e ≡ behind_of q
  unfolding trail_of
  past_next (k_model h) = refl
  past_next (k_assign b h) = refl
  past_next (k_true h) = refl
  past_next {p} (k_undo v b {t} r) = undo_past p v b t (rising_stack r)
  past_next (k_end r) = refl

  -- behind a model or the end a call can stop
  abbrev pub StopsBehind : Entry → Position → Type 0
  StopsBehind (assigns l e) p = Unit {0}
  StopsBehind undoes p = Unit {0}
  StopsBehind (model a) p = Stops K p
  StopsBehind end p = Stops K p

  -- where the model is handed out a call can stop
  pub full_stops : (t : Stack) → depth t ≡ K.size → Stops K (full t)
  unfolding next
  full_stops empty h = inl (sym h)
  full_stops (push v b t) h = inr tt

  -- the position behind a model or the end
  pub stops_behind : {p q : Position} {e : Entry} → Kind K p e q → StopsBehind e q
  unfolding next
  stops_behind (k_model {t} h) = full_stops t h
  stops_behind (k_assign b h) = tt
  stops_behind (k_true h) = tt
  stops_behind (k_undo v b r) = tt
  stops_behind (k_end r) = inr tt

  -- where a call can stop, the mode and the trail give the position back
  pub position_back : (p : Position) → Reachable K p → Stops K p → position_of K.size (mode_of p) (stack_of p) ≡ p
  unfolding next
  position_back (down empty) r q = refl
  position_back (down (push v b t)) r (inl z) = absurd (omega (arith, r.1))
  position_back (down (push v b t)) r (inr q) = at (eqb (suc (depth t)) K.size) q
    where
      at : (x : Bool) → Pauses (cond x (hands (K.result (push v b t)) (full (push v b t))) (descend (K.choose (push v b t)) (push v b t)))
          → cond x (full (push v b t)) (down (push v b t)) ≡ down (push v b t)
      at true q = absurd q
      at false q = refl
  position_back (full t) r q = rw (eq-eqb (depth t) K.size r.1) refl
  position_back (back false t) r q = refl
  position_back (back true t) r q = refl
  position_back over r q = refl
