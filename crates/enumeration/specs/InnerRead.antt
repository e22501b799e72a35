-- Reading a checkpoint: its trail is assigned again, then its mode's place is taken.
use Rattle.std.specs.Prelude.{ℕ, ◌≡◌, Bool, is_some, Option, Some}
use Rattle.formula.specs.declared.Formula.{Formula}
use Rattle.walk.specs.InnerStack.{Stack, Tree}
use Rattle.walk.specs.InnerTest.{replays, position_of}
use Rattle.enumeration.specs.InnerState.{stack_in, position_in, Follows, Holds, marked_as}
use Rattle.enumeration.specs.declared.scope.Scope.{Scope}
use Rattle.enumeration.specs.declared.state.Place.TheVariants.{Down}
use Rattle.enumeration.specs.declared.state.State.{State}

-- the formula's choices over the scope make a tree
pub record HasTree (f : Formula) (z : Scope) : Type 0 where
  pub tree : Tree
  pub follows : Follows f z tree

-- the state holds the node of the trail t
pub record Node (K : Tree) (t : Stack) (s : State) : Type 0 where
  pub holds : Holds K s
  pub stack : stack_in s ≡ t
  pub place : s.place ≡ Down

-- whether the trail t replays, and the state of its node
pub record Replayed (K : Tree) (t : Stack) (r : Option State) : Type 0 where
  pub known : is_some r ≡ replays K t
  pub node : (s : State) → r ≡ Some s → Node K t s

-- a test's answer, and the state of the mode's position at the trail t
pub record PlaceTaken (K : Tree) (m : ℕ) (t : Stack) (x : Bool) (r : Option State) : Type 0 where
  pub known : is_some r ≡ x
  pub holds : (s : State) → r ≡ Some s → Holds K s
  pub position : (s : State) → r ≡ Some s → position_in s ≡ position_of K.size m t

-- the node's state, with whether true is open at its depth, and whether no clause is left there
abbrev pub noted : State → Bool → Bool → State
noted s b c = record {
  place = Down;
  variable = s.variable;
  length = s.length;
  bytes = s.bytes;
  assignment = s.assignment;
  open_true = marked_as s.open_true s.length b;
  clear = marked_as s.clear s.length c;
}
