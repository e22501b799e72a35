-- Walk calls of two lists of budgets, one behind the other: on any input, from any checkpoint.
use Prim.Native.Nat.{ℕ}
use mathlib.Core.List.{List, [], ◌∷◌, ◌++◌}
use mathlib.Core.Path.{◌≡◌, refl, ap}
use Rattle.assumptions.specs.declared.Assumption.{Assumption}
use Rattle.walk.specs.Checkpoints.{Checkpoint}
use Rattle.walk.specs.Results.{Result}
use Rattle.walk.specs.WalkCall.{walk_call, walk_calls, last_checkpoint}

module _ (s : List ℕ) (us : List Assumption) where
  -- the results of the second begin at the last checkpoint of the first,
  pub calls_append : (bs ds : List ℕ) (c : Checkpoint) → walk_calls s us c (bs ++ ds) ≡ walk_calls s us c bs ++ walk_calls s us (last_checkpoint s us c bs) ds
  unfolding walk_calls last_checkpoint
  calls_append [] ds c = refl
  calls_append (b ∷ bs) ds c = ap {B = List Result} (λ l. walk_call s us c b ∷ l) (calls_append bs ds (walk_call s us c b).checkpoint)

  -- and its last checkpoint is that of all
  pub last_checkpoint_append : (bs ds : List ℕ) (c : Checkpoint) → last_checkpoint s us c (bs ++ ds) ≡ last_checkpoint s us (last_checkpoint s us c bs) ds
  unfolding last_checkpoint
  last_checkpoint_append [] ds c = refl
  last_checkpoint_append (b ∷ bs) ds c = last_checkpoint_append bs ds (walk_call s us c b).checkpoint
