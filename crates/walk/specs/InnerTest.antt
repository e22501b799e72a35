-- Checkpoints and positions; the test of a checkpoint: replay of its trail with the choice, then the mode's own condition.
use Rattle.std.specs.Prelude.{ℕ, zero, suc, ◌-◌, Bool, true, false, cond, not, ◌&&◌, ◌||◌, List, [], ◌∷◌, eqb, leb, ltb, take, drop}
use Rattle.limits.specs.Limits.{max_variables}
use Rattle.splitting.specs.Terms.{opened}
use Rattle.walk.specs.Checkpoints.{Checkpoint, byte_number, byte_value, checkpoint_of, undone_mode}
use Rattle.walk.specs.InnerStack.{Stack, empty, push, depth, trail_of, Tree}
use Rattle.walk.specs.InnerMachine.{Position, down, full, back, over}

-- a position's mode
abbrev pub mode_of : Position → ℕ
mode_of (down empty) = 0
mode_of (down (push v b t)) = 1
mode_of (full t) = 1
mode_of (back b t) = undone_mode b
mode_of over = 4

-- its trail
abbrev pub stack_of : Position → Stack
stack_of (down t) = t
stack_of (full t) = t
stack_of (back b t) = t
stack_of over = empty

-- both as a checkpoint
abbrev pub shown : Position → Checkpoint
shown p = checkpoint_of (mode_of p) (trail_of (stack_of p))

-- t, and then the variables of some bytes
unfoldable pub pushed : Stack → List ℕ → Stack
pushed t [] = t
pushed t (x ∷ xs) = pushed (push (byte_number x - 1) (byte_value x) t) xs

-- the trail of a checkpoint's bytes
abbrev pub read : Checkpoint → Stack
read c = pushed empty (take c.length c.bytes)

-- the position of a mode and a trail; at full length the model is handed out
abbrev pub position_of : ℕ → ℕ → Stack → Position
position_of n zero t = down t
position_of n (suc zero) t = cond (eqb (depth t) n) (full t) (down t)
position_of n (suc (suc zero)) t = back false t
position_of n (suc (suc (suc zero))) t = back true t
position_of n (suc (suc (suc (suc m)))) t = over

-- no byte has the number 0
unfoldable pub numbered : List ℕ → Bool
numbered [] = true
numbered (x ∷ xs) = not (eqb (byte_number x) 0) && numbered xs

-- all bytes are 0
unfoldable pub zeros : List ℕ → Bool
zeros [] = true
zeros (x ∷ xs) = eqb x 0 && zeros xs

-- a mode up to 4, a length up to 48, numbers before it, 0 behind it
unfoldable pub formed : Checkpoint → Bool
formed c = leb c.mode 4 && (leb c.length max_variables && (numbered (take c.length c.bytes) && zeros (drop c.length c.bytes)))

-- nothing is assigned
abbrev pub is_empty : Stack → Bool
is_empty empty = true
is_empty (push v b t) = false

module _ (K : Tree) where
  -- each variable of the trail was chosen, and its value open
  unfoldable pub replays : Stack → Bool
  replays empty = true
  replays (push v b t) = replays t && (ltb (depth t) K.size && (eqb v (K.choose t).variable && opened (K.choose t) b))

  -- the mode's own condition
  unfoldable pub fits : ℕ → Stack → Bool
  fits zero t = is_empty t
  fits (suc zero) t = (not (is_empty t) || eqb K.size 0) && replays t
  fits (suc (suc zero)) t = replays t && (ltb (depth t) K.size && ((K.choose t).false_open && (not (is_empty t) || (K.choose t).true_open)))
  fits (suc (suc (suc zero))) t = replays t && (ltb (depth t) K.size && ((K.choose t).true_open && not (is_empty t)))
  fits (suc (suc (suc (suc m)))) t = is_empty t

  -- the test
  unfoldable pub accepts : Checkpoint → Bool
  accepts c = formed c && fits c.mode (read c)
