-- S7.2, S7.3: the checkpoint (request: marker) for the entries behind.
use Rattle.std.specs.Prelude.{ℕ, ◌+◌, ◌-◌, Bool, true, false, cond, List, [], ◌∷◌, ◌++◌, map, leb, length, take}
use Rattle.lists.specs.Padded.{padded}
use Rattle.formula.specs.Format.{Literal}
use Rattle.limits.specs.Limits.{max_variables}
use Rattle.walk.specs.Task.{Task}
use Rattle.walk.specs.Plain.{Entry, assigns, undoes, model, end, plain_walk}

-- a checkpoint: its mode, how many variables are assigned, and 48 bytes
pub record Checkpoint : Type 0 where
  pub mode : ℕ
  pub length : ℕ
  pub bytes : List ℕ

-- S7.2: a variable's byte, its number from 1, plus 128 if true
abbrev pub byte : Literal → ℕ
byte l = cond l.positive (l.variable + 1 + 128) (l.variable + 1)

-- and back: a byte's variable, from 1, and its value; and so its literal
abbrev pub byte_number : ℕ → ℕ
byte_number x = cond (leb 128 x) (x - 128) x

abbrev pub byte_value : ℕ → Bool
byte_value x = leb 128 x

abbrev pub byte_literal : ℕ → Literal
byte_literal x = record { variable = byte_number x - 1; positive = byte_value x }

-- S21.1: the trail in a checkpoint: the literals of its first `length` bytes
unfoldable pub trail_in : Checkpoint → List Literal
trail_in c = map byte_literal (take c.length c.bytes)

-- the checkpoint of a trail: a byte for each assigned variable in order, and zeros behind them
unfoldable pub checkpoint_of : ℕ → List Literal → Checkpoint
checkpoint_of mode t = record { mode = mode; length = length t; bytes = padded max_variables 0 (map byte t) }

-- S8.3: the start checkpoint (request: start marker)
unfoldable pub start : Checkpoint
start = checkpoint_of 0 []

-- the mode and the trail behind some entries
pub record Behind : Type 0 where
  pub mode : ℕ
  pub trail : List Literal

-- the trail without its last literal
unfoldable pub without_last : List Literal → List Literal
without_last [] = []
without_last (l ∷ []) = []
without_last (l ∷ (m ∷ t)) = l ∷ without_last (m ∷ t)

-- the value of its last variable
unfoldable pub last_value : List Literal → Bool
last_value [] = false
last_value (l ∷ []) = l.positive
last_value (l ∷ (m ∷ t)) = last_value (m ∷ t)

-- S7.3: mode 2 where false was undone, 3 where true was
abbrev pub undone_mode : Bool → ℕ
undone_mode false = 2
undone_mode true = 3

-- S7.3: one entry more: mode 1 behind an assignment, mode 4 and no trail behind the end. A model leaves the trail as it is, and mode 1,
-- which it has already where something was assigned
abbrev pub past : Behind → Entry → Behind
past p (assigns l e) = record { mode = 1; trail = p.trail ++ (l ∷ []) }
past p undoes = record { mode = undone_mode (last_value p.trail); trail = without_last p.trail }
past p (model a) = record { mode = 1; trail = p.trail }
past p end = record { mode = 4; trail = [] }

-- some entries more
unfoldable pub past_all : Behind → List Entry → Behind
past_all p [] = p
past_all p (e ∷ es) = past_all (past p e) es

-- behind the first k entries of the plain walk: mode 0 and no trail at the start
unfoldable pub behind : Task → ℕ → Behind
behind T k = past_all (record { mode = 0; trail = [] }) (take k (plain_walk T))

-- the checkpoint behind the first k entries, which a call that stops there returns
unfoldable pub checkpoint_after : Task → ℕ → Checkpoint
checkpoint_after T k = checkpoint_of (behind T k).mode (behind T k).trail
