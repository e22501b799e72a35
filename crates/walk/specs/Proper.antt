-- S7.4: which checkpoints a walk has, told by themselves.
use Rattle.std.specs.Prelude.{ℕ, zero, suc, ◌<◌, ◌≤◌, true, List, [], ◌∷◌, ◌++◌, ◌⊎◌, ◌≡◌, length}
use Rattle.formula.specs.Format.{Literal}
use Rattle.splitting.specs.Terms.{opened}
use Rattle.walk.specs.Task.{Task, to_assign, choice_at}
use Rattle.walk.specs.Checkpoints.{Checkpoint, checkpoint_of}

module _ (T : Task) where
  -- after the trail u each variable of t was chosen in its turn, and its value open
  abbrev pub ByChoice : List Literal → List Literal → Type 0
  ByChoice u [] = Unit {0}
  ByChoice u (l ∷ t) = (l.variable ≡ (choice_at T u).variable) × (opened (choice_at T u) l.positive ≡ true) × ByChoice (u ++ (l ∷ [])) t

  -- S7.3, S7.4: the condition of each mode. Modes 0 (start) and 4 (end) have no trail. Mode 1 (assigned) is had at length 0 only where
  -- nothing is to be assigned. A value was undone (2: false, 3: true) only where it is open, at a node that is not full. At length 0 mode 3
  -- is never had, and mode 2 only where true is open: else the end follows in the same call.
  abbrev pub ModeFits : ℕ → List Literal → Type 0
  ModeFits zero t = length t ≡ 0
  ModeFits (suc zero) t = (0 < length t) ⊎ (to_assign T ≡ 0)
  ModeFits (suc (suc zero)) t = (length t < to_assign T) × ((choice_at T t).false_open ≡ true) × ((0 < length t) ⊎ ((choice_at T t).true_open ≡ true))
  ModeFits (suc (suc (suc zero))) t = (length t < to_assign T) × ((choice_at T t).true_open ≡ true) × (0 < length t)
  ModeFits (suc (suc (suc (suc zero)))) t = length t ≡ 0
  ModeFits (suc (suc (suc (suc (suc m))))) t = ⊥

  -- a trail by choice, no longer than there are variables to assign, the mode's own condition, and the bytes of that trail with 0 behind
  -- them
  pub record Proper (c : Checkpoint) : Type 0 where
    pub trail : List Literal
    pub short : length trail ≤ to_assign T
    pub by_choice : ByChoice [] trail
    pub mode_fits : ModeFits c.mode trail
    pub written : c ≡ checkpoint_of c.mode trail
