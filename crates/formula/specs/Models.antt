-- S4: assignments and models. An assignment (request: set-up) is a 64-bit mask: variable v is true if bit v is set.
use Rattle.std.specs.Prelude.{ℕ, ◌≤◌, true, false, ◌≡◌}
use mathlib.Core.List.{List, Memᴰ}
use Rattle.masks.specs.Mask.{bit}
use Rattle.formula.specs.Format.{Literal, Encodes}

-- S4.2: a model (request: permitted set-up): of every clause some literal is true, and no variable from n on is
pub record Model (n : ℕ) (cs : List (List Literal)) (a : ℕ) : Type 0 where
  pub satisfies : (c : List Literal) → Memᴰ c cs → (l : Literal) × Memᴰ l c × (bit a l.variable ≡ l.positive)
  pub none_above : (v : ℕ) → n ≤ v → bit a v ≡ false

-- a model of an input: the input is readable, and the assignment is a model of its formula
pub record ModelOf (s : List ℕ) (a : ℕ) : Type 0 where
  pub variables : ℕ
  pub clauses : List (List Literal)
  pub encodes : Encodes s variables clauses
  pub model : Model variables clauses a

-- no model of an input: readable, no variable from n on true, and not a model
pub record NoModelOf (s : List ℕ) (a : ℕ) : Type 0 where
  pub variables : ℕ
  pub clauses : List (List Literal)
  pub encodes : Encodes s variables clauses
  pub none_above : (v : ℕ) → variables ≤ v → bit a v ≡ false
  pub fails : Model variables clauses a → ⊥

-- a stray variable (request: stray switch): the input is readable, and a variable from n on is true
pub record StrayOf (s : List ℕ) (a : ℕ) : Type 0 where
  pub variables : ℕ
  pub clauses : List (List Literal)
  pub encodes : Encodes s variables clauses
  pub variable : ℕ
  pub above : variables ≤ variable
  pub is_true : bit a variable ≡ true
