-- S17.1: the first bad assumption (request: fixing) of a list, told by what stands before it and without the order of reading.
use Rattle.std.specs.Prelude.{ℕ, ◌<◌, ◌⊎◌, ◌≡◌, length}
use mathlib.Core.List.{List, ◌∷◌, ◌++◌, Memᴰ}
use Rattle.assumptions.specs.declared.Assumption.{Assumption}

-- u is bad behind the assumptions us: its variable is 0, above n, or one of theirs
abbrev pub Bad : ℕ → List Assumption → Assumption → Type 0
Bad n us u = (u.variable ≡ 0) ⊎ ((n < u.variable) ⊎ ((w : Assumption) × Memᴰ w us × (w.variable ≡ u.variable)))

-- none is bad behind those before it
abbrev pub NoneBad : ℕ → List Assumption → Type 0
NoneBad n us = (p : List Assumption) (u : Assumption) (q : List Assumption) → us ≡ p ++ (u ∷ q) → Bad n p u → ⊥

-- the assumption with the index i is bad, and none before it is
pub record FirstBad (n : ℕ) (us : List Assumption) (i : ℕ) : Type 0 where
  pub before : List Assumption
  pub at : Assumption
  pub after : List Assumption
  pub split : us ≡ before ++ (at ∷ after)
  pub place : length before ≡ i
  pub bad : Bad n before at
  pub none_before : NoneBad n before
