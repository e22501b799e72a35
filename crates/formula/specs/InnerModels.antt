-- Models as tests, which check makes: `check_yes`, `check_no` and `check_stray` in proofs/Demands.antt say what they decide.
use Rattle.std.specs.Prelude.{ℕ, ◌/◌, ◌^◌, Bool, true, false, not, ◌&&◌, ◌||◌, List, [], ◌∷◌, eqb}
use Rattle.std.specs.Bool.{beq}
use Rattle.masks.specs.Mask.{bit}
use Rattle.formula.specs.Format.{Literal}

-- the variable stands the way that the literal names it
abbrev pub stands : ℕ → Literal → Bool
stands a l = beq (bit a l.variable) l.positive

-- some literal of the clause stands
unfoldable pub holds : ℕ → List Literal → Bool
holds a [] = false
holds a (l ∷ c) = stands a l || holds a c

-- every clause holds
unfoldable pub satisfied : ℕ → List (List Literal) → Bool
satisfied a [] = true
satisfied a (c ∷ cs) = holds a c && satisfied a cs

-- some variable from n on is true
abbrev pub stray : ℕ → ℕ → Bool
stray n a = not (eqb (a / 2 ^ n) 0)
