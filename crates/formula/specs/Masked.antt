-- S4.1: the variables of a clause as a mask.
use Rattle.std.specs.Prelude.{ℕ, List, [], ◌∷◌}
use Rattle.masks.specs.Mask.{with}
use Rattle.formula.specs.Format.{Literal}

-- the variables that a clause names
unfoldable pub variables : List Literal → ℕ
variables [] = 0
variables (l ∷ c) = with (variables c) l.variable
