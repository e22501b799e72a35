-- S17.4: a list of assumptions (request: fixed settings) as bytes, two for each: the variable, from 1, and 0 for false or another byte
-- for true. A lone last byte is none.
use Rattle.std.specs.Prelude.{ℕ, not, List, [], ◌∷◌, eqb}
use Rattle.assumptions.specs.declared.Assumption.{Assumption}

-- one assumption
abbrev pub pair_of : ℕ → ℕ → Assumption
pair_of x y = record { variable = x; value = not (eqb y 0) }

-- all of them, in order
unfoldable pub of_bytes : List ℕ → List Assumption
of_bytes [] = []
of_bytes (x ∷ []) = []
of_bytes (x ∷ y ∷ s) = pair_of x y ∷ of_bytes s
