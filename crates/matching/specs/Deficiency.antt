-- S22: how far a list of clauses is from being matched. Clauses are given by their masks, as in Sets.
use Rattle.std.specs.Prelude.{ℕ, ◌-◌, cond, List, [], ◌∷◌, ◌++◌, map, ltb, length}
use Rattle.masks.specs.Mask.{size}
use Rattle.matching.specs.Sets.{union}
use Rattle.matching.specs.Search.{outcome, succeeds}

-- all sub-lists of a list, the empty one first: any set of clauses, in which equal clauses are two
unfoldable pub sub_lists : List ℕ → List (List ℕ)
sub_lists [] = [] ∷ []
sub_lists (x ∷ l) = sub_lists l ++ map (λ k. x ∷ k) (sub_lists l)

-- the largest of some numbers, 0 if there are none
unfoldable pub largest : List ℕ → ℕ
largest [] = 0
largest (x ∷ l) = cond (ltb x (largest l)) (largest l) x

-- the length of a list that is matched, else 0
abbrev pub matched_length : List ℕ → ℕ
matched_length l = cond (succeeds (outcome l)) (length l) 0

-- S22.1: the most clauses that can be matched together
unfoldable pub most : List ℕ → ℕ
most sets = largest (map matched_length (sub_lists sets))

-- S22.1: the deficiency (request: shortfall; source: maximum deficiency): the clauses, less the most that can be matched together
unfoldable pub deficiency : List ℕ → ℕ
deficiency sets = length sets - most sets

-- S22.2: the excess of clauses over the variables that they name, 0 if there is none
abbrev pub excess : List ℕ → ℕ
excess l = length l - size (union l)

-- S22.2: the largest excess of any set of clauses, the empty set included
unfoldable pub largest_excess : List ℕ → ℕ
largest_excess sets = largest (map excess (sub_lists sets))
