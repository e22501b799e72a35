-- S6.1: what remains of the clauses at a node (request: place).
use Rattle.std.specs.Prelude.{ℕ, zero, suc, Bool, true, false, cond, ◌||◌, List, [], ◌∷◌, eqb}
use Rattle.formula.specs.Format.{Literal, names_as}

-- the clause less the variable v
unfoldable pub less : ℕ → List Literal → List Literal
less v [] = []
less v (l ∷ c) = cond (eqb l.variable v) (less v c) (l ∷ less v c)

-- v gets the value b: the clauses that name it so are satisfied and dropped, and the others lose v
unfoldable pub assign : ℕ → Bool → List (List Literal) → List (List Literal)
assign v b [] = []
assign v b (c ∷ cs) = cond (names_as c v b) (assign v b cs) (less v c ∷ assign v b cs)

-- the clauses at the node of a trail: the assigned variables with their values, in order
unfoldable pub remaining : List Literal → List (List Literal) → List (List Literal)
remaining [] cs = cs
remaining (l ∷ t) cs = remaining t (assign l.variable l.positive cs)

-- the trail satisfies the clause: some literal of it is in the clause
unfoldable pub satisfied_by : List Literal → List Literal → Bool
satisfied_by [] c = false
satisfied_by (l ∷ t) c = names_as c l.variable l.positive || satisfied_by t c

-- some clause names v this way
unfoldable pub occurs : List (List Literal) → ℕ → Bool → Bool
occurs [] v sign = false
occurs (c ∷ cs) v sign = names_as c v sign || occurs cs v sign

-- some clause names v
unfoldable pub named : List (List Literal) → ℕ → Bool
named cs v = occurs cs v true || occurs cs v false

-- of the k variables from v on, the first that the test holds of, or v + k
unfoldable pub first_from : (ℕ → Bool) → ℕ → ℕ → ℕ
first_from f v zero = v
first_from f v (suc k) = elim (f v) [ true ↦ v | false ↦ first_from f (suc v) k ]

-- the lowest variable below n that the test holds of, or n
abbrev pub lowest_with : (ℕ → Bool) → ℕ → ℕ
lowest_with f n = first_from f 0 n

-- of the k variables from v on those that the test holds of, upward
unfoldable pub upward_from : (ℕ → Bool) → ℕ → ℕ → List ℕ
upward_from f v zero = []
upward_from f v (suc k) = cond (f v) (v ∷ upward_from f (suc v) k) (upward_from f (suc v) k)

-- the variables below n that the test holds of, upward
abbrev pub upward : (ℕ → Bool) → ℕ → List ℕ
upward f n = upward_from f 0 n
