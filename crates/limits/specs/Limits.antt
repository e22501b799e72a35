-- S1.2: the limits of a formula.
use Rattle.std.specs.Prelude.{ℕ}

-- the most variables (request: switches)
abbrev pub max_variables : ℕ
max_variables = 48

-- the most clauses (request: rules)
abbrev pub max_clauses : ℕ
max_clauses = 96
