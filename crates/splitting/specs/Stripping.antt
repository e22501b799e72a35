-- S6.2: pure literal elimination (request: stripping).
use Rattle.std.specs.Prelude.{ℕ, zero, suc, Bool, true, false, cond, List, [], ◌∷◌, ltb}
use Rattle.std.specs.Bool.{xor}
use Rattle.formula.specs.Format.{Literal, names}
use Rattle.splitting.specs.Nodes.{occurs, lowest_with}

-- v is pure: the clauses name it as true or as false, and not both ways
unfoldable pub pure : List (List Literal) → ℕ → Bool
pure cs v = xor (occurs cs v true) (occurs cs v false)

-- the clauses that do not name v
unfoldable pub not_naming : ℕ → List (List Literal) → List (List Literal)
not_naming v [] = []
not_naming v (c ∷ cs) = cond (names c v) (not_naming v cs) (c ∷ not_naming v cs)

-- the noted variables in order, and the clauses that are left
pub record Stripped : Type 0 where
  pub noted : List ℕ
  pub left : List (List Literal)

abbrev pub note : ℕ → Stripped → Stripped
note v s = record { noted = v ∷ s.noted; left = s.left }

-- While a variable is pure, the lowest pure one is noted and its clauses are dropped. No variable is noted twice, so that n times are
-- enough for n variables.
unfoldable pub strip : ℕ → ℕ → List (List Literal) → Stripped
strip zero n cs = record { noted = []; left = cs }
strip (suc k) n cs =
    elim (ltb (lowest_with (pure cs) n) n) [
      | true ↦ note (lowest_with (pure cs) n) (strip k n (not_naming (lowest_with (pure cs) n) cs))
      | false ↦ record { noted = []; left = cs }
    ]

abbrev pub stripped : ℕ → List (List Literal) → Stripped
stripped n cs = strip n n cs
