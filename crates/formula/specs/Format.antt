-- S2: an encoded formula (request: sheet) as a grammar. A formula is a number of variables and a list of clauses (S2.4); a clause
-- (request: rule) is the list of its literals in written order. A written clause may repeat a literal, and what is read of it has each
-- once. Variables count from 0: in the format, variable v is v + 1.
use Rattle.std.specs.Prelude.{ℕ, ◌+◌, ◌*◌, ◌<◌, ◌≤◌, Bool, true, false, not, cond, ◌&&◌, ◌||◌, ◌≡◌, eqb, length}
use Rattle.std.specs.Bool.{beq}
use mathlib.Core.List.{List, [], ◌∷◌, ◌++◌, map, foldl}
use Rattle.limits.specs.Limits.{max_variables, max_clauses}
use Rattle.lists.specs.Every.{Every}

-- a literal: a variable (request: switch) named as true (request: on) or as false (request: off)
pub record Literal : Type 0 where
  pub variable : ℕ
  pub positive : Bool

-- S2.1: kind 2 names a variable as true, kind 3 as false
abbrev pub literal_kind : Bool → ℕ
literal_kind true = 2
literal_kind false = 3

-- the record of a literal: its kind, then the variable from 1
unfoldable pub literal_bytes : Literal → List ℕ
literal_bytes l = literal_kind l.positive ∷ (l.variable + 1) ∷ []

unfoldable pub literals_bytes : List Literal → List ℕ
literals_bytes [] = []
literals_bytes (l ∷ c) = literal_bytes l ++ literals_bytes c

-- S2.2: a clause: its literals, none or more, then kind 4
unfoldable pub clause_bytes : List Literal → List ℕ
clause_bytes c = literals_bytes c ++ (4 ∷ [])

unfoldable pub clauses_bytes : List (List Literal) → List ℕ
clauses_bytes [] = []
clauses_bytes (c ∷ cs) = clause_bytes c ++ clauses_bytes cs

-- S2.2: kind 1 with the number of variables, then the clauses, then kind 5
unfoldable pub formula_bytes : ℕ → List (List Literal) → List ℕ
formula_bytes n cs = 1 ∷ n ∷ (clauses_bytes cs ++ (5 ∷ []))

-- the clause names v, either way
unfoldable pub names : List Literal → ℕ → Bool
names [] v = false
names (l ∷ c) v = eqb l.variable v || names c v

-- the clause names v this way
unfoldable pub names_as : List Literal → ℕ → Bool → Bool
names_as [] v sign = false
names_as (l ∷ c) v sign = eqb l.variable v && beq l.positive sign || names_as c v sign

-- the clause names no variable twice
unfoldable pub distinct : List Literal → Bool
distinct [] = true
distinct (l ∷ c) = not (names c l.variable) && distinct c

-- a clause over the variables below n, none named twice
pub record ClauseOver (n : ℕ) (c : List Literal) : Type 0 where
  pub below : Every (λ l. l.variable < n) c
  pub once : distinct c ≡ true

-- S1.2: 1 to 48 variables and at most 96 clauses over them
pub record Sized (n : ℕ) (cs : List (List Literal)) : Type 0 where
  pub some : 1 ≤ n
  pub most : n ≤ max_variables
  pub few : length cs ≤ max_clauses
  pub clauses : Every (ClauseOver n) cs

-- ---- S2.2: what is written, and what is read of it

-- the clause has the literal's complement: it names the variable the other way
abbrev pub has_complement : List Literal → Literal → Bool
has_complement c l = names_as c l.variable (not l.positive)

-- the clause with one literal more, whose complement it has not: as it is if it names the variable, else with the literal at its end
unfoldable pub add : List Literal → Literal → List Literal
add c l = cond (names c l.variable) c (c ++ (l ∷ []))

-- what is read of a written clause: each literal once, at its first place
unfoldable pub without_repeats : List Literal → List Literal
without_repeats w = foldl add [] w

-- a written clause over the variables below n, none named both ways
pub record WrittenOver (n : ℕ) (w : List Literal) : Type 0 where
  pub below : Every (λ l. l.variable < n) w
  pub one_way : (v : ℕ) → names_as w v true && names_as w v false ≡ false

-- S1.2: 1 to 48 variables and at most 96 written clauses over them
pub record WrittenSized (n : ℕ) (ws : List (List Literal)) : Type 0 where
  pub some : 1 ≤ n
  pub most : n ≤ max_variables
  pub few : length ws ≤ max_clauses
  pub clauses : Every (WrittenOver n) ws

-- a readable input is the bytes of written clauses, and the formula that it encodes is what is read of them
pub record Encodes (s : List ℕ) (n : ℕ) (cs : List (List Literal)) : Type 0 where
  pub written : List (List Literal)
  pub bytes : s ≡ formula_bytes n written
  pub sized : WrittenSized n written
  pub read : cs ≡ map without_repeats written

-- ---- S2.3: without repeats

-- the bytes of a clause that names every variable once: two for each, and kind 4
abbrev pub max_clause_bytes : ℕ
max_clause_bytes = 2 * max_variables + 1

-- the most bytes of a readable input without repeats: kind 1 with its number, the most clauses of the most bytes, kind 5
abbrev pub max_bytes : ℕ
max_bytes = 2 + max_clauses * max_clause_bytes + 1
