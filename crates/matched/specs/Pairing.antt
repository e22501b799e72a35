-- S5.1, S5.5, S18, S20: a matched formula and a pure literal matched one as the source defines them, over clauses as lists of literals; and
-- the violator that is shown where what stripping leaves is not matched.
use Rattle.std.specs.Prelude.{ℕ, suc, ◌+◌, ◌≤◌, ◌<◌, true, false, List, [], map, ◌≡◌, length, get_or, set}
use Rattle.formula.specs.Format.{Literal, names, Encodes}
use Rattle.formula.specs.Masked.{variables}
use Rattle.masks.specs.Mask.{minus, size}
use Rattle.assumptions.specs.declared.Assumption.{Assumption}
use Rattle.assumptions.specs.Assumed.{literal_of}
use Rattle.assumptions.specs.FirstBad.{NoneBad}
use Rattle.matching.specs.Sets.{union, selected}
use Rattle.splitting.specs.Nodes.{remaining, satisfied_by}
use Rattle.splitting.specs.Stripping.{stripped}
use Rattle.matched.specs.Acceptance.{by, by_none, dropped_by}

-- a matching (request: pairing): vs has a variable for each clause in order, one that the clause names, none twice
pub record Pairs (cs : List (List Literal)) (vs : List ℕ) : Type 0 where
  pub one_each : length vs ≡ length cs
  pub named : (i : ℕ) → i < length cs → names (get_or cs i []) (get_or vs i 0) ≡ true
  pub distinct : (i j : ℕ) → i < length cs → j < length cs → get_or vs i 0 ≡ get_or vs j 0 → i ≡ j

-- S17.2: the bytes of a formula of which what remains under the literals t is matched whole: a byte for each clause, which is 0 for one that
-- t satisfies and for another the number, from 1, of a variable that the clause names and t does not; none of those twice
pub record PairsUnder (t : List Literal) (cs : List (List Literal)) (row : List ℕ) : Type 0 where
  pub one_each : length row ≡ length cs
  pub satisfied : (i : ℕ) → i < length cs → satisfied_by t (get_or cs i []) ≡ true → get_or row i 0 ≡ 0
  pub others : (i : ℕ) → i < length cs → satisfied_by t (get_or cs i []) ≡ false
      → (v : ℕ) × (get_or row i 0 ≡ suc v) × (names (get_or cs i []) v ≡ true) × (names t v ≡ false)
  pub distinct : (i j : ℕ) → i < length cs → j < length cs → satisfied_by t (get_or cs i []) ≡ false → get_or row i 0 ≡ get_or row j 0 → i ≡ j

-- S5.1, S17.2: the input is readable, none of the assumptions is bad, and what remains of its clauses is matched (request: pairable, until
-- slip 5)
pub record Pairable (s : List ℕ) (us : List Assumption) : Type 0 where
  pub variables : ℕ
  pub clauses : List (List Literal)
  pub encodes : Encodes s variables clauses
  pub none_bad : NoneBad variables us
  pub vs : List ℕ
  pub pairs : Pairs (remaining (map literal_of us) clauses) vs

-- S18.1: stripping of what remains of the clauses under the literals t: the noted variables in order, and the clauses that are left
abbrev pub noted_of : ℕ → List Literal → List (List Literal) → List ℕ
noted_of n t cs = (stripped n (remaining t cs)).noted

abbrev pub left_of : ℕ → List Literal → List (List Literal) → List (List Literal)
left_of n t cs = (stripped n (remaining t cs)).left

-- S18.1: the input is readable, none of the assumptions is bad, and what stripping leaves of what remains is matched: under the assumptions
-- the formula is pure literal matched (definition 5.2 of the source; request: what stripping leaves can be paired, and from slip 5 on
-- pairable)
pub record Walkable (s : List ℕ) (us : List Assumption) : Type 0 where
  pub variables : ℕ
  pub clauses : List (List Literal)
  pub encodes : Encodes s variables clauses
  pub none_bad : NoneBad variables us
  pub vs : List ℕ
  pub pairs : Pairs (left_of variables (map literal_of us) clauses) vs

-- S18.2: the bytes of a formula that is accepted after stripping: 0 for a clause that t satisfies; of the others 128 plus the variable,
-- from 1, that drops it for a dropped one, and for one that is left the number, from 1, of a variable that it names and t does not; none of
-- those twice
pub record PairsStripped (n : ℕ) (t : List Literal) (cs : List (List Literal)) (row : List ℕ) : Type 0 where
  pub one_each : length row ≡ length cs
  pub satisfied : (i : ℕ) → i < length cs → satisfied_by t (get_or cs i []) ≡ true → get_or row i 0 ≡ 0
  pub dropped : (i v : ℕ) → i < length cs → satisfied_by t (get_or cs i []) ≡ false → dropped_by (noted_of n t cs) (get_or cs i []) ≡ by v
      → (get_or row i 0 ≡ 128 + suc v) × (names (get_or cs i []) v ≡ true) × (names t v ≡ false)
  pub others : (i : ℕ) → i < length cs → satisfied_by t (get_or cs i []) ≡ false → dropped_by (noted_of n t cs) (get_or cs i []) ≡ by_none
      → (v : ℕ) × (get_or row i 0 ≡ suc v) × (v < n) × (names (get_or cs i []) v ≡ true) × (names t v ≡ false)
  pub distinct : (i j : ℕ) → i < length cs → j < length cs → satisfied_by t (get_or cs i []) ≡ false → dropped_by (noted_of n t cs) (get_or cs i []) ≡ by_none
      → get_or row i 0 ≡ get_or row j 0 → i ≡ j

-- S20.1: a matching without the variables of t
pub record PairsBut (t : List Literal) (cs : List (List Literal)) (vs : List ℕ) : Type 0 where
  pub pairs : Pairs cs vs
  pub unassumed : (i : ℕ) → i < length cs → names t (get_or vs i 0) ≡ false

-- the clauses of cs that are marked: those whose byte is not 0
abbrev pub marked : List ℕ → List (List Literal) → List (List Literal)
marked marks cs = selected marks cs

-- S17.2: the variables that clauses name, those of t not counted, as a mask
abbrev pub named_but : List Literal → List (List Literal) → ℕ
named_but t cs = minus (union (map variables cs)) (variables t)

-- S5.5, S18.3, S20.1: a violator (request: marked rules) of a formula under the literals t: marks of 1 and 0, one for each clause. A clause
-- that t satisfies is not marked, and a marked one is left: no noted variable drops it. The marked clauses name, the variables of t not
-- counted, exactly one variable fewer than they are; and without any single one of them the others are matched, without those variables
pub record Violator (n : ℕ) (t : List Literal) (cs : List (List Literal)) (marks : List ℕ) : Type 0 where
  pub one_each : length marks ≡ length cs
  pub low : (i : ℕ) → i < length cs → get_or marks i 0 ≤ 1
  pub satisfied : (i : ℕ) → i < length cs → satisfied_by t (get_or cs i []) ≡ true → get_or marks i 0 ≡ 0
  pub left : (i : ℕ) → i < length cs → get_or marks i 0 ≡ 1 → dropped_by (noted_of n t cs) (get_or cs i []) ≡ by_none
  pub fewer : suc (size (named_but t (marked marks cs))) ≡ length (marked marks cs)
  pub critical : (i : ℕ) → i < length cs → get_or marks i 0 ≡ 1 → (vs : List ℕ) × PairsBut t (marked (set marks i 0) cs) vs
