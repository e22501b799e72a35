-- S16: a formula written as DIMACS CNF text.
use Rattle.std.specs.Prelude.{ℕ, ◌+◌, ◌*◌, true, false, List, [], ◌∷◌, ◌++◌, map, length}
use Rattle.limits.specs.Limits.{max_variables, max_clauses}
use Rattle.formula.specs.Format.{Literal}
use Rattle.writing.specs.Text.{decimal, line_of}
use Rattle.dimacs.specs.Text.{minus_sign, p_word, cnf_word}

-- S16.1: a literal: the variable from 1, behind a minus if it is named as false
abbrev pub literal_word : Literal → List ℕ
literal_word l = elim l.positive [ true ↦ decimal (l.variable + 1) | false ↦ minus_sign ∷ decimal (l.variable + 1) ]

-- S16.1: the line of a clause: its literals and 0
abbrev pub clause_line : List Literal → List ℕ
clause_line c = line_of (map literal_word c ++ (decimal 0 ∷ []))

unfoldable pub clause_lines : List (List Literal) → List ℕ
clause_lines [] = []
clause_lines (c ∷ cs) = clause_line c ++ clause_lines cs

-- S16.1: the p line with the numbers of variables and clauses
abbrev pub opening_line : ℕ → ℕ → List ℕ
opening_line n m = line_of (p_word ∷ cnf_word ∷ decimal n ∷ decimal m ∷ [])

unfoldable pub text_of : ℕ → List (List Literal) → List ℕ
text_of n cs = opening_line n (length cs) ++ clause_lines cs

-- ---- S16.2: room

-- the longest p line, `p cnf 48 96` with its line feed
abbrev pub max_opening : ℕ
max_opening = 12

-- room for the line of a clause: four bytes for each variable (a minus, two digits and a blank), then 0 and the line feed
abbrev pub clause_line_room : ℕ
clause_line_room = 4 * max_variables + 2

-- room for any text that is written, 18,636
abbrev pub text_room : ℕ
text_room = max_opening + max_clauses * clause_line_room
