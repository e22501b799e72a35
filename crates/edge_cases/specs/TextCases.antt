-- The cases of DIMACS CNF texts, as one table: each from the bytes of a text.
use Prim.Native.Char.{code}
use Rattle.std.specs.Prelude.{ℕ, List, [], ◌∷◌, ◌≡◌}
use Prim.Native.String.{String, [] as no_character, ◌∷◌ as ◌then◌}
use Rattle.formula.specs.Decoding.{readable}
use Rattle.dimacs.specs.Text.{read_text}
use Rattle.dimacs.specs.Written.{text_of}
use Rattle.edge_cases.specs.MarkedCases.{on, off, refusal_of, number_at}

-- the bytes of a text in ASCII
abbrev pub ascii : String → List ℕ
ascii no_character = []
ascii (c then s) = code c ∷ ascii s

pub record TextCases : Type 0 where
  -- a clause (1, ¬2) of 2 variables
  pub one_clause : read_text (ascii "p cnf 2 1\n1 -2 0\n") ≡ readable 2 ((on 1 ∷ off 2 ∷ []) ∷ [])
  -- and as it is written
  pub one_clause_written : text_of 2 ((on 1 ∷ off 2 ∷ []) ∷ []) ≡ ascii "p cnf 2 1\n1 -2 0\n"
  -- no byte: 13 at 0
  pub no_text : refusal_of (read_text []) ≡ number_at 13 0
  -- a comment alone: 13 at the text's length
  pub comment_alone : refusal_of (read_text (ascii "c x\n")) ≡ number_at 13 4
  -- an empty line first: 13 at 0
  pub empty_line_first : refusal_of (read_text (ascii "\np cnf 1 0\n")) ≡ number_at 13 0
  -- 0 variables, and a fourth word that is no number: 13 comes before 5
  pub opening_before_count : refusal_of (read_text (ascii "p cnf 0 x")) ≡ number_at 13 0
  -- 49 variables: 5 at the third word
  pub many_variables : refusal_of (read_text (ascii "p cnf 49 0")) ≡ number_at 5 6
  -- a comment inside a clause
  pub comment_inside : read_text (ascii "p cnf 2 1\n1\nc 9 0\n-2 0\n") ≡ readable 2 ((on 1 ∷ off 2 ∷ []) ∷ [])
  -- the text ends inside a clause: 2 at its length
  pub clause_not_ended : refusal_of (read_text (ascii "p cnf 2 1\n1 2")) ≡ number_at 2 13
  -- one clause under a count of two: 15 at the fourth word
  pub clause_missing : refusal_of (read_text (ascii "p cnf 2 2\n1 2 0")) ≡ number_at 15 8
  -- a minus with zero: 14 at the word
  pub minus_zero : refusal_of (read_text (ascii "p cnf 2 1\n-0 0")) ≡ number_at 14 10
  -- a clause (1, ¬1): 7 at its second word
  pub both_ways : refusal_of (read_text (ascii "p cnf 2 1\n1 -1 0")) ≡ number_at 7 12
  -- a clause (1, 1, ¬2, 1): read as the clause (1, ¬2), each literal at its first place
  pub repeated : read_text (ascii "p cnf 2 1\n1 1 -2 1 0") ≡ readable 2 ((on 1 ∷ off 2 ∷ []) ∷ [])
  -- 00 ends a clause
  pub two_zeros : read_text (ascii "p cnf 1 1\n1 00") ≡ readable 1 ((on 1 ∷ []) ∷ [])
