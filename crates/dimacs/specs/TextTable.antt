-- S15.4: which texts are read, and as what, and what each refusal of a text means: by its first line that is no comment, by the words
-- before the one that is refused, and by that one.
use Rattle.std.specs.Prelude.{ℕ, ◌-◌, ◌<◌, ◌≤◌, Bool, true, List, [], ◌∷◌, ◌++◌, ◌⊎◌, ◌≡◌, length}
use Rattle.limits.specs.Limits.{max_variables, max_clauses}
use Rattle.formula.specs.declared.Refusal.{Refusal}
use Rattle.formula.specs.declared.Refusal.TheVariants.{Truncated, BadVariableCount, NoSuchVariable, ComplementaryLiteral, TooManyClauses, BadOpening, BadWord, ClauseCountDiffers}
use Rattle.formula.specs.Format.{Literal, has_complement}
use Rattle.dimacs.specs.Text.{Piece, lines, words, others, all_words, value, ends, names_variable, bad, token, Progress, progress_start, next, take_words, p_line, other_line, opening}

-- the first line that is no comment is a p line of n variables, 1 to 48; its fourth word is d, and ws are the words of the other lines
pub record Opens (t : List ℕ) (n : ℕ) (d : Piece) (ws : List Piece) : Type 0 where
  pub line : Piece
  pub behind : List Piece
  pub third : Piece
  pub first : others (lines t) ≡ line ∷ behind
  pub is_p_line : opening (words line) ≡ p_line third d
  pub variables : n ≡ value third.bytes
  pub some : 1 ≤ n
  pub most : n ≤ max_variables
  pub follow : ws ≡ all_words behind

-- w is one of these words, and all before it are taken, up to s
pub record ComesTo (t : List ℕ) (n : ℕ) (w : Piece) (s : Progress) : Type 0 where
  pub fourth : Piece
  pub before : List Piece
  pub after : List Piece
  pub opens : Opens t n fourth (before ++ (w ∷ after))
  pub taken : take_words n before progress_start ≡ next s

-- all of them are taken, up to s
pub record TakesAll (t : List ℕ) (n : ℕ) (d : Piece) (s : Progress) : Type 0 where
  pub all : List Piece
  pub opens : Opens t n d all
  pub taken : take_words n all progress_start ≡ next s

-- a text is read if no clause is open then, and there are as many as the p line says
pub record TextRead (t : List ℕ) (n : ℕ) (cs : List (List Literal)) : Type 0 where
  pub fourth : Piece
  pub passes : TakesAll t n fourth (record { ended = cs; current = [] })
  pub clauses : length cs ≡ value fourth.bytes

pub data TextRefused (t : List ℕ) : Refusal → Type 0 where
  -- 13: every line is a comment
  no_line : others (lines t) ≡ [] → TextRefused t (BadOpening (length t))
  -- 13: the first that is none is no p line
  no_p_line : (l : Piece) (ls : List Piece) → others (lines t) ≡ l ∷ ls → opening (words l) ≡ other_line → TextRefused t (BadOpening l.at)
  -- 5: its number of variables is not within 1 to 48
  count_bad : (l c d : Piece) (ls : List Piece) → others (lines t) ≡ l ∷ ls → opening (words l) ≡ p_line c d
      → (value c.bytes < 1) ⊎ (max_variables < value c.bytes) → TextRefused t (BadVariableCount c.at)
  -- 14: a word is neither digits nor a minus with digits that are not zero
  word_bad : (n : ℕ) (w : Piece) (s : Progress) → ComesTo t n w s → token w.bytes ≡ bad → TextRefused t (BadWord w.at)
  -- 6: the variable is above n
  variable_unknown : (n : ℕ) (w : Piece) (s : Progress) (sign : Bool) (k : ℕ) → ComesTo t n w s → token w.bytes ≡ names_variable sign k → n < k
      → TextRefused t (NoSuchVariable w.at)
  -- 7: the clause has named the variable the other way
  literal_complementary : (n : ℕ) (w : Piece) (s : Progress) (sign : Bool) (k : ℕ) → ComesTo t n w s → token w.bytes ≡ names_variable sign k → k ≤ n
      → has_complement s.current (record { variable = k - 1; positive = sign }) ≡ true → TextRefused t (ComplementaryLiteral w.at)
  -- 8: the end of a clause after 96
  clause_extra : (n : ℕ) (w : Piece) (s : Progress) → ComesTo t n w s → token w.bytes ≡ ends → length s.ended ≡ max_clauses
      → TextRefused t (TooManyClauses w.at)
  -- 2: the text ends inside a clause
  clause_open : (n : ℕ) (d : Piece) (s : Progress) → TakesAll t n d s → (s.current ≡ [] → ⊥) → TextRefused t (Truncated (length t))
  -- 15: there are not as many clauses as the p line says
  count_differs : (n : ℕ) (d : Piece) (s : Progress) → TakesAll t n d s → s.current ≡ [] → (length s.ended ≡ value d.bytes → ⊥)
      → TextRefused t (ClauseCountDiffers d.at)
