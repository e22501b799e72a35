-- What reading keeps, word by word; proofs/KeepLaws.antt ties it to Text.
use Rattle.std.specs.Prelude.{ℕ, ◌+◌, ◌*◌, ◌-◌, ◌≤◌, Bool, List, [], ◌∷◌, ◌++◌, Result, MatchResult, ◌≡◌, length}
use Rattle.limits.specs.Limits.{max_variables, max_clauses}
use Rattle.formula.specs.declared.Refusal.{Refusal}
use Rattle.formula.specs.Format.{Literal, literal_kind, formula_bytes, ClauseOver, Sized, max_clause_bytes}
use Rattle.formula.specs.Table.{inside, written}
use Rattle.formula.specs.Decoding.{Decoding, readable, refused}
use Rattle.formula.specs.InnerMasked.{with_literal, clause_of}
use Rattle.dimacs.specs.declared.opening.Numbers.{Numbers}
use Rattle.dimacs.specs.declared.reader.Reader.{Reader}
use Rattle.dimacs.specs.Text.{Piece, all_words, Progress, progress_start, Taking, next, stop, take_words, closing, by_lines}
use Rattle.dimacs.specs.InnerScan.{numbers_of}

-- room for the most clauses and one that has not ended
abbrev pub kept_room : ℕ
kept_room = 2 + (max_clauses + 1) * max_clause_bytes

-- a reader that has kept a byte more
abbrev pub with_byte : Reader → ℕ → Reader
with_byte r x = record r { kept = record { items = r.kept.items ++ (x ∷ []) } }

-- and one that has kept a literal's record more, of variable k, from 1
abbrev pub with_record : Reader → Bool → ℕ → Reader
with_record r sign k = record (with_byte (with_byte r (literal_kind sign)) k) { current = with_literal r.current (k - 1) sign }

-- the bytes of what is read so far
abbrev pub kept_bytes : ℕ → Progress → List ℕ
kept_bytes n s = written (inside n s.ended s.current)

-- what is read so far is within the limits, but for a clause too many that has not ended; the reader stands there, and its bytes are kept
pub record Keeps (n : ℕ) (s : Progress) (r : Reader) : Type 0 where
  pub variables : r.variables ≡ n
  pub count : r.count ≡ length s.ended
  pub current : r.current ≡ clause_of s.current
  pub bytes : r.kept.items ≡ kept_bytes n s
  pub sized : Sized n s.ended
  pub over : ClauseOver n s.current

-- so it is for something
pub record Ready (r : Reader) : Type 0 where
  pub progress : Progress
  pub keeps : Keeps r.variables progress r

-- words are taken, and the reader stands behind them
pub record Stands (n : ℕ) (t : Taking) (r : Reader) : Type 0 where
  pub progress : Progress
  pub taken : t ≡ next progress
  pub keeps : Keeps n progress r

-- the reader a becomes b, or words are refused, as the taking of them from what a stands at says
abbrev pub Takes : (ℕ → Progress → Taking) → Reader → Reader → Result (Unit {0}) Refusal → Type 0
Takes take a b x = (n : ℕ) (s : Progress) → Keeps n s a → MatchResult x (λ _. Stands n (take n s) b) (λ r. take n s ≡ stop r)

-- the first of some lines is a p line of these numbers, so the words of the others decide
pub record Opened (len : ℕ) (ls behind : List Piece) (p : Numbers) : Type 0 where
  pub third : Piece
  pub fourth : Piece
  pub numbers : p ≡ numbers_of third fourth
  pub some : 1 ≤ p.variables
  pub most : p.variables ≤ max_variables
  pub reads : by_lines len ls ≡ closing len p.variables fourth (take_words p.variables (all_words behind) progress_start)

-- or they are refused by it
abbrev pub Opens : ℕ → List Piece → List Piece → Result Numbers Refusal → Type 0
Opens len ls behind x = MatchResult x (Opened len ls behind) (λ r. by_lines len ls ≡ refused r)

-- all bytes of the formula are kept
pub record Kept (d : Decoding) (r : Reader) : Type 0 where
  pub variables : ℕ
  pub clauses : List (List Literal)
  pub reads : d ≡ readable variables clauses
  pub bytes : r.kept.items ≡ formula_bytes variables clauses
  pub sized : Sized variables clauses

-- or it is refused
abbrev pub Reads : Decoding → Reader → Result (Unit {0}) Refusal → Type 0
Reads d r x = MatchResult x (λ _. Kept d r) (λ y. d ≡ refused y)
