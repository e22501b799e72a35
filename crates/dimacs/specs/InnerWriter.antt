-- What writing a text does, literal by literal and clause by clause; proofs/LineLaws.antt ties it to Written.
use Rattle.std.specs.Prelude.{ℕ, ◌+◌, Bool, true, false, cond, List, [], ◌∷◌, ◌++◌, map, ◌≡◌, length, drop}
use Rattle.limits.specs.Limits.{max_variables}
use Rattle.lists.specs.Every.{Every}
use Rattle.masks.specs.Mask.{bit, with}
use Rattle.writing.specs.Text.{digit_zero, line_feed, blank, decimal}
use Rattle.writing.specs.declared.Writer.{Writer}
use Rattle.writing.specs.Placed.{RoomIn, Puts}
use Rattle.formula.specs.Format.{Literal, clause_bytes, clauses_bytes, without_repeats, WrittenOver}
use Rattle.formula.specs.Decoding.{readable}
use Rattle.formula.specs.InnerDecode.{decode}
use Rattle.dimacs.specs.Text.{minus_sign}
use Rattle.dimacs.specs.Written.{clause_line, clause_lines, text_of}

-- a minus before a negative literal
abbrev pub sign_bytes : Bool → List ℕ
sign_bytes true = []
sign_bytes false = minus_sign ∷ []

-- the word of the literal of variable k, from 1, and a blank
abbrev pub literal_text : Bool → ℕ → List ℕ
literal_text sign k = sign_bytes sign ++ (decimal k ++ (blank ∷ []))

-- nothing if the line has the variable
abbrev pub literal_once : ℕ → Bool → ℕ → List ℕ
literal_once seen sign v = cond (bit seen v) [] (literal_text sign (v + 1))

-- the line of a written clause behind the variables that it has: of each literal that is left its text once, then 0
unfoldable pub line_rest : ℕ → List Literal → List ℕ
line_rest seen [] = digit_zero ∷ line_feed ∷ []
line_rest seen (l ∷ w) = literal_once seen l.positive l.variable ++ line_rest (with seen l.variable) w

-- at `from` the input has a written clause, and the writer has room for its line
pub record ClauseAt (s : List ℕ) (from : ℕ) (w : Writer) : Type 0 where
  pub clause : List Literal
  pub rest : List ℕ
  pub bytes : drop from s ≡ clause_bytes clause ++ rest
  pub over : WrittenOver max_variables clause
  pub room : RoomIn (clause_line (without_repeats clause)) w

-- its line is written, and r is behind its bytes
abbrev pub AfterClause : List ℕ → ℕ → Writer → Writer → ℕ → Type 0
AfterClause s from before after r =
    (w : List Literal) (rest : List ℕ) → drop from s ≡ clause_bytes w ++ rest → WrittenOver max_variables w
    → Puts (clause_line (without_repeats w)) before after × (drop r s ≡ rest)

-- behind kind 1 the input has so many written clauses, and the writer has room for their lines
pub record ClausesAt (s : List ℕ) (count : ℕ) (w : Writer) : Type 0 where
  pub clauses : List (List Literal)
  pub rest : List ℕ
  pub bytes : drop 2 s ≡ clauses_bytes clauses ++ rest
  pub over : Every (WrittenOver max_variables) clauses
  pub all : count ≡ length clauses
  pub room : RoomIn (clause_lines (map without_repeats clauses)) w

-- their lines are written
abbrev pub Lined : List ℕ → ℕ → Writer → Writer → Type 0
Lined s count before after =
    (ws : List (List Literal)) (rest : List ℕ) → drop 2 s ≡ clauses_bytes ws ++ rest → Every (WrittenOver max_variables) ws → count ≡ length ws
    → Puts (clause_lines (map without_repeats ws)) before after

-- the input is read as n variables and m clauses, and the writer has room for their text
pub record Readable (s : List ℕ) (n m : ℕ) (w : Writer) : Type 0 where
  pub clauses : List (List Literal)
  pub reads : decode s ≡ readable n clauses
  pub all : m ≡ length clauses
  pub room : RoomIn (text_of n clauses) w
