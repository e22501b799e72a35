-- S15: a DIMACS CNF text, read. A text is a list of bytes.
use Rattle.std.specs.Prelude.{ℕ, ◌+◌, ◌*◌, ◌-◌, Bool, true, false, not, cond, ◌&&◌, ◌||◌, List, [], ◌∷◌, ◌++◌, eqb, leb, ltb, length}
use Rattle.limits.specs.Limits.{max_variables, max_clauses}
use Rattle.writing.specs.Text.{digit_zero, line_feed, blank}
use Rattle.formula.specs.declared.Refusal.{Refusal}
use Rattle.formula.specs.declared.Refusal.TheVariants.{Truncated, BadVariableCount, NoSuchVariable, ComplementaryLiteral, TooManyClauses, BadOpening, BadWord, ClauseCountDiffers}
use Rattle.formula.specs.Format.{Literal, has_complement, add}
use Rattle.formula.specs.Decoding.{Decoding, readable, refused}

-- ---- S15.1: lines and words

-- a stretch of the text: the offset of its first byte, and its bytes
pub record Piece : Type 0 where
  pub at : ℕ
  pub bytes : List ℕ

-- the text parted at the bytes for which the test holds; `begun` are the bytes of the piece that has not ended, `at` the offset of its
-- first one. The last piece ends with the text.
unfoldable pub pieces : (ℕ → Bool) → ℕ → List ℕ → List ℕ → List Piece
pieces parts at begun [] = record { at = at; bytes = begun } ∷ []
pieces parts at begun (x ∷ s) =
    elim (parts x) [
      | true ↦ record { at = at; bytes = begun } ∷ pieces parts (at + length begun + 1) [] s
      | false ↦ pieces parts at (begun ++ (x ∷ [])) s
    ]

-- S15.1: what ends a line, beside the end of the text
abbrev pub ends_line : ℕ → Bool
ends_line x = eqb x line_feed

-- the lines of a text
abbrev pub lines : List ℕ → List Piece
lines t = pieces ends_line 0 [] t

-- S15.1: what parts words: a blank, a tab, a carriage return, a line feed
abbrev pub parts_words : ℕ → Bool
parts_words x = eqb x blank || (eqb x 9 || (eqb x 13 || eqb x line_feed))

-- the pieces that have a byte
unfoldable pub non_empty : List Piece → List Piece
non_empty [] = []
non_empty (p ∷ ps) = elim (eqb (length p.bytes) 0) [ true ↦ non_empty ps | false ↦ p ∷ non_empty ps ]

-- the words of a line, each with its offset in the text
abbrev pub words : Piece → List Piece
words l = non_empty (pieces parts_words l.at [] l.bytes)

-- S15.1: a line that starts with c is a comment
abbrev pub comment : List ℕ → Bool
comment [] = false
comment (x ∷ s) = eqb x 99

-- the lines that are no comments
unfoldable pub others : List Piece → List Piece
others [] = []
others (l ∷ ls) = elim (comment l.bytes) [ true ↦ others ls | false ↦ l ∷ others ls ]

-- the words of some lines, in their order
unfoldable pub all_words : List Piece → List Piece
all_words [] = []
all_words (l ∷ ls) = words l ++ all_words ls

-- ---- S15.2: numbers

abbrev pub is_digit : ℕ → Bool
is_digit x = leb digit_zero x && leb x (digit_zero + 9)

unfoldable pub all_digits : List ℕ → Bool
all_digits [] = true
all_digits (x ∷ s) = is_digit x && all_digits s

-- a run of digits: one or more
abbrev pub run : List ℕ → Bool
run s = not (eqb (length s) 0) && all_digits s

-- the number that digits write, behind others that write the number a
unfoldable pub value_from : ℕ → List ℕ → ℕ
value_from a [] = a
value_from a (x ∷ s) = value_from (10 * a + (x - digit_zero)) s

abbrev pub value : List ℕ → ℕ
value s = value_from 0 s

-- ---- S15.2: the p line

-- the same bytes
unfoldable pub same : List ℕ → List ℕ → Bool
same [] [] = true
same [] (y ∷ ys) = false
same (x ∷ xs) [] = false
same (x ∷ xs) (y ∷ ys) = eqb x y && same xs ys

-- the words `p` and `cnf`
abbrev pub p_word : List ℕ
p_word = 112 ∷ []

abbrev pub cnf_word : List ℕ
cnf_word = 99 ∷ 110 ∷ 102 ∷ []

-- a p line with the words of its two numbers, or another line
pub data Opening : Type 0 where
  p_line : Piece → Piece → Opening
  other_line : Opening

-- four words: p, cnf and two runs of digits
unfoldable pub opening : List Piece → Opening
opening (a ∷ b ∷ c ∷ d ∷ []) =
    cond (same a.bytes p_word && (same b.bytes cnf_word && (run c.bytes && run d.bytes))) (p_line c d) other_line
opening [] = other_line
opening (a ∷ []) = other_line
opening (a ∷ b ∷ []) = other_line
opening (a ∷ b ∷ c ∷ []) = other_line
opening (a ∷ b ∷ c ∷ d ∷ e ∷ ws) = other_line

-- ---- S15.3: the words after the p line

-- a word that ends a clause (request: rule), one that names variable k (request: switch), from 1, as true or as false (request: on, off), or
-- neither (request: bad word)
pub data Token : Type 0 where
  ends : Token
  names_variable : Bool → ℕ → Token
  bad : Token

abbrev pub minus_sign : ℕ
minus_sign = 45

-- digits: zero ends a clause
abbrev pub unsigned : List ℕ → Token
unsigned s = cond (run s) (cond (eqb (value s) 0) ends (names_variable true (value s))) bad

-- a minus before digits that are not zero
abbrev pub signed : List ℕ → Token
signed s = cond (run s) (cond (eqb (value s) 0) bad (names_variable false (value s))) bad

abbrev pub token : List ℕ → Token
token [] = bad
token (x ∷ s) = cond (eqb x minus_sign) (signed s) (unsigned (x ∷ s))

-- what is read so far: the clauses that have ended, and the literals of the one that has not
pub record Progress : Type 0 where
  pub ended : List (List Literal)
  pub current : List Literal

abbrev pub progress_start : Progress
progress_start = record { ended = []; current = [] }

-- a word is taken, or refused
pub data Taking : Type 0 where
  next : Progress → Taking
  stop : Refusal → Taking

-- a literal of a variable that the formula has (else 6), whose complement is not in the clause (else 7): it counts once, at its first place
abbrev pub take_literal : ℕ → ℕ → Progress → Bool → ℕ → Taking
take_literal n at s sign k =
    let l : Literal = record { variable = k - 1; positive = sign } in
    cond (leb k n)
    (cond (has_complement s.current l) (stop (ComplementaryLiteral at)) (next (record { ended = s.ended; current = add s.current l })))
    (stop (NoSuchVariable at))

-- the end of a clause, of which there are at most 96 (else 8)
abbrev pub take_end : ℕ → Progress → Taking
take_end at s =
    cond (ltb (length s.ended) max_clauses) (next (record { ended = s.ended ++ (s.current ∷ []); current = [] })) (stop (TooManyClauses at))

-- a word at `at`, in a formula of n variables
abbrev pub take_token : ℕ → ℕ → Progress → Token → Taking
take_token n at s ends = take_end at s
take_token n at s (names_variable sign k) = take_literal n at s sign k
take_token n at s bad = stop (BadWord at)

abbrev pub take_word : ℕ → Piece → Progress → Taking
take_word n w s = take_token n w.at s (token w.bytes)

-- words from the front, up to the first that is refused
unfoldable pub take_words : ℕ → List Piece → Progress → Taking
take_words n [] s = next s
take_words n (w ∷ ws) s = elim (take_word n w s) [ next s' ↦ take_words n ws s' | stop r ↦ stop r ]

-- ---- S15.4: the whole text, of `len` bytes

-- behind the last word: no clause is open (else 2), and there are as many as the p line says in its word d (else 15; request: rule count)
abbrev pub closing : ℕ → ℕ → Piece → Taking → Decoding
closing len n d (stop r) = refused r
closing len n d (next s) =
    cond (eqb (length s.current) 0)
    (cond (eqb (length s.ended) (value d.bytes)) (readable n s.ended) (refused (ClauseCountDiffers d.at)))
    (refused (Truncated len))

-- the first line l that is no comment is a p line (else 13; request: bad opening), of 1 to 48 variables (else 5); ls are the other lines
-- behind it
abbrev pub by_opening : ℕ → Piece → List Piece → Opening → Decoding
by_opening len l ls (p_line c d) =
    let n : ℕ = value c.bytes in
    cond (ltb 0 n && leb n max_variables) (closing len n d (take_words n (all_words ls) progress_start)) (refused (BadVariableCount c.at))
by_opening len l ls other_line = refused (BadOpening l.at)

-- 13 if there is no such line
abbrev pub by_lines : ℕ → List Piece → Decoding
by_lines len [] = refused (BadOpening len)
by_lines len (l ∷ ls) = by_opening len l ls (opening (words l))

-- what is read of a text: the formula, or the refusal
unfoldable pub read_text : List ℕ → Decoding
read_text t = by_lines (length t) (others (lines t))
