-- What the scanning of a text computes; proofs/ScanLaws.antt, TextLaws.antt and OpeningLaws.antt tie it to Text.
use Rattle.std.specs.Prelude.{ℕ, Bool, not, cond, List, [], Option, Some, None, ltb, leb, length, drop}
use Rattle.dimacs.specs.declared.scan.Lines.{Lines}
use Rattle.dimacs.specs.declared.scan.Words.{Words}
use Rattle.dimacs.specs.declared.scan.Token as held
use Rattle.dimacs.specs.declared.scan.Token.TheVariants.{Ends, Literal}
use Rattle.dimacs.specs.declared.opening.Numbers.{Numbers}
use Rattle.dimacs.specs.Text.{Piece, pieces, ends_line, parts_words, words, others, run, value, Token, ends, names_variable, bad, Opening, p_line, other_line}
use Rattle.dimacs.specs.InnerPiece.{piece_of}

-- a byte of a word
abbrev pub in_word : ℕ → Bool
in_word x = not (parts_words x)

-- the words of bytes that stand at an offset
abbrev pub words_at : ℕ → List ℕ → List Piece
words_at at s = words (record { at = at; bytes = s })

-- the words that are left
abbrev pub words_left : Words → List Piece
words_left w = words (piece_of w.rest)

-- the lines of a text from an offset on: none past its end
abbrev pub lines_from : List ℕ → ℕ → List Piece
lines_from t from = cond (leb from (length t)) (pieces ends_line from [] (drop from t)) []

-- the lines that are left and are no comments
abbrev pub lines_left : Lines → List Piece
lines_left l = others (lines_from l.text.now l.from)

-- the least of a number and the cap
abbrev pub cap : ℕ
cap = 1000

abbrev pub capped : ℕ → ℕ
capped x = cond (ltb x cap) x cap

-- the number of a run of digits, capped
abbrev pub number_held : List ℕ → Option ℕ
number_held s = cond (run s) (Some (capped (value s))) None

-- a token with its number capped, if it is one
abbrev pub token_held : Token → Option held.Token
token_held ends = Some Ends
token_held (names_variable sign k) = Some (Literal sign (capped k))
token_held bad = None

-- the numbers of a p line's two words, capped
abbrev pub numbers_of : Piece → Piece → Numbers
numbers_of c d = record { variables = capped (value c.bytes); third = c.at; clauses = capped (value d.bytes); fourth = d.at }

abbrev pub opening_held : Opening → Option Numbers
opening_held (p_line c d) = Some (numbers_of c d)
opening_held other_line = None
