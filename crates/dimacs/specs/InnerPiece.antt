-- How a piece of a text is parted; proofs/PieceLaws.antt ties it to Text.
use Rattle.std.specs.Prelude.{ℕ, ◌+◌, Bool, drop}
use Rattle.std.specs.List.{position_or_len, before_first}
use Rattle.dimacs.specs.declared.piece.Piece as held
use Rattle.dimacs.specs.Text.{Piece}

-- where it is, and its bytes
abbrev pub piece_of : held.Piece → Piece
piece_of p = record { at = p.at; bytes = p.bytes.now }

-- the piece before the first byte for which the test holds, and the one from there on
abbrev pub before : (ℕ → Bool) → Piece → Piece
before test p = record { at = p.at; bytes = before_first test p.bytes }

abbrev pub from_first : (ℕ → Bool) → Piece → Piece
from_first test p = record { at = p.at + position_or_len test p.bytes; bytes = drop (position_or_len test p.bytes) p.bytes }
