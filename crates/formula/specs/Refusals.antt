-- S3.1: the number and the place of each refusal.
use Rattle.std.specs.Prelude.{ℕ}
use Rattle.formula.specs.declared.Refusal.{Refusal}
use Rattle.formula.specs.declared.Refusal.TheVariants.{ShortBuffer, Truncated, UnknownKind, Misplaced, BadVariableCount, NoSuchVariable, ComplementaryLiteral, TooManyClauses, TrailingByte, Unmatched, ForeignCheckpoint, StrayVariable, BadOpening, BadWord, ClauseCountDiffers, BadAssumption, ShortPage, BadSerial}

pub record TableRow : Type 0 where
  pub number : ℕ
  pub place : ℕ

-- (request: short slate, cut short, unknown kind, misplaced, bad kit, no such switch, named twice, too many rules, tail,
-- over-ruled, foreign marker, stray switch, bad opening, bad word, rule count differs, bad fixing, short page, bad serial)
abbrev pub table_row : Refusal → TableRow
table_row (ShortBuffer p) = record { number = 1; place = p }
table_row (Truncated p) = record { number = 2; place = p }
table_row (UnknownKind p) = record { number = 3; place = p }
table_row (Misplaced p) = record { number = 4; place = p }
table_row (BadVariableCount p) = record { number = 5; place = p }
table_row (NoSuchVariable p) = record { number = 6; place = p }
table_row (ComplementaryLiteral p) = record { number = 7; place = p }
table_row (TooManyClauses p) = record { number = 8; place = p }
table_row (TrailingByte p) = record { number = 9; place = p }
table_row (Unmatched p) = record { number = 10; place = p }
table_row (ForeignCheckpoint p) = record { number = 11; place = p }
table_row (StrayVariable p) = record { number = 12; place = p }
table_row (BadOpening p) = record { number = 13; place = p }
table_row (BadWord p) = record { number = 14; place = p }
table_row (ClauseCountDiffers p) = record { number = 15; place = p }
table_row (BadAssumption p) = record { number = 16; place = p }
table_row (ShortPage p) = record { number = 17; place = p }
table_row (BadSerial p) = record { number = 18; place = p }
