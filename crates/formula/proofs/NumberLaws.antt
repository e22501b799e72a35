-- Laws of the refusals' numbers.
use mathlib.Core.Bool.{false}
use mathlib.Core.Path.{◌≡◌, refl}
use lib.Dec.{eqb}
use Rattle.formula.specs.declared.Refusal.{Refusal}
use Rattle.formula.specs.declared.Refusal.TheVariants.{ShortBuffer, Truncated, UnknownKind, Misplaced, BadVariableCount, NoSuchVariable, ComplementaryLiteral, TooManyClauses, TrailingByte, Unmatched, ForeignCheckpoint, StrayVariable, BadOpening, BadWord, ClauseCountDiffers, BadAssumption, ShortPage, BadSerial}
use Rattle.formula.specs.Refusals.{table_row}

-- none is 0
pub refusal_numbered : (r : Refusal) → eqb (table_row r).number 0 ≡ false
refusal_numbered (ShortBuffer p) = refl
refusal_numbered (Truncated p) = refl
refusal_numbered (UnknownKind p) = refl
refusal_numbered (Misplaced p) = refl
refusal_numbered (BadVariableCount p) = refl
refusal_numbered (NoSuchVariable p) = refl
refusal_numbered (ComplementaryLiteral p) = refl
refusal_numbered (TooManyClauses p) = refl
refusal_numbered (TrailingByte p) = refl
refusal_numbered (Unmatched p) = refl
refusal_numbered (ForeignCheckpoint p) = refl
refusal_numbered (StrayVariable p) = refl
refusal_numbered (BadOpening p) = refl
refusal_numbered (BadWord p) = refl
refusal_numbered (ClauseCountDiffers p) = refl
refusal_numbered (BadAssumption p) = refl
refusal_numbered (ShortPage p) = refl
refusal_numbered (BadSerial p) = refl
