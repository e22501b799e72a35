-- `is_well_formed` meets its contract: the mode, the length, the bytes before it and those from it on.
use Rattle.std.proofs.Common.{sym, ◌∙◌}
use Rattle.enumeration.proofs.FormLaws.{formed_mode, formed_length, formed_numbers, formed_zeros}
use Rattle.enumeration.proofs.checkpoint.Checkpoint.is_well_formed.Goals.{then-self-gt4-via-then-self-gt4, then-self-gt4-via-else-self-gt4+then-length-gt-MAX_VARIABLES}
use Rattle.enumeration.proofs.checkpoint.Checkpoint.is_well_formed.Goals as goal

pub returns-then-self-gt4 : goal.returns-then-self-gt4
returns-then-self-gt4 c =
    elim c.then-self-gt4.branch [
      | then-self-gt4-via-then-self-gt4 w ↦ sym (formed_mode _ _ c.from-length.ensures w.if-self-gt4.true)
      | then-self-gt4-via-else-self-gt4+then-length-gt-MAX_VARIABLES w ↦ sym (formed_length _ _ c.from-length.ensures w.if-length-gt-MAX_VARIABLES.true)
    ]

pub returns-then-has_numbers : goal.returns-then-has_numbers
returns-then-has_numbers c =
    c.has_zeros.ensures
    ∙ sym (formed_zeros _ _ c.from-length.ensures c.if-self-gt4.false c.if-length-gt-MAX_VARIABLES.false (sym c.has_numbers.ensures ∙ c.if-has_numbers.true))

pub returns-else-has_numbers : goal.returns-else-has_numbers
returns-else-has_numbers c = c.if-has_numbers.false ∙ sym (formed_numbers _ _ c.from-length.ensures (sym c.has_numbers.ensures ∙ c.if-has_numbers.false))
