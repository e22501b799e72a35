-- A partial assignment as the code holds it, in two masks.
use Rattle.std.specs.Prelude.{ℕ, Bool, true, false, ◌||◌}
use Rattle.std.specs.Int.Bits.{bit_or}
use Rattle.masks.specs.Mask.{with, minus}
use Rattle.masks.specs.InnerMask.{meets}
use Rattle.formula.specs.declared.assignment.Assignment.{Assignment}
use Rattle.formula.specs.declared.Clause.{Clause}

abbrev pub assigned : Assignment → ℕ
assigned a = bit_or a.trues a.falses

-- nothing is assigned
abbrev pub unassigned : Assignment
unassigned = record { trues = 0; falses = 0 }

-- v gets the value b as well
abbrev pub set_to : Assignment → ℕ → Bool → Assignment
set_to a v true = record { trues = with a.trues v; falses = a.falses }
set_to a v false = record { trues = a.trues; falses = with a.falses v }

-- an assigned variable stands the way that the clause names it
abbrev pub satisfied_under : Assignment → Clause → Bool
satisfied_under a c = meets c.positive a.trues || meets c.negative a.falses

-- what is left of a clause
abbrev pub left_under : Assignment → Clause → Clause
left_under a c = record { positive = minus c.positive (assigned a); negative = minus c.negative (assigned a) }
