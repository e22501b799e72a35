-- `satisfies` tests the two sides of the clause at once.
use lib.Bits.{bit_and}
use Rattle.formula.proofs.AssignmentLaws.{some_or}
use Rattle.formula.proofs.assignment.Assignment.satisfies.Goals as goal

pub returns : goal.returns
returns c =
    let a = c.args in
    some_or (bit_and a.c.positive a.self.trues) (bit_and a.c.negative a.self.falses)
