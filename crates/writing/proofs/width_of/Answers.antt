-- `width_of` counts the digits by the greatest power of ten that the number has.
use native.Mathlib.Omega.{arith}
use mathlib.Core.Path.{ap}
use lib.ListN.{length}
use Rattle.writing.proofs.DecimalLaws.{decimal_one, decimal_width}
use Rattle.writing.proofs.width_of.Goals as goal

pub returns-in-Some : goal.returns-in-Some
returns-in-Some c = omega (arith, decimal_width c.in-Some.power c.args.x c.in-Some.ensures.power_le c.in-Some.ensures.next_power_gt)

pub returns-in-None : goal.returns-in-None
returns-in-None c = omega (arith, ap length (decimal_one c.args.x (omega (arith, c.in-None.ensures.none))))
