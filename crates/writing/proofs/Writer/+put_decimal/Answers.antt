-- `Writer::put_decimal` meets its contract. Its measure is the number.
use native.Mathlib.Omega.{arith}
use mathlib.Core.Path.{ap}
use Prim.Native.Nat.{◌≤◌}
use lib.ListN.{length}
use Rattle.writing.proofs.DecimalLaws.{smaller, decimal_one, decimal_more, more_length}
use Rattle.writing.proofs.PlacedLaws.{puts_more}
use Rattle.writing.proofs.Writer.+put_decimal.Goals as goal

pub put_byte-requires : goal.put_byte-requires
put_byte-requires t c = omega (arith, ap length (decimal_one c.args.x c.if-x-lt10.true), c.requires)

pub returns-then-x-lt10 : goal.returns-then-x-lt10
returns-then-x-lt10 t c = rw (decimal_one c.args.x c.if-x-lt10.true) c.put_byte.ensures

pub put_decimal-requires : goal.put_decimal-requires
put_decimal-requires t c =
    let h : 10 ≤ c.args.x = c.if-x-lt10.false in
    (omega (arith, smaller c.args.x h, c.decreases), omega (arith, more_length c.args.x h, c.requires))

pub put_byte-requires-2 : goal.put_byte-requires-2
put_byte-requires-2 t c =
    omega (arith, more_length c.args.x c.if-x-lt10.false, c.put_decimal.ensures, c.requires)

pub returns : goal.returns
returns t c = rw (decimal_more c.args.x c.if-x-lt10.false) (puts_more c.put_decimal.ensures c.put_byte-2.ensures)
