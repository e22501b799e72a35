-- `Writer::put_right` meets its contract: blanks, and the number behind them.
use Prim.Native.Nat.{◌-◌}
use native.Mathlib.Omega.{arith}
use Rattle.writing.proofs.BlankLaws.{blanks-length}
use Rattle.writing.proofs.PlacedLaws.{puts_more}
use Rattle.writing.proofs.Writer.put_right.Goals as goal

pub put_decimal-requires : goal.put_decimal-requires
put_decimal-requires c = omega (arith, blanks-length (c.args.wide - c.width_of.result))

pub returns : goal.returns
returns c = rw (← c.width_of.ensures) (puts_more c.put_blanks.ensures c.put_decimal.ensures)
