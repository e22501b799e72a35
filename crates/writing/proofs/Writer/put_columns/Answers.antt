-- `Writer::put_columns` meets its contract. The loop's invariant: the first i columns are written.
use native.Mathlib.Omega.{arith}
use Rattle.lists.specs.Tabulated.{tabulated}
use Rattle.lists.proofs.TabulatedLaws.{length_tabulated, tabulated_more}
use Rattle.writing.specs.Text.{column}
use Rattle.writing.proofs.PlacedLaws.{puts_none, puts_more}
use Rattle.writing.proofs.Writer.put_columns.Goals as goal

pub loop-i-init : goal.loop-i-init
unfolding tabulated
loop-i-init c = puts_none c.args.self.now (omega arith)

pub put_byte-requires : goal.put_byte-requires
put_byte-requires c = omega (arith, length_tabulated (column c.args.visible c.args.a) c.loop-i.i)

pub loop-i-preserved : goal.loop-i-preserved
loop-i-preserved c =
    rw (tabulated_more (column c.args.visible c.args.a) c.loop-i.i, ← c.column_of.ensures) (puts_more c.loop-i.invariant c.put_byte.ensures)
