-- `Writer::put_columns` meets its contract. The loop's invariant: the first i columns are written.
use Rattle.writing.specs.Placed.{Puts}
use Rattle.writing.specs.Text.{columns}
use Rattle.writing.proofs.Writer.put_columns.Given as goal

abbrev pub invariant-loop-i : goal.invariant-loop-i
invariant-loop-i l = Puts (columns l.i l.visible l.a) l.initial.self l.self
