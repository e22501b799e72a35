-- `put_model_line` meets its contract: one word behind the other.
use native.Mathlib.Omega.{arith}
use Rattle.printing.proofs.LineLaws.{model_line-sum}
use Rattle.writing.proofs.PlacedLaws.{puts_more}
use Rattle.printing.proofs.put_model_line.Goals as goal

pub put_columns-requires-clause-room : goal.put_columns-requires-clause-room
put_columns-requires-clause-room c = omega (arith, model_line-sum c.args.n c.args.mask c.args.a c.args.steps c.args.expansions)

pub returns : goal.returns
returns c = puts_more c.put_columns.ensures (puts_more c.put_byte.ensures c.put_numbers.ensures)
