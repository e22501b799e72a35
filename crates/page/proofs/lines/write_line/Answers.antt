-- `write_line` writes its line: one word behind the other.
use native.Mathlib.Omega.{arith}
use Prim.Native.Nat.{◌-◌}
use mathlib.Core.Path.{sym, ◌∙◌}
use Rattle.limits.specs.Limits.{max_variables}
use Rattle.lists.proofs.TabulatedLaws.{length_tabulated}
use Rattle.writing.specs.Text.{column}
use Rattle.writing.proofs.BlankLaws.{blanks-length}
use Rattle.writing.proofs.DecimalLaws.{decimal-length}
use Rattle.writing.proofs.PlacedLaws.{wrote_whole, puts_more, lent_puts}
use Rattle.page.specs.PageLines.{page_line}
use Rattle.page.proofs.LineLaws.{serial_length, steps_length, page_line-length}
use Rattle.page.proofs.lines.write_line.Goals as goal

pub put_right-requires-clause-size : goal.put_right-requires-clause-size
put_right-requires-clause-size c = decimal-length 5 c.args.serial c.requires.1

pub put_byte-requires : goal.put_byte-requires
put_byte-requires c = omega (arith, serial_length c.args.serial c.requires.1)

pub put_columns-requires-clause-room : goal.put_columns-requires-clause-room
put_columns-requires-clause-room c = omega (arith, serial_length c.args.serial c.requires.1)

pub put_blanks-requires : goal.put_blanks-requires
put_blanks-requires c = omega (arith, serial_length c.args.serial c.requires.1, length_tabulated (column c.args.mask c.args.a) c.args.n)

pub put_byte-requires-2 : goal.put_byte-requires-2
put_byte-requires-2 c =
    omega (arith, serial_length c.args.serial c.requires.1, length_tabulated (column c.args.mask c.args.a) c.args.n, blanks-length (max_variables - c.args.n))

pub put_right-requires-2-clause-size : goal.put_right-requires-2-clause-size
put_right-requires-2-clause-size c = decimal-length 2 c.args.steps c.requires.3

pub put_right-requires-2-clause-room : goal.put_right-requires-2-clause-room
put_right-requires-2-clause-room c =
    omega (arith, serial_length c.args.serial c.requires.1, length_tabulated (column c.args.mask c.args.a) c.args.n, blanks-length (max_variables - c.args.n))

pub put_byte-requires-3 : goal.put_byte-requires-3
put_byte-requires-3 c =
    omega (arith, serial_length c.args.serial c.requires.1, length_tabulated (column c.args.mask c.args.a) c.args.n, blanks-length (max_variables - c.args.n), steps_length c.args.steps c.requires.3)

pub returns : goal.returns
unfolding page_line
returns c =
    let columns = puts_more c.put_columns.ensures c.put_blanks.ensures in
    let h = lent_puts c.new-w.ensures (puts_more c.put_right.ensures (puts_more c.put_byte.ensures (puts_more columns (puts_more c.put_byte-2.ensures (puts_more c.put_right-2.ensures c.put_byte-3.ensures))))) in
    let l = page_line-length c.args.serial c.args.n c.args.mask c.args.a c.args.steps c.requires.1 c.requires.2 c.requires.3 in
    let e = wrote_whole (c.requires.0 ∙ sym l) h.1 in
    grind arith
