-- `write_blank` writes its line: blanks, and a line feed behind them.
use native.Mathlib.Omega.{arith}
use Prim.Native.Nat.{◌-◌}
use mathlib.Core.Path.{sym, ◌∙◌}
use Rattle.writing.proofs.BlankLaws.{blanks-length}
use Rattle.writing.proofs.PlacedLaws.{wrote_whole, puts_more, lent_puts}
use Rattle.page.specs.PageLines.{line_size, blank_line}
use Rattle.page.proofs.LineLaws.{blank-length}
use Rattle.page.proofs.lines.write_blank.Goals as goal

pub put_byte-requires : goal.put_byte-requires
put_byte-requires c = omega (arith, blanks-length (line_size - 1))

pub returns : goal.returns
unfolding blank_line
returns c =
    let h = lent_puts c.new-blank.ensures (puts_more c.put_blanks.ensures c.put_byte.ensures) in
    let e = wrote_whole (c.requires ∙ sym blank-length) h.1 in
    grind arith
