-- `take_lines`: of the words, those of the lines of the iterator are left.
use Prim.Native.Nat.{ℕ}
use Rattle.dimacs.specs.Text.{Progress, all_words}
use Rattle.dimacs.specs.InnerScan.{lines_left}
use Rattle.dimacs.specs.InnerReader.{Keeps}
use Rattle.dimacs.proofs.GoesLaws.{Goes}
use Rattle.dimacs.proofs.reader.Reader.take_lines.Given as goal

abbrev pub invariant-loop-line : goal.invariant-loop-line
invariant-loop-line l = (n : ℕ) (s : Progress) → Keeps n s l.fn.self → Goes n (all_words (lines_left l.lines)) s (all_words (lines_left l.line-iterator)) l.self
