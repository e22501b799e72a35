-- `take_line`: of the words, those of the iterator are left.
use Prim.Native.Nat.{ℕ}
use Rattle.dimacs.specs.Text.{Progress, words}
use Rattle.dimacs.specs.InnerPiece.{piece_of}
use Rattle.dimacs.specs.InnerScan.{words_left}
use Rattle.dimacs.specs.InnerReader.{Keeps}
use Rattle.dimacs.proofs.GoesLaws.{Goes}
use Rattle.dimacs.proofs.reader.Reader.take_line.Given as goal

abbrev pub invariant-loop-word : goal.invariant-loop-word
invariant-loop-word l = (n : ℕ) (s : Progress) → Keeps n s l.fn.self → Goes n (words (piece_of l.line)) s (words_left l.word-iterator) l.self
