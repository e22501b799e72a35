-- `put_pages` writes page after page. The invariant: k pages are written, and the others go on from the checkpoint.
use Rattle.enumeration.specs.Values.{checkpoint_values}
use Rattle.print_pages.proofs.GoingLaws.{Going}
use Rattle.print_pages.proofs.put_pages.Given as goal

abbrev pub invariant-loop-k : goal.invariant-loop-k
invariant-loop-k l = Going l.input l.initial.buffer l.buffer (checkpoint_values l.checkpoint) l.k
