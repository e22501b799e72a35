-- `main`: print counts no more bytes than the buffer has.
use mathlib.Core.Path.{sym}
use lib.Seq.{length-take-le}
use Rattle.printing.proofs.PrintLaws.{count_within}
use Rattle.list_models.proofs.main.Goals as goal

pub slice_bounds-buffer-end : goal.slice_bounds-buffer-end
slice_bounds-buffer-end c = count_within _ _ _ _ c.print-count.ensures

pub slice_bounds-write_all-end : goal.slice_bounds-write_all-end
slice_bounds-write_all-end c = sym (length-take-le _ _ (count_within _ _ _ _ c.print-count.ensures))
