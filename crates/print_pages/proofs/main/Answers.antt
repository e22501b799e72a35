-- `main`: put_pages counts no more bytes than the buffer has.
use Prim.Native.Nat.{◌≤◌}
use mathlib.Core.Path.{sym}
use native.Mathlib.Omega.{arith}
use lib.ListN.{length}
use lib.Seq.{length-take-le}
use Rattle.writing.proofs.PlacedLaws.{wrote_within}
use Rattle.print_pages.proofs.main.Goals.{After-put_pages-count}
use Rattle.print_pages.proofs.main.Goals as goal

-- what is written lies within the buffer
within : (c : After-put_pages-count) → c.put_pages-count.result ≤ length c.put_pages-count.new.buffer
within c = wrote_within (omega arith) c.put_pages-count.ensures

pub slice_bounds-buffer-end : goal.slice_bounds-buffer-end
slice_bounds-buffer-end c = within (goal.at.slice_bounds-buffer-end c).After-put_pages-count

pub slice_bounds-write_all-end : goal.slice_bounds-write_all-end
slice_bounds-write_all-end c = sym (length-take-le _ _ (within (goal.at.slice_bounds-write_all-end c).After-put_pages-count))
