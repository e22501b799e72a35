-- `put_pages` writes page after page. The invariant: k pages are written, and the others go on from the checkpoint.
use native.Mathlib.Omega.{arith}
use mathlib.Core.Path.{◌≡◌}
use Rattle.writing.proofs.LineLaws.{numbers-length}
use Rattle.writing.proofs.PlacedLaws.{lent_puts}
use Rattle.print_pages.specs.PrintedPages.{max_pages}
use Rattle.print_pages.proofs.GoingLaws.{going_first, going_refused, going_last, going_more, going_stop}
use Rattle.print_pages.proofs.put_pages.Goals as goal

pub loop-k-init : goal.loop-k-init
loop-k-init c = going_first c.args.input.now c.args.buffer.now _ c.start_checkpoint-checkpoint.ensures

pub returns-then-paged-lt-PAGE_LINES : goal.returns-then-paged-lt-PAGE_LINES
returns-then-paged-lt-PAGE_LINES c =
    going_last c.loop-k.invariant (omega arith) c.put_page.new.buffer c.in-Ok.paged c.in-Ok.ensures c.if-paged-lt-PAGE_LINES.true

pub put_refused_line-requires : goal.put_refused_line-requires
put_refused_line-requires c =
    omega (arith, numbers-length 19 19 c.number.result c.place.result (omega arith) (omega arith))

pub returns-in-Err : goal.returns-in-Err
returns-in-Err c =
    let h = lent_puts c.new-w.ensures (rw (c.number.ensures, c.place.ensures) at c.put_refused_line.ensures) in
    let e = going_refused c.loop-k.invariant (omega arith) c.put_page.new.buffer c.in-Err.refusal c.in-Err.ensures _ _ h.1 in
    grind arith

pub loop-k-preserved : goal.loop-k-preserved
loop-k-preserved c =
    going_more c.loop-k.invariant (omega arith) c.put_page.new.buffer c.in-Ok.paged c.in-Ok.ensures c.if-paged-lt-PAGE_LINES.false

pub returns : goal.returns
returns c = let e : c.loop-k.k ≡ max_pages = omega arith in rw e at (going_stop c.loop-k.invariant (omega arith))
