-- `put_page` meets its contract: the part that is lent comes back as the page, or as it was.
use native.Mathlib.Omega.{arith}
use Prim.Native.Nat.{◌+◌, ◌-◌}
use mathlib.Core.List.{[]}
use mathlib.Core.Path.{◌≡◌}
use Rattle.assumptions.proofs.StatedLaws.{given_none}
use Rattle.enumeration.specs.Values.{checkpoint_values}
use Rattle.page.specs.PageLines.{page_size}
use Rattle.print_pages.proofs.LentLaws.{put_told}
use Rattle.print_pages.proofs.put_page.Goals as goal

pub write_page_under-requires : goal.write_page_under-requires
write_page_under-requires c = ([], rw c.none.ensures (given_none c.args.input.now))

pub returns : goal.returns
returns c =
    let k : c.args.from + page_size - c.args.from ≡ page_size = omega arith in
    put_told c.args.input.now [] (checkpoint_values c.args.checkpoint) c.args.serial c.args.from (c.args.from + page_size - c.args.from) c.args.buffer.now
    c.write_page_under.new.page c.write_page_under.result k c.requires c.write_page_under.auto.page
    (c.write_page_under.ensures [] (rw c.none.ensures (given_none c.args.input.now)))
