-- `write_page` meets its contract: `write_page_under` says it for each list that has these masks, so for the list that is lent.
use mathlib.Core.Path.{ap, ◌∙◌}
use Rattle.std.proofs.Common.{ℕ}
use Rattle.assumptions.specs.Assumed.{assumed}
use Rattle.assumptions.specs.InnerAssumed.{masks_of, MasksOf}
use Rattle.assumptions.proofs.StatedLaws.{stated_le}
use Rattle.page.proofs.write_page.Goals.{After-read_assumptions-u}
use Rattle.page.proofs.write_page.Goals as goal

-- the masks that are read are those of the list, for the number of variables that the input states
read : (c : After-read_assumptions-u) → MasksOf c.args.input.now c.args.list.now c.read_assumptions-u.result
read c = c.read_assumptions-u.ensures ∙ ap (λ (n : ℕ). masks_of (assumed n c.args.list.now)) c.stated.ensures

pub read_assumptions-u-requires : goal.read_assumptions-u-requires
read_assumptions-u-requires c = rw c.stated.ensures (stated_le c.args.input.now)

pub write_page_under-requires : goal.write_page_under-requires
write_page_under-requires c = (c.args.list.now, read (goal.at.write_page_under-requires c).After-read_assumptions-u)

pub returns : goal.returns
returns c = c.write_page_under.ensures c.args.list.now (read (goal.at.returns c).After-read_assumptions-u)
