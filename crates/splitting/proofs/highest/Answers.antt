-- `highest` gives the greatest member: the highest digit that is 1.
use native.Mathlib.Omega.{arith}
use mathlib.Core.Path.{◌∙◌}
use Rattle.splitting.proofs.LastMemberLaws.{greatest_leading}
use Rattle.splitting.proofs.highest.Goals as goal

pub returns : goal.returns
returns c = c.saturating_sub.ensures ∙ greatest_leading c.args.mask (omega arith)
