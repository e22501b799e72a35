-- A refusal makes a declined input without bytes.
use mathlib.Core.List.{List}
use mathlib.Core.Path.{ap}
use Rattle.matched.proofs.DeclinedFromRefusal.from.Goals as goal

pub returns : goal.returns
returns c = ap (λ (l : List _). record { refusal = c.args.refusal; row = record { items = l } }) c.new.ensures
