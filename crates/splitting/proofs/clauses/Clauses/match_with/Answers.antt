-- `match_with` is the outcome of matching the node: over zeros, what gather writes begins with what the node's clauses name.
use mathlib.Core.Path.{refl}
use Rattle.splitting.specs.InnerChoose.{formula_in}
use Rattle.splitting.proofs.NodeMatchingLaws.{node_clauses}
use Rattle.splitting.proofs.CompactLaws.{small_in}
use Rattle.splitting.proofs.clauses.Clauses.match_with.Goals as goal

pub match_sets-requires : goal.match_sets-requires
match_sets-requires c =
    rw (c.gather-written.ensures.number, c.gather-written.ensures.variables) (node_clauses (formula_in c.args.self.now) (small_in c.args.self.now) c.args.a _ refl)
