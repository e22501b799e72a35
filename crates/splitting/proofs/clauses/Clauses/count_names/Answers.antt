-- `count_names` counts how many clauses name each variable.
use native.Mathlib.Omega.{arith}
use mathlib.Core.Path.{sym, ◌∙◌}
use Rattle.lists.specs.Tabulated.{tabulated}
use Rattle.lists.proofs.TabulatedLaws.{length_tabulated}
use Rattle.splitting.specs.InnerChoose.{clause_in, clauses_in, occurrences_in}
use Rattle.splitting.proofs.CounterLaws.{occurrences_next, occurrences_few}
use Rattle.splitting.proofs.clauses.Clauses.count_names.Goals as goal

pub loop-i-init : goal.loop-i-init
unfolding occurrences_in tabulated
loop-i-init c = c.none-counts.ensures

pub with-counts-requires : goal.with-counts-requires
with-counts-requires c v =
    let s = c.args.self.now in
    let few = occurrences_few (clauses_in s.positives s.negatives c.loop-i.i) v in
    let k = length_tabulated (clause_in s.positives s.negatives) c.loop-i.i in
    rw (c.loop-i.invariant v) (omega (arith, s.few))

pub loop-i-preserved : goal.loop-i-preserved
loop-i-preserved c v =
    c.with-counts.ensures v ∙ rw (c.variables.ensures, c.clause.ensures, c.loop-i.invariant v) (sym (occurrences_next c.args.self.now.positives c.args.self.now.negatives c.loop-i.i v))
