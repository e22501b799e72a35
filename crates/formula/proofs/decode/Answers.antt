-- `formula::decode` meets its contract. The loop keeps `Reads`: what is left to read gives what the whole gives.
use mathlib.Core.Path.{sym, ap, ◌∙◌}
use Rattle.std.specs.Prelude.{Ok}
use Rattle.std.proofs.lemmas.Result.{err_from_is_err_and}
use Rattle.formula.specs.InnerMasked.{held, decoded}
use Rattle.formula.proofs.ReaderLaws.{reads_start, whole, Turn, turn_next, turn_finished, turn_stopped}
use Rattle.formula.proofs.decode.Goals.{In-Some, then-reader-after, else-reader-after}
use Rattle.formula.proofs.decode.Goals as goal

-- a record after which reading goes on
turn : (c : In-Some) → Turn c.args.input.now c.loop-after.reader c.loop-after.clauses.items c.in-Some.after
turn c = turn_next (whole _ _ _ c.loop-after.invariant) (sym c.read_record.ensures ∙ c.in_ok-after.was ∙ ap Ok c.in-Some.is)

pub loop-after-init : goal.loop-after-init
loop-after-init c = rw (c.new-clauses.ensures, c.empty.ensures) (reads_start c.args.input.now)

pub returns-in_err-after : goal.returns-in_err-after
unfolding decoded
returns-in_err-after c =
    let p = err_from_is_err_and c.from_residual.result c.from_residual.ensures.1 in
    rw (p.1, p.2) (ap held (sym (turn_stopped (whole _ _ _ c.loop-after.invariant) (sym c.read_record.ensures ∙ c.in_err-after.was))))

pub read_literals-reader-requires : goal.read_literals-reader-requires
read_literals-reader-requires c =
    let t = turn (goal.at.read_literals-reader-requires c).In-Some in
    (t.inside, t.small)

pub push-requires : goal.push-requires
push-requires c = ((turn (goal.at.push-requires c).In-Some).stored c.if-reader-after.true).0

pub loop-after-preserved : goal.loop-after-preserved
loop-after-preserved c =
    let t = turn (goal.at.loop-after-preserved c).In-Some in
    c.read_literals-reader.ensures.passes.reads _
    (elim c.if-reader-after.branch [
      | then-reader-after w ↦ rw (w.clauses-is, w.push.ensures.items) (t.stored w.if-reader-after.true).1
      | else-reader-after w ↦ rw w.clauses-is (t.kept w.if-reader-after.false)
    ])

pub returns : goal.returns
unfolding decoded
returns c =
    rw c.from.ensures (sym (turn_finished (whole _ _ _ c.loop-after.invariant) (sym c.read_record.ensures ∙ c.in_ok-after.was ∙ ap Ok c.in_default.is)))
