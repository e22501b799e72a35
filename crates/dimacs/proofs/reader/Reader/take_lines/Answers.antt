-- `take_lines`: of the words, those of the lines of the iterator are left.
use Rattle.std.proofs.lemmas.Result.{err_from_is_err_and}
use Rattle.dimacs.specs.Text.{words}
use Rattle.dimacs.specs.InnerPiece.{piece_of}
use Rattle.dimacs.proofs.GoesLaws.{keeps_ready, goes_next, goes_stop, goes_end, lines_words, no_words}
use Rattle.dimacs.proofs.reader.Reader.take_lines.Goals as goal

pub take_line-requires : goal.take_line-requires
take_line-requires c = let r = c.requires in keeps_ready (c.loop-line.invariant c.args.self.now.variables r.progress r.keeps).keeps

pub loop-line-preserved : goal.loop-line-preserved
loop-line-preserved c = λ n s k.
    let g = c.loop-line.invariant n s k in
    let l = piece_of c.in-Some.line in
    goes_next g (words l) _ (lines_words l _ _ c.in-Some.ensures.steps) (c.in_ok-take_line.ensures n g.progress g.keeps)

pub returns-in_err-take_line : goal.returns-in_err-take_line
returns-in_err-take_line c = λ n s k.
    let p = err_from_is_err_and c.from_residual.result c.from_residual.ensures.1 in
    let g = c.loop-line.invariant n s k in
    let l = piece_of c.in-Some.line in
    rw (p.1, p.2) (goes_stop g (words l) _ (lines_words l _ _ c.in-Some.ensures.steps) (c.in_err-take_line.ensures n g.progress g.keeps))

pub returns : goal.returns
returns c = λ n s k. goes_end (c.loop-line.invariant n s k) (no_words _ c.in-None.ensures.steps.0)
