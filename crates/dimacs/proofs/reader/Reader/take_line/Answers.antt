-- `take_line`: of the words, those of the iterator are left.
use mathlib.Core.List.{[], ◌∷◌}
use mathlib.Core.Path.{◌∙◌}
use Rattle.std.proofs.lemmas.Result.{err_from_is_err_and}
use Rattle.dimacs.specs.InnerPiece.{piece_of}
use Rattle.dimacs.proofs.GoesLaws.{keeps_ready, goes_next, goes_stop, goes_end, take_one, one_stands}
use Rattle.dimacs.proofs.reader.Reader.take_line.Goals as goal

pub take_word-requires : goal.take_word-requires
take_word-requires c = let r = c.requires in keeps_ready (c.loop-word.invariant c.args.self.now.variables r.progress r.keeps).keeps

pub loop-word-preserved : goal.loop-word-preserved
loop-word-preserved c = λ n s k.
    let g = c.loop-word.invariant n s k in
    let w = piece_of c.in-Some.word in
    goes_next g (w ∷ []) _ c.in-Some.ensures.steps (one_stands n w g.progress (c.in_ok-take_word.ensures n g.progress g.keeps))

pub returns-in_err-take_word : goal.returns-in_err-take_word
returns-in_err-take_word c = λ n s k.
    let p = err_from_is_err_and c.from_residual.result c.from_residual.ensures.1 in
    let g = c.loop-word.invariant n s k in
    let w = piece_of c.in-Some.word in
    rw (p.1, p.2) (goes_stop g (w ∷ []) _ c.in-Some.ensures.steps (take_one n w g.progress ∙ c.in_err-take_word.ensures n g.progress g.keeps))

pub returns : goal.returns
returns c = λ n s k. goes_end (c.loop-word.invariant n s k) c.in-None.ensures.steps.0
