-- `write` by its three answers: a short buffer, the reader's refusal, or the text.
use mathlib.Core.Path.{sym, ◌∙◌}
use native.Mathlib.Omega.{arith}
use lib.ListN.{length}
use Rattle.std.proofs.lemmas.Result.{err_from_is_err_and}
use Rattle.formula.proofs.MaskedLaws.{decoded_accepted, decoded_refused}
use Rattle.writing.proofs.PlacedLaws.{lent_puts}
use Rattle.dimacs.specs.InnerWriter.{Readable}
use Rattle.dimacs.proofs.LineLaws.{text_short, text_refused, text_written}
use Rattle.dimacs.proofs.RoomLaws.{accepted_readable}
use Rattle.dimacs.proofs.writer.write.Goals.{After-new-w}
use Rattle.dimacs.proofs.writer.write.Goals as goal

-- the formula of an accepted input
formula : (t : After-new-w) → (let f = t.in_ok-f.f in Readable t.args.input.now f.variables (length f.clauses.items) t.new-w.result)
formula t = accepted_readable (decoded_accepted t.args.input.now _ (sym t.decode.ensures ∙ t.in_ok-f.was)) (omega arith)

pub returns-then-buffer-lt-TEXT_ROOM : goal.returns-then-buffer-lt-TEXT_ROOM
returns-then-buffer-lt-TEXT_ROOM c = let a = c.args in text_short a.input.now a.buffer.now (omega arith)

pub returns-in_err-f : goal.returns-in_err-f
returns-in_err-f c =
    let a = c.args in
    let p = err_from_is_err_and c.from_residual.result c.from_residual.ensures.1 in
    rw (p.1, p.2) (text_refused a.input.now a.buffer.now (omega arith) _ (decoded_refused a.input.now _ (sym c.decode.ensures ∙ c.in_err-f.was)))

pub put_text-requires : goal.put_text-requires
put_text-requires c = rw c.len.ensures.value (formula (goal.at.put_text-requires c).After-new-w)

pub returns : goal.returns
returns c =
    let r = formula (goal.at.returns c).After-new-w in
    let h = lent_puts c.new-w.ensures (c.put_text.ensures r.clauses r.reads) in
    let e = text_written c.args.input.now c.args.buffer.now (omega arith) _ r.clauses _ _ r.reads h.1 in
    grind arith
