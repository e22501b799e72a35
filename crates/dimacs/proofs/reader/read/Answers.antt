-- `read`: a short buffer, a refusal, or the bytes that were kept.
use Prim.Native.Nat.{ℕ, ◌≤◌}
use mathlib.Core.Path.{◌≡◌, sym, ap, ◌∙◌}
use native.Mathlib.Omega.{arith}
use lib.ListN.{length, take}
use lib.Seq.{length-take-le}
use Rattle.std.proofs.lemmas.Result.{err_from_is_err_and}
use Rattle.formula.proofs.LengthLaws.{formula_le}
use Rattle.dimacs.specs.Text.{read_text, progress_start, next, all_words, take_words, closing, by_lines}
use Rattle.dimacs.specs.InnerScan.{lines_left}
use Rattle.dimacs.specs.InnerReader.{Opened, Stands, Kept}
use Rattle.dimacs.proofs.GoesLaws.{stands_ready}
use Rattle.dimacs.proofs.ReadLaws.{text_lines, encoded_short, encoded_refused, encoded_written}
use Rattle.dimacs.proofs.reader.read.Goals.{After-new-lines, In_ok-p, In_ok-take_lines, In_ok-close, After-as_slice-bytes}
use Rattle.dimacs.proofs.reader.read.Goals as goal

-- the lines decide
lines : (d : After-new-lines) → read_text d.args.text.now ≡ by_lines (length d.args.text.now) (lines_left d.new-lines.result)
lines d = text_lines d.args.text.now ∙ ap (by_lines (length d.args.text.now)) (sym d.new-lines.ensures)

-- behind the p line the words do
module _ (d : In_ok-p) where
  abbrev n : ℕ
  n = d.in_ok-p.p.variables

  opened : Opened (length d.args.text.now) (lines_left d.new-lines.result) (lines_left d.read_p_line.new.lines) d.in_ok-p.p
  opened = d.in_ok-p.ensures

  words : read_text d.args.text.now ≡ closing (length d.args.text.now) n opened.fourth (take_words n (all_words (lines_left d.read_p_line.new.lines)) progress_start)
  words = lines (goal.at.In_ok-p d).After-new-lines ∙ opened.reads

-- behind the words what is open
module _ (d : In_ok-take_lines) where
  abbrev before : In_ok-p
  before = (goal.at.In_ok-take_lines d).In_ok-p

  stands : Stands (n before) (take_words (n before) (all_words (lines_left d.read_p_line.new.lines)) progress_start) d.take_lines.new.self
  stands = d.in_ok-take_lines.ensures (n before) progress_start d.new-reader.ensures

  closes : read_text d.args.text.now ≡ closing (length d.args.text.now) (n before) (opened before).fourth (next stands.progress)
  closes = words before ∙ ap (closing (length d.args.text.now) (n before) (opened before).fourth) stands.taken

-- all is kept
module _ (d : In_ok-close) where
  abbrev behind : In_ok-take_lines
  behind = (goal.at.In_ok-close d).In_ok-take_lines

  kept : Kept (closing (length d.args.text.now) (n (before behind)) (opened (before behind)).fourth (next (stands behind).progress)) d.close.new.self
  kept =
      let o = opened (before behind) in
      let s = stands behind in
      d.in_ok-close.ensures (n (before behind)) s.progress o.third o.fourth s.keeps o.numbers

pub returns-then-buffer-lt-MAX_BYTES : goal.returns-then-buffer-lt-MAX_BYTES
returns-then-buffer-lt-MAX_BYTES c = let a = c.args in encoded_short a.text.now a.buffer.now c.if-buffer-lt-MAX_BYTES.true

pub returns-in_err-p : goal.returns-in_err-p
returns-in_err-p c =
    let d = (goal.at.returns-in_err-p c).After-new-lines in
    let p = err_from_is_err_and c.from_residual.result c.from_residual.ensures.1 in
    rw (p.1, p.2) (encoded_refused c.args.text.now c.args.buffer.now (omega arith) _ (lines d ∙ c.in_err-p.ensures))

pub returns-in_err-take_lines : goal.returns-in_err-take_lines
returns-in_err-take_lines c =
    let d = (goal.at.returns-in_err-take_lines c).In_ok-p in
    let p = err_from_is_err_and c.from_residual-in_err-take_lines.result c.from_residual-in_err-take_lines.ensures.1 in
    rw (p.1, p.2)
    (encoded_refused c.args.text.now c.args.buffer.now (omega arith) _
    (words d ∙ ap (closing (length c.args.text.now) (n d) (opened d).fourth) (c.in_err-take_lines.ensures (n d) progress_start c.new-reader.ensures)))

pub close-requires : goal.close-requires
close-requires c = stands_ready (stands (goal.at.close-requires c).In_ok-take_lines)

pub returns-in_err-close : goal.returns-in_err-close
returns-in_err-close c =
    let d = (goal.at.returns-in_err-close c).In_ok-take_lines in
    let o = opened (before d) in
    let s = stands d in
    let p = err_from_is_err_and c.from_residual-in_err-close.result c.from_residual-in_err-close.ensures.1 in
    rw (p.1, p.2)
    (encoded_refused c.args.text.now c.args.buffer.now (omega arith) _
    (closes d ∙ c.in_err-close.ensures (n (before d)) s.progress o.third o.fourth s.keeps o.numbers))

-- the buffer has room for them
room : (t : After-as_slice-bytes) → length t.as_slice-bytes.result.now ≤ length t.args.buffer.now
room t =
    let k = kept (goal.at.After-as_slice-bytes t).In_ok-close in
    rw (t.as_slice-bytes.ensures.value, k.bytes) (omega (arith, formula_le k.sized))

taken : (t : After-as_slice-bytes) → length (take (length t.as_slice-bytes.result.now) t.args.buffer.now) ≡ length t.as_slice-bytes.result.now
taken t = length-take-le _ t.args.buffer.now (room t)

pub slice_bounds-copy_from_slice-end : goal.slice_bounds-copy_from_slice-end
slice_bounds-copy_from_slice-end c = room c

pub slice_bounds-copy_from_slice-end-2 : goal.slice_bounds-copy_from_slice-end-2
slice_bounds-copy_from_slice-end-2 c = sym (taken (goal.at.slice_bounds-copy_from_slice-end-2 c).After-as_slice-bytes)

pub copy_from_slice-requires : goal.copy_from_slice-requires
copy_from_slice-requires c = taken (goal.at.copy_from_slice-requires c).After-as_slice-bytes

pub returns : goal.returns
returns c =
    let k = kept (goal.at.returns c).In_ok-close in
    rw (c.copy_from_slice.ensures.after, c.as_slice-bytes.ensures.value, k.bytes)
    (encoded_written c.args.text.now c.args.buffer.now (omega arith) k.variables k.clauses (closes (goal.at.returns c).In_ok-take_lines ∙ k.reads))
