-- `convert_vector`: the comparison is that of `convert_agrees`, since each side is what its function ensures.
use Rattle.std.proofs.Common.{rules, sym, ◌∙◌, arith, get_or, length-take-le}
use Rattle.vectors.specs.Corpus.{parts_of}
use Rattle.cases.proofs.ConvertingLaws.{compared}
use Rattle.cases.proofs.converting.convert_vector.Goals as goal

pub slice_bounds-buffer-end : goal.slice_bounds-buffer-end
slice_bounds-buffer-end g c = sym (length-take-le _ _ (omega (arith, c.two_bytes.ensures, c.from-size.ensures)))

pub returns : goal.returns
returns g c conversion h =
    let v = c.args.v.now in
    rw (← compared conversion (parts_of v) _ _ _ _ (c.from-size.ensures ∙ c.two_bytes.ensures) c.answer_of-got.ensures (h _ _ _ _ c.convert.ensures))
    (c.compare_bytes.ensures (λ i. get_or v.expected.now i (get_or v.fields.now 8 0)) (λ i r lt p. search rules))
