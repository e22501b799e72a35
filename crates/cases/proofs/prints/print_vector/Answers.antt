-- `print_vector`: the bytes that are compared are those of the text.
use Rattle.std.proofs.Common.{◌≡◌, sym, ap, ◌∙◌, arith, length-take-le}
use Rattle.std.specs.Str.{bytes_eq}
use Rattle.printing.proofs.PrintLaws.{count_within}
use Rattle.vectors.specs.Corpus.{parts_of}
use Rattle.cases.specs.Prints.{print_agrees}
use Rattle.cases.proofs.PrintsLaws.{text_written}
use Rattle.cases.proofs.prints.print_vector.Given.{Over}
use Rattle.cases.proofs.prints.print_vector.Goals.{After-eq}
use Rattle.cases.proofs.prints.print_vector.Goals as goal

pub slice_bounds-buffer-end : goal.slice_bounds-buffer-end
slice_bounds-buffer-end g c = count_within _ _ _ _ c.print-count.ensures

pub slice_bounds-text-end : goal.slice_bounds-text-end
slice_bounds-text-end g c = sym (length-take-le _ _ (count_within _ _ _ _ c.print-count.ensures))

-- what the comparison gives
told : (g : Over) (c : After-eq g) → c.eq.result ≡ print_agrees (parts_of c.args.v.now)
unfolding print_agrees
told g c = c.eq.ensures ∙ ap (λ t. bytes_eq t c.args.v.now.expected.now) (text_written _ _ _ _ (omega arith) c.print-count.ensures)

pub returns-then-eq : goal.returns-then-eq
returns-then-eq g c = sym c.if-eq.true ∙ told g (goal.at.returns-then-eq g c).After-eq

pub returns : goal.returns
returns g c = sym c.if-eq.false ∙ told g (goal.at.returns g c).After-eq
