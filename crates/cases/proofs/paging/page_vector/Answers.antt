-- `page_vector`: the comparison is that of `page_agrees`, since each side is what its function ensures.
use Rattle.std.proofs.Common.{get_or, sym, ◌∙◌, rules, arith, length-take-le}
use Rattle.enumeration.specs.Values.{checkpoint_values}
use Rattle.vectors.specs.Corpus.{parts_of}
use Rattle.cases.specs.Walking.{Leaves}
use Rattle.cases.specs.Paging.{page_byte, page_agrees, page_leaves}
use Rattle.cases.proofs.WalkingLaws.{from_on}
use Rattle.cases.proofs.PagingLaws.{paging, compared}
use Rattle.cases.proofs.paging.page_vector.Given.{Over}
use Rattle.cases.proofs.paging.page_vector.Goals.{After-agree}
use Rattle.cases.proofs.paging.page_vector.Goals as goal

pub slice_bounds-page-end : goal.slice_bounds-page-end
slice_bounds-page-end g c = sym (length-take-le _ _ (omega (arith, c.two_bytes.ensures, c.from-size.ensures)))

-- what the comparison gives, and the checkpoint that is left
told :
    (g : Over) (c : After-agree g) →
    Leaves (page_agrees (parts_of c.args.v.now) (checkpoint_values c.args.last.now)) (page_leaves (parts_of c.args.v.now) (checkpoint_values c.args.last.now)) c.checkpoint_of-returned.result c.agree.result
told g c =
    let v = parts_of c.args.v.now in
    let is = paging v (checkpoint_values c.args.last.now) _ _ _ _ (rw (from_on c.args.v.now.fields.now 56) at c.origin-from.ensures) c.four_bytes-serial.ensures (c.from-size.ensures ∙ c.two_bytes.ensures) c.write_page-paged.ensures in
    compared v (checkpoint_values c.args.last.now) _ _ _ _ _ _ _ _ _ _ is c.checkpoint_of-returned.ensures c.expected-expected.ensures c.written_size-written.ensures
    c.answer_of-got.ensures c.checkpoint_wrong-other.ensures
    (c.first_wrong-wrong.ensures.place (page_byte v.expected c.written_size-written.result (get_or v.fields 113 0)) (λ i r lt p. search rules))
    c.agree.ensures

pub returns-then-agree : goal.returns-then-agree
returns-then-agree g c = rw c.if-agree.true at (told g (goal.at.returns-then-agree g c).After-agree)

pub returns : goal.returns
returns g c = rw c.if-agree.false at (told g (goal.at.returns g c).After-agree)
