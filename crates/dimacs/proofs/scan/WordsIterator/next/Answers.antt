-- `next`: the next word, if there is one.
use Rattle.std.proofs.Common.{rules, ◌≡◌, length, ap}
use Rattle.dimacs.specs.Text.{parts_words}
use Rattle.dimacs.specs.InnerPiece.{piece_of, from_first}
use Rattle.dimacs.specs.InnerScan.{in_word}
use Rattle.dimacs.proofs.TextLaws.{words_over, words_next}
use Rattle.dimacs.proofs.scan.WordsIterator.next.Goals as goal
use Rattle.dimacs.proofs.scan.WordsIterator.next.Goals.{After-split_where}

-- from the next word on
left : (d : After-split_where) → piece_of d.split_where.result.1 ≡ from_first in_word (piece_of d.args.self.now.rest)
left d = (d.split_where.ensures in_word (λ x r f' k. search rules)).1

pub returns-then-is_empty-clause-steps : goal.returns-then-is_empty-clause-steps
returns-then-is_empty-clause-steps c =
    let e = words_over (piece_of c.args.self.now.rest) _ (left (goal.at.returns-then-is_empty-clause-steps c).After-split_where) (search rules) in (e, e)

pub returns-clause-steps : goal.returns-clause-steps
returns-clause-steps c =
    let e = c.split_where-2.ensures parts_words (λ x r f' k. search rules) in
    words_next (piece_of c.args.self.now.rest) _ _ _ (left (goal.at.returns-clause-steps c).After-split_where) e.0 e.1 (search rules)

pub returns-clause-goes : goal.returns-clause-goes
returns-clause-goes c = let h = ap length (returns-clause-steps c) in search rules
