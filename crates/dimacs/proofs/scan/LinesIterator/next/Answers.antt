-- `next`: comments are passed, each with its line feed.
use Rattle.std.proofs.Common.{rules, ℕ, ◌≡◌, ◌+◌, ◌-◌, ◌≤◌, List, length, take, drop, length-drop, sym, ap, arith, ◌∙◌, refl, [], ◌∷◌}
use Rattle.std.proofs.Math.Seq.{take_all}
use Rattle.std.proofs.lemmas.Bool.{lt-leb}
use Rattle.dimacs.specs.Text.{Piece, ends_line, others, comment}
use Rattle.dimacs.specs.InnerPiece.{piece_of}
use Rattle.dimacs.specs.InnerScan.{lines_from, lines_left}
use Rattle.dimacs.proofs.TextLaws.{rest_from, line_end, lines_next, others-comment, others-first, others-none, starts_comment, comment_rest}
use Rattle.dimacs.proofs.scan.LinesIterator.next.Goals as goal
use Rattle.dimacs.proofs.scan.LinesIterator.next.Goals.{After-split_where, After-starts_with}

-- a text from an offset on, as the slice that it is
abbrev slice_from : List ℕ → ℕ → Piece
slice_from t from = record { at = from; bytes = take (length t - from) (drop from t) }

slice_whole : (t : List ℕ) (from : ℕ) → slice_from t from ≡ rest_from t from
slice_whole t from = rw (take_all (length t - from) (drop from t) (omega (arith, length-drop from t))) refl

-- the next line ends within the text
ends_within : (d : After-split_where) → (d.loop-self.self.from ≤ d.split_where.result.1.at) × (d.split_where.result.1.at ≤ length d.loop-self.self.text.now)
ends_within d =
    let t = d.loop-self.self.text.now in
    let e = d.split_where.ensures ends_line (λ x r f' k. search rules) in
    line_end t d.loop-self.self.from _ (piece_of d.split_where.result.1) d.loop-self-test.true e.1 (slice_whole t d.loop-self.self.from)

-- a line, and those behind it
lines : (d : After-split_where) → lines_from d.loop-self.self.text.now d.loop-self.self.from
    ≡ piece_of d.split_where.result.0 ∷ lines_from d.loop-self.self.text.now (d.split_where.result.1.at + 1)
lines d =
    let t = d.loop-self.self.text.now in
    let e = d.split_where.ensures ends_line (λ x r f' k. search rules) in
    lines_next t d.loop-self.self.from _ _ (piece_of d.split_where.result.1) d.loop-self-test.true e.0 e.1 (slice_whole t d.loop-self.self.from)

pub overflow_add-self : goal.overflow_add-self
overflow_add-self c = let h = ends_within (goal.at.overflow_add-self c).After-split_where in omega arith

-- it is a comment if the rest starts with c
is_comment : (d : After-starts_with) → d.starts_with.result ≡ comment d.split_where.result.0.bytes.now
is_comment d =
    let p = slice_from d.loop-self.self.text.now d.loop-self.self.from in
    let e = d.split_where.ensures ends_line (λ x r f' k. search rules) in
    d.starts_with.ensures.value ∙ starts_comment p.bytes ∙ comment_rest p (piece_of d.split_where.result.0) e.0

pub returns-then-not-starts_with-clause-steps : goal.returns-then-not-starts_with-clause-steps
returns-then-not-starts_with-clause-steps c =
    let a = goal.at.returns-then-not-starts_with-clause-steps c in
    sym c.loop-self.invariant ∙ ap others (lines a.After-split_where) ∙ others-first _ _ (sym (is_comment a.After-starts_with) ∙ c.if-not-starts_with.true)

pub returns-then-not-starts_with-clause-goes : goal.returns-then-not-starts_with-clause-goes
returns-then-not-starts_with-clause-goes c = let h = ap length (returns-then-not-starts_with-clause-steps c) in search rules

pub loop-self-smaller : goal.loop-self-smaller
loop-self-smaller c = let h = ends_within (goal.at.loop-self-smaller c).After-split_where in omega (arith, c.loop-self-test.true)

pub loop-self-preserved : goal.loop-self-preserved
loop-self-preserved c =
    let a = goal.at.loop-self-preserved c in
    sym (ap others (lines a.After-split_where) ∙ others-comment _ _ (sym (is_comment a.After-starts_with) ∙ c.if-not-starts_with.false)) ∙ c.loop-self.invariant

pub returns-clause-steps : goal.returns-clause-steps
returns-clause-steps c =
    let e : lines_left c.loop-self.self ≡ [] = rw (lt-leb c.loop-self.self.from (length c.loop-self.self.text.now) (omega arith), others-none) refl in
    (sym c.loop-self.invariant ∙ e, e)
