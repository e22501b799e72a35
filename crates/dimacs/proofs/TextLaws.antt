-- Laws of the lines of a text, and of the words of a line.
use Prim.Native.Nat.{ℕ, suc, ◌+◌, ◌<◌, ◌≤◌}
use mathlib.Core.Bool.{Bool, true, false, not, cond, and-true}
use mathlib.Core.List.{List, [], ◌∷◌}
use mathlib.Core.Path.{◌≡◌, refl, sym, ap, ◌∙◌}
use native.Mathlib.Omega.{arith}
use borrow.Author.Tests.{ltb-true, ltb-false, le-leb, lt-leb, eqb-true, eqb-false, eq-eqb, ne_eqb, not-true}
use lib.Dec.{eqb, ltb}
use lib.ListN.{length, take, drop, get_or, length-drop, drop_of_length-le}
use lib.Seq.{length-take-le, drop-drop, drop-cons}
use Rattle.std.specs.List.{position_or_len, before_first, starts_with}
use Rattle.std.proofs.lemmas.List.Sums.{passes_at_first, prefix_len-le-length}
use Rattle.lists.proofs.TestLaws.{bool_clash}
use Rattle.dimacs.specs.Text.{Piece, pieces, ends_line, parts_words, non_empty, words, comment, others}
use Rattle.dimacs.specs.InnerPiece.{before, from_first}
use Rattle.dimacs.specs.InnerScan.{in_word, lines_from}
use Rattle.dimacs.proofs.PieceLaws.{rest_pieces, pieces_until, kept_piece}

-- ---- words

-- no byte, no word
pub words-none : (at : ℕ) → words (record { at = at; bytes = [] }) ≡ []
unfolding pieces non_empty
words-none at = refl

-- a byte that parts words is passed
words_part : (at x : ℕ) (s : List ℕ) → parts_words x ≡ true → words (record { at = at; bytes = x ∷ s }) ≡ words (record { at = at + 1; bytes = s })
unfolding pieces non_empty
words_part at x s e = go (parts_words x) e
  where
    go : (b : Bool) → b ≡ true
        → non_empty (elim b [ true ↦ record { at = at; bytes = [] } ∷ pieces parts_words (at + 0 + 1) [] s | false ↦ pieces parts_words at (x ∷ []) s ]) ≡ words (record { at = at + 1; bytes = s })
    go true q = let f : at + 0 + 1 ≡ at + 1 = omega arith in ap (λ (k : ℕ). words (record { at = k; bytes = s })) f
    go false q = bool_clash {x = false} q refl

-- and so are all up to the next word
pub words_skip : (p : Piece) → words p ≡ words (from_first in_word p)
words_skip p = go p.at p.bytes
  where
    go : (at : ℕ) (s : List ℕ) → words (record { at = at; bytes = s }) ≡ words (from_first in_word (record { at = at; bytes = s }))
    go at [] = let f : at + 0 ≡ at = omega arith in rw f
    go at (x ∷ s) = by_test (parts_words x) refl (go (at + 1) s)
      where
        by_test : (b : Bool) → parts_words x ≡ b → words (record { at = at + 1; bytes = s }) ≡ words (from_first in_word (record { at = at + 1; bytes = s }))
            → words (record { at = at; bytes = x ∷ s })
            ≡ words (record { at = at + cond (not (not b)) (1 + position_or_len in_word s) 0; bytes = drop (cond (not (not b)) (1 + position_or_len in_word s) 0) (x ∷ s) })
        by_test true e h =
            let k = position_or_len in_word s in
            let one : 1 + k ≡ suc k = omega arith in
            let f : at + 1 + k ≡ at + suc k = omega arith in
            words_part at x s e ∙ h ∙ rw (f, one) refl
        by_test false e h = let f : at + 0 ≡ at = omega arith in rw f refl

-- no word is left
pub words_over : (p q : Piece) → q ≡ from_first in_word p → length q.bytes ≡ 0 → words p ≡ []
words_over p q e h = words_skip p ∙ ap words (sym e) ∙ go q.at q.bytes h
  where
    go : (at : ℕ) (s : List ℕ) → length s ≡ 0 → words (record { at = at; bytes = s }) ≡ []
    go at [] e = words-none at
    go at (x ∷ s) e = absurd (omega arith)

-- so what is behind a word is read from there
rest_words : (at : ℕ) (s : List ℕ) (k : ℕ) → position_or_len parts_words s ≡ k → non_empty (rest_pieces parts_words at s k) ≡ words (record { at = at + k; bytes = drop k s })
unfolding non_empty
rest_words at s k e = go (ltb k (length s)) refl
  where
    go : (b : Bool) → ltb k (length s) ≡ b → non_empty (cond b (pieces parts_words (at + k + 1) [] (drop (suc k) s)) []) ≡ words (record { at = at + k; bytes = drop k s })
    go true q =
        let l = ltb-true k (length s) q in
        let p : parts_words (get_or s k 0) ≡ true = rw e at (passes_at_first parts_words s 0 (rw e l)) in
        sym (ap (λ (x : List ℕ). words (record { at = at + k; bytes = x })) (drop-cons s k 0 l) ∙ words_part (at + k) (get_or s k 0) (drop (suc k) s) p)
    go false q = sym (ap (λ (x : List ℕ). words (record { at = at + k; bytes = x })) (drop_of_length-le s (ltb-false k (length s) q)) ∙ words-none (at + k))

-- a word at the front, and those behind it
words_word : (p : Piece) → 0 < position_or_len parts_words p.bytes → words p ≡ before parts_words p ∷ words (from_first parts_words p)
words_word p h =
    let k = position_or_len parts_words p.bytes in
    let l : length (take k p.bytes) ≡ k = length-take-le k p.bytes (prefix_len-le-length (λ x. not (parts_words x)) p.bytes) in
    ap non_empty (pieces_until parts_words p.at p.bytes)
    ∙ kept_piece (before parts_words p) (rest_pieces parts_words p.at p.bytes k) (omega arith)
    ∙ ap (λ (ps : List Piece). before parts_words p ∷ ps) (rest_words p.at p.bytes k refl)

-- the next word, and those behind it
pub words_next : (p q w r : Piece) → q ≡ from_first in_word p → w ≡ before parts_words q → r ≡ from_first parts_words q → (length q.bytes ≡ 0 → ⊥) → words p ≡ w ∷ words r
words_next p q w r e f g h = words_skip p ∙ ap words (sym e) ∙ words_word q some ∙ rw (f, g)
  where
    n : ℕ
    n = position_or_len in_word p.bytes

    left : q.bytes ≡ drop n p.bytes
    left = ap (λ (x : Piece). x.bytes) e

    inside : n < length p.bytes
    inside = omega (arith, h, ap length left, length-drop n p.bytes)

    some : 0 < position_or_len parts_words q.bytes
    some = rw (left, drop-cons p.bytes n 0 inside, not-true (parts_words (get_or p.bytes n 0)) (passes_at_first in_word p.bytes 0 inside)) (omega arith)

-- ---- lines

-- a text from an offset on
abbrev pub rest_from : List ℕ → ℕ → Piece
rest_from t from = record { at = from; bytes = drop from t }

-- where a line ends
pub line_end : (t : List ℕ) (from : ℕ) (p q : Piece) → from ≤ length t → q ≡ from_first ends_line p → p ≡ rest_from t from → (from ≤ q.at) × (q.at ≤ length t)
line_end t from p q h f w =
    let z : q.at ≡ from + position_or_len ends_line (drop from t) = ap (λ (x : Piece). x.at) (f ∙ ap (from_first ends_line) w) in
    (omega arith, omega (arith, prefix_len-le-length (λ x. not (ends_line x)) (drop from t), length-drop from t))

-- a line, and those behind it
pub lines_next : (t : List ℕ) (from : ℕ) (p l q : Piece) → from ≤ length t → l ≡ before ends_line p → q ≡ from_first ends_line p → p ≡ rest_from t from
    → lines_from t from ≡ l ∷ lines_from t (q.at + 1)
lines_next t from p l q h e f w =
    rw (f, e, w, le-leb from (length t) h) (pieces_until ends_line from s ∙ ap (λ (ls : List Piece). before ends_line (rest_from t from) ∷ ls) (go (ltb k (length s)) refl))
  where
    s : List ℕ
    s = drop from t

    k : ℕ
    k = position_or_len ends_line s

    go : (b : Bool) → ltb k (length s) ≡ b → cond b (pieces ends_line (from + k + 1) [] (drop (suc k) s)) [] ≡ lines_from t (from + k + 1)
    go true e =
        let l : from + k + 1 ≤ length t = omega (arith, ltb-true k (length s) e, length-drop from t) in
        let n : from + suc k ≡ from + k + 1 = omega arith in
        rw (le-leb (from + k + 1) (length t) l, drop-drop (suc k) from t, n) refl
    go false e =
        let l : length t < from + k + 1 = omega (arith, ltb-false k (length s) e, length-drop from t) in
        rw (lt-leb (from + k + 1) (length t) l) refl

-- behind a comment
pub others-comment : (l : Piece) (ls : List Piece) → comment l.bytes ≡ true → others (l ∷ ls) ≡ others ls
unfolding others
others-comment l ls e = go (comment l.bytes) e
  where
    go : (b : Bool) → b ≡ true → (elim b [ true ↦ others ls | false ↦ l ∷ others ls ]) ≡ others ls
    go true q = refl
    go false q = bool_clash {x = false} q refl

pub others-first : (l : Piece) (ls : List Piece) → comment l.bytes ≡ false → others (l ∷ ls) ≡ l ∷ others ls
unfolding others
others-first l ls e = go (comment l.bytes) e
  where
    go : (b : Bool) → b ≡ false → (elim b [ true ↦ others ls | false ↦ l ∷ others ls ]) ≡ l ∷ others ls
    go true q = bool_clash {x = true} refl q
    go false q = refl

pub others-none : others [] ≡ []
unfolding others
others-none = refl

-- a line is a comment if it starts with c
pub starts_comment : (s : List ℕ) → starts_with eqb s (99 ∷ []) ≡ comment s
starts_comment [] = refl
starts_comment (x ∷ s) = rw (and-true (eqb 99 x)) (go (eqb x 99) refl)
  where
    go : (b : Bool) → eqb x 99 ≡ b → eqb 99 x ≡ b
    go true e = let q : 99 ≡ x = sym (eqb-true x 99 e) in eq-eqb 99 x q
    go false e = ne_eqb 99 x (λ q. eqb-false x 99 e (sym q))

-- or if that starts with c whose first line it is
pub comment_rest : (p l : Piece) → l ≡ before ends_line p → comment p.bytes ≡ comment l.bytes
comment_rest p l e = rw e (go p.bytes)
  where
    go : (s : List ℕ) → comment s ≡ comment (before_first ends_line s)
    go [] = refl
    go (x ∷ s) = by_test (ends_line x) refl
      where
        by_test : (b : Bool) → ends_line x ≡ b → eqb x 99 ≡ comment (take (cond (not b) (1 + position_or_len ends_line s) 0) (x ∷ s))
        by_test true e = ne_eqb x 99 (λ q. absurd (omega (arith, eqb-true x 10 e)))
        by_test false e = let one : 1 + position_or_len ends_line s ≡ suc (position_or_len ends_line s) = omega arith in rw one refl
