-- Laws of what is written: its lines, the words of a line, and what a word says.
use Prim.Native.Nat.{ℕ, suc, ◌+◌, ◌*◌, ◌-◌, ◌≤◌, ◌<◌}
use mathlib.Core.Bool.{Bool, true, false, ◌||◌}
use mathlib.Core.List.{List, [], ◌∷◌, ◌++◌, map, append_assoc, append-nil}
use mathlib.Core.Path.{◌≡◌, refl, ap, ◌∙◌}
use native.Mathlib.Numerals.{add-one}
use native.Mathlib.Omega.{arith}
use borrow.Author.Tests.{lt-ltb, le-ltb, le-leb, ne_eqb}
use lib.Dec.{eqb, ltb}
use lib.ListN.{length, drop, length-append}
use lib.Seq.{take-append_seam, drop-append-add, take-length, append_snoc}
use Rattle.lists.specs.Every.{Every}
use Rattle.lists.proofs.EveryLaws.{every_append}
use Rattle.lists.proofs.TestLaws.{or-none}
use Rattle.writing.specs.Text.{digit_zero, line_feed, blank, decimal, line_of}
use Rattle.writing.proofs.DecimalLaws.{told, decimal_told, IsDigit, decimal_digits, decimal_some}
use Rattle.formula.specs.Format.{Literal}
use Rattle.std.specs.List.{position_or_len}
use Rattle.dimacs.specs.Text.{Piece, pieces, ends_line, parts_words, non_empty, comment, others, all_digits, run, value_from, value, ends, names_variable, minus_sign, unsigned, token}
use Rattle.dimacs.specs.Written.{literal_word}
use Rattle.dimacs.specs.InnerScan.{words_at}
use Rattle.dimacs.proofs.PieceLaws.{pieces_until, kept_piece}

-- ---- the first piece of a text

module _ (test : ℕ → Bool) where
  -- no byte parts
  abbrev pub Whole : List ℕ → Type 0
  Whole u = Every (λ x. test x ≡ false) u

  -- bytes that do not part stand before the first that does
  first_behind : (u v : List ℕ) → Whole u → position_or_len test (u ++ v) ≡ length u + position_or_len test v
  first_behind [] v h = omega arith
  first_behind (x ∷ u) v h = let f = first_behind u v h.1 in rw h.0 (omega arith)

  -- a piece goes up to a byte that parts
  pub pieces_part : (at : ℕ) (u : List ℕ) (x : ℕ) (v : List ℕ) → Whole u → test x ≡ true
      → pieces test at [] (u ++ (x ∷ v)) ≡ record { at = at; bytes = u } ∷ pieces test (at + length u + 1) [] v
  pieces_part at u x v h p =
      let z : position_or_len test (x ∷ v) ≡ 0 = rw p in
      let k : position_or_len test (u ++ (x ∷ v)) ≡ length u = (let f = first_behind u (x ∷ v) h in omega arith) in
      let l : ltb (length u) (length (u ++ (x ∷ v))) ≡ true = lt-ltb (length u) (length (u ++ (x ∷ v))) (omega (arith, length-append u (x ∷ v))) in
      let d : drop (suc (length u)) (u ++ (x ∷ v)) ≡ v = rw (← add-one (length u)) (drop-append-add u (x ∷ v) 1) in
      pieces_until test at (u ++ (x ∷ v)) ∙ rw (k, take-append_seam u (x ∷ v), l, d)

  -- the last one goes up to the end
  pub pieces_last : (at : ℕ) (u : List ℕ) → Whole u → pieces test at [] u ≡ record { at = at; bytes = u } ∷ []
  pieces_last at u h =
      let k : position_or_len test u ≡ length u = (let f = rw append-nil at (first_behind u [] h) in omega arith) in
      pieces_until test at u ∙ rw (k, take-length u, le-ltb (length u) (length u) (omega arith))

-- ---- a line of words

-- a word: one byte or more, none of which parts words
pub record Word (w : List ℕ) : Type 0 where
  pub some : 1 ≤ length w
  pub whole : Whole parts_words w

-- the bytes of a line before the line feed
abbrev pub joined : List (List ℕ) → List ℕ
joined [] = []
joined (w ∷ []) = w
joined (w ∷ v ∷ ws) = w ++ (blank ∷ joined (v ∷ ws))

-- words one after the other, with one byte between two
abbrev pub placed : ℕ → List (List ℕ) → List Piece
placed at [] = []
placed at (w ∷ ws) = record { at = at; bytes = w } ∷ placed (at + length w + 1) ws

-- a line is these bytes and a line feed
line_joined : (ws : List (List ℕ)) → line_of ws ≡ joined ws ++ (line_feed ∷ [])
line_joined [] = refl
line_joined (w ∷ []) = refl
line_joined (w ∷ v ∷ ws) = rw (line_joined (v ∷ ws), append_assoc)

-- a word has no line feed
word_whole : (w : List ℕ) → Whole parts_words w → Whole ends_line w
word_whole [] h = tt
word_whole (x ∷ w) h =
    let a = or-none (eqb x blank) (eqb x 9 || (eqb x 13 || eqb x line_feed)) h.0 in
    let b = or-none (eqb x 9) (eqb x 13 || eqb x line_feed) a.1 in
    ((or-none (eqb x 13) (eqb x line_feed) b.1).1, word_whole w h.1)

-- nor have words with a blank between two
joined_whole : (ws : List (List ℕ)) → Every Word ws → Whole ends_line (joined ws)
joined_whole [] h = tt
joined_whole (w ∷ []) h = word_whole w h.0.whole
joined_whole (w ∷ v ∷ ws) h =
    every_append (λ x. ends_line x ≡ false) w (blank ∷ joined (v ∷ ws)) (word_whole w h.0.whole) (refl, joined_whole (v ∷ ws) h.1)

-- the first line of a text that starts with a written one
line_first : (at : ℕ) (ws : List (List ℕ)) (s : List ℕ) → Every Word ws
    → pieces ends_line at [] (line_of ws ++ s) ≡ record { at = at; bytes = joined ws } ∷ pieces ends_line (at + length (joined ws) + 1) [] s
line_first at ws s h = rw (line_joined ws, append_snoc) (pieces_part ends_line at (joined ws) line_feed s (joined_whole ws h) refl)

-- its words are those that are written
pub words-joined : (at : ℕ) (ws : List (List ℕ)) → Every Word ws → words_at at (joined ws) ≡ placed at ws
unfolding non_empty pieces
words-joined at [] h = refl
words-joined at (w ∷ []) h = ap non_empty (pieces_last parts_words at w h.0.whole) ∙ kept_piece (record { at = at; bytes = w }) [] h.0.some
words-joined at (w ∷ v ∷ ws) h =
    ap non_empty (pieces_part parts_words at w blank (joined (v ∷ ws)) h.0.whole refl)
    ∙ kept_piece (record { at = at; bytes = w }) (pieces parts_words (at + length w + 1) [] (joined (v ∷ ws))) h.0.some
    ∙ ap (λ (ps : List Piece). record { at = at; bytes = w } ∷ ps) (words-joined (at + length w + 1) (v ∷ ws) h.1)

-- ---- numbers

-- digits are a run
digits_run : (s : List ℕ) → Every IsDigit s → all_digits s ≡ true
unfolding all_digits
digits_run [] h = refl
digits_run (x ∷ s) h =
    let l = h.0.0 in
    let m = h.0.1 in
    rw (le-leb digit_zero x l, le-leb x (digit_zero + 9) (omega arith), digits_run s h.1)

-- a number in decimal is a run of digits
pub decimal-run : (x : ℕ) → run (decimal x) ≡ true
decimal-run x = let k = decimal_some x in rw (ne_eqb (length (decimal x)) 0 (omega arith), digits_run (decimal x) (decimal_digits x))

-- digits behind others write what they tell
value_told : (a : ℕ) (s : List ℕ) → value_from a s ≡ told a s
unfolding value_from
value_told a [] = refl
value_told a (x ∷ s) = let e : 10 * a + (x - digit_zero) ≡ a * 10 + (x - digit_zero) = omega arith in rw e (value_told (a * 10 + (x - digit_zero)) s)

-- that writes the number
pub decimal-value : (x : ℕ) → value (decimal x) ≡ x
decimal-value x = value_told 0 (decimal x) ∙ decimal_told x

-- ---- what a word says

-- digits have no minus before them
digits_unsigned : (s : List ℕ) → Every IsDigit s → 1 ≤ length s → token s ≡ unsigned s
digits_unsigned [] h k = absurd (omega arith)
digits_unsigned (x ∷ s) h k = let l = h.0.0 in rw (ne_eqb x minus_sign (omega arith))

-- a literal names its variable, from 1, its way
pub token_literal : (l : Literal) → token (literal_word l) ≡ names_variable l.positive (l.variable + 1)
token_literal l = go l.positive (decimal-run (l.variable + 1)) (decimal-value (l.variable + 1)) (ne_eqb (l.variable + 1) 0 (omega arith))
  where
    go : (sign : Bool) → run (decimal (l.variable + 1)) ≡ true → value (decimal (l.variable + 1)) ≡ l.variable + 1 → eqb (l.variable + 1) 0 ≡ false
        → token (elim sign [ true ↦ decimal (l.variable + 1) | false ↦ minus_sign ∷ decimal (l.variable + 1) ]) ≡ names_variable sign (l.variable + 1)
    go true r e z = digits_unsigned (decimal (l.variable + 1)) (decimal_digits (l.variable + 1)) (decimal_some (l.variable + 1)) ∙ rw (r, e, z)
    go false r e z = rw (r, e, z)

-- 0 ends the clause
pub token_end : token (decimal 0) ≡ ends
token_end = digits_unsigned (decimal 0) (decimal_digits 0) (decimal_some 0) ∙ rw (decimal-run 0, decimal-value 0)

-- ---- the words of a clause

-- digits do not part words
digits_whole : (s : List ℕ) → Every IsDigit s → Whole parts_words s
digits_whole [] h = tt
digits_whole (x ∷ s) h =
    let l = h.0.0 in
    let d : (y : ℕ) → y < digit_zero → eqb x y ≡ false = λ y m. ne_eqb x y (omega arith) in
    (rw (d blank (omega arith), d 9 (omega arith), d 13 (omega arith), d line_feed (omega arith)), digits_whole s h.1)

-- a number is a word
pub decimal_word : (x : ℕ) → Word (decimal x)
decimal_word x = record { some = decimal_some x; whole = digits_whole (decimal x) (decimal_digits x) }

-- and so is a literal
literal_is_word : (l : Literal) → Word (literal_word l)
literal_is_word l = go l.positive
  where
    go : (sign : Bool) → Word (elim sign [ true ↦ decimal (l.variable + 1) | false ↦ minus_sign ∷ decimal (l.variable + 1) ])
    go true = decimal_word (l.variable + 1)
    go false = record { some = omega arith; whole = (refl, (decimal_word (l.variable + 1)).whole) }

-- the words of a clause: its literals and 0
abbrev pub clause_words : List Literal → List (List ℕ)
clause_words c = map literal_word c ++ (decimal 0 ∷ [])

-- each is a word
pub clause_each_word : (c : List Literal) → Every Word (clause_words c)
clause_each_word [] = (decimal_word 0, tt)
clause_each_word (l ∷ c) = (literal_is_word l, clause_each_word c)

-- digits do not start with c
digits_no_comment : (s : List ℕ) → Every IsDigit s → comment s ≡ false
digits_no_comment [] h = refl
digits_no_comment (x ∷ s) h = let m = h.0.1 in ne_eqb x 99 (omega arith)

-- a line starts as its first word
comment_joined : (w : List ℕ) (ws : List (List ℕ)) → 1 ≤ length w → comment w ≡ false → comment (joined (w ∷ ws)) ≡ false
comment_joined [] ws k e = absurd (omega arith)
comment_joined (x ∷ w) [] k e = e
comment_joined (x ∷ w) (v ∷ ws) k e = e

-- the line of a clause is no comment
pub clause_no_comment : (c : List Literal) → comment (joined (clause_words c)) ≡ false
clause_no_comment [] = digits_no_comment (decimal 0) (decimal_digits 0)
clause_no_comment (l ∷ c) = comment_joined (literal_word l) (clause_words c) (literal_is_word l).some (go l.positive)
  where
    go : (sign : Bool) → comment (elim sign [ true ↦ decimal (l.variable + 1) | false ↦ minus_sign ∷ decimal (l.variable + 1) ]) ≡ false
    go true = digits_no_comment (decimal (l.variable + 1)) (decimal_digits (l.variable + 1))
    go false = refl

-- ---- the line is no comment, so its words are read

-- the first line that is no comment
pub others-line : (at : ℕ) (ws : List (List ℕ)) (s : List ℕ) → Every Word ws → comment (joined ws) ≡ false
    → others (pieces ends_line at [] (line_of ws ++ s)) ≡ record { at = at; bytes = joined ws } ∷ others (pieces ends_line (at + length (joined ws) + 1) [] s)
unfolding others
others-line at ws s h e = ap others (line_first at ws s h) ∙ rw (e, others)
