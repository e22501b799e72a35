-- The places that the table of a text's refusals names are within the text.
use Prim.Native.Nat.{ℕ, ◌+◌, ◌≤◌}
use mathlib.Core.Bool.{Bool, true, false, cond, ◌&&◌}
use mathlib.Core.List.Memᴰ
use mathlib.Core.List.{List, [], ◌∷◌, ◌++◌}
use mathlib.Core.Path.{◌≡◌, refl}
use native.Mathlib.Omega.{arith}
use lib.Dec.{eqb}
use lib.ListN.{length, length-append}
use Rattle.lists.specs.Every.{Every}
use Rattle.lists.proofs.EveryLaws.{every_append, every_element}
use Rattle.formula.specs.declared.Refusal.{Refusal}
use Rattle.formula.specs.Refusals.{table_row}
use Rattle.dimacs.specs.Text.{Piece, pieces, ends_line, lines, parts_words, non_empty, words, comment, others, all_words, run, same, p_word, cnf_word, Progress, Opening, p_line, other_line, opening}
use Rattle.dimacs.specs.TextTable.{ComesTo, TextRefused, no_line, no_p_line, count_bad, word_bad, variable_unknown, literal_complementary, clause_extra, clause_open, count_differs}

-- ---- pieces

-- a piece ends at most at m
abbrev Inside : ℕ → Piece → Type 0
Inside m p = p.at + length p.bytes ≤ m

-- the pieces of a text end at most where it does
pieces_inside : (test : ℕ → Bool) (m at : ℕ) (begun s : List ℕ) → at + length begun + length s ≤ m → Every (Inside m) (pieces test at begun s)
unfolding pieces
pieces_inside test m at begun [] h = (omega arith, tt)
pieces_inside test m at begun (x ∷ s) h =
    go (test x) (pieces_inside test m (at + length begun + 1) [] s (omega arith))
    (pieces_inside test m at (begun ++ (x ∷ [])) s (omega (arith, length-append begun (x ∷ []))))
  where
    go : (b : Bool) → Every (Inside m) (pieces test (at + length begun + 1) [] s) → Every (Inside m) (pieces test at (begun ++ (x ∷ [])) s)
        → Every (Inside m)
        (elim b [
          | true ↦ record { at = at; bytes = begun } ∷ pieces test (at + length begun + 1) [] s
          | false ↦ pieces test at (begun ++ (x ∷ [])) s
        ])
    go true p q = (omega arith, p)
    go false p q = q

module _ (P : Piece → Type 0) where
  -- what holds of every piece holds of those that are not empty
  non_empty_every : (ps : List Piece) → Every P ps → Every P (non_empty ps)
  unfolding non_empty
  non_empty_every [] h = tt
  non_empty_every (p ∷ ps) h = go (eqb (length p.bytes) 0) (non_empty_every ps h.1)
    where
      go : (b : Bool) → Every P (non_empty ps) → Every P (elim b [ true ↦ non_empty ps | false ↦ p ∷ non_empty ps ])
      go true k = k
      go false k = (h.0, k)

  -- what holds of every line holds of those that are no comments
  others_every : (ls : List Piece) → Every P ls → Every P (others ls)
  unfolding others
  others_every [] h = tt
  others_every (l ∷ ls) h = go (comment l.bytes) (others_every ls h.1)
    where
      go : (b : Bool) → Every P (others ls) → Every P (elim b [ true ↦ others ls | false ↦ l ∷ others ls ])
      go true k = k
      go false k = (h.0, k)

  -- the words of the two numbers of a p line
  abbrev OfNumbers : Opening → Type 0
  OfNumbers (p_line c d) = P c × P d
  OfNumbers other_line = Unit {0}

  -- what holds of every word of a line holds of these
  opening_every : (ws : List Piece) → Every P ws → OfNumbers (opening ws)
  unfolding opening
  opening_every [] h = tt
  opening_every (a ∷ []) h = tt
  opening_every (a ∷ b ∷ []) h = tt
  opening_every (a ∷ b ∷ c ∷ []) h = tt
  opening_every (a ∷ b ∷ c ∷ d ∷ []) h = go (same a.bytes p_word && (same b.bytes cnf_word && (run c.bytes && run d.bytes)))
    where
      go : (x : Bool) → OfNumbers (cond x (p_line c d) other_line)
      go true = (h.1.1.0, h.1.1.1.0)
      go false = tt
  opening_every (a ∷ b ∷ c ∷ d ∷ e ∷ ws) h = tt

-- ---- lines and words

-- the words of a line end at most where it does
words_inside : (m : ℕ) (l : Piece) → Inside m l → Every (Inside m) (words l)
words_inside m l h =
    non_empty_every (Inside m) (pieces parts_words l.at [] l.bytes) (pieces_inside parts_words m l.at [] l.bytes (omega arith))

-- and so do the words of lines
all_inside : (m : ℕ) (ls : List Piece) → Every (Inside m) ls → Every (Inside m) (all_words ls)
unfolding all_words
all_inside m [] h = tt
all_inside m (l ∷ ls) h = every_append (Inside m) (words l) (all_words ls) (words_inside m l h.0) (all_inside m ls h.1)

module _ (t : List ℕ) where
  -- the lines of a text that are no comments end at most where it does
  lines_inside : (ls : List Piece) → others (lines t) ≡ ls → Every (Inside (length t)) ls
  lines_inside ls e = rw e at (others_every (Inside (length t)) (lines t) (pieces_inside ends_line (length t) 0 [] t (omega arith)))

  -- and so do the words of the two numbers of its p line
  numbers_inside : (l c d : Piece) (ls : List Piece) → others (lines t) ≡ l ∷ ls → opening (words l) ≡ p_line c d → Inside (length t) c × Inside (length t) d
  numbers_inside l c d ls e q = rw q at (opening_every (Inside (length t)) (words l) (words_inside (length t) l (lines_inside (l ∷ ls) e).0))

  -- a word behind the p line starts at most there
  word_inside : {n : ℕ} {w : Piece} {s : Progress} → ComesTo t n w s → w.at ≤ length t
  word_inside {w = w} a =
      let o = a.opens in
      let h : Every (Inside (length t)) (a.before ++ (w ∷ a.after)) =
      rw o.follow (all_inside (length t) o.behind (lines_inside (o.line ∷ o.behind) o.first).1) in
      omega (arith, every_element (Inside (length t)) (a.before ++ (w ∷ a.after)) w h (Memᴰ.append_right a.before (Memᴰ.head refl)))

-- S3.1: the place of a text's refusal is at most its length
pub text_place : {t : List ℕ} {r : Refusal} → TextRefused t r → (table_row r).place ≤ length t
text_place (no_line e) = omega arith
text_place {t} (no_p_line l ls e q) = omega (arith, (lines_inside t (l ∷ ls) e).0)
text_place {t} (count_bad l c d ls e q h) = omega (arith, (numbers_inside t l c d ls e q).0)
text_place {t} (word_bad n w s a q) = word_inside t a
text_place {t} (variable_unknown n w s sign k a q h) = word_inside t a
text_place {t} (literal_complementary n w s sign k a q h f) = word_inside t a
text_place {t} (clause_extra n w s a q h) = word_inside t a
text_place (clause_open n d s p h) = omega arith
text_place {t} (count_differs n d s p e h) =
    let o = p.opens in
    omega (arith, (numbers_inside t o.line o.third d o.behind o.first o.is_p_line).1)
