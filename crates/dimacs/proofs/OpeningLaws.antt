-- Laws of the p line.
use Prim.Native.Nat.{ℕ}
use mathlib.Core.Bool.{Bool, true, false, not, and-false}
use mathlib.Core.List.{List, [], ◌∷◌}
use mathlib.Core.Path.{◌≡◌, refl, sym, ◌∙◌}
use lib.Dec.{eqb}
use lib.Pointwise.{pointwise}
use Rattle.std.specs.Prelude.{Option, Some, None, is_some, MatchOption}
use Rattle.lists.proofs.TestLaws.{bool_clash}
use Rattle.dimacs.specs.Text.{Piece, run, same, p_word, cnf_word, p_line, other_line, opening}

-- ---- words that are compared

same_is : (s t : List ℕ) → pointwise eqb s t ≡ same s t
unfolding same
same_is [] [] = refl
same_is [] (y ∷ t) = refl
same_is (x ∷ s) [] = refl
same_is (x ∷ s) (y ∷ t) = rw (same_is s t)

-- whether a word differs from another
pub word_compared : (s t u : List ℕ) (b c : Bool) → b ≡ not (pointwise eqb s t) → b ≡ c → t ≡ u → same s u ≡ not c
word_compared s t u b c f e g = go (same s u) (sym e ∙ f ∙ rw (g, same_is s u))
  where
    go : (x : Bool) → c ≡ not x → x ≡ not c
    go true h = rw h
    go false h = rw h

-- ---- words of the p line

pub opening-first : (a : Piece) (ws : List Piece) → same a.bytes p_word ≡ false → opening (a ∷ ws) ≡ other_line
unfolding opening
opening-first a [] e = refl
opening-first a (b ∷ []) e = refl
opening-first a (b ∷ c ∷ []) e = refl
opening-first a (b ∷ c ∷ d ∷ []) e = rw e
opening-first a (b ∷ c ∷ d ∷ x ∷ ws) e = refl

pub opening_second : (a b : Piece) (ws : List Piece) → same b.bytes cnf_word ≡ false → opening (a ∷ b ∷ ws) ≡ other_line
unfolding opening
opening_second a b [] e = refl
opening_second a b (c ∷ []) e = refl
opening_second a b (c ∷ d ∷ []) e = rw (e, and-false (same a.bytes p_word))
opening_second a b (c ∷ d ∷ x ∷ ws) e = refl

-- a word more than four
pub opening_more : {A : Type 0} (a b c d : Piece) (ws us : List Piece) (r : Option A) (view : A → Piece)
    → is_some r ≡ true → MatchOption r ((ws ≡ []) × (us ≡ [])) (λ x. ws ≡ view x ∷ us) → opening (a ∷ b ∷ c ∷ d ∷ ws) ≡ other_line
unfolding opening
opening_more a b c d ws us None view e h = bool_clash {x = false} e refl
opening_more a b c d ws us (Some x) view e h = rw h

-- four
pub words_end : {A : Type 0} (ws us : List Piece) (r : Option A) (view : A → Piece) → is_some r ≡ false → MatchOption r ((ws ≡ []) × (us ≡ [])) (λ x. ws ≡ view x ∷ us) → ws ≡ []
words_end ws us None view e h = h.0
words_end ws us (Some x) view e h = bool_clash {x = true} refl e

module _ (a b c d : Piece) where
  pub opening_third : run c.bytes ≡ false → opening (a ∷ b ∷ c ∷ d ∷ []) ≡ other_line
  unfolding opening
  opening_third e = rw (e, and-false (same b.bytes cnf_word), and-false (same a.bytes p_word))

  pub opening_fourth : run d.bytes ≡ false → opening (a ∷ b ∷ c ∷ d ∷ []) ≡ other_line
  unfolding opening
  opening_fourth e = rw (e, and-false (run c.bytes), and-false (same b.bytes cnf_word), and-false (same a.bytes p_word))

  pub opening_all : same a.bytes p_word ≡ true → same b.bytes cnf_word ≡ true → run c.bytes ≡ true → run d.bytes ≡ true → opening (a ∷ b ∷ c ∷ d ∷ []) ≡ p_line c d
  unfolding opening
  opening_all p q e f = rw (p, q, e, f)
