-- Laws of the words that are taken.
use Prim.Native.Nat.{ℕ}
use mathlib.Core.List.{List, [], ◌∷◌, ◌++◌}
use mathlib.Core.Path.{◌≡◌, refl, ap}
use Rattle.dimacs.specs.Text.{Piece, Progress, Taking, next, stop, take_word, take_words}

-- words that are taken where others have left off, if those were all taken
abbrev pub behind : ℕ → List Piece → Taking → Taking
behind n vs t = elim t [ next s ↦ take_words n vs s | stop r ↦ stop r ]

-- words behind others are taken where those have left off
pub take_words-append : (n : ℕ) (us vs : List Piece) (s : Progress) → take_words n (us ++ vs) s ≡ behind n vs (take_words n us s)
unfolding take_words
take_words-append n [] vs s = refl
take_words-append n (u ∷ us) vs s = go (take_word n u s) (take_words-append n us vs)
  where
    go : (t : Taking) → ((s' : Progress) → take_words n (us ++ vs) s' ≡ behind n vs (take_words n us s')) → behind n (us ++ vs) t ≡ behind n vs (behind n us t)
    go (next s') f = f s'
    go (stop r) f = refl

-- a word that is taken comes before the rest
pub take_words-first : (n : ℕ) (w : Piece) (ws : List Piece) (s s' : Progress) → take_word n w s ≡ next s' → take_words n (w ∷ ws) s ≡ take_words n ws s'
unfolding take_words
take_words-first n w ws s s' e = ap (behind n ws) e
