-- Laws of a text that is parted: the first piece, and the rest.
use Prim.Native.Nat.compare
use Prim.Native.Nat.{ℕ, suc, ◌+◌, ◌<◌}
use mathlib.Core.Bool.{Bool, true, false, cond, not}
use mathlib.Core.List.{List, [], ◌∷◌, ◌++◌, append-nil}
use mathlib.Core.Path.{◌≡◌, refl, ap, ◌∙◌}
use native.Mathlib.Omega.{arith}
use borrow.Author.Tests.{lt-ltb, ltb-false, eqb-true}
use lib.Dec.{eqb, ltb, is_le}
use lib.ListN.{length, take, drop, length-append}
use lib.Seq.{append_snoc}
use Rattle.std.specs.List.{position_or_len, position, before_first}
use Rattle.std.specs.Option.{unwrap_or}
use Rattle.std.specs.Prelude.{Some, None}
use Rattle.std.proofs.lemmas.List.Sums.{prefix_len-le-length}
use Rattle.dimacs.specs.Text.{Piece, pieces, non_empty}

module _ (test : ℕ → Bool) where
  -- the bytes behind the first piece, parted
  abbrev pub rest_pieces : ℕ → List ℕ → ℕ → List Piece
  rest_pieces at s k = cond (ltb k (length s)) (pieces test (at + k + 1) [] (drop (suc k) s)) []

  -- the first piece goes up to the first byte that parts
  begun_until : (at : ℕ) (begun s : List ℕ)
      → pieces test at begun s ≡ record { at = at; bytes = begun ++ before_first test s } ∷ rest_pieces (at + length begun) s (position_or_len test s)
  unfolding pieces
  begun_until at begun [] = rw append-nil
  begun_until at begun (x ∷ s) = go (test x) (begun_until at (begun ++ (x ∷ [])) s)
    where
      go : (b : Bool)
          → pieces test at (begun ++ (x ∷ [])) s ≡ record { at = at; bytes = (begun ++ (x ∷ [])) ++ before_first test s } ∷ rest_pieces (at + length (begun ++ (x ∷ []))) s (position_or_len test s)
          → (elim b [
            | true ↦ record { at = at; bytes = begun } ∷ pieces test (at + length begun + 1) [] s
            | false ↦ pieces test at (begun ++ (x ∷ [])) s
          ]) ≡ record { at = at; bytes = begun ++ take (cond (not b) (1 + position_or_len test s) 0) (x ∷ s) }
          ∷ rest_pieces (at + length begun) (x ∷ s) (cond (not b) (1 + position_or_len test s) 0)
      go true h =
          let e : at + length begun + 0 + 1 ≡ at + length begun + 1 = omega arith in
          let b : ltb 0 (suc (length s)) ≡ true = lt-ltb 0 (suc (length s)) (omega arith) in
          rw (append-nil, e, b) refl
      go false h =
          let l = length-append begun (x ∷ []) in
          let k = position_or_len test s in
          let one : 1 + k ≡ suc k = omega arith in
          let e : at + length (begun ++ (x ∷ [])) + k + 1 ≡ at + length begun + suc k + 1 = omega arith in
          let b : ltb (suc k) (suc (length s)) ≡ ltb k (length s) = ap is_le (compare.suc-suc (suc k) (length s)) in
          h ∙ rw (e, append_snoc begun x (before_first test s), one, b) refl

  pub pieces_until : (at : ℕ) (s : List ℕ) → pieces test at [] s ≡ record { at = at; bytes = before_first test s } ∷ rest_pieces at s (position_or_len test s)
  pieces_until at s = let e : at + 0 ≡ at = omega arith in rw e at (begun_until at [] s)

-- a piece with a byte is kept
pub kept_piece : (p : Piece) (ps : List Piece) → 0 < length p.bytes → non_empty (p ∷ ps) ≡ p ∷ non_empty ps
unfolding non_empty
kept_piece p ps h = go (eqb (length p.bytes) 0) refl
  where
    go : (b : Bool) → eqb (length p.bytes) 0 ≡ b → (elim b [ true ↦ non_empty ps | false ↦ p ∷ non_empty ps ]) ≡ p ∷ non_empty ps
    go true e = absurd (omega (arith, eqb-true (length p.bytes) 0 e))
    go false e = refl

-- where the first byte is for which a test holds, or the length
pub position_whole : (test : ℕ → Bool) (s : List ℕ) → unwrap_or (position test s) (length s) ≡ position_or_len test s
position_whole test s = go (ltb (position_or_len test s) (length s)) refl
  where
    go : (b : Bool) → ltb (position_or_len test s) (length s) ≡ b → unwrap_or (cond b (Some (position_or_len test s)) None) (length s) ≡ position_or_len test s
    go true e = refl
    go false e = omega (arith, ltb-false (position_or_len test s) (length s) e, prefix_len-le-length (λ x. not (test x)) s)
