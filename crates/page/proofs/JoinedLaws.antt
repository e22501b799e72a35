-- Laws of lines one behind the other.
use Prim.Native.Nat.{ℕ, zero, suc, ◌+◌, ◌*◌, ◌-◌, ◌≤◌, ◌<◌}
use mathlib.Core.List.{List, ◌++◌, append-nil, append_assoc}
use mathlib.Core.Path.{◌≡◌, refl, sym, ap, ap₂, ◌∙◌}
use native.Mathlib.Decide.{dec_lt}
use native.Mathlib.Numerals.{add-one}
use native.Mathlib.Omega.{arith}
use lib.ListN.{length, take, drop, length-append}
use lib.Seq.{take_at, drop_at}
use Rattle.lists.specs.Over.{over}
use Rattle.writing.specs.Placed.{placed}
use Rattle.writing.proofs.PlacedLaws.{placed_placed, placed_none, placed_over}
use Rattle.page.specs.PageLines.{page_lines, line_size, page_size, blank_line}
use Rattle.page.specs.Pages.{joined}
use Rattle.page.specs.InnerPages.{blanked_to, blanked}
use Rattle.page.proofs.LineLaws.{blank-length}

-- the first k lines say all
pub joined_same : (f g : ℕ → List ℕ) (k : ℕ) → ((i : ℕ) → i < k → f i ≡ g i) → joined f k ≡ joined g k
unfolding joined
joined_same f g zero h = refl
joined_same f g (suc k) h = ap₂ (λ (x y : List ℕ). x ++ y) (joined_same f g k (λ i l. h i (omega arith))) (h k (omega arith))

-- j lines and k more
pub joined-append : (f : ℕ → List ℕ) (j k : ℕ) → joined f j ++ joined (λ i. f (j + i)) k ≡ joined f (j + k)
unfolding joined
joined-append f j zero = let z : j + 0 ≡ j = omega arith in rw z (append-nil (joined f j))
joined-append f j (suc k) =
    let z : j + suc k ≡ suc (j + k) = omega arith in
    sym (append_assoc (joined f j) (joined (λ i. f (j + i)) k) (f (j + k)))
    ∙ ap (λ (x : List ℕ). x ++ f (j + k)) (joined-append f j k)
    ∙ ap (joined f) (sym z)

-- k lines of 60 bytes have 60 k
pub joined_sixty : (f : ℕ → List ℕ) (k : ℕ) → ((i : ℕ) → i < k → length (f i) ≡ line_size) → length (joined f k) ≡ line_size * k
unfolding joined
joined_sixty f zero h = refl
joined_sixty f (suc k) h = length-append (joined f k) (f k) ∙ omega (arith, joined_sixty f k (λ i l. h i (omega arith)), h k (omega arith))

-- a page's lines, of 60 bytes each
abbrev pub Sixty : (ℕ → List ℕ) → Type 0
Sixty line = (i : ℕ) → i < page_lines → length (line i) ≡ line_size

module _ (line : ℕ → List ℕ) (sixty : Sixty line) where
  -- k lines have 60 k bytes
  pub joined_length : (k : ℕ) → k ≤ page_lines → length (joined line k) ≡ line_size * k
  joined_length k h = joined_sixty line k (λ i l. sixty i (omega arith))

  -- line i behind the first i
  pub joined_next : (i : ℕ) (before now : List ℕ) → i < page_lines → now ≡ over (joined line i) before
      → placed (line_size * i) (line i) now ≡ over (joined line (i + 1)) before
  unfolding joined
  joined_next i before now h e =
      ap (placed (line_size * i) (line i)) e ∙ placed_over (joined line i) (line i) before (line_size * i) (joined_length i (omega arith)) ∙ rw add-one

  -- line i stands behind the first i
  pub joined_part : (k i : ℕ) (rest : List ℕ) → k ≤ page_lines → i < k → take line_size (drop (line_size * i) (joined line k ++ rest)) ≡ line i
  unfolding joined
  joined_part zero i rest h l = absurd (omega arith)
  joined_part (suc k) i rest h l =
      ap (λ (t : List ℕ). take line_size (drop (line_size * i) t)) (append_assoc (joined line k) (line k) rest)
      ∙ at (dec_lt i k) (joined_part k i (line k ++ rest) (omega arith))
    where
      at : Dec (i < k) → (i < k → take line_size (drop (line_size * i) (joined line k ++ (line k ++ rest))) ≡ line i)
          → take line_size (drop (line_size * i) (joined line k ++ (line k ++ rest))) ≡ line i
      at (yes m) f = f m
      at (no m) f =
          let e : i ≡ k = omega arith in
          ap (take line_size) (drop_at (joined line k) (line k ++ rest) (line_size * i) (joined_length k (omega arith) ∙ omega arith))
          ∙ take_at (line k) rest line_size (sixty k (omega arith))
          ∙ ap line (sym e)

  -- lines that are blank from k on
  joined_behind : (k m : ℕ) → ((i : ℕ) → k ≤ i → line i ≡ blank_line) → joined line (k + m) ≡ joined line k ++ joined (λ j. blank_line) m
  joined_behind k m b =
      sym (joined-append line k m)
      ∙ ap (λ (x : List ℕ). joined line k ++ x) (joined_same (λ i. line (k + i)) (λ j. blank_line) m (λ i l. b (k + i) (omega arith)))

  -- blank lines behind the first k
  pub joined_blank : (k : ℕ) → k ≤ page_lines → ((i : ℕ) → k ≤ i → line i ≡ blank_line) → (before now : List ℕ) → now ≡ over (joined line k) before
      → blanked k now ≡ over (joined line page_lines) before
  joined_blank k h b before now e =
      let z : k + (page_lines - k) ≡ page_lines = omega arith in
      ap (blanked k) e
      ∙ placed_over (joined line k) (joined (λ j. blank_line) (page_lines - k)) before (line_size * k) (joined_length k h)
      ∙ ap (λ (l : List ℕ). over l before) (sym (joined_behind k (page_lines - k) b) ∙ ap (joined line) z)

-- ---- blank lines from line i to j - 1

-- none
pub blanked-none : (i : ℕ) (page : List ℕ) → page ≡ blanked_to i i page
unfolding joined
blanked-none i page = let z : i - i ≡ 0 = omega arith in rw z (placed_none (line_size * i) page)

-- line j behind those before it
pub blanked_next : (i j : ℕ) (before now : List ℕ) → i ≤ j → j < page_lines → page_size ≤ length before
    → now ≡ blanked_to i j before
    → placed (line_size * j) blank_line now ≡ blanked_to i (j + 1) before
unfolding joined
blanked_next i j before now h k r e =
    let l = joined_length (λ j. blank_line) (λ m n. blank-length) (j - i) (omega arith) in
    let z : line_size * j ≡ line_size * i + length (joined (λ j. blank_line) (j - i)) = omega arith in
    let s : j + 1 - i ≡ suc (j - i) = omega arith in
    ap (placed (line_size * j) blank_line) e
    ∙ ap (λ (m : ℕ). placed m blank_line (blanked_to i j before)) z
    ∙ placed_placed (line_size * i) (joined (λ j. blank_line) (j - i)) blank_line before (omega arith)
    ∙ rw s
