-- Lines of pages one behind the other.
use Prim.Native.Nat.{ℕ, suc, ◌+◌, ◌*◌}
use mathlib.Core.Bool.{Bool, true, false, cond}
use mathlib.Core.List.{List, [], ◌++◌, append-nil}
use mathlib.Core.Path.{◌≡◌, refl, sym, ap, ◌∙◌}
use native.Mathlib.Omega.{arith}
use lib.Dec.{ltb}
use lib.ListN.{length, take, drop, length-take, length-drop}
use borrow.Author.Tests.{ltb-true, ltb-false}
use Rattle.walk.specs.Results.{Result}
use Rattle.page.specs.PageLines.{page_lines}
use Rattle.page.specs.Pages.{line_at, joined}
use Rattle.page.proofs.JoinedLaws.{joined_same, joined-append}
use Rattle.page.proofs.LineAtLaws.{line_drop, line_take}
use Rattle.print_pages.specs.PrintedPages.{page_count}

-- the page of the first results, and, if it is full, at most k pages of the others: at most k + 1 pages of all
pub page_first : (n mask k serial : ℕ) (rs : List Result)
    → joined (line_at n mask serial (take page_lines rs)) page_lines
    ++ cond (ltb (length (take page_lines rs)) page_lines) []
    (joined (line_at n mask (serial + page_lines) (drop page_lines rs)) (page_lines * page_count k (length (drop page_lines rs))))
    ≡ joined (line_at n mask serial rs) (page_lines * page_count (suc k) (length rs))
page_first n mask k serial rs =
    ap (λ (x : List ℕ). x ++ cond (ltb (length (take page_lines rs)) page_lines) [] others) first
    ∙ at (ltb (length (take page_lines rs)) page_lines) refl
  where
    others : List ℕ
    others = joined (line_at n mask (serial + page_lines) (drop page_lines rs)) (page_lines * page_count k (length (drop page_lines rs)))

    first : joined (line_at n mask serial (take page_lines rs)) page_lines ≡ joined (line_at n mask serial rs) page_lines
    first = joined_same (line_at n mask serial (take page_lines rs)) (line_at n mask serial rs) page_lines (line_take n mask page_lines serial rs)

    at : (x : Bool) → ltb (length (take page_lines rs)) page_lines ≡ x
        → joined (line_at n mask serial rs) page_lines ++ cond x [] others ≡ joined (line_at n mask serial rs) (page_lines * page_count (suc k) (length rs))
    at true e =
        let h = ltb-true (length (take page_lines rs)) page_lines e in
        let z : page_lines ≡ page_lines * page_count (suc k) (length rs) = omega (arith, length-take page_lines rs) in
        append-nil (joined (line_at n mask serial rs) page_lines) ∙ ap (joined (line_at n mask serial rs)) z
    at false e =
        let h = ltb-false (length (take page_lines rs)) page_lines e in
        let m = page_lines * page_count k (length (drop page_lines rs)) in
        let z : page_lines + m ≡ page_lines * page_count (suc k) (length rs) = omega (arith, length-take page_lines rs, length-drop page_lines rs) in
        ap (λ (x : List ℕ). joined (line_at n mask serial rs) page_lines ++ x)
        (joined_same (line_at n mask (serial + page_lines) (drop page_lines rs)) (λ i. line_at n mask serial rs (page_lines + i)) m (λ i l. sym (line_drop n mask page_lines serial rs i)))
        ∙ joined-append (line_at n mask serial rs) page_lines m
        ∙ ap (joined (line_at n mask serial rs)) z
