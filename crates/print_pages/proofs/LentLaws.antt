-- A page in a part of a buffer, of just as many bytes: what stood there says nothing.
use Rattle.std.specs.Prelude.{Result}
use Prim.Native.Nat.{ℕ, ◌+◌, ◌≤◌}
use mathlib.Core.List.{List, ◌++◌}
use mathlib.Core.Path.{◌≡◌, sym, ap, ◌∙◌}
use native.Mathlib.Omega.{arith}
use lib.ListN.{length, take, drop, length-drop, take-append-drop}
use lib.Seq.{length-take-le}
use Rattle.writing.specs.Text.{blanks}
use Rattle.writing.specs.Placed.{placed}
use Rattle.writing.proofs.BlankLaws.{blanks-length}
use Rattle.writing.proofs.PlacedLaws.{placed_part}
use Rattle.formula.specs.declared.Refusal.{Refusal}
use Rattle.assumptions.specs.declared.Assumption.{Assumption}
use Rattle.walk.specs.Checkpoints.{Checkpoint}
use Rattle.page.specs.declared.Paged.{Paged}
use Rattle.page.specs.PageLines.{page_size}
use Rattle.page.specs.Pages.{PageValues, PageCall, page_told, page_call}
use Rattle.page.proofs.PageCallLaws.{numbered_unfilled, lent_alike, lent_whole}
use Rattle.print_pages.specs.InnerParts.{PutPage}

-- the part of k bytes that was lent for a page, and came back as t
pub put_told : (s : List ℕ) (us : List Assumption) (c : Checkpoint) (serial from k : ℕ) (b t : List ℕ) (r : Result Paged Refusal) → k ≡ page_size → from + page_size ≤ length b
    → length t ≡ length (take k (drop from b)) → page_call s us c serial (take k (drop from b)) ≡ page_told c r t
    → PutPage c (page_call s us c serial (blanks page_size)) from b (take from b ++ (t ++ drop k (drop from b))) r
put_told s us c serial from k b t r e room l told =
    let lent = take k (drop from b) in
    let d = length-drop from b in
    let p : length lent ≡ page_size = length-take-le k (drop from b) (omega arith) ∙ e in
    let q = blanks-length page_size in
    let alike = lent_alike s us c serial lent (blanks page_size) (omega arith) (omega arith) in
    let number = ap (λ (v : PageValues). v.number) alike.0 in
    let page = sym (ap (λ (x : PageCall). x.page) told) in
    record {
      answer = sym (ap (λ (x : PageCall). x.answer) told) ∙ alike.0;
      checkpoint = sym (ap (λ (x : PageCall). x.checkpoint) told) ∙ alike.1;
      written = λ z.
          let w = page ∙ lent_whole s us c serial lent p (number ∙ z) ∙ sym (lent_whole s us c serial (blanks page_size) q z) in
          record { buffer = placed_part from k t b (l ∙ p ∙ sym e) ∙ ap (λ (x : List ℕ). placed from x b) w; next = (let m = ap length w in omega arith) };
      kept = λ z.
          let w = page ∙ ap (λ (x : PageCall). x.page) (numbered_unfilled s us c serial lent (λ y. z (sym number ∙ y))) in
          ap (λ (x : List ℕ). take from b ++ (x ++ drop k (drop from b))) w
          ∙ ap (λ (x : List ℕ). take from b ++ x) (take-append-drop k (drop from b))
          ∙ take-append-drop from b;
    }
