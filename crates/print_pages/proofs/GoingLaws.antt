-- The loop that writes page after page: what each turn adds.
use Rattle.std.specs.Prelude.{Ok, Err}
use Prim.Native.Nat.{ℕ, zero, suc, ◌+◌, ◌*◌, ◌-◌, ◌≤◌, ◌<◌}
use mathlib.Core.Bool.{cond}
use mathlib.Core.List.{List, [], ◌++◌, append-nil, append_assoc}
use mathlib.Core.Path.{◌≡◌, refl, sym, ap, ◌∙◌}
use native.Mathlib.Omega.{arith}
use lib.Dec.{eqb, ltb}
use borrow.Author.Tests.{eqb-false, lt-ltb, le-ltb}
use Rattle.writing.specs.Text.{blanks}
use Rattle.writing.specs.Placed.{Wrote}
use Rattle.writing.proofs.PlacedLaws.{placed_none, wrote_more}
use Rattle.formula.specs.declared.Refusal.{Refusal}
use Rattle.formula.specs.Refusals.{table_row}
use Rattle.formula.proofs.NumberLaws.{refusal_numbered}
use Rattle.walk.specs.Checkpoints.{Checkpoint, start}
use Rattle.enumeration.specs.Values.{checkpoint_values}
use Rattle.page.specs.declared.Paged.{Paged}
use Rattle.page.specs.PageLines.{page_lines, page_size}
use Rattle.page.specs.Pages.{PageValues, PageCall, page_call}
use Rattle.printing.specs.Printed.{refused_line, refusal_line}
use Rattle.print_pages.specs.PrintedPages.{max_pages, pages_from, printed_pages}
use Rattle.print_pages.specs.InnerParts.{PutPage}

-- k pages are written, and the others go on from the checkpoint c
pub record Going (s before now : List ℕ) (c : Checkpoint) (k : ℕ) : Type 0 where
  pub written : List ℕ
  pub wrote : Wrote written 0 before now (page_size * k)
  pub same : printed_pages s ≡ written ++ pages_from s c (1 + page_lines * k) (max_pages - k)

-- nothing is written yet
pub going_first : (s before : List ℕ) (c : Checkpoint) → c ≡ start → Going s before before c 0
unfolding printed_pages
going_first s before c e =
    record { written = []; wrote = record { buffer = placed_none 0 before; next = refl }; same = rw e }

-- what the next page adds, by its answer
abbrev added : List ℕ → PageValues → List ℕ → List ℕ
added page a rest = cond (eqb a.number 0) (page ++ cond (ltb a.lines page_lines) [] rest) (refused_line a.number a.place)

-- the next page and those behind it
pages_next : (s : List ℕ) (c : Checkpoint) (serial left : ℕ) → 0 < left
    → (let p = page_call s [] c serial (blanks page_size) in pages_from s c serial left ≡ added p.page p.answer (pages_from s p.checkpoint (serial + page_lines) (left - 1)))
unfolding pages_from
pages_next s c serial zero h = absurd (omega arith)
pages_next s c serial (suc k) h = let e : suc k - 1 ≡ k = omega arith in rw e

-- none
pages_none : (s : List ℕ) (c : Checkpoint) (serial left : ℕ) → left ≡ 0 → pages_from s c serial left ≡ []
unfolding pages_from
pages_none s c serial left e = rw e

module _ {s before now : List ℕ} {c : Checkpoint} {k : ℕ} (g : Going s before now c k) where
  -- no page is left
  pub going_stop : max_pages ≤ k → Wrote (printed_pages s) 0 before now (page_size * k)
  going_stop e = rw (g.same, pages_none s c (1 + page_lines * k) (max_pages - k) (omega arith), append-nil g.written) g.wrote

  -- the rest is written
  going_with : (x after : List ℕ) (next : ℕ) → pages_from s c (1 + page_lines * k) (max_pages - k) ≡ x → Wrote x (page_size * k) now after next
      → Wrote (printed_pages s) 0 before after next
  going_with x after next e v = rw (g.same, e) (wrote_more (omega arith) g.wrote v)

  -- the next page
  abbrev page : PageCall
  page = page_call s [] c (1 + page_lines * k) (blanks page_size)

  module _ (some : k < max_pages) (now' : List ℕ) where
    -- a refused page: its line
    pub going_refused : (x : Refusal) → PutPage c page (page_size * k) now now' (Err x) → (after : List ℕ) (next : ℕ) → Wrote (refusal_line x) (page_size * k) now' after next
        → Wrote (printed_pages s) 0 before after next
    going_refused x w after next v =
        let kept = w.kept (λ z. eqb-false (table_row x).number 0 (refusal_numbered x) (ap (λ (v : PageValues). v.number) w.answer ∙ z)) in
        going_with (refusal_line x) after next (pages_next s c (1 + page_lines * k) (max_pages - k) (omega arith) ∙ rw (← w.answer, refusal_numbered x)) (rw kept at v)

    module _ (r : Paged) (w : PutPage c page (page_size * k) now now' (Ok r)) where
      wrote_page : Wrote page.page (page_size * k) now now' (page_size * k + page_size)
      wrote_page = w.written (sym (ap (λ (v : PageValues). v.number) w.answer))

      -- a page with fewer than 50 lines filled: the last
      pub going_last : r.lines < page_lines → Wrote (printed_pages s) 0 before now' (page_size * k + page_size)
      going_last h =
          going_with page.page now' (page_size * k + page_size)
          (pages_next s c (1 + page_lines * k) (max_pages - k) (omega arith) ∙ rw (← w.answer, lt-ltb r.lines page_lines h) (append-nil page.page)) wrote_page

      -- a full page
      pub going_more : page_lines ≤ r.lines → Going s before now' (checkpoint_values r.checkpoint) (k + 1)
      going_more h =
          let at : page_size * k + page_size ≡ page_size * (k + 1) = omega arith in
          let serial : 1 + page_lines * k + page_lines ≡ 1 + page_lines * (k + 1) = omega arith in
          let left : max_pages - k - 1 ≡ max_pages - (k + 1) = omega arith in
          let rest = pages_from s (checkpoint_values r.checkpoint) (1 + page_lines * k + page_lines) (max_pages - k - 1) in
          let e : pages_from s c (1 + page_lines * k) (max_pages - k) ≡ page.page ++ rest =
          pages_next s c (1 + page_lines * k) (max_pages - k) (omega arith) ∙ rw (← w.answer, le-ltb r.lines page_lines h, ← w.checkpoint) in
          record {
            written = g.written ++ page.page;
            wrote = rw at at (wrote_more (omega arith) g.wrote wrote_page);
            same = g.same ∙ ap (λ (l : List ℕ). g.written ++ l) e ∙ sym (append_assoc g.written page.page rest) ∙ rw (serial, left);
          }
