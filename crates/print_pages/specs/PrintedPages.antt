-- S19.6: what the program prints for an input, byte for byte.
use Rattle.std.specs.Prelude.{ℕ, zero, suc, ◌+◌, ◌/◌, min, cond, List, [], ◌++◌, eqb, ltb}
use Rattle.writing.specs.Text.{blanks}
use Rattle.walk.specs.Checkpoints.{Checkpoint, start}
use Rattle.page.specs.PageLines.{page_lines, page_size}
use Rattle.page.specs.Pages.{page_call}
use Rattle.printing.specs.Printed.{refused_line}

-- the most pages that are printed
abbrev pub max_pages : ℕ
max_pages = 20

-- At most k pages, from the checkpoint c and the first serial on: each as it stands in 3,000 bytes that are lent for it, up to the first
-- that has fewer than 50 lines filled, with it; in place of a refused page the line of its refusal. Nothing is assumed.
unfoldable pub pages_from : List ℕ → Checkpoint → ℕ → ℕ → List ℕ
pages_from s c serial zero = []
pages_from s c serial (suc k) =
    let p = page_call s [] c serial (blanks page_size) in
    cond (eqb p.answer.number 0)
    (p.page ++ cond (ltb p.answer.lines page_lines) [] (pages_from s p.checkpoint (serial + page_lines) k))
    (refused_line p.answer.number p.answer.place)

-- what is printed for the bytes of an input: the first page is that of the start checkpoint, and its first serial is 1
unfoldable pub printed_pages : List ℕ → List ℕ
printed_pages s = pages_from s start 1 max_pages

-- how many of at most k pages are printed for so many models: those that are full and one more, if these are not more than k
abbrev pub page_count : ℕ → ℕ → ℕ
page_count k models = min (models / page_lines + 1) k
