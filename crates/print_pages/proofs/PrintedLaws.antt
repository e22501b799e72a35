-- What is printed: the line of a refusal, or the lines of the first models, and how long it is.
use Prim.Native.Nat.{ℕ, zero, suc, ◌+◌, ◌*◌, ◌<◌, ◌≤◌}
use mathlib.Core.Bool.{cond}
use mathlib.Core.List.{List, [], ◌++◌}
use mathlib.Core.Path.{◌≡◌, refl, ap, ◌∙◌}
use native.Mathlib.Omega.{arith}
use lib.Dec.{ltb}
use lib.ListN.{length, length-map, length-take}
use borrow.Author.Tests.{ne_eqb}
use Rattle.limits.specs.Limits.{max_variables}
use Rattle.writing.specs.Text.{blanks}
use Rattle.writing.proofs.BlankLaws.{blanks-length}
use Rattle.formula.specs.declared.Refusal.{Refusal}
use Rattle.formula.proofs.NumberLaws.{refusal_numbered}
use Rattle.matched.specs.Acceptance.{Acceptance, accepted, declined, acceptance}
use Rattle.walk.specs.Task.{Task, under, Posed}
use Rattle.walk.specs.Plain.{listing}
use Rattle.walk.specs.Checkpoints.{Checkpoint, start}
use Rattle.walk.specs.PlainMachine.{Has}
use Rattle.walk.specs.Results.{Result}
use Rattle.walk.specs.Gaps.{ample_budget}
use Rattle.walk.specs.WalkCall.{walk_call}
use Rattle.walk.specs.InnerLocate.{task_call}
use Rattle.walk.proofs.RefusalLaws.{call_declined, call_accepted, accepted_posed}
use Rattle.walk.proofs.HasLaws.{start_has}
use Rattle.page.specs.PageLines.{page_lines, page_size}
use Rattle.page.specs.Pages.{next_results, next_checkpoint, line_at, joined, PageCall, accepted_variables, accepted_visible, max_serial, page_call}
use Rattle.page.proofs.JoinedLaws.{joined_sixty}
use Rattle.page.proofs.LineAtLaws.{line_length}
use Rattle.page.proofs.NextLaws.{next_steps}
use Rattle.page.proofs.NextModelLaws.{nexts, one_unrefused, start_models, next_take, next_drop}
use Rattle.page.proofs.PageCallLaws.{walk_refused, unrefused_filled, lent_whole}
use Rattle.printing.specs.Printed.{refused_line, refusal_line}
use Rattle.printing.specs.Printing.{max_input}
use Rattle.printing.proofs.PrintedLaws.{declined_short}
use Rattle.print_pages.specs.PrintedPages.{max_pages, pages_from, printed_pages, page_count}
use Rattle.print_pages.proofs.JoinedLaws.{page_first}

-- ---- a refused input

-- the first page's refusal
pub first_refused : (s : List ℕ)
    → (let p = page_call s [] start 1 (blanks page_size) in (p.answer.number ≡ 0 → ⊥) → printed_pages s ≡ refused_line p.answer.number p.answer.place)
unfolding printed_pages pages_from
first_refused s h = rw (ne_eqb (page_call s [] start 1 (blanks page_size)).answer.number 0 h)

-- that of the input
pub declined-pages : (s : List ℕ) (r : Refusal) (row : List ℕ) → acceptance s [] ≡ declined r row → printed_pages s ≡ refusal_line r
unfolding printed_pages pages_from
declined-pages s r row e =
    let l = blanks-length page_size in
    let d = call_declined s [] r row start ample_budget e in
    let f = walk_refused s [] start 1 (blanks page_size) (omega arith) (omega arith) (omega arith) (ap (λ (x : Result). x.kind) d) in
    rw (f, d, refusal_numbered r)

-- ---- an accepted input: its task is T

module _ (s : List ℕ) (T : Task) (P : Posed T) (walks : (c : Checkpoint) (b : ℕ) → walk_call s [] c b ≡ task_call T c b) where
  -- how many variables it has
  abbrev variables : ℕ
  variables = accepted_variables (acceptance s [])

  -- and which of them have their values shown
  abbrev mask : ℕ
  mask = accepted_visible (acceptance s [])

  -- a page from a checkpoint that the walk has, and those behind it
  page_from : (c : Checkpoint) → Has T c → (serial k : ℕ) → 0 < serial → serial ≤ max_serial
      → (let rs = next_results s [] c page_lines in
      pages_from s c serial (suc k)
      ≡ joined (line_at variables mask serial rs) page_lines ++ cond (ltb (length rs) page_lines) [] (pages_from s (next_checkpoint s [] c page_lines) (serial + page_lines) k))
  unfolding pages_from
  page_from c w serial k some most =
      let l = blanks-length page_size in
      let f = unrefused_filled s [] c serial (blanks page_size) (omega arith) some most (one_unrefused s [] T P walks c w) in
      let page = lent_whole s [] c serial (blanks page_size) l (ap (λ (p : PageCall). p.answer.number) f) in
      rw (page, f)

  -- pages from there: the lines of the results of so many calls
  pub pages_joined : (k : ℕ) (c : Checkpoint) → Has T c → (serial : ℕ) → 0 < serial → serial + page_lines * k ≤ max_serial + page_lines
      → (let rs = next_results s [] c (page_lines * k) in pages_from s c serial k ≡ joined (line_at variables mask serial rs) (page_lines * page_count k (length rs)))
  unfolding pages_from joined
  pages_joined zero c w serial some most = let z : page_count 0 (length (next_results s [] c (page_lines * 0))) ≡ 0 = omega arith in rw z
  pages_joined (suc k) c w serial some most =
      page_from c w serial k some (omega arith)
      ∙ rw (
        pages_joined k (next_checkpoint s [] c page_lines) (nexts s [] T P walks page_lines c w).has (serial + page_lines) (omega arith) (omega arith),
        ← next_take s [] T P walks c w page_lines (page_lines * k),
        ← next_drop s [] T P walks c w page_lines (page_lines * k),
        e,
      ) (page_first variables mask k serial (next_results s [] c (page_lines + page_lines * k)))
    where
      e : page_lines * suc k ≡ page_lines + page_lines * k
      e = omega arith

  -- all pages from the start: the calls bring the first models of the listing
  pub printed_joined : printed_pages s
      ≡ joined (line_at variables mask 1 (next_results s [] start (page_lines * max_pages))) (page_lines * page_count max_pages (length (listing T)))
  unfolding printed_pages
  printed_joined =
      pages_joined max_pages start (start_has s [] T P walks) 1 (omega arith) (omega arith)
      ∙ ap (λ (k : ℕ). joined (line_at variables mask 1 rs) (page_lines * k)) same
    where
      rs : List Result
      rs = next_results s [] start (page_lines * max_pages)

      same : page_count max_pages (length rs) ≡ page_count max_pages (length (listing T))
      same =
          omega (
            arith,
            length-map rs (λ r. r.model),
            ap length (start_models s [] T P walks (page_lines * max_pages)),
            length-take (page_lines * max_pages) (listing T),
          )

  -- how long they are
  pub joined_long : variables ≤ max_variables → length (printed_pages s) ≡ page_size * page_count max_pages (length (listing T))
  joined_long few =
      let rs = next_results s [] start (page_lines * max_pages) in
      let k = page_lines * page_count max_pages (length (listing T)) in
      ap length printed_joined
      ∙ joined_sixty (line_at variables mask 1 rs) k (λ i l. line_length variables mask few 1 rs (next_steps s [] start (page_lines * max_pages)) i (omega arith))
      ∙ omega arith

-- ---- any input

-- the most bytes that are printed
pub printed_long : (s : List ℕ) → length s ≤ max_input → length (printed_pages s) ≤ max_pages * page_size
printed_long s h = by (acceptance s []) refl
  where
    by : (a : Acceptance) → acceptance s [] ≡ a → length (printed_pages s) ≤ max_pages * page_size
    by (accepted n t cs row) e =
        let P = accepted_posed s [] n t cs row e in
        omega (arith, joined_long s (under n t cs) P (call_accepted s [] n t cs row e) (omega (arith, ap accepted_variables e, P.most)))
    by (declined r row) e = omega (arith, ap length (declined-pages s r row e), declined_short s r row e h)
