-- S19.6: what the program print_pages owes. s is the input; nothing is assumed.
use Prim.Native.Nat.{ℕ, ◌*◌, ◌≤◌}
use mathlib.Core.List.{List, [], map}
use mathlib.Core.Path.{◌≡◌, sym, ap₂, ◌∙◌}
use native.Mathlib.Omega.{arith}
use lib.ListN.{length, take}
use Rattle.writing.specs.Text.{blanks}
use Rattle.formula.specs.declared.Refusal.{Refusal}
use Rattle.formula.specs.Format.{Literal, Encodes}
use Rattle.assumptions.proofs.Demands.{none_bad}
use Rattle.matched.specs.Acceptance.{declined, acceptance}
use Rattle.matched.specs.Pairing.{Pairs, left_of}
use Rattle.walk.specs.Task.{Task, under, visible, Posed}
use Rattle.walk.specs.Plain.{listing}
use Rattle.walk.specs.Checkpoints.{Checkpoint, start}
use Rattle.walk.specs.WalkCall.{walk_call}
use Rattle.walk.specs.InnerLocate.{task_call}
use Rattle.walk.proofs.Demands as walk
use Rattle.page.specs.PageLines.{page_lines, page_size}
use Rattle.page.specs.Pages.{next_results, line_at, joined, page_call}
use Rattle.page.proofs.NextModelLaws.{start_models}
use Rattle.page.proofs.Demands.{page_variables, page_visible}
use Rattle.printing.specs.Printed.{refused_line, printed}
use Rattle.printing.specs.Printing.{max_input}
use Rattle.printing.proofs.PrintLaws.{declined_prints}
use Rattle.print_pages.specs.PrintedPages.{max_pages, printed_pages, page_count}
use Rattle.print_pages.proofs.PrintedLaws as prints

-- where the first page is refused, its refusal's line is all that is printed
pub printed_refused : (s : List ℕ)
    → (let p = page_call s [] start 1 (blanks page_size) in (p.answer.number ≡ 0 → ⊥) → printed_pages s ≡ refused_line p.answer.number p.answer.place)
printed_refused = prints.first_refused

-- for a refused input it is what list_models prints (S12.1)
pub printed-declined : (s : List ℕ) (r : Refusal) (row : List ℕ) → acceptance s [] ≡ declined r row → printed_pages s ≡ printed s
printed-declined s r row e = prints.declined-pages s r row e ∙ sym (declined_prints s r row e)

-- an input of no more bytes than are read (S12.2) prints no more bytes than 20 pages have
pub printed-most : (s : List ℕ) → length s ≤ max_input → length (printed_pages s) ≤ max_pages * page_size
printed-most = prints.printed_long

-- ---- an accepted formula: the input encodes n and cs, and vs is a matching of what stripping leaves of the clauses

module _ (s : List ℕ) (n : ℕ) (cs : List (List Literal)) (encodes : Encodes s n cs) (vs : List ℕ) (pairs : Pairs (left_of n [] cs) vs) where
  -- what its walk is over
  abbrev pub task : Task
  task = under n [] cs

  posed : Posed task
  posed = walk.posed s [] n cs encodes (none_bad n) vs pairs

  walks : (c : Checkpoint) (b : ℕ) → walk_call s [] c b ≡ task_call task c b
  walks = walk.walks s [] n cs encodes (none_bad n) vs pairs

  -- The print is the lines of the first 1,000 models, one behind the other with the serials from 1 on, and blank lines up to the end of
  -- the last page. So many pages are printed: up to the first that has fewer than 50 models, and 20 at most.
  pub printed_lines : printed_pages s
      ≡ joined (line_at n (visible task) 1 (next_results s [] start (page_lines * max_pages))) (page_lines * page_count max_pages (length (listing task)))
  printed_lines =
      prints.printed_joined s task posed walks
      ∙ ap₂ (λ (k m : ℕ). joined (line_at k m 1 (next_results s [] start (page_lines * max_pages))) (page_lines * page_count max_pages (length (listing task))))
      (page_variables s [] n cs encodes (none_bad n) vs pairs) (page_visible s [] n cs encodes (none_bad n) vs pairs)

  -- These are the first of the listing.
  pub printed_models : map (λ r. r.model) (next_results s [] start (page_lines * max_pages)) ≡ take (page_lines * max_pages) (listing task)
  printed_models = start_models s [] task posed walks (page_lines * max_pages)

  -- The pages are whole.
  pub printed_whole : length (printed_pages s) ≡ page_size * page_count max_pages (length (listing task))
  printed_whole =
      prints.joined_long s task posed walks (omega (arith, page_variables s [] n cs encodes (none_bad n) vs pairs, encodes.sized.most))
