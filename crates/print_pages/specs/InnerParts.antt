-- A page in a part of a buffer.
use Rattle.std.specs.Prelude.{ℕ, ◌+◌, List, ◌≡◌, Result}
use Rattle.formula.specs.declared.Refusal.{Refusal}
use Rattle.writing.specs.Placed.{Wrote}
use Rattle.walk.specs.Checkpoints.{Checkpoint}
use Rattle.page.specs.declared.Paged.{Paged}
use Rattle.page.specs.PageLines.{page_size}
use Rattle.page.specs.Pages.{PageCall, page_values, page_checkpoint}

-- the answer and the checkpoint of a page from the checkpoint c; its bytes are in the buffer from `at` on, or nothing is written if it is
-- refused
pub record PutPage (c : Checkpoint) (p : PageCall) (at : ℕ) (before after : List ℕ) (r : Result Paged Refusal) : Type 0 where
  pub answer : page_values r ≡ p.answer
  pub checkpoint : page_checkpoint c r ≡ p.checkpoint
  pub written : p.answer.number ≡ 0 → Wrote p.page at before after (at + page_size)
  pub kept : (p.answer.number ≡ 0 → ⊥) → after ≡ before
