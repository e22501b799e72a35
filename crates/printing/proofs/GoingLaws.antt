-- The loop that writes the lines of a walk: what each run adds, and that there is room for it.
use Prim.Native.Nat.{ℕ, zero, suc, ◌-◌, ◌<◌}
use mathlib.Core.List.{List, [], ◌++◌, append_assoc, append-nil}
use mathlib.Core.Path.{◌≡◌, refl, sym, ap, ap₂, ◌∙◌}
use native.Mathlib.Omega.{arith}
use lib.ListN.{length, length-append}
use Rattle.walk.specs.Gaps.{ample_budget}
use Rattle.walk.specs.PlainMachine as plain
use Rattle.walk.specs.PlainMachine.{found, spent, ended}
use Rattle.walk.specs.InnerStack.{empty, Tree}
use Rattle.walk.specs.InnerMachine.{Position, down, resume}
use Rattle.enumeration.specs.declared.steps.Answer.{Answer}
use Rattle.enumeration.specs.declared.steps.Answer.TheVariants.{Model, Spent, Ended}
use Rattle.enumeration.specs.declared.steps.Run.{Run}
use Rattle.enumeration.specs.declared.state.State.{State}
use Rattle.enumeration.specs.InnerState.{position_at, position_in, Holds, Ran, answer_as}
use Rattle.enumeration.specs.InnerRead.{Node}
use Rattle.writing.specs.declared.Writer.{Writer}
use Rattle.writing.specs.Placed.{RoomIn, Puts}
use Rattle.printing.specs.Printed.{model_line, end_line, more_line, call_lines, max_models}
use Rattle.printing.specs.InnerLines.{lines_from}
use Rattle.writing.proofs.PlacedLaws.{puts_none, puts_more}

-- the lines so far are written, and the others go on from s, with room for `left` models more
pub record Going (K : Tree) (n mask : ℕ) (before now : Writer) (s : State) (left : ℕ) : Type 0 where
  pub holds : Holds K s
  pub written : List ℕ
  pub puts : Puts written before now
  pub same : lines_from K n mask max_models (down empty) ≡ written ++ lines_from K n mask left (position_in s)

-- nothing is written yet
pub going_first : (K : Tree) (n mask : ℕ) (w : Writer) (s : State) → Node K empty s → RoomIn [] w → Going K n mask w w s max_models
going_first K n mask w s h r =
    record {
      holds = h.holds;
      written = [];
      puts = puts_none w r;
      same = ap (lines_from K n mask max_models) (sym (ap₂ position_at h.place h.stack));
    }

-- ---- what a run prints

module _ (n mask s e : ℕ) (rest : List ℕ) where
  -- the lines of a run, by how it ended
  abbrev answer_lines : Answer → List ℕ
  answer_lines (Model m) = model_line n mask m s e ++ rest
  answer_lines Spent = []
  answer_lines Ended = end_line s e

  call_answer : (a : plain.Answer) → call_lines n mask a s e rest ≡ answer_lines (answer_as a)
  call_answer (found a) = refl
  call_answer spent = refl
  call_answer ended = refl

-- one call in front
lines_next : (K : Tree) (n mask left : ℕ) (p : Position) → 0 < left
    → (let q = resume K ample_budget p in lines_from K n mask left p ≡ call_lines n mask q.answer q.steps q.expansions (lines_from K n mask (left - 1) q.position))
unfolding lines_from
lines_next K n mask zero p h = absurd (omega arith)
lines_next K n mask (suc j) p h = let e : suc j - 1 ≡ j = omega arith in rw e

module _ (K : Tree) (n mask left : ℕ) (s : State) (r : Run) (R : Ran K r (resume K ample_budget (position_in s))) (some : 0 < left) where
  -- by how the run ended
  lines_answer : lines_from K n mask left (position_in s) ≡ answer_lines n mask r.steps r.expansions (lines_from K n mask (left - 1) (position_in r.state)) r.answer
  lines_answer =
      let q = resume K ample_budget (position_in s) in
      lines_next K n mask left (position_in s) some ∙ rw (R.answer, R.steps, R.expansions, R.position) (call_answer n mask q.steps q.expansions _ q.answer)

  pub lines_model : (m : ℕ) → r.answer ≡ Model m
      → lines_from K n mask left (position_in s) ≡ model_line n mask m r.steps r.expansions ++ lines_from K n mask (left - 1) (position_in r.state)
  lines_model m e = lines_answer ∙ rw e

  pub lines_end : r.answer ≡ Ended → lines_from K n mask left (position_in s) ≡ end_line r.steps r.expansions
  lines_end e = lines_answer ∙ rw e

  pub lines_spent : r.answer ≡ Spent → lines_from K n mask left (position_in s) ≡ []
  lines_spent e = lines_answer ∙ rw e

-- after the last
pub lines_more : (K : Tree) (n mask left : ℕ) (p : Position) → left ≡ 0 → lines_from K n mask left p ≡ more_line
unfolding lines_from
lines_more K n mask left p e = rw e

-- ---- turns

module _ {K : Tree} {n mask : ℕ} {before now : Writer} {s : State} {left : ℕ} (g : Going K n mask before now s left) where
  -- there is room for the line that comes
  pub going_room : (x rest : List ℕ) → lines_from K n mask left (position_in s) ≡ x ++ rest → RoomIn (lines_from K n mask max_models (down empty)) before → RoomIn x now
  going_room x rest e h =
      let a = ap length g.same ∙ length-append g.written _ in
      let b = ap length e ∙ length-append x rest in
      let p = g.puts in
      omega arith

  -- and for the last one
  pub going_room_last : (x : List ℕ) → lines_from K n mask left (position_in s) ≡ x → RoomIn (lines_from K n mask max_models (down empty)) before → RoomIn x now
  going_room_last x e h = going_room x [] (e ∙ sym (append-nil x)) h

  -- a line more
  pub going_more : (x : List ℕ) (now' : Writer) (t : State) (left' : ℕ) → Holds K t
      → lines_from K n mask left (position_in s) ≡ x ++ lines_from K n mask left' (position_in t) → Puts x now now' → Going K n mask before now' t left'
  going_more x now' t left' k e p =
      record {
        holds = k;
        written = g.written ++ x;
        puts = puts_more g.puts p;
        same = g.same ∙ ap (λ (l : List ℕ). g.written ++ l) e ∙ sym (append_assoc g.written x _);
      }

  -- the last line
  pub going_last : (x : List ℕ) (now' : Writer) → lines_from K n mask left (position_in s) ≡ x → Puts x now now' → Puts (lines_from K n mask max_models (down empty)) before now'
  going_last x now' e p = rw (g.same, e) (puts_more g.puts p)

  -- no line more
  pub going_stop : lines_from K n mask left (position_in s) ≡ [] → Puts (lines_from K n mask max_models (down empty)) before now
  going_stop e = rw (g.same, e, append-nil g.written) g.puts
