-- What the entry into a walk gives a page: the calls of a page from its checkpoint are the runs from its state.
use Prim.Native.Nat.{ℕ, zero, suc, ◌≤◌, ◌<◌}
use mathlib.Core.List.{List}
use mathlib.Core.Path.{◌≡◌, refl, sym, ap, ap₂, ◌∙◌, subst}
use native.Mathlib.Omega.{arith}
use Rattle.std.specs.Prelude.{Ok}
use lib.ListN.{length}
use Rattle.lists.specs.Over.{over}
use Rattle.formula.specs.declared.Formula.{Formula}
use Rattle.formula.specs.declared.Refusal.{Refusal}
use Rattle.assumptions.specs.declared.Assumption.{Assumption}
use Rattle.matched.specs.Acceptance.{Acceptance}
use Rattle.walk.specs.Checkpoints.{Checkpoint}
use Rattle.walk.specs.Gaps.{ample_budget}
use Rattle.walk.specs.PlainMachine.{Answer, found, spent, ended}
use Rattle.walk.specs.InnerStack.{Tree}
use Rattle.walk.specs.InnerMachine.{Position, resume}
use Rattle.walk.specs.InnerTest.{shown}
use Rattle.walk.specs.InnerCall.{resumed_result}
use Rattle.walk.specs.Results.{says_refused, Result, answer_kind, refusing}
use Rattle.walk.specs.WalkCall.{walk_call, walk_calls, last_checkpoint}
use Rattle.walk.proofs.RestLaws.{Stops, Reachable}
use Rattle.walk.proofs.AcceptLaws.{shown_bytes}
use Rattle.walk.proofs.TaskLaws.{answer_unrefused}
use Rattle.enumeration.specs.declared.scope.Scope.{Scope}
use Rattle.enumeration.specs.declared.state.State.{State}
use Rattle.enumeration.specs.InnerScope.{visible_in}
use Rattle.enumeration.specs.InnerState.{position_in}
use Rattle.enumeration.specs.InnerEnter.{Begun}
use Rattle.enumeration.proofs.ListLaws.{small, call_at, position_fine}
use Rattle.enumeration.proofs.ArriveLaws.{Arrives, arrives}
use Rattle.page.specs.declared.Paged.{Paged}
use Rattle.page.specs.PageLines.{page_lines, page_size}
use Rattle.page.specs.Pages.{ample_budgets, if_model, with_models, next_results, next_checkpoint, line_at, joined, filled_values, page_told, refusing_page, accepted_variables, accepted_visible, max_serial, page_call}
use Rattle.page.specs.InnerPages.{while_model, stop_of, found_from, stopped_from, PageFilled}
use Rattle.page.proofs.RunLaws.{over_found, over_stopped}
use Rattle.page.proofs.PageCallLaws.{walk_refused, unrefused_filled}

module _ (s : List ℕ) (us : List Assumption) (K : Tree) where
  -- k calls from the checkpoint c are runs from the position p
  pub record Runs (c : Checkpoint) (p : Position) (k : ℕ) : Type 0 where
    pub results : next_results s us c k ≡ found_from K k p
    pub checkpoint : next_checkpoint s us c k ≡ shown (stopped_from K k p)

  -- one call in front
  runs_next : (c : Checkpoint) (p : Position) (k : ℕ) → walk_call s us c ample_budget ≡ resumed_result (resume K ample_budget p) → Arrives K (resume K ample_budget p)
      → Runs (shown (resume K ample_budget p).position) (resume K ample_budget p).position k → Runs c p (suc k)
  unfolding ample_budgets walk_calls last_checkpoint with_models found_from stopped_from
  runs_next c p k e a w =
      let r = resume K ample_budget p in
      record {
        results =
            ap (λ (y : Result). if_model y.kind y (next_results s us y.checkpoint k)) e
            ∙ ap (if_model (answer_kind r.answer) (resumed_result r)) w.results
            ∙ last r.answer refl;
        checkpoint = ap (λ (y : Result). next_checkpoint s us y.checkpoint k) e ∙ w.checkpoint ∙ ap shown (stop r.answer refl);
      }
    where
      -- an end is the last: the runs behind it bring nothing
      last : (x : Answer) → (resume K ample_budget p).answer ≡ x
          → (let r = resume K ample_budget p in
          let rs = found_from K k r.position in if_model (answer_kind x) (resumed_result r) rs ≡ while_model (answer_kind x) (resumed_result r) rs)
      last (found m) q = refl
      last spent q = absurd (a.unspent q)
      last ended q = ap (found_from K k) (a.ended_over q) ∙ over_found K k

      stop : (x : Answer) → (resume K ample_budget p).answer ≡ x
          → (let o = (resume K ample_budget p).position in stopped_from K k o ≡ stop_of (answer_kind x) o (stopped_from K k o))
      stop (found m) q = refl
      stop spent q = absurd (a.unspent q)
      stop ended q = let o = a.ended_over q in ap (stopped_from K k) o ∙ over_stopped K k ∙ sym o

module _ (s : List ℕ) (us : List Assumption) (f : Formula) (z : Scope) (c : Checkpoint) (q : State) (B : Begun s us f z c q) where
  -- calls from where a call stopped
  runs_shown : (k : ℕ) (p : Position) → Reachable B.tree p → Stops B.tree p → Runs s us B.tree (shown p) p k
  unfolding ample_budgets walk_calls last_checkpoint with_models found_from stopped_from
  runs_shown zero p o q = record { results = refl; checkpoint = refl }
  runs_shown (suc k) p o q =
      let K = B.tree in
      let a = arrives f z K B.follows p o in
      runs_next s us K (shown p) p k
      (B.tested (shown p) ample_budget (shown_bytes K p o (small f z K B.follows)) ∙ call_at f z K B.follows ample_budget p o q)
      a (runs_shown k (resume K ample_budget p).position a.fine a.stops)

  -- and from the checkpoint that was entered
  runs_entered : (k : ℕ) → 0 < k → Runs s us B.tree c (position_in q) k
  runs_entered zero l = absurd (omega arith)
  runs_entered (suc k) l =
      let K = B.tree in
      let p = position_in q in
      let a = arrives f z K B.follows p (subst (Reachable K) (sym B.position) (position_fine f z K B.follows c B.passes)) in
      runs_next s us K c p k (B.calls ample_budget) a (runs_shown k (resume K ample_budget p).position a.fine a.stops)

  -- a call from there is not refused
  unrefused : (walk_call s us c ample_budget).kind ≡ says_refused → ⊥
  unrefused e = answer_unrefused (resume B.tree ample_budget (position_in q)).answer (sym (ap (λ (y : Result). y.kind) (B.calls ample_budget)) ∙ e)

  module _ (serial : ℕ) (before : List ℕ) (room : page_size ≤ length before) (some : 0 < serial) (most : serial ≤ max_serial) where
    -- the page of the entered checkpoint is that of the runs from its state
    pub page_entered : (t : Paged) (after : List ℕ) → PageFilled B.tree f.variables (visible_in z) serial (position_in q) before after t
        → page_call s us c serial before ≡ page_told c (Ok t) after
    page_entered t after F =
        let w = runs_entered page_lines (omega arith) in
        let a = ap filled_values (ap length w.results ∙ sym F.lines) in
        let d = w.checkpoint ∙ sym F.checkpoint in
        let l =
        ap₂ (λ (x : Acceptance) (rs : List Result). over (joined (line_at (accepted_variables x) (accepted_visible x) serial rs) page_lines) before) B.accepted.accepts w.results
        ∙ ap (λ (m : ℕ). over (joined (line_at f.variables m serial (found_from B.tree page_lines (position_in q))) page_lines) before) (sym B.accepted.shows)
        ∙ sym F.written in
        unrefused_filled s us c serial before room some most unrefused ∙ (λ i. record { answer = a i; checkpoint = d i; page = l i })

-- a refusal of every call from a checkpoint is that of the page
pub entered_refused : (s : List ℕ) (us : List Assumption) (c : Checkpoint) (serial : ℕ) (before : List ℕ) (e : Refusal) → page_size ≤ length before → 0 < serial → serial ≤ max_serial
    → walk_call s us c ample_budget ≡ refusing e c → page_call s us c serial before ≡ refusing_page e c before
entered_refused s us c serial before e room some most h =
    walk_refused s us c serial before room some most (ap (λ (y : Result). y.kind) h) ∙ rw h
