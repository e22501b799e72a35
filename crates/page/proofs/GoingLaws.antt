-- The loop that writes the lines of models: what each run adds; and the page with blank lines behind them.
use Prim.Native.Nat.{ℕ, suc, ◌+◌, ◌*◌, ◌-◌, ◌≤◌, ◌<◌}
use mathlib.Core.List.{List, [], ◌∷◌, ◌++◌, append_assoc, append-nil}
use mathlib.Core.Path.{◌≡◌, refl, sym, ap, ◌∙◌}
use native.Mathlib.Omega.{arith}
use lib.ListN.{length, length-append}
use Rattle.limits.specs.Limits.{max_variables}
use Rattle.lists.specs.Over.{over}
use Rattle.writing.specs.Placed.{placed}
use Rattle.walk.specs.Gaps.{ample_budget}
use Rattle.walk.specs.InnerStack.{Tree}
use Rattle.walk.specs.InnerMachine.{Position, resume}
use Rattle.walk.specs.InnerCall.{resumed_result}
use Rattle.walk.specs.Results.{Result}
use Rattle.enumeration.specs.declared.steps.Answer.TheVariants.{Model}
use Rattle.enumeration.specs.declared.steps.Run.{Run}
use Rattle.enumeration.specs.declared.state.State.{State}
use Rattle.enumeration.specs.InnerState.{position_in, Holds, Ran}
use Rattle.page.specs.declared.filling.Lines.{Lines}
use Rattle.page.specs.PageLines.{page_lines, line_size, page_line}
use Rattle.page.specs.Pages.{line_at, joined, max_serial}
use Rattle.page.specs.InnerPages.{found_from, stopped_from, blanked, LinesFilled}
use Rattle.page.proofs.JoinedLaws.{Sixty, joined_next, joined_blank}
use Rattle.page.proofs.LineAtLaws.{line_behind, line-none, line_length}
use Rattle.page.proofs.RunLaws.{found_steps, found_most, run_model, run_found, run_stops, run_last}

-- the lines of the models that runs from p find
abbrev lines_from : Tree → ℕ → ℕ → ℕ → Position → ℕ → List ℕ
lines_from K n mask serial p = line_at n mask serial (found_from K page_lines p)

-- each has 60 bytes
found_sixty : (K : Tree) (n mask serial : ℕ) (p : Position) → n ≤ max_variables → serial ≤ max_serial → Sixty (lines_from K n mask serial p)
found_sixty K n mask serial p most low i l = line_length n mask most serial (found_from K page_lines p) (found_steps K page_lines p) i (omega arith)

-- i lines are written, those of the models found so far, and the others go on from s
pub record Going (K : Tree) (n mask serial : ℕ) (p : Position) (before now : List ℕ) (s : State) (i : ℕ) : Type 0 where
  pub holds : Holds K s
  pub found : List Result
  pub many : length found ≡ i
  pub results : found_from K page_lines p ≡ found ++ found_from K (page_lines - i) (position_in s)
  pub stops : stopped_from K page_lines p ≡ stopped_from K (page_lines - i) (position_in s)
  pub written : now ≡ over (joined (lines_from K n mask serial p) i) before

-- nothing is written yet
pub going_first : (K : Tree) (n mask serial : ℕ) (before : List ℕ) (s : State) → Holds K s → Going K n mask serial (position_in s) before before s 0
unfolding joined
going_first K n mask serial before s h = record { holds = h; found = []; many = refl; results = refl; stops = refl; written = refl }

module _ {K : Tree} {n mask serial : ℕ} {p : Position} {before now : List ℕ} {s : State} {i : ℕ} (g : Going K n mask serial p before now s i) where
  module _ (r : Run) (R : Ran K r (resume K ample_budget (position_in s))) (l : i < page_lines) where
    -- so many runs are left
    left : page_lines - i ≡ suc (page_lines - (i + 1))
    left = omega arith

    -- a line more
    module _ (m : ℕ) (e : r.answer ≡ Model m) where
      -- the run's result
      abbrev result : Result
      result = resumed_result (resume K ample_budget (position_in s))

      results_more : found_from K page_lines p ≡ g.found ++ (result ∷ found_from K (page_lines - (i + 1)) (position_in r.state))
      results_more = g.results ∙ ap (λ (l : List Result). g.found ++ l) (ap (λ (k : ℕ). found_from K k (position_in s)) left ∙ run_found K (position_in s) r R m e (page_lines - (i + 1)))

      -- the line that comes
      line_more : lines_from K n mask serial p i ≡ page_line (serial + i) n mask m r.steps
      line_more =
          ap (λ (x : List Result). line_at n mask serial x i) results_more
          ∙ ap (line_at n mask serial (g.found ++ (result ∷ _))) (sym g.many)
          ∙ line_behind n mask serial g.found _ result
          ∙ rw (g.many, run_model K (position_in s) r R m e, R.steps)

      pub going_more : (now' : List ℕ) → n ≤ max_variables → serial ≤ max_serial → now' ≡ placed (line_size * i) (page_line (serial + i) n mask m r.steps) now
          → Going K n mask serial p before now' r.state (i + 1)
      going_more now' most low w =
          record {
            holds = R.holds;
            found = g.found ++ (result ∷ []);
            many = length-append g.found (result ∷ []) ∙ ap (λ (k : ℕ). k + 1) g.many;
            results = results_more ∙ sym (append_assoc g.found (result ∷ []) _);
            stops = g.stops ∙ ap (λ (k : ℕ). stopped_from K k (position_in s)) left ∙ run_stops K (position_in s) r R m e (page_lines - (i + 1));
            written =
                w ∙ ap (λ (x : List ℕ). placed (line_size * i) x now) (sym line_more)
                ∙ joined_next (lines_from K n mask serial p) (found_sixty K n mask serial p most low) i before now l g.written;
          }

    -- the run brought no model
    pub going_none : ((m : ℕ) → r.answer ≡ Model m → ⊥) → LinesFilled K n mask serial p before now (record { count = i; state = r.state })
    going_none h =
        let x = run_last K (position_in s) r R h (page_lines - (i + 1)) in
        record {
          count = sym (ap length (g.results ∙ ap (λ (k : ℕ). g.found ++ found_from K k (position_in s)) left ∙ ap (λ (l : List Result). g.found ++ l) x.0 ∙ append-nil g.found) ∙ g.many);
          written = g.written;
          position = sym (g.stops ∙ ap (λ (k : ℕ). stopped_from K k (position_in s)) left ∙ x.1);
          holds = R.holds;
        }

  -- the page is full
  pub going_full : i ≡ page_lines → LinesFilled K n mask serial p before now (record { count = page_lines; state = s })
  unfolding found_from stopped_from
  going_full e =
      let z : page_lines - i ≡ 0 = omega arith in
      record {
        count = sym (ap length (g.results ∙ ap (λ (k : ℕ). g.found ++ found_from K k (position_in s)) z ∙ append-nil g.found) ∙ g.many ∙ e);
        written = rw e at g.written;
        position = sym (g.stops ∙ ap (λ (k : ℕ). stopped_from K k (position_in s)) z);
        holds = g.holds;
      }

-- ---- the whole page

module _ (K : Tree) (n mask serial : ℕ) (p : Position) (before now : List ℕ) (t : Lines) (filled : LinesFilled K n mask serial p before now t) where
  -- no more lines are filled than a page has
  pub filled_most : t.count ≤ page_lines
  filled_most = omega (arith, filled.count, found_most K page_lines p)

  -- the others are blank
  pub filled_blanked : (now' : List ℕ) → n ≤ max_variables → serial ≤ max_serial → now' ≡ blanked t.count now → now' ≡ over (joined (lines_from K n mask serial p) page_lines) before
  filled_blanked now' most low w =
      w
      ∙ joined_blank (lines_from K n mask serial p) (found_sixty K n mask serial p most low) t.count filled_most
      (λ i l. line-none n mask serial (found_from K page_lines p) i (omega (arith, filled.count))) before now filled.written
