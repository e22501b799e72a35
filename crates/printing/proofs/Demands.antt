-- What the print owes to the limit of its input (S12.2): of a longer input the program takes the first 16,384 bytes as the whole. That
-- assumptions, of which it takes none, change nothing in it (S17.6). And what it is where a formula is refused by 10 (S18.3), and where
-- one is matched whole (S18.4). And that the steps on its lines are the exact waits (S21.4), and what stands in its columns (S23.3).
use Prim.Native.Nat.{ℕ, ◌≤◌, ◌<◌}
use mathlib.Core.Bool.{true, false}
use mathlib.Core.List.{List, [], ◌++◌}
use mathlib.Core.Logic.{inl, ◌↔◌}
use mathlib.Core.Path.{◌≡◌, refl, sym, ap, ◌∙◌}
use native.Mathlib.Omega.{arith}
use lib.ListN.{length, get_or, take, drop, replicate, length-drop, take-append-drop}
use lib.Seq.{length-take-le, take-append_seam}
use Rattle.limits.specs.Limits.{max_clauses}
use Rattle.writing.specs.Text.{dash, digit, columns}
use Rattle.writing.proofs.ColumnLaws.{column_dash, column_digit}
use Rattle.formula.specs.declared.Refusal.TheVariants.{Unmatched}
use Rattle.formula.specs.Format.{Literal, names, Encodes}
use Rattle.formula.proofs.Demands.{cut, accepted_all}
use Rattle.assumptions.proofs.Demands.{no_assumptions, none_bad}
use Rattle.splitting.specs.Nodes.{named}
use Rattle.matched.specs.Acceptance.{acceptance}
use Rattle.matched.specs.Judge.{Judged, refused_values, judge}
use Rattle.matched.specs.Pairing.{Pairs, left_of, Pairable, marked}
use Rattle.matched.specs.WithoutAssumptions.{plain_acceptance}
use Rattle.matched.specs.WithoutStripping.{whole_acceptance}
use Rattle.matched.proofs.AcceptanceLaws.{unpaired_declined}
use Rattle.matched.proofs.Demands.{acceptance_unassumed, acceptance_kept}
use Rattle.matched.proofs.JudgeLaws.{judge_declined}
use Rattle.matched.proofs.UnassumedLaws.{plain-same}
use Rattle.walk.specs.Task.{Task, under, to_assign, visible}
use Rattle.walk.specs.Checkpoints.{start}
use Rattle.walk.specs.WalkCall.{walk_calls}
use Rattle.walk.specs.Gaps.{gaps, step_bound, ample_budget, Paced}
use Rattle.walk.proofs.HasLaws.{start_has}
use Rattle.walk.proofs.Demands.{visible_exactly, hidden_exactly, demand_3, accepted_row, posed, walks, task_unassumed}
use Rattle.printing.specs.Printed.{header, refused_line, max_models, walk_lines, acceptance_lines, printed}
use Rattle.printing.specs.PrintedGaps.{gap_lines}
use Rattle.printing.specs.Printing.{max_input}
use Rattle.printing.specs.WithoutAssumptions.{plain_lines}
use Rattle.printing.proofs.WalkLinesLaws.{lines_calls}
use Rattle.printing.proofs.GapLinesLaws.{lines_gaps}
use Rattle.printing.proofs.PrintLaws.{declined_prints}

-- an input that is cut prints its refusal, by 2 at the length that is left
pub cut_printed : (s t : List ℕ) (n : ℕ) (cs : List (List Literal)) → Encodes (s ++ t) n cs → 0 < length t → printed s ≡ refused_line 2 (length s)
unfolding printed acceptance
cut_printed s t n cs e h = rw (cut s t n cs e h)

-- so a readable input that is longer prints `refused 2 16384`
pub longer_printed : (s : List ℕ) (n : ℕ) (cs : List (List Literal)) → Encodes s n cs → max_input < length s → printed (take max_input s) ≡ refused_line 2 max_input
longer_printed s n cs e h =
    let l : length (take max_input s) ≡ max_input = length-take-le max_input s (omega arith) in
    let whole : Encodes (take max_input s ++ drop max_input s) n cs = rw (take-append-drop max_input s) e in
    cut_printed (take max_input s) (drop max_input s) n cs whole (omega (arith, length-drop max_input s)) ∙ ap (refused_line 2) l

-- and what follows the first 16,384 bytes changes nothing: a readable input of exactly so many is printed as it is alone
pub tail_unseen : (s t : List ℕ) → length s ≡ max_input → printed (take max_input (s ++ t)) ≡ printed s
tail_unseen s t h = ap printed (ap (λ (k : ℕ). take k (s ++ t)) (sym h) ∙ take-append_seam s t)

-- S17.6: what is printed is told without assumptions
pub printed_unassumed : (s : List ℕ) → printed s ≡ plain_lines (plain_acceptance s)
unfolding printed
printed_unassumed s =
    ap acceptance_lines (acceptance_unassumed s)
    ∙ plain-same acceptance_lines plain_lines (λ n cs row. ap (λ (T : Task). header n (length cs) ++ walk_lines T max_models 0) (task_unassumed n cs)) (λ r row. refl) s

-- S18.4: and for an input of which what remains is matched itself, it is what it is if nothing is stripped
pub printed_kept : (s : List ℕ) → Pairable s [] → printed s ≡ acceptance_lines (whole_acceptance s [])
unfolding printed
printed_kept s w = ap acceptance_lines (acceptance_kept s [] w)

-- S21.4: What is printed of an accepted input are the lines of the gaps of 1,000 walk calls of budget 96 from the start, and these are paced:
-- on the first line stand as many steps as variables are to be assigned, on each further one twice the variables that are assigned after the
-- longest beginning that the trails of its model and of the one before share, behind `end` as many as on the first.
pub printed_waits : (s : List ℕ) (n : ℕ) (cs : List (List Literal)) → Encodes s n cs → (vs : List ℕ) → Pairs (left_of n [] cs) vs
    → (let gs = gaps (walk_calls s [] start (replicate max_models ample_budget)) in
    (printed s ≡ header n (length cs) ++ gap_lines n (visible (under n [] cs)) gs) × Paced (to_assign (under n [] cs)) (step_bound (under n [] cs)) gs)
unfolding printed
printed_waits s n cs encodes vs pairs =
    let good = none_bad n in
    let a = accepted_row s [] n cs encodes good vs pairs in
    let P = posed s [] n cs encodes good vs pairs in
    let w = walks s [] n cs encodes good vs pairs in (
      ap acceptance_lines a.1
          ∙ ap (λ (l : List ℕ). header n (length cs) ++ l)
          (lines_calls s n [] cs a.0 a.1 max_models ∙ lines_gaps s n cs P w (visible (under n [] cs)) max_models start (start_has s [] (under n [] cs) P w)),
      (demand_3 s [] n cs encodes good vs pairs (replicate max_models ample_budget)).paced,
    )

-- S23.3: the column of a variable is a dash exactly if no clause names it, since nothing is assumed,
pub dash_exactly : (n : ℕ) (cs : List (List Literal)) (a v : ℕ) → v < n → (get_or (columns n (visible (under n [] cs)) a) v 0 ≡ dash) ↔ (named cs v ≡ false)
unfolding names
dash_exactly n cs a v h =
    let d = column_dash n (visible (under n [] cs)) a v h in
    let w = hidden_exactly n [] cs v in
    (λ e. (w.0 (d.0 e)).0, λ e. d.1 (w.1 (e, refl)))

-- else the digit of its value.
pub digit_exactly : (n : ℕ) (cs : List (List Literal)) (a v : ℕ) → v < n → named cs v ≡ true → get_or (columns n (visible (under n [] cs)) a) v 0 ≡ digit a v
digit_exactly n cs a v h e = column_digit n (visible (under n [] cs)) a v h ((visible_exactly n [] cs v).1 (inl e))

-- S18.3: of a readable input of which what stripping leaves is not matched 10 is printed, with the number of marks that judge gives
pub unmatched_printed : (s buffer : List ℕ) (n : ℕ) (cs : List (List Literal)) → max_clauses ≤ length buffer → Encodes s n cs → ((vs : List ℕ) → Pairs (left_of n [] cs) vs → ⊥)
    → (k : ℕ) × ((judge s [] buffer).answer ≡ refused_values (Unmatched k)) × (printed s ≡ refused_line 10 k)
unmatched_printed s buffer n cs l w none =
    let x = unpaired_declined s [] n [] cs (accepted_all s n cs w) (no_assumptions n) none in
    let k = length (marked x.0 cs) in
    (k, ap (λ (j : Judged). j.answer) (judge_declined s [] buffer l (Unmatched k) _ x.2), declined_prints s (Unmatched k) _ x.2)
