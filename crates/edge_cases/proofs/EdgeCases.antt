-- The cases of the tables specs/MarkedCases.antt, specs/AssumedCases.antt, specs/StrippedCases.antt, specs/ViolatorCases.antt,
-- specs/WaitCases.antt, specs/DeficiencyCases.antt, specs/PageCases.antt, specs/UnnamedCases.antt and specs/OrderCases.antt, and some more,
-- computed from the definitions.
use mathlib.Core.Bool.{xor}
use Prim.Native.Nat.{ℕ, zero, suc, ◌≤◌, ◌<◌}
use mathlib.Core.List.Memᴰ
use mathlib.Core.List.{List, [], ◌∷◌, ◌++◌, map}
use mathlib.Core.Logic.{◌⊎◌, inl, inr}
use mathlib.Core.Path.{◌≡◌, refl, ap, ◌∙◌}
use native.Mathlib.Omega.{arith}
use lib.ListN.{length, replicate}
use borrow.Author.Tests.{le-ltb}
use Rattle.limits.specs.Limits.{max_clauses}
use Rattle.lists.specs.Over.{over}
use Rattle.lists.specs.Padded.{padded}
use Rattle.lists.specs.Tabulated.{tabulated}
use Rattle.masks.specs.Mask.{bit, members}
use Rattle.writing.specs.Text.{line_feed, blank, decimal_within, decimal, blanks}
use Rattle.formula.specs.InnerDecode.{decode, records, read_record}
use Rattle.formula.specs.Format.{Literal, names, names_as, add, literal_bytes, literals_bytes, clause_bytes, clauses_bytes, formula_bytes}
use Rattle.formula.specs.Check.{checked}
use Rattle.formula.specs.InnerModels.{satisfied}
use Rattle.formula.specs.Masked.{variables}
use Rattle.assumptions.specs.declared.Assumption.{Assumption}
use Rattle.assumptions.specs.Assumed.{is_bad, assumed_from, assumed}
use Rattle.matching.specs.Sets.{union, selected}
use Rattle.matching.specs.Deficiency.{sub_lists, largest, most, deficiency, largest_excess}
use Rattle.matching.specs.Search.{owner, no_links, begin, see, scan, take_front, expand, search_from, rematch_from, match_rest, outcome, marks}
use Rattle.matched.specs.Acceptance.{accepted, dropped_by, row_byte, spread, acceptance}
use Rattle.matched.specs.Deficiency.{deficiency_of}
use Rattle.matched.specs.Judge.{judge}
use Rattle.matched.proofs.WeighLaws.{weigh_short, weigh_refused, weigh_bad, weigh_over}
use Rattle.splitting.specs.Nodes.{less, assign, remaining, satisfied_by, occurs, named, first_from, upward_from}
use Rattle.splitting.specs.Stripping.{pure, not_naming, strip}
use Rattle.splitting.specs.Choosing.{matching_of, trial, first_passing, occurrences, by_count, candidates, among, listed, last, emptied, last_listed, choice}
use Rattle.walk.specs.Task.{Task, under, to_assign, visible, Posed}
use Rattle.walk.specs.Checkpoints.{Checkpoint, trail_in, checkpoint_of, without_last, last_value, start, past_all, behind, checkpoint_after}
use Rattle.walk.specs.WalkCall.{walk_call, walk_calls}
use Rattle.walk.specs.InnerLocate.{same_bytes, same_checkpoint, at_state, nowhere, locate_from, located, by_state, task_call}
use Rattle.walk.specs.Plain.{assignment, node_walk, plain_walk}
use Rattle.walk.specs.Gaps.{to_model, to_end, gaps_from, gaps, shared, ample_budget}
use Rattle.walk.specs.PlainMachine.{go_on, plain_call, plain_calls, state_after, Has}
use Rattle.walk.specs.Results.{Result, plain_result}
use Rattle.walk.proofs.Demands.{start_zero}
use Rattle.walk.proofs.TaskLaws.{calls_plain, calls_unrefused, last_plain, foreign}
use Rattle.walk.proofs.RefusalLaws.{accepted_posed, call_accepted, call_declined}
use Rattle.walk.proofs.NothingLeftLaws.{one_model, three_checkpoints, call_first, call_second}
use Rattle.page.specs.PageLines.{page_lines, page_size, page_line, blank_line}
use Rattle.page.specs.Pages.{ample_budgets, with_models, line_at, joined, filled_values, max_serial, page_call}
use Rattle.page.proofs.JoinedLaws.{joined_same}
use Rattle.page.proofs.Demands.{short_page, bad_serial, page_refused, page_written}
use Rattle.printing.specs.Printed.{refused_word, walk_lines, printed}
use Rattle.edge_cases.specs.MarkedCases.{on, off, line, model_at, end_at, walked_under, walked, example, nothing_named, MarkedCases}
use Rattle.edge_cases.specs.AssumedCases.{assume_on, assume_off, AssumedCases}
use Rattle.edge_cases.specs.StrippedCases.{StrippedCases}
use Rattle.edge_cases.specs.DeficiencyCases.{DeficiencyCases}
use Rattle.edge_cases.specs.ViolatorCases.{ViolatorCases}
use Rattle.edge_cases.specs.WaitCases.{gaps_under, WaitCases}
use Rattle.edge_cases.specs.PageCases.{line_of_these, PageCases}
use Rattle.edge_cases.specs.TextCases.{ascii}
use Rattle.edge_cases.specs.UnnamedCases.{no_clause, UnnamedCases}
use Rattle.edge_cases.specs.OrderCases.{busy, busy_clauses, failing_clauses, first_false, OrderCases}

-- ---- what computes: to unfold one of these is to unfold all that its line names

reading : Unit {0}
unfolding decode records read_record names names_as add
reading = tt

encoding : Unit {0}
unfolding formula_bytes clauses_bytes clause_bytes literals_bytes literal_bytes
encoding = tt

assuming : Unit {0}
unfolding assumed assumed_from is_bad names
assuming = tt

searching : Unit {0}
unfolding variables outcome match_rest search_from expand take_front scan see begin no_links owner rematch_from bit members
searching = tt

stripping : Unit {0}
unfolding strip not_naming pure occurs first_from names names_as xor
stripping = tt

judging : Unit {0}
unfolding reading assuming searching stripping acceptance spread row_byte dropped_by satisfied_by remaining assign less marks judge
judging = tt

weighing : Unit {0}
unfolding reading assuming variables selected union bit members
weighing = tt

measuring : Unit {0}
unfolding reading searching union deficiency_of deficiency most largest_excess sub_lists largest
measuring = tt

choosing : Unit {0}
unfolding searching stripping choice remaining assign less named upward_from matching_of trial first_passing occurrences by_count candidates among listed last emptied last_listed
choosing = tt

walking : Unit {0}
unfolding judging encoding choosing union plain_calls plain_call go_on plain_walk node_walk assignment
walking = tt

printing : Unit {0}
unfolding walking printed walk_lines decimal decimal_within tabulated
printing = tt

paging : Unit {0}
unfolding walking with_models ample_budgets page_line decimal decimal_within tabulated blanks state_after checkpoint_after behind past_all without_last last_value
paging = tt

locating : Unit {0}
unfolding walking located locate_from same_checkpoint same_bytes checkpoint_of padded checkpoint_after behind past_all without_last last_value
locating = tt

waiting : Unit {0}
unfolding walking gaps_from shared trail_in checkpoint_of padded checkpoint_after behind past_all without_last last_value
waiting = tt

-- ---- walks

-- what walk calls bring is what the plain machine brings, which needs no search for the state of a checkpoint
walked_plain : (s : List ℕ) (us : List Assumption) (n : ℕ) (t : List Literal) (cs : List (List Literal)) (row : List ℕ) → acceptance s us ≡ accepted n t cs row → (k : ℕ)
    → walked_under s us k ≡ map line (map (plain_result (under n t cs)) (plain_calls (under n t cs) 0 (replicate k ample_budget)))
walked_plain s us n t cs row e k =
    ap (map line) (calls_plain s us (under n t cs) (accepted_posed s us n t cs row e) (call_accepted s us n t cs row e) (replicate k ample_budget))

-- ---- the table

pub marked_cases : MarkedCases
unfolding judging walking printing
marked_cases = record {
  example_matching = λ b l. rw (le-ltb (length b) max_clauses l);
  example_printed = refl;
  three_pairs = walked_plain _ _ _ _ _ _ refl 5;
  wrong_turn = walked_plain _ _ _ _ _ _ refl 3;
  no_clauses = refl;
  no_bytes = refl;
  empty_clause = λ b l. rw (le-ltb (length b) max_clauses l);
  both_ways = λ b l. rw (le-ltb (length b) max_clauses l);
  named_twice = refl;
  repeated = refl;
  first_place = refl;
  complement_after_repeat = refl;
  clause_not_ended = refl;
  tail_byte = refl;
  start_zero = start_zero;
}

-- ---- assumptions

-- the example with both variables assumed is accepted, with nothing left to assign
abbrev both_given : List Assumption
both_given = assume_on 1 ∷ assume_off 2 ∷ []

abbrev both_task : Task
both_task = under 2 (on 1 ∷ off 2 ∷ []) ((on 1 ∷ on 2 ∷ []) ∷ (off 1 ∷ off 2 ∷ []) ∷ [])

both_accepted : acceptance example both_given ≡ accepted 2 both_task.before both_task.clauses (0 ∷ 0 ∷ [])
unfolding judging
both_accepted = refl

both_posed : Posed both_task
both_posed = accepted_posed example both_given 2 both_task.before both_task.clauses (0 ∷ 0 ∷ []) both_accepted

both_walks : (c : Checkpoint) (b : ℕ) → walk_call example both_given c b ≡ task_call both_task c b
both_walks = call_accepted example both_given 2 both_task.before both_task.clauses (0 ∷ 0 ∷ []) both_accepted

pub assumed_cases : AssumedCases
unfolding judging walking
assumed_cases = record {
  one_matching = λ b l. rw (le-ltb (length b) max_clauses l);
  one_walked = walked_plain _ _ _ _ _ _ refl 2;
  both_matching = λ b l. rw (le-ltb (length b) max_clauses l);
  both_first = λ b. call_first both_task refl example both_given both_posed both_walks b;
  both_second = λ b. call_second both_task refl example both_given both_posed both_walks b;
  both_true = λ b l. rw (le-ltb (length b) max_clauses l);
  zero = (λ b l. rw (le-ltb (length b) max_clauses l), λ c b. call_declined _ _ _ _ c b refl);
  above = (λ b l. rw (le-ltb (length b) max_clauses l), λ c b. call_declined _ _ _ _ c b refl);
  again = (λ b l. rw (le-ltb (length b) max_clauses l), λ c b. call_declined _ _ _ _ c b refl);
  other_value = (λ b l. rw (le-ltb (length b) max_clauses l), λ c b. call_declined _ _ _ _ c b refl);
  free_walked = walked_plain _ _ _ _ _ _ refl 2;
}

-- ---- formulas that strip down

pub stripped_cases : StrippedCases
unfolding judging walking printing
stripped_cases = record {
  twice_dropped = λ b l. rw (le-ltb (length b) max_clauses l);
  twice_walked = walked_plain _ _ _ _ _ _ refl 2;
  twice_printed = refl;
  first_noted = λ b l. rw (le-ltb (length b) max_clauses l);
  partly_dropped = λ b l. rw (le-ltb (length b) max_clauses l);
  partly_walked = walked_plain _ _ _ _ _ _ refl 3;
  partly_assumed = λ b l. rw (le-ltb (length b) max_clauses l);
  partly_assumed_walked = walked_plain _ _ _ _ _ _ refl 2;
  left_marked = λ b l. rw (le-ltb (length b) max_clauses l);
  whole_first = λ b l. rw (le-ltb (length b) max_clauses l);
}

-- ---- marks

pub violator_cases : ViolatorCases
unfolding judging weighing
violator_cases = record {
  empty_weighed = λ b l. weigh_over _ _ b l _ _ refl _ refl (1 ∷ []) (omega arith) (omega arith);
  both_weighed = λ b l. weigh_over _ _ b l _ _ refl _ refl (1 ∷ 1 ∷ []) (omega arith) (omega arith);
  left_weighed = λ b l. weigh_over _ _ b l _ _ refl _ refl (0 ∷ 0 ∷ 1 ∷ 1 ∷ []) (omega arith) (omega arith);
  false_marked = λ b l. rw (le-ltb (length b) max_clauses l);
  false_weighed = λ b l. weigh_over _ _ b l _ _ refl _ refl (1 ∷ []) (omega arith) (omega arith);
  three_marked = λ b l. rw (le-ltb (length b) max_clauses l);
  three_weighed = λ b l. weigh_over _ _ b l _ _ refl _ refl (1 ∷ 1 ∷ 1 ∷ 0 ∷ 0 ∷ []) (omega arith) (omega arith);
  less_weighed = λ b l. weigh_over _ _ b l _ _ refl _ refl (0 ∷ 1 ∷ 1 ∷ 0 ∷ 0 ∷ []) (omega arith) (omega arith);
  other_bytes = λ b l. weigh_over _ _ b l _ _ refl _ refl (7 ∷ 0 ∷ 128 ∷ 255 ∷ []) (omega arith) (omega arith);
  no_marks = λ b l. weigh_over _ _ b l _ _ refl _ refl (0 ∷ 0 ∷ []) (omega arith) (omega arith);
  short_first = weigh_short _ _;
  reading_second = λ b l. weigh_refused _ _ b l _ refl;
  assumption_third = λ b l. weigh_bad _ _ b l _ _ refl _ refl;
}

-- ---- deficiencies

pub deficiency_cases : DeficiencyCases
unfolding measuring
deficiency_cases = record {
  no_clause = refl;
  matched = refl;
  one_empty = refl;
  two_empty = refl;
  before_stripping = refl;
  more_than_marked = refl;
  three_over = refl;
  three_excess = refl;
  no_bytes = refl;
}

-- ---- waits

-- the gaps of walk calls are those of the plain machine's
gaps_plain : (s : List ℕ) (us : List Assumption) (n : ℕ) (t : List Literal) (cs : List (List Literal)) (row : List ℕ) → acceptance s us ≡ accepted n t cs row → (bs : List ℕ)
    → gaps_under s us bs ≡ gaps (map (plain_result (under n t cs)) (plain_calls (under n t cs) 0 bs))
gaps_plain s us n t cs row e bs =
    ap (λ (rs : List Result). gaps rs) (calls_plain s us (under n t cs) (accepted_posed s us n t cs row e) (call_accepted s us n t cs row e) bs)

both_gaps : (b d : ℕ) → gaps_under example both_given (b ∷ d ∷ []) ≡ to_model 0 0 [] ∷ to_end 0 0 ∷ []
unfolding walk_calls gaps_from trail_in checkpoint_of members bit variables union
both_gaps b d = rw (call_first both_task refl example both_given both_posed both_walks b, call_second both_task refl example both_given both_posed both_walks d)

pub wait_cases : WaitCases
unfolding waiting
wait_cases = record {
  pairs_shared = (refl, refl, refl);
  pairs_ample = gaps_plain _ _ _ _ _ _ refl _;
  pairs_behind = gaps_plain _ _ _ _ _ _ refl _;
  pairs_one = gaps_plain _ _ _ _ _ _ refl _;
  pairs_mixed = gaps_plain _ _ _ _ _ _ refl _;
  pairs_open = gaps_plain _ _ _ _ _ _ refl _;
  none_made = gaps_plain _ _ _ _ _ _ refl _;
  wrong_turn = gaps_plain _ _ _ _ _ _ refl _;
  example_waits = gaps_plain _ _ _ _ _ _ refl _;
  one_assumed = gaps_plain _ _ _ _ _ _ refl _;
  pairs_assumed = gaps_plain _ _ _ _ _ _ refl _;
  stripped_down = gaps_plain _ _ _ _ _ _ refl _;
  nothing_left = both_gaps;
}

-- ---- pages

-- the lines of results, from a serial on, and that they are those of their page
abbrev lines_of : ℕ → ℕ → ℕ → List Result → List (List ℕ)
lines_of n mask serial [] = []
lines_of n mask serial (r ∷ rs) = page_line serial n mask r.model r.steps ∷ lines_of n mask (suc serial) rs

line_these : (n mask serial : ℕ) (rs : List Result) (i : ℕ) → line_at n mask serial rs i ≡ line_of_these (lines_of n mask serial rs) i
line_these n mask serial [] i = refl
line_these n mask serial (r ∷ rs) zero = refl
line_these n mask serial (r ∷ rs) (suc i) = line_these n mask (suc serial) rs i

joined_these : (n mask serial : ℕ) (rs : List Result) (k : ℕ) → joined (line_at n mask serial rs) k ≡ joined (line_of_these (lines_of n mask serial rs)) k
joined_these n mask serial rs k = joined_same (line_at n mask serial rs) (line_of_these (lines_of n mask serial rs)) k (λ i l. line_these n mask serial rs i)

-- a page from the start has the lines of what the plain machine brings
page_plain : (s : List ℕ) (us : List Assumption) (n : ℕ) (t : List Literal) (cs : List (List Literal)) (row : List ℕ) → acceptance s us ≡ accepted n t cs row
    → (serial : ℕ) (b : List ℕ) → page_size ≤ length b → 0 < serial → serial ≤ max_serial
    → (let bs = ample_budgets page_lines in
    let rs = with_models (map (plain_result (under n t cs)) (plain_calls (under n t cs) 0 bs)) in
    page_call s us start serial b
    ≡ record {
      answer = filled_values (length rs);
      checkpoint = checkpoint_after (under n t cs) (state_after (under n t cs) 0 bs);
      page = over (joined (line_of_these (lines_of n (visible (under n t cs)) serial rs)) page_lines) b;
    })
unfolding walk_calls
page_plain s us n t cs row e serial b l some most =
    let P = accepted_posed s us n t cs row e in
    let w = call_accepted s us n t cs row e in
    page_written s us start serial b l some most (calls_unrefused s us (under n t cs) P w (ample_budget ∷ [])).0
    ∙ rw (
      calls_plain s us (under n t cs) P w (ample_budgets page_lines),
      last_plain s us (under n t cs) P w (ample_budgets page_lines),
      e,
      ← joined_these n (visible (under n t cs)) serial (with_models (map (plain_result (under n t cs)) (plain_calls (under n t cs) 0 (ample_budgets page_lines)))) page_lines,
    )

-- a blank line, byte for byte
fifty_nine : blank_line ≡ ascii "                                                           \n"
unfolding blank_line blanks
fifty_nine = refl

pub page_cases : PageCases
unfolding paging
page_cases = record {
  example_page = λ b l. page_plain _ _ _ _ _ _ refl 1 b l (omega arith) (omega arith);
  assumed_page = λ b l. page_plain _ _ _ _ _ _ refl 7 b l (omega arith) (omega arith);
  no_model = fifty_nine;
  short_first = λ c b l. short_page (1 ∷ 2 ∷ []) [] c 0 b l;
  serial_second = λ c b l. bad_serial (1 ∷ 2 ∷ []) [] c 0 b l (inl refl);
  reading_third = λ c b l.
      let e = call_declined (1 ∷ 2 ∷ []) [] _ _ c ample_budget refl in
      page_refused (1 ∷ 2 ∷ []) [] c 1 b l (omega arith) (omega arith) (ap (λ (r : Result). r.kind) e) ∙ rw e;
}

-- ---- variables that no clause names

-- 2 variables and no clause are accepted, with nothing to assign
abbrev none_task : Task
none_task = under 2 [] []

none_accepted : acceptance no_clause [] ≡ accepted 2 [] [] []
unfolding judging
none_accepted = refl

none_posed : Posed none_task
none_posed = accepted_posed no_clause [] 2 [] [] [] none_accepted

none_walks : (c : Checkpoint) (b : ℕ) → walk_call no_clause [] c b ≡ task_call none_task c b
none_walks = call_accepted no_clause [] 2 [] [] [] none_accepted

none_left : to_assign none_task ≡ 0
unfolding members bit variables union
none_left = refl

-- its walk has no checkpoint with a variable in its trail
none_assigned : Has none_task (checkpoint_of 1 (off 1 ∷ [])) → ⊥
unfolding checkpoint_of start
none_assigned w = by ((three_checkpoints none_task none_left (checkpoint_of 1 (off 1 ∷ []))).0 w)
  where
    long : (m : ℕ) → checkpoint_of 1 (off 1 ∷ []) ≡ checkpoint_of m [] → ⊥
    long m e = omega (arith, ap (λ (c : Checkpoint). c.length) e)

    by : (checkpoint_of 1 (off 1 ∷ []) ≡ start) ⊎ ((checkpoint_of 1 (off 1 ∷ []) ≡ checkpoint_of 1 []) ⊎ (checkpoint_of 1 (off 1 ∷ []) ≡ checkpoint_of 4 [])) → ⊥
    by (inl e) = long 0 e
    by (inr (inl e)) = long 1 e
    by (inr (inr e)) = long 4 e

pub unnamed_cases : UnnamedCases
unfolding judging walking printing paging checked satisfied
unnamed_cases = record {
  none_first = λ b. call_first none_task none_left no_clause [] none_posed none_walks b;
  none_second = λ b. call_second none_task none_left no_clause [] none_posed none_walks b;
  none_foreign = λ b. foreign no_clause [] none_task none_posed none_walks (checkpoint_of 1 (off 1 ∷ [])) b none_assigned;
  none_checked = refl;
  none_unlisted = λ m. let e = Memᴰ.eq_of_singleton (rw (one_model none_task none_left) at m) in absurd (omega arith);
  none_assumed = λ b l. page_plain _ _ _ _ _ _ refl 1 b l (omega arith) (omega arith);
  none_assumed_false = λ b l. page_plain _ _ _ _ _ _ refl 1 b l (omega arith) (omega arith);
  two_printed = refl;
  satisfied_walked = walked_plain _ _ _ _ _ _ refl 3;
  satisfied_page = λ b l. page_plain _ _ _ _ _ _ refl 1 b l (omega arith) (omega arith);
}

-- ---- the order of trials

abbrev busy_task : Task
busy_task = under 3 [] busy_clauses

busy_nowhere : located busy_task first_false ≡ nowhere
unfolding locating
busy_nowhere = refl

abbrev failing_task : Task
failing_task = under 3 [] failing_clauses

failing_at : located failing_task first_false ≡ at_state 1
unfolding locating
failing_at = refl

pub order_cases : OrderCases
unfolding judging walking printing locating task_call
order_cases = record {
  busy_order = refl;
  busy_printed = refl;
  failing_order = refl;
  failing_trial = refl;
  failing_printed = refl;
  equal_clauses = refl;
  left_counted = refl;
  earlier_foreign = λ b. call_accepted busy [] 3 [] busy_clauses _ refl first_false b ∙ ap (λ l. by_state busy_task first_false l b) busy_nowhere;
  earlier_fits =
      call_accepted (formula_bytes 3 failing_clauses) [] 3 [] failing_clauses _ refl first_false ample_budget
      ∙ ap (λ l. by_state failing_task first_false l ample_budget) failing_at;
}

-- ---- more cases

-- candidates fail at two nodes: the expansions of their trials count too
pub failed_trials : walked (formula_bytes 4 ((off 1 ∷ off 2 ∷ off 3 ∷ []) ∷ (on 2 ∷ on 3 ∷ on 4 ∷ []) ∷ (on 1 ∷ on 4 ∷ []) ∷ (on 1 ∷ off 4 ∷ []) ∷ [])) 6
    ≡ model_at (1 ∷ 0 ∷ 1 ∷ 0 ∷ []) 4 18
    ∷ model_at (1 ∷ 1 ∷ 0 ∷ 0 ∷ []) 6 0
    ∷ model_at (1 ∷ 0 ∷ 0 ∷ 1 ∷ []) 8 0
    ∷ model_at (1 ∷ 1 ∷ 0 ∷ 1 ∷ []) 2 0
    ∷ model_at (1 ∷ 0 ∷ 1 ∷ 1 ∷ []) 6 0
    ∷ end_at 4 0
    ∷ []
unfolding walking
failed_trials = walked_plain _ _ _ _ _ _ refl 6

-- S12.1: refusals as they are printed: the empty input, `refused 2 0`
pub no_bytes_printed : printed [] ≡ refused_word ++ (blank ∷ 50 ∷ blank ∷ 48 ∷ line_feed ∷ [])
unfolding printing
no_bytes_printed = refl

-- an empty clause alone, `refused 10 1`
pub empty_clause_printed : printed nothing_named ≡ refused_word ++ (blank ∷ 49 ∷ 48 ∷ blank ∷ 49 ∷ line_feed ∷ [])
unfolding printing
empty_clause_printed = refl
