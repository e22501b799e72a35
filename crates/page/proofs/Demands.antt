-- S19: what the act page owes. s is the input, us are the assumptions, c is the checkpoint handed in, `serial` the first serial, `before`
-- the page as it was lent.
use Prim.Native.Nat.{ℕ, suc, ◌+◌, ◌*◌, ◌-◌, ◌≤◌, ◌<◌}
use mathlib.Core.Bool.{true, false}
use mathlib.Core.List.{List, [], ◌∷◌, ◌++◌, map}
use mathlib.Core.Logic.{◌⊎◌, inr, ◌↔◌}
use mathlib.Core.Path.{◌≡◌, sym, ap, ap₂, ◌∙◌}
use native.Mathlib.Omega.{arith}
use lib.ListN.{length, get_or, take, drop, length-append, length-take, length-map, take-append-drop}
use lib.Seq.{take_all, get_or-take}
use Rattle.limits.specs.Limits.{max_clauses}
use Rattle.writing.specs.Text.{digit, dash}
use Rattle.writing.proofs.ColumnLaws.{column_dash, column_digit}
use Rattle.lists.specs.Over.{over}
use Rattle.lists.specs.Distinct.{Distinct}
use Rattle.lists.specs.Every.{Every}
use Rattle.lists.proofs.DistinctLaws.{distinct-first}
use Rattle.formula.specs.declared.Refusal.TheVariants.{Unmatched, ShortPage, BadSerial}
use Rattle.formula.specs.Format.{Literal, names, Encodes}
use Rattle.assumptions.specs.declared.Assumption.{Assumption}
use Rattle.assumptions.specs.Assumed.{literal_of}
use Rattle.assumptions.specs.FirstBad.{NoneBad}
use Rattle.splitting.specs.Nodes.{named}
use Rattle.matched.specs.Acceptance.{acceptance}
use Rattle.matched.specs.Judge.{refused_values, judge}
use Rattle.matched.specs.Pairing.{Pairs, left_of}
use Rattle.walk.specs.Task.{Task, under, to_assign, visible, Posed}
use Rattle.walk.specs.Plain.{plain_walk, models_of, listing}
use Rattle.walk.specs.Checkpoints.{Checkpoint, trail_in, checkpoint_of, start}
use Rattle.walk.specs.PlainMachine.{ended, state_after, Has}
use Rattle.walk.specs.Results.{says_model, says_ended, says_refused, Result}
use Rattle.walk.specs.Gaps.{ModelTrail, shared, ample_budget}
use Rattle.walk.specs.WalkCall.{walk_call, walk_calls}
use Rattle.walk.specs.InnerLocate.{task_call}
use Rattle.walk.proofs.TaskLaws.{answer_unrefused}
use Rattle.walk.proofs.HasLaws.{start_has}
use Rattle.walk.proofs.Demands as walk
use Rattle.walk.proofs.Demands.{visible_exactly, hidden_exactly, from_end}
use Rattle.page.specs.PageLines.{page_lines, line_size, page_size, page_columns, page_line, blank_line}
use Rattle.page.specs.Pages.{ample_budgets, next_results, next_checkpoint, steps_at, trail_at, line_at, joined, filled_values, PageCall, unfilled, refusing_page, accepted_variables, accepted_visible, max_serial, line_of_page, filling_page, page_call, page_calls}
use Rattle.page.proofs.LineLaws.{columns-front}
use Rattle.page.proofs.LineAtLaws as lines
use Rattle.page.proofs.NextModelLaws as nexts
use Rattle.page.proofs.PageWaitLaws as waits
use Rattle.page.proofs.PageCallLaws as pages
use Rattle.page.proofs.ConsecutiveLaws as follow

-- ---- lines

-- Line i is that of result i, with the serial i above the first; or blank, if there is no such result.
pub line_told : (n mask serial : ℕ) (rs : List Result) (i : ℕ) → i < length rs
    → line_at n mask serial rs i ≡ page_line (serial + i) n mask (get_or (map (λ r. r.model) rs) i 0) (steps_at rs i)
line_told = lines.line_told

pub line-none : (n mask serial : ℕ) (rs : List Result) (i : ℕ) → length rs ≤ i → line_at n mask serial rs i ≡ blank_line
line-none = lines.line-none

module _ (s : List ℕ) (us : List Assumption) (c : Checkpoint) (serial : ℕ) where
  -- S19.1: every line has 60 bytes: a serial has at most 6 digits, and the steps at most 3
  pub line_sixty : serial ≤ max_serial → (i : ℕ) → i < page_lines → length (line_of_page s us c serial i) ≡ line_size
  line_sixty = pages.lines_sixty s us c serial

  module _ (before : List ℕ) where
    -- a page that is not refused: line i stands in bytes 60 i to 60 i + 59, and the 50 lines are the first 3,000 bytes
    pub line_stands : (page_call s us c serial before).answer.number ≡ 0 → (i : ℕ) → i < page_lines
        → take line_size (drop (line_size * i) (page_call s us c serial before).page) ≡ line_of_page s us c serial i
    line_stands h i l = let w = pages.numberless_filled s us c serial before h in rw w.1 (pages.filled_line s us c serial w.0 before i l)

    pub lines_stand : (page_call s us c serial before).answer.number ≡ 0 → take page_size (page_call s us c serial before).page ≡ joined (line_of_page s us c serial) page_lines
    lines_stand h = let w = pages.numberless_filled s us c serial before h in rw w.1 (pages.filled_lines s us c serial w.0 before)

    -- S19.4: whatever the answer, the bytes behind the page and its length stay
    pub page_remains : drop page_size (page_call s us c serial before).page ≡ drop page_size before
    page_remains = pages.call_remains s us c serial before

    pub page_length : length (page_call s us c serial before).page ≡ length before
    page_length = pages.call_length s us c serial before

    -- ---- refusals

    -- S19.4: a refusal fills no line, gives back the checkpoint as it was handed in, and leaves the page as it was
    pub refused_keeps : ((page_call s us c serial before).answer.number ≡ 0 → ⊥)
        → (let p = page_call s us c serial before in p ≡ unfilled p.answer.number p.answer.place c before)
    refused_keeps = pages.numbered_unfilled s us c serial before

    -- S19.3: 17 first, exactly for a short page; 18 then, exactly for a bad serial; both at place 0
    pub short_page : length before < page_size → page_call s us c serial before ≡ refusing_page (ShortPage 0) c before
    short_page = pages.short_refused s us c serial before

    pub short_exactly : ((page_call s us c serial before).answer.number ≡ 17) ↔ (length before < page_size)
    short_exactly = (pages.numbered_short s us c serial before, λ h. ap (λ (p : PageCall). p.answer.number) (short_page h))

    pub bad_serial : page_size ≤ length before → (serial ≡ 0) ⊎ (max_serial < serial) → page_call s us c serial before ≡ refusing_page (BadSerial 0) c before
    bad_serial = pages.bad_refused s us c serial before

    pub serial_exactly : ((page_call s us c serial before).answer.number ≡ 18) ↔ ((page_size ≤ length before) × ((serial ≡ 0) ⊎ (max_serial < serial)))
    serial_exactly = (pages.numbered_serial s us c serial before, λ w. ap (λ (p : PageCall). p.answer.number) (bad_serial w.0 w.1))

    module _ (room : page_size ≤ length before) (some : 0 < serial) (most : serial ≤ max_serial) where
      -- then what walk refuses, in walk's order, with its number and place
      pub page_refused : (walk_call s us c ample_budget).kind ≡ says_refused
          → page_call s us c serial before ≡ unfilled (walk_call s us c ample_budget).number (walk_call s us c ample_budget).place c before
      page_refused = pages.walk_refused s us c serial before room some most

      -- S20.1: among these 10 for an input of which what stripping leaves is not matched, with the number of marks that judge gives;
      pub page_unmatched : (buffer : List ℕ) (n : ℕ) (cs : List (List Literal)) → max_clauses ≤ length buffer → Encodes s n cs → NoneBad n us
          → ((vs : List ℕ) → Pairs (left_of n (map literal_of us) cs) vs → ⊥)
          → (k : ℕ) × ((judge s us buffer).answer ≡ refused_values (Unmatched k)) × (page_call s us c serial before ≡ refusing_page (Unmatched k) c before)
      page_unmatched buffer n cs l w good none =
          let x = walk.unmatched s us buffer n cs l w good none in
          let e = x.2 c ample_budget in
          (x.0, x.1, page_refused (ap (λ (r : Result). r.kind) e) ∙ ap (λ (r : Result). unfilled r.number r.place c before) e)

      -- and all else is written
      pub page_written : ((walk_call s us c ample_budget).kind ≡ says_refused → ⊥) → page_call s us c serial before ≡ filling_page s us c serial before
      page_written = pages.unrefused_filled s us c serial before room some most

-- The serial says nothing but itself: how many lines are filled and the next checkpoint are the same for all that are not bad.
pub serial_free : (s : List ℕ) (us : List Assumption) (c : Checkpoint) (serial other : ℕ) (before : List ℕ) → 0 < serial → serial ≤ max_serial → 0 < other → other ≤ max_serial
    → ((page_call s us c serial before).answer ≡ (page_call s us c other before).answer) × ((page_call s us c serial before).checkpoint ≡ (page_call s us c other before).checkpoint)
serial_free = pages.serials_alike

-- ---- pages of an accepted formula: the input encodes n and cs, none of the assumptions is bad, and vs is a matching of what stripping
-- leaves of what remains of the clauses

module _ (s : List ℕ) (us : List Assumption) (n : ℕ) (cs : List (List Literal)) (encodes : Encodes s n cs) (good : NoneBad n us)
    (vs : List ℕ) (pairs : Pairs (left_of n (map literal_of us) cs) vs) where
  -- what its walk is over
  abbrev pub task : Task
  task = under n (map literal_of us) cs

  posed : Posed task
  posed = walk.posed s us n cs encodes good vs pairs

  walks : (c : Checkpoint) (b : ℕ) → walk_call s us c b ≡ task_call task c b
  walks = walk.walks s us n cs encodes good vs pairs

  -- the columns are those of its n variables
  pub page_variables : accepted_variables (acceptance s us) ≡ n
  page_variables = ap accepted_variables (walk.accepted_row s us n cs encodes good vs pairs).1

  -- S23.3: and they show the values of the variables that some clause names or that are assumed, and no others (`dash_exactly`)
  pub page_visible : accepted_visible (acceptance s us) ≡ visible task
  page_visible = ap accepted_visible (walk.accepted_row s us n cs encodes good vs pairs).1

  -- The column of a variable is a dash exactly if no clause names it and it is not assumed,
  pub dash_exactly : (a v : ℕ) → v < n → (get_or (page_columns n (visible task) a) v 0 ≡ dash) ↔ ((named cs v ≡ false) × (names (map literal_of us) v ≡ false))
  dash_exactly a v h =
      let d = column_dash n (visible task) a v h in
      let w = hidden_exactly n us cs v in
      let e = columns-front n (visible task) a v h in
      (λ x. w.0 (d.0 (sym e ∙ x)), λ x. e ∙ d.1 (w.1 x))

  -- else the digit of its value;
  pub digit_exactly : (a v : ℕ) → v < n → (named cs v ≡ true) ⊎ (names (map literal_of us) v ≡ true) → get_or (page_columns n (visible task) a) v 0 ≡ digit a v
  digit_exactly a v h o = columns-front n (visible task) a v h ∙ column_digit n (visible task) a v h ((visible_exactly n us cs v).1 o)

  -- From a checkpoint that the walk has, with so many entries of the plain walk behind it, and for any number k of calls:
  module _ (c : Checkpoint) (w : Has task c) (k : ℕ) where
    -- S19.2: the models are the next ones of the walk, in order, k of them or all that are left
    pub page_models : map (λ r. r.model) (next_results s us c k) ≡ take k (models_of (drop (state_after task 0 w.0) (plain_walk task)))
    page_models = (nexts.nexts s us task posed walks k c w).models

    -- no call says spent or refused
    pub page_answers : Every (λ r. (r.kind ≡ says_model) ⊎ (r.kind ≡ says_ended)) (walk_calls s us c (ample_budgets k))
    page_answers = (nexts.nexts s us task posed walks k c w).answers

    -- the next checkpoint is that of the k-th model's call, mode 1, since then every call brings a model;
    pub page_full : length (next_results s us c k) ≡ k → Every (λ r. r.kind ≡ says_model) (walk_calls s us c (ample_budgets k))
    page_full = nexts.next_full s us task posed walks c w k

    pub page_behind : 0 < k → length (next_results s us c k) ≡ k → (next_checkpoint s us c k).mode ≡ 1
    page_behind = nexts.next_behind s us task posed walks c w k

    -- if fewer come it is that of the end, mode 4, and only then;
    pub page_fewer : length (next_results s us c k) < k → next_checkpoint s us c k ≡ checkpoint_of 4 []
    page_fewer = nexts.next_fewer s us task posed walks c w k

    pub page_mode : 0 < k → ((next_checkpoint s us c k).mode ≡ 4) ↔ (length (next_results s us c k) < k)
    page_mode = nexts.next_mode s us task posed walks c w k

    -- and the walk has it.
    pub page_has : Has task (next_checkpoint s us c k)
    page_has = (nexts.nexts s us task posed walks k c w).has

    -- S21.1: each of its results has the trail of its model,
    pub page_trails : Every (λ r. (x : List Literal) × ModelTrail task r x) (next_results s us c k)
    page_trails = waits.next_trails s us task posed walks k c w

    -- S21.4: and from the second line on the steps on a line (`line_told`) are the wait between its model and that of the line before: twice
    -- the variables that are assigned after the longest beginning that their trails share.
    pub page_waits : (i : ℕ) → suc i < length (next_results s us c k)
        → (let rs = next_results s us c k in steps_at rs (suc i) ≡ 2 * (length (trail_at rs (suc i)) - shared (trail_at rs i) (trail_at rs (suc i))))
    page_waits = waits.waits_between s us task posed walks c w k

    -- On the first line it is so if the checkpoint that is handed in is that of a model, mode 1 with every variable to assign in its trail.
    pub page_wait_first : c.mode ≡ 1 → c.length ≡ to_assign task → 0 < length (next_results s us c k)
        → (let rs = next_results s us c k in steps_at rs 0 ≡ 2 * (length (trail_at rs 0) - shared (trail_in c) (trail_at rs 0)))
    page_wait_first m l h = waits.wait_first s us task posed walks c w m l k h

  -- S19.2: such a page is written;
  pub page_filled : (c : Checkpoint) → Has task c → (serial : ℕ) (before : List ℕ) → page_size ≤ length before → 0 < serial → serial ≤ max_serial
      → page_call s us c serial before ≡ filling_page s us c serial before
  page_filled c w serial before room some most =
      page_written s us c serial before room some most (nexts.one_unrefused s us task posed walks c w)

  -- from the end it is blank.
  pub page_from_end : (serial : ℕ) (before : List ℕ) → page_size ≤ length before → 0 < serial → serial ≤ max_serial
      → page_call s us (checkpoint_of 4 []) serial before
      ≡ record { answer = filled_values 0; checkpoint = checkpoint_of 4 []; page = over (joined (λ i. blank_line) page_lines) before }
  page_from_end serial before room some most =
      page_written s us (checkpoint_of 4 []) serial before room some most (rw (from_end s us n cs encodes good vs pairs ample_budget) (answer_unrefused ended))
      ∙ rw (nexts.end_results s us task posed walks page_lines, nexts.end_checkpoint s us task posed walks page_lines)

  -- S21.4: from the start the first line has as many steps as there are variables to assign.
  pub page_wait_start : (k : ℕ) → 0 < length (next_results s us start k) → steps_at (next_results s us start k) 0 ≡ to_assign task
  page_wait_start = waits.wait_start s us task posed walks

  -- The bytes of every line but the first of a page that is not refused, with its wait.
  pub page_line_waits : (c : Checkpoint) → Has task c → (serial : ℕ) (before : List ℕ) → (page_call s us c serial before).answer.number ≡ 0 → (i : ℕ) → suc i < page_lines
      → (let rs = next_results s us c page_lines in suc i < length rs
      → take line_size (drop (line_size * suc i) (page_call s us c serial before).page)
      ≡ page_line (serial + suc i) n (visible task) (get_or (map (λ r. r.model) rs) (suc i) 0) (2 * (length (trail_at rs (suc i)) - shared (trail_at rs i) (trail_at rs (suc i)))))
  page_line_waits c w serial before h i l m =
      let rs = next_results s us c page_lines in
      line_stands s us c serial before h (suc i) l
      ∙ line_told (accepted_variables (acceptance s us)) (accepted_visible (acceptance s us)) serial rs (suc i) m
      ∙ rw (page_variables, page_visible, page_waits c w page_lines i m)

  -- S19.5: pages one after the other, from the start checkpoint and the serial `first`, each into one of the lent `buffers`, no serial
  -- handed in above the highest
  module _ (first : ℕ) (buffers : List (List ℕ)) (some : 0 < first) (most : first + page_lines * (length buffers - 1) ≤ max_serial)
      (room : Every (λ b. page_size ≤ length b) buffers) where
    -- the calls that they stand for: 50 for each page
    abbrev pub all_results : List Result
    all_results = next_results s us start (page_lines * length buffers)

    begins : follow.Begins s us task posed walks start first (length buffers)
    begins = record { has = start_has s us task posed walks; some = some; most = λ j l. omega arith }

    -- these bring the first models of the listing, 50 for each page, or all of it if it has fewer
    pub pages_models : map (λ r. r.model) all_results ≡ take (page_lines * length buffers) (listing task)
    pages_models = nexts.start_models s us task posed walks (page_lines * length buffers)

    -- no page is refused
    pub pages_written : Every (λ p. p.answer.number ≡ 0) (page_calls s us start first buffers)
    pages_written = follow.pages_written s us task posed walks buffers start first begins room

    -- the page p behind the pages ps has 50 lines of the whole, those behind the 50 of each page before: so model i (from 0) has the serial
    -- `first` + i (`pages_model`), and no model is on two lines: `pages_once`;
    pub pages_lines : (ps qs : List PageCall) (p : PageCall) → page_calls s us start first buffers ≡ ps ++ (p ∷ qs) → (i : ℕ) → i < page_lines
        → take line_size (drop (line_size * i) p.page) ≡ line_at n (visible task) first all_results (page_lines * length ps + i)
    pages_lines ps qs p e i l =
        follow.behind_line s us task posed walks buffers start first begins room ps qs p e i l
        ∙ ap₂ (λ (k m : ℕ). line_at k m first all_results (page_lines * length ps + i)) page_variables page_visible

    -- so many of its lines are filled;
    pub pages_count : (ps qs : List PageCall) (p : PageCall) → page_calls s us start first buffers ≡ ps ++ (p ∷ qs)
        → p.answer.lines ≡ length (take page_lines (drop (page_lines * length ps) all_results))
    pages_count = follow.behind_count s us task posed walks buffers start first begins room

    -- and the checkpoint that it returns is that behind its last model.
    pub pages_checkpoint : (ps qs : List PageCall) (p : PageCall) → page_calls s us start first buffers ≡ ps ++ (p ∷ qs)
        → p.checkpoint ≡ next_checkpoint s us start (page_lines * (length ps + 1))
    pages_checkpoint = follow.behind_checkpoint s us task posed walks buffers start first begins room

    -- There is one page for each buffer,
    pub pages_number : length (page_calls s us start first buffers) ≡ length buffers
    pages_number = follow.pages-length s us buffers start first

    -- and no model is on two lines.
    pub pages_once : Distinct (map (λ r. r.model) all_results)
    pages_once =
        let k = page_lines * length buffers in
        let once : Distinct (take k (listing task) ++ drop k (listing task)) =
        rw (take-append-drop k (listing task)) (walk.demand_3 s us n cs encodes good vs pairs []).once in
        rw pages_models (distinct-first (take k (listing task)) (drop k (listing task)) once)

    -- as many results come as models of the listing have a line
    results_number : length all_results ≡ length (take (page_lines * length buffers) (listing task))
    results_number = sym (length-map all_results (λ r. r.model)) ∙ ap length pages_models

    -- line i of the page is one of the lines of all
    line_among : (ps qs : List PageCall) (p : PageCall) → page_calls s us start first buffers ≡ ps ++ (p ∷ qs) → (i : ℕ) → i < page_lines
        → page_lines * length ps + i < page_lines * length buffers
    line_among ps qs p e i l = omega (arith, pages_number, ap length e, length-append ps (p ∷ qs))

    -- line k of all
    model_line : (k : ℕ) → k < page_lines * length buffers → k < length (listing task)
        → line_at n (visible task) first all_results k ≡ page_line (first + k) n (visible task) (get_or (listing task) k 0) (steps_at all_results k)
    model_line k j h =
        line_told n (visible task) first all_results k (omega (arith, results_number, length-take (page_lines * length buffers) (listing task)))
        ∙ ap (λ (a : ℕ). page_line (first + k) n (visible task) a (steps_at all_results k))
        (ap (λ (l : List ℕ). get_or l k 0) pages_models ∙ get_or-take (page_lines * length buffers) (listing task) k 0 j)

    -- Model k of the listing, from 0, is on line k of all, with the serial `first` + k, and with the steps of S21.4 (`page_waits` and
    -- `page_wait_start`, of the calls that all these pages stand for);
    pub pages_model : (ps qs : List PageCall) (p : PageCall) → page_calls s us start first buffers ≡ ps ++ (p ∷ qs) → (i : ℕ) → i < page_lines
        → page_lines * length ps + i < length (listing task)
        → take line_size (drop (line_size * i) p.page)
        ≡ page_line (first + (page_lines * length ps + i)) n (visible task) (get_or (listing task) (page_lines * length ps + i) 0)
        (steps_at all_results (page_lines * length ps + i))
    pages_model ps qs p e i l h = pages_lines ps qs p e i l ∙ model_line (page_lines * length ps + i) (line_among ps qs p e i l) h

    -- the lines behind the last model are blank.
    pub pages_blank : (ps qs : List PageCall) (p : PageCall) → page_calls s us start first buffers ≡ ps ++ (p ∷ qs) → (i : ℕ) → i < page_lines
        → length (listing task) ≤ page_lines * length ps + i → take line_size (drop (line_size * i) p.page) ≡ blank_line
    pages_blank ps qs p e i l h =
        let none : length all_results ≤ page_lines * length ps + i =
        omega (arith, results_number, length-take (page_lines * length buffers) (listing task)) in
        pages_lines ps qs p e i l ∙ line-none n (visible task) first all_results (page_lines * length ps + i) none

    -- Behind the last serial that is not too high, the next page is refused by 18 and leaves everything; and the walk goes on under any other.
    module _ (other : ℕ) (b : List ℕ) (lent : page_size ≤ length b) where
      pub pages_over : max_serial < other → (let c = next_checkpoint s us start (page_lines * length buffers) in page_call s us c other b ≡ refusing_page (BadSerial 0) c b)
      pages_over h = bad_serial s us _ other b lent (inr h)

      pub pages_onward : 0 < other → other ≤ max_serial
          → (let c = next_checkpoint s us start (page_lines * length buffers) in page_call s us c other b ≡ filling_page s us c other b)
      pages_onward = page_filled _ (page_has start (start_has s us task posed walks) (page_lines * length buffers)) other b lent

    -- If the listing has fewer models than the pages have lines, every model is on a line, and some page has fewer than 50.
    pub pages_all : length (listing task) < page_lines * length buffers → map (λ r. r.model) all_results ≡ listing task
    pages_all h = pages_models ∙ take_all (page_lines * length buffers) (listing task) (omega arith)

    pub pages_end : length (listing task) < page_lines * length buffers
        → (ps : List PageCall) × (p : PageCall) × (qs : List PageCall) × (page_calls s us start first buffers ≡ ps ++ (p ∷ qs)) × (p.answer.lines < page_lines)
    pages_end h =
        follow.last_fewer s us task posed walks buffers start first begins room
        (omega (arith, length-map all_results (λ r. r.model), ap length (pages_all h)))
