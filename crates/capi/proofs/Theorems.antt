-- What holds of the interface: no byte of a checkpoint is lost, a refused call leaves it as it was and brings no model and no line, a
-- refused conversion leaves its buffer, the marks that judge leaves weigh one variable fewer than clauses (S20.2), and calls from the start
-- checkpoint make the walk of demand 3 (S10) and the pages of S19.5.
use Prim.Native.Nat.{ℕ, zero, suc, ◌+◌, ◌-◌, ◌%◌, ◌≤◌}
use mathlib.Core.Bool.{Bool, true, false, cond}
use mathlib.Core.List.{List, [], ◌∷◌, map}
use mathlib.Core.Logic.{⊎_elim}
use mathlib.Core.Path.{◌≡◌, refl, ap, ◌∙◌}
use native.Mathlib.Omega.{arith}
use borrow.Author.Tests.{eq-eqb}
use lib.Dec.{eqb}
use lib.ListN.{length, get_or, replicate}
use Rattle.limits.specs.Limits.{max_variables}
use Rattle.lists.specs.Over.{over}
use Rattle.lists.proofs.PaddedLaws.{padded_none}
use Rattle.formula.specs.Format.{Literal, Encodes}
use Rattle.assumptions.specs.declared.Assumption.{Assumption}
use Rattle.assumptions.specs.Assumed.{literal_of}
use Rattle.assumptions.specs.FirstBad.{NoneBad}
use Rattle.assumptions.specs.Bytes.{of_bytes}
use Rattle.matched.specs.Pairing.{Pairs, left_of}
use Rattle.matched.specs.Weigh.{WeighedValues}
use Rattle.matched.proofs.Demands.{weighed_violator}
use Rattle.dimacs.specs.Convert.{Conversion, to_encoded, to_text}
use Rattle.dimacs.proofs.Demands.{read_untouched, write_untouched}
use Rattle.walk.specs.Task.{under}
use Rattle.walk.specs.Checkpoints.{Checkpoint, checkpoint_of, start}
use Rattle.walk.specs.WalkCall.{walk_call, walk_calls, last_checkpoint}
use Rattle.walk.specs.Results.{AnswerKind, says_model, says_spent, says_ended, says_refused, Result}
use Rattle.walk.proofs.RefusalLaws.{call_bytes}
use Rattle.walk.proofs.Demands.{Dealt, demand_3}
use Rattle.enumeration.proofs.RefusedLaws.{refuses_or_goes}
use Rattle.enumeration.proofs.ListTheorems.{next_refused}
use Rattle.page.specs.PageLines.{page_lines}
use Rattle.page.specs.Pages.{ample_budgets, PageCall, page_call, page_calls}
use Rattle.page.proofs.PageCallLaws.{by_answer}
use Rattle.page.proofs.Demands.{refused_keeps}
use Rattle.capi.specs.Interface.{results_size, checkpoint_size, assumption_size, kind_code, weigh_results, walk_results, page_results, checkpoint_bytes, checkpoint_in, judge_called, weigh_called, conversion_called, from_dimacs_called, to_dimacs_called, start_called, walk_told, walk_called, walks_called, list_called, page_shown, page_called, pages_called}
use Rattle.capi.proofs.CallLaws.{judge_called_is, weigh_called_is, start_written, walk_called_is, list_called_is, page_called_is}

-- ---- the bytes of a checkpoint

pub read_back : (c : Checkpoint) → checkpoint_in (checkpoint_bytes c) ≡ c
read_back c = refl

pub written_back : (b : List ℕ) → length b ≡ checkpoint_size → checkpoint_bytes (checkpoint_in b) ≡ b
written_back [] h = absurd (omega arith)
written_back (m ∷ []) h = absurd (omega arith)
written_back (m ∷ l ∷ b) h = refl

-- the start checkpoint is 50 zeros
pub start-zeros : checkpoint_bytes start ≡ replicate checkpoint_size 0
unfolding start checkpoint_of
start-zeros = ap (λ (t : List ℕ). 0 ∷ 0 ∷ t) (padded_none max_variables 0)

-- ---- refused calls

-- which answer the results say
kind_refused : (q : AnswerKind) → kind_code q ≡ kind_code says_refused → q ≡ says_refused
kind_refused says_model e = absurd (omega arith)
kind_refused says_spent e = absurd (omega arith)
kind_refused says_ended e = absurd (omega arith)
kind_refused says_refused e = refl

-- a page whose results say refused has a refusal's number, whatever its lines
page_said : (number lines : ℕ) → cond (eqb number 0) (cond (eqb lines page_lines) 0 2) 3 ≡ kind_code says_refused → number ≡ 0 → ⊥
page_said (suc number) lines e z = omega arith
page_said zero lines e z = at (eqb lines page_lines) e
  where
    at : (x : Bool) → cond x 0 2 ≡ kind_code says_refused → ⊥
    at true e = omega arith
    at false e = omega arith

-- S3.3: a refused walk call returns the checkpoint that it was given
refused_kept : (s : List ℕ) (us : List Assumption) (c : Checkpoint) (b : ℕ) → (walk_call s us c b).kind ≡ says_refused → (walk_call s us c b).checkpoint ≡ c
refused_kept s us c b h = ⊎_elim (λ w. ap (λ (r : Result). r.checkpoint) (w.1 b)) (λ w. absurd (w.0 b h)) (refuses_or_goes s us c)

module _ (s assumptions checkpoint results : List ℕ) (g : length assumptions % assumption_size ≡ 0)
    (h : length checkpoint ≡ checkpoint_size) (k : length results ≡ results_size) where
  -- A refused norwythai_walk leaves the checkpoint's bytes, place 1, as they were; place 2 has the results.
  pub walk_refused : (b : ℕ) → (let after = walk_called s assumptions checkpoint b results in
      get_or after.2 0 0 ≡ kind_code says_refused → after.1 ≡ checkpoint)
  walk_refused b e =
      let q = walk_called_is s assumptions checkpoint results b g h k in
      let r = kind_refused _ (rw q at e) in
      rw q (ap checkpoint_bytes (refused_kept s (of_bytes assumptions) (checkpoint_in checkpoint) b r) ∙ written_back checkpoint h)

  -- A refused norwythai_list has written no model: results[4] is 0, and the models, place 2, and the checkpoint's bytes, place 1, are as
  -- they were.
  pub list_refused : (models : List ℕ) → (let after = list_called s assumptions checkpoint models results in
      get_or after.3 0 0 ≡ kind_code says_refused → (get_or after.3 4 0 ≡ 0) × (after.2 ≡ models) × (after.1 ≡ checkpoint))
  list_refused models e =
      let q = list_called_is s assumptions checkpoint models results g h k in
      let w = next_refused s (of_bytes assumptions) (checkpoint_in checkpoint) (length models) (kind_refused _ (rw q at e)) in
      rw q (ap length w.0, ap (λ (m : List ℕ). over m models) w.0, ap checkpoint_bytes w.1 ∙ written_back checkpoint h)

  -- A refused norwythai_page has filled no line: results[4] is 0, and the page, place 2, and the checkpoint's bytes, place 1, are as they
  -- were.
  pub page_refused : (serial : ℕ) (page : List ℕ) → (let after = page_called s assumptions checkpoint serial page results in
      get_or after.3 0 0 ≡ kind_code says_refused → (get_or after.3 4 0 ≡ 0) × (after.2 ≡ page) × (after.1 ≡ checkpoint))
  page_refused serial page e =
      let q = page_called_is s assumptions checkpoint page results serial g h k in
      let a = (page_call s (of_bytes assumptions) (checkpoint_in checkpoint) serial page).answer in
      let w = refused_keeps s (of_bytes assumptions) (checkpoint_in checkpoint) serial page (page_said a.number a.lines (rw q at e)) in
      rw q (
        ap (λ (p : PageCall). p.answer.lines) w,
        ap (λ (p : PageCall). p.page) w,
        ap (λ (p : PageCall). checkpoint_bytes p.checkpoint) w ∙ written_back checkpoint h,
      )

-- a refused conversion leaves the buffer and has written no byte
abbrev Kept : List ℕ → Conversion → Type 0
Kept b c = 1 ≤ c.answer.number → (c.buffer ≡ b) × (c.answer.count ≡ 0)

module _ (s buffer results : List ℕ) (k : length results ≡ results_size) where
  called_kept : (c : Conversion) → Kept buffer c → (let after = conversion_called c buffer results in
      get_or after.2 0 0 ≡ kind_code says_refused → (after.1 ≡ buffer) × (get_or after.2 4 0 ≡ 0))
  unfolding conversion_called
  called_kept c w = rw (eq-eqb _ _ k) (go c.answer.number w)
    where
      go : (x : ℕ) → (1 ≤ x → (c.buffer ≡ buffer) × (c.answer.count ≡ 0)) → cond (eqb x 0) 0 3 ≡ kind_code says_refused → (c.buffer ≡ buffer) × (c.answer.count ≡ 0)
      go zero w e = absurd (omega arith)
      go (suc x) w e = w (omega arith)

  -- A refused norwythai_from_dimacs or norwythai_to_dimacs has written no byte: results[4] is 0, and the buffer, place 1, is as it was.
  pub from_dimacs_refused : (let after = from_dimacs_called s buffer results in
      get_or after.2 0 0 ≡ kind_code says_refused → (after.1 ≡ buffer) × (get_or after.2 4 0 ≡ 0))
  from_dimacs_refused = called_kept (to_encoded s buffer) (read_untouched s buffer)

  pub to_dimacs_refused : (let after = to_dimacs_called s buffer results in
      get_or after.2 0 0 ≡ kind_code says_refused → (after.1 ≡ buffer) × (get_or after.2 4 0 ≡ 0))
  to_dimacs_refused = called_kept (to_text s buffer) (write_untouched s buffer)

-- ---- marks

module _ (s assumptions buffer results others : List ℕ) (g : length assumptions % assumption_size ≡ 0)
    (k : length results ≡ results_size) (l : length others ≡ results_size) where
  -- S20.2 in the interface: after a norwythai_judge whose results, place 2, say refusal 10, norwythai_weigh of the same input, the same
  -- assumptions and the buffer as judge left it, place 1, returns 0 and answers 0: results[4], the clauses, is judge's results[3], and
  -- results[5], the variables, is one fewer.
  pub judged_weighed : (let after = judge_called s assumptions buffer results in
      get_or after.2 2 0 ≡ 10
      → (let marked = get_or after.2 3 0 in weigh_called s assumptions after.1 others ≡ (0, 0 ∷ 0 ∷ 0 ∷ 0 ∷ marked ∷ (marked - 1) ∷ [])))
  judged_weighed =
      rw (judge_called_is s assumptions buffer results g k)
      (λ e. weigh_called_is s assumptions _ others g l
      ∙ ap (λ (w : WeighedValues). (0, weigh_results w)) (weighed_violator s (of_bytes assumptions) buffer e))

-- ---- lists of calls

-- walk calls, and a page call, from a checkpoint of 48 bytes return one of 48 bytes
module _ (s : List ℕ) (us : List Assumption) where
  last_bytes : (c : Checkpoint) (bs : List ℕ) → length c.bytes ≡ max_variables → length (last_checkpoint s us c bs).bytes ≡ max_variables
  unfolding last_checkpoint
  last_bytes c [] h = h
  last_bytes c (b ∷ bs) h = last_bytes (walk_call s us c b).checkpoint bs (call_bytes s us c b h)

  page_bytes : (c : Checkpoint) (serial : ℕ) (before : List ℕ) → length c.bytes ≡ max_variables
      → length (page_call s us c serial before).checkpoint.bytes ≡ max_variables
  page_bytes c serial before h =
      by_answer s us c serial before (λ p. length p.checkpoint.bytes ≡ max_variables)
      (λ l. h) (λ room b. h) (λ room some most q. h) (λ room some most q. last_bytes c (ample_budgets page_lines) h)

module _ (s assumptions : List ℕ) (g : length assumptions % assumption_size ≡ 0) where
  -- from a checkpoint of 48 bytes they are the walk calls
  calls_walked :
      (c : Checkpoint) (results bs : List ℕ) →
      length c.bytes ≡ max_variables →
      length results ≡ results_size →
      walks_called s assumptions (checkpoint_bytes c) results bs ≡ map walk_told (walk_calls s (of_bytes assumptions) c bs)
  unfolding walks_called walk_calls
  calls_walked c results [] h k = refl
  calls_walked c results (b ∷ bs) h k =
      let l : length (checkpoint_bytes c) ≡ checkpoint_size = omega arith in
      let r = walk_call s (of_bytes assumptions) c b in
      rw (walk_called_is s assumptions (checkpoint_bytes c) results b g l k)
      (ap (λ (t : List (ℕ × List ℕ × List ℕ)). walk_told r ∷ t)
      (calls_walked r.checkpoint (walk_results r) bs (call_bytes s (of_bytes assumptions) c b h) refl))

  -- from a checkpoint of 48 bytes they are the page calls
  calls_paged :
      (c : Checkpoint) (serial : ℕ) (results : List ℕ) (bs : List (List ℕ)) →
      length c.bytes ≡ max_variables →
      length results ≡ results_size →
      pages_called s assumptions (checkpoint_bytes c) serial results bs ≡ map page_shown (page_calls s (of_bytes assumptions) c serial bs)
  unfolding pages_called page_calls
  calls_paged c serial results [] h k = refl
  calls_paged c serial results (b ∷ bs) h k =
      let l : length (checkpoint_bytes c) ≡ checkpoint_size = omega arith in
      let p = page_call s (of_bytes assumptions) c serial b in
      rw (page_called_is s assumptions (checkpoint_bytes c) b results serial g l k)
      (ap (λ (t : List (ℕ × List ℕ × List ℕ × List ℕ)). page_shown p ∷ t)
      (calls_paged p.checkpoint (serial + page_lines) (page_results p.answer) bs (page_bytes s (of_bytes assumptions) c serial b h) refl))

  module _ (checkpoint results : List ℕ) (h : length checkpoint ≡ checkpoint_size) (k : length results ≡ results_size) where
    -- S10, demand 3, in the interface: after norwythai_start, each norwythai_walk of a list, all with the same assumptions, returns 0 and
    -- leaves in the results, and as the checkpoint's 50 bytes, the result and the checkpoint of the walk call that demand 3 is about,
    -- whatever stood in the buffers before.
    pub walked_from_start :
        (bs : List ℕ) →
        walks_called s assumptions (start_called checkpoint).1 results bs ≡ map walk_told (walk_calls s (of_bytes assumptions) start bs)
    unfolding start checkpoint_of
    walked_from_start bs =
        rw (start_written checkpoint start (checkpoint_bytes start) h refl refl)
        (calls_walked start results bs (ap length (padded_none max_variables 0)) k)

    -- So demand 3 holds of them where the input encodes n and cs, none of the assumptions is bad, and vs is a matching of what stripping
    -- leaves of what remains of the clauses.
    pub demand_3_called :
        (n : ℕ) (cs : List (List Literal)) →
        Encodes s n cs →
        NoneBad n (of_bytes assumptions) →
        (vs : List ℕ) →
        Pairs (left_of n (map literal_of (of_bytes assumptions)) cs) vs →
        (bs : List ℕ) →
        (walks_called s assumptions (start_called checkpoint).1 results bs ≡ map walk_told (walk_calls s (of_bytes assumptions) start bs))
        × Dealt s (of_bytes assumptions) (under n (map literal_of (of_bytes assumptions)) cs) bs
    demand_3_called n cs encodes good vs pairs bs =
        (walked_from_start bs, demand_3 s (of_bytes assumptions) n cs encodes good vs pairs bs)

    -- S19.5 in the interface: after norwythai_start, each norwythai_page of a list, all with the same assumptions and each with a serial 50
    -- higher, returns 0 and leaves in the results, in the page that it is lent, and as the checkpoint's 50 bytes what the page call of S19.5
    -- gives, whatever the serial, the pages lent and what stood in the buffers before; a refused one, too.
    pub paged_from_start :
        (serial : ℕ) (bs : List (List ℕ)) →
        pages_called s assumptions (start_called checkpoint).1 serial results bs ≡ map page_shown (page_calls s (of_bytes assumptions) start serial bs)
    unfolding start checkpoint_of
    paged_from_start serial bs =
        rw (start_written checkpoint start (checkpoint_bytes start) h refl refl)
        (calls_paged start serial results bs (ap length (padded_none max_variables 0)) k)
