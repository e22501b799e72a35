-- S10, demand 3, as one record about any list of walk calls; then what demands 1 and 2 ask of the walk.
use Prim.Native.Nat.{ℕ, suc, ◌+◌, ◌*◌, ◌-◌, ◌≤◌, ◌<◌}
use mathlib.Core.Bool.{Bool, true, false}
use mathlib.Core.List.{List, [], ◌∷◌, ◌++◌, map, Memᴰ}
use mathlib.Core.Logic.{◌⊎◌, inl, inr, ⊎_elim, ◌↔◌}
use mathlib.Core.Path.{◌≡◌, sym, ap, ◌∙◌}
use native.Mathlib.Omega.{arith}
use lib.Bits.{bit_and}
use lib.ListN.{length, length-map, replicate}
use Rattle.limits.specs.Limits.{max_clauses}
use Rattle.lists.specs.Distinct.{Distinct}
use Rattle.lists.specs.Every.{Every}
use Rattle.lists.proofs.TestLaws.{or_cases, or_left, or-none, or_right, bool_clash}
use Rattle.masks.specs.Mask.{bit, minus, full}
use Rattle.formula.specs.declared.Refusal.{Refusal}
use Rattle.formula.specs.declared.Refusal.TheVariants.{Unmatched, ForeignCheckpoint, BadAssumption}
use Rattle.formula.specs.Format.{Literal, names, Sized, Encodes}
use Rattle.formula.specs.Table.{Refuses}
use Rattle.formula.specs.Masked.{variables}
use Rattle.formula.specs.Models.{Model}
use Rattle.formula.proofs.Demands.{accepted_all, accepted_fits, refused_all}
use Rattle.assumptions.specs.declared.Assumption.{Assumption}
use Rattle.assumptions.specs.Assumed.{literal_of}
use Rattle.assumptions.specs.FirstBad.{NoneBad, FirstBad}
use Rattle.assumptions.proofs.Demands.{bad_exactly, none_bad_literals, literals_over}
use Rattle.matched.specs.Acceptance.{Acceptance, accepted, acceptance}
use Rattle.matched.specs.Judge.{refused_values, judge}
use Rattle.matched.specs.Pairing.{Pairs, left_of, Pairable, Walkable}
use Rattle.matched.specs.WithoutAssumptions.{plain_acceptance}
use Rattle.matched.specs.WithoutStripping.{whole_acceptance}
use Rattle.matched.proofs.Demands.{acceptance_kept}
use Rattle.matched.proofs.AcceptanceLaws.{left_accepted}
use Rattle.splitting.specs.Nodes.{named}
use Rattle.splitting.specs.Terms.{Agrees, opened}
use Rattle.walk.specs.Task.{Task, whole, under, to_assign, visible, choice_at, ModelFor, Posed}
use Rattle.walk.specs.Plain.{assigns, assignment, plain_walk, listing}
use Rattle.walk.specs.Checkpoints.{Checkpoint, trail_in, checkpoint_of, start, behind}
use Rattle.walk.specs.PlainMachine.{found, spent, ended, plain_call, plain_calls, state_after, Has}
use Rattle.walk.specs.WalkCall.{call_on, walk_call, walk_calls, last_checkpoint}
use Rattle.walk.specs.WithoutAssumptions.{plain_call_on}
use Rattle.walk.specs.InnerLocate.{task_call}
use Rattle.walk.specs.Results.{says_model, says_spent, says_ended, says_refused, Result, answered, refusing, plain_result}
use Rattle.walk.specs.Gaps.{brought, SaysEnded, Gap, to_model, so_far, gaps, gap_trails, ModelTrail, shared, Longest, Parting, step_bound, ample_budget, PacedLater, Paced}
use Rattle.walk.specs.Proper.{Proper}
use Rattle.walk.proofs.SharedLaws as shares
use Rattle.walk.proofs.TaskLaws as laws
use Rattle.walk.proofs.HasLaws as has
use Rattle.walk.proofs.WaitLaws as waits
use Rattle.walk.proofs.NothingLeftLaws as lefts
use Rattle.walk.proofs.UnderLaws as unders
use Rattle.walk.proofs.RefusalLaws as refusals

-- S10, demand 3: what holds of walk calls that begin at the start checkpoint and each go on from the checkpoint of the one before, all
-- under the same assumptions: s is the input, us are the assumptions, T is what the walk is over, bs are the budgets; n is `to_assign T`,
-- m the number of clauses.
pub record Dealt (s : List ℕ) (us : List Assumption) (T : Task) (bs : List ℕ) : Type 0 where
  -- S10, demand 3: no call is refused
  pub unrefused : Every (λ r. r.kind ≡ says_refused → ⊥) (walk_calls s us start bs)
  -- the results are the plain machine's (S9.4): answers, checkpoints, steps and expansions
  pub plain : walk_calls s us start bs ≡ map (plain_result T) (plain_calls T 0 bs)
  -- the models brought are a beginning of the listing (S9.3)
  pub firsts : (l : List ℕ) × (listing T ≡ brought (walk_calls s us start bs) ++ l)
  -- and the whole listing if some call says ended
  pub all : SaysEnded (walk_calls s us start bs) → brought (walk_calls s us start bs) ≡ listing T
  -- the listing has the models of the task and no others, none of them twice
  pub exact : (a : ℕ) → Memᴰ a (listing T) ↔ ModelFor T a
  pub once : Distinct (listing T)
  -- behind every number of entries, some model agrees with the trail
  pub standing : (k : ℕ) → (a : ℕ) × ModelFor T a × Agrees (bit a) (behind T k).trail
  -- S9.5, S21.2: the waits, exactly: n steps to the first model; to each further one twice the variables that are assigned after the longest
  -- beginning that its trail shares with that of the model before, so at most 2 × n; n from the last to the end. n × n × m × (m + 1)
  -- expansions at most in each.
  pub paced : Paced (to_assign T) (step_bound T) (gaps (walk_calls s us start bs))
  -- S6.7: an assignment makes at most n × m × (m + 1) expansions
  pub cheap : (l : Literal) (e : ℕ) → Memᴰ (assigns l e) (plain_walk T) → e ≤ step_bound T
  -- on a budget of at least 96, the next call brings a model or the end
  pub ample : (b : ℕ) → ample_budget ≤ b
      → ((walk_call s us (last_checkpoint s us start bs) b).kind ≡ says_model) ⊎ ((walk_call s us (last_checkpoint s us start bs) b).kind ≡ says_ended)

-- S23.1: the task of a formula under assumptions. The variables to assign are those that some clause names and that are not assumed: the
-- clauses are those of the input, as they are before anything is assumed.
pub scope_exactly : (n : ℕ) (us : List Assumption) (cs : List (List Literal)) (v : ℕ)
    → (bit (under n (map literal_of us) cs).scope v ≡ true) ↔ ((named cs v ≡ true) × (names (map literal_of us) v ≡ false))
scope_exactly n us cs = unders.scope_exactly n (map literal_of us) cs

-- S23.3: the variables whose values a model shows are those that some clause names or that are assumed.
pub visible_exactly : (n : ℕ) (us : List Assumption) (cs : List (List Literal)) (v : ℕ)
    → (bit (visible (under n (map literal_of us) cs)) v ≡ true) ↔ ((named cs v ≡ true) ⊎ (names (map literal_of us) v ≡ true))
visible_exactly n us cs v =
    let e = unders.visible_bit n (map literal_of us) cs v in
    (λ h. or_cases (named cs v) _ (sym e ∙ h), λ w. e ∙ ⊎_elim (or_left (named cs v) _) (or_right (named cs v) _) w)

-- and the others are those that no clause names and that are not assumed.
pub hidden_exactly : (n : ℕ) (us : List Assumption) (cs : List (List Literal)) (v : ℕ)
    → (bit (visible (under n (map literal_of us) cs)) v ≡ false) ↔ ((named cs v ≡ false) × (names (map literal_of us) v ≡ false))
hidden_exactly n us cs v =
    let e = unders.visible_bit n (map literal_of us) cs v in
    (λ h. or-none (named cs v) _ (sym e ∙ h), λ w. e ∙ rw (w.0, w.1))

-- S23.5: where the clauses name every variable, all that are not assumed are to be assigned, as it was before slip 10.
pub all_named : (n : ℕ) (us : List Assumption) (cs : List (List Literal)) → Sized n cs → ((v : ℕ) → v < n → named cs v ≡ true)
    → (under n (map literal_of us) cs).scope ≡ minus (full n) (variables (map literal_of us))
all_named n us cs = unders.all_named n (map literal_of us) cs

-- S23.2: what is listed are the formula's models that keep the assumptions, with no variable true that is neither named nor assumed.
pub under_models : (n : ℕ) (us : List Assumption) (cs : List (List Literal)) (a : ℕ)
    → ModelFor (under n (map literal_of us) cs) a
    ↔ (Model n cs a × Agrees (bit a) (map literal_of us) × ((v : ℕ) → bit a v ≡ true → (named cs v ≡ true) ⊎ (names (map literal_of us) v ≡ true)))
under_models n us cs a = unders.under_models n (map literal_of us) cs a

-- An input whose walk calls are those on a task, where what stripping leaves at the first node is matched.
module _ (s : List ℕ) (us : List Assumption) (T : Task) (P : Posed T) (walks : (c : Checkpoint) (b : ℕ) → walk_call s us c b ≡ task_call T c b) where
  -- S10, demand 3, whatever the task
  pub dealt : (bs : List ℕ) → Dealt s us T bs
  dealt bs = record {
    unrefused = laws.calls_unrefused s us T P walks bs;
    plain = laws.calls_plain s us T P walks bs;
    firsts = laws.calls_first s us T P walks bs;
    all = laws.calls_all s us T P walks bs;
    exact = laws.listing_models s us T P walks;
    once = laws.listing_distinct s us T P walks;
    standing = laws.behind_model s us T P walks;
    paced = laws.calls_paced s us T P walks bs;
    cheap = laws.assignment_cheap s us T P walks;
    ample = laws.calls_ample s us T P walks bs;
  }

-- S21.1: what two trails share is the longest beginning of both, told without recursion
pub shared_longest : (x y : List Literal) → Longest x y (shared x y)
shared_longest = shares.shared_longest

-- S5.6, S17.2, S18.1: an accepted formula: the input encodes n and cs, none of the assumptions is bad, and vs is a matching of what
-- stripping leaves of what remains of the clauses.
module _ (s : List ℕ) (us : List Assumption) (n : ℕ) (cs : List (List Literal)) (encodes : Encodes s n cs) (good : NoneBad n us)
    (vs : List ℕ) (pairs : Pairs (left_of n (map literal_of us) cs) vs) where
  -- what its walk is over
  abbrev pub task : Task
  task = under n (map literal_of us) cs

  sized : Sized n cs
  sized = accepted_fits s n cs (accepted_all s n cs encodes)

  abbrev row : List ℕ
  row = (left_accepted s us n (map literal_of us) cs (accepted_all s n cs encodes) (none_bad_literals n us good) vs pairs).0

  accepts : acceptance s us ≡ accepted n (map literal_of us) cs row
  accepts = (left_accepted s us n (map literal_of us) cs (accepted_all s n cs encodes) (none_bad_literals n us good) vs pairs).1

  -- it is accepted, with some row; its task is as the walk asks it; and its calls are those on the task
  pub accepted_row : (r : List ℕ) × (acceptance s us ≡ accepted n (map literal_of us) cs r)
  accepted_row = (row, accepts)

  pub posed : Posed task
  posed = refusals.accepted_posed s us n (map literal_of us) cs row accepts

  pub walks : (c : Checkpoint) (b : ℕ) → walk_call s us c b ≡ task_call task c b
  walks = refusals.call_accepted s us n (map literal_of us) cs row accepts

  -- S10, demand 3
  pub demand_3 : (bs : List ℕ) → Dealt s us task bs
  demand_3 = dealt s us task posed walks

  -- S6.7, S9.5: the same by the number of variables in place of that of the clauses: what stripping leaves at a node of the walk is matched,
  -- so that no more clauses than variables are tried. One assignment makes at most s × n × (n + 1) expansions, s the variables to assign,
  pub cheap_sharper : (l : Literal) (e : ℕ) → Memᴰ (assigns l e) (plain_walk task) → e ≤ to_assign task * (n * suc n)
  cheap_sharper = laws.assignment_cheap_sound s us task posed walks

  -- and a gap at most s times as many.
  pub paced_sharper : (bs : List ℕ) → Paced (to_assign task) (to_assign task * (n * suc n)) (gaps (walk_calls s us start bs))
  paced_sharper = laws.calls_paced_sound s us task posed walks

  -- ---- S21: the waits, which `paced` has as one statement about the whole list of calls. In the comments n is `to_assign task`, the number of
  -- variables that some clause names and that are not assumed (`scope_exactly`).

  -- S21.1: the trail of every model that calls bring, from the start or from any other checkpoint that the walk has, is that in the
  -- checkpoint which comes back with it;
  pub model_trails : (bs : List ℕ) (c : Checkpoint) → Has task c → Every (λ r. r.kind ≡ says_model → (x : List Literal) × ModelTrail task r x) (walk_calls s us c bs)
  model_trails = waits.calls_trails s us task posed walks

  -- and the trails in the gaps are those of the models that are brought, in order. So neighbours there are neighbours of the listing.
  pub gap_models : (bs : List ℕ) → map (λ x. assignment (map literal_of us ++ x)) (gap_trails (gaps (walk_calls s us start bs))) ≡ brought (walk_calls s us start bs)
  gap_models bs = waits.trails_brought s us task posed walks bs start (has.start_has s us task posed walks) 0 0

  -- S21.2: two neighbours, d steps between them: the later trail has a variable as true where the earlier has it as false, at the place where
  -- they part. So some variable is assigned behind what they share, and the wait is even and at least 2.
  pub neighbours : (bs : List ℕ) (gs hs : List Gap) (c e d f : ℕ) (x y : List Literal) → gaps (walk_calls s us start bs) ≡ gs ++ (to_model c e x ∷ to_model d f y ∷ hs)
      → (d ≡ 2 * (length y - shared x y)) × Parting x y × (0 < length y - shared x y) × (2 ≤ d)
  neighbours bs gs hs c e d f x y h =
      let w = waits.next_waited s us task posed walks bs gs hs c e d f x y h in
      let z = waits.parting_some x y w.1 in
      (w.0, w.1, z, omega (arith, w.0))

  -- S21.3: counting down. A list of calls has brought a model with the trail x and stops c steps behind it, before another. Then a call of
  -- budget 96 or more brings the next model, and with its steps the wait is that between the two; or the end, after n steps in all.
  pub countdown : (bs : List ℕ) (gs : List Gap) (c e d f : ℕ) (x : List Literal) → gaps (walk_calls s us start bs) ≡ gs ++ (to_model d f x ∷ so_far c e ∷ [])
      → (b : ℕ) → ample_budget ≤ b
      → (let r = walk_call s us (last_checkpoint s us start bs) b in
      let y = trail_in r.checkpoint in
      ((r.kind ≡ says_model) × (c + r.steps ≡ 2 * (length y - shared x y))) ⊎ ((r.kind ≡ says_ended) × (c + r.steps ≡ to_assign task)))
  countdown bs gs c e d f x h b l =
      ⊎_elim (λ w. inl (w.0, w.1.0)) (λ w. inr w) (waits.ample_closes s us task posed walks bs gs c e d f x h b l)

  -- A list that stops c steps behind the start, before any model: such a call brings the first, after n steps in all.
  pub countdown_first : (bs : List ℕ) (c e : ℕ) → gaps (walk_calls s us start bs) ≡ so_far c e ∷ [] → (b : ℕ) → ample_budget ≤ b
      → (let r = walk_call s us (last_checkpoint s us start bs) b in (r.kind ≡ says_model) × (c + r.steps ≡ to_assign task))
  countdown_first = waits.ample_first s us task posed walks

  -- And a list that stops behind the last model, before the end, has made at most n steps since.
  pub after_last : (bs : List ℕ) (gs : List Gap) (c e d f : ℕ) (x : List Literal) → gaps (walk_calls s us start bs) ≡ gs ++ (to_model d f x ∷ so_far c e ∷ [])
      → brought (walk_calls s us start bs) ≡ listing task → c ≤ to_assign task
  after_last = waits.after_last s us task posed walks

  -- S21.2: a checkpoint of the walk that has mode 1 and all variables to assign is that of a model, the assignment of the assumptions and of
  -- its trail,
  pub model_checkpoint : (c : Checkpoint) → Has task c → c.mode ≡ 1 → c.length ≡ to_assign task
      → (c ≡ checkpoint_of 1 (trail_in c)) × Model n cs (assignment (map literal_of us ++ trail_in c)) × Agrees (bit (assignment (map literal_of us ++ trail_in c))) (map literal_of us)
  model_checkpoint c w m l =
      let x = laws.full_model s us task posed walks c w m l in
      let y = (under_models n us cs (assignment (map literal_of us ++ trail_in c))).0 x.1 in
      (x.0, y.0, y.1)

  -- and calls that begin there have the same waits, whoever hands it in.
  pub paced_after : (c : Checkpoint) → Has task c → c.mode ≡ 1 → c.length ≡ to_assign task
      → (bs : List ℕ) → PacedLater (to_assign task) (step_bound task) (trail_in c) (gaps (walk_calls s us c bs))
  paced_after = laws.model_paced s us task posed walks

  -- ---- the listing, single calls and checkpoints

  -- S10, demands 2 and 3, S23.2: the listing has the models of the formula that keep the assumptions and have no variable true that is
  -- neither named nor assumed, and no others: `exact`, over the formula itself
  pub listing_exact : (a : ℕ) → Memᴰ a (listing task)
      ↔ (Model n cs a × Agrees (bit a) (map literal_of us) × ((v : ℕ) → bit a v ≡ true → (named cs v ≡ true) ⊎ (names (map literal_of us) v ≡ true)))
  listing_exact a =
      let e = laws.listing_models s us task posed walks a in
      let w = under_models n us cs a in
      (λ m. w.0 (e.0 m), λ m. e.1 (w.1 m))

  -- S23.2: of every model of the formula that keeps the assumptions, what is visible is listed;
  pub setting_listed : (a : ℕ) → Model n cs a → Agrees (bit a) (map literal_of us) → Memᴰ (bit_and a (visible task)) (listing task)
  setting_listed a m g = (laws.listing_models s us task posed walks (bit_and a (visible task))).1 (unders.part_model n (map literal_of us) cs a m g)

  -- and the same is visible of two of them exactly if they agree on the named variables. So each setting of these that some such model has is
  -- listed once (`once`), and nothing is lost but the values of variables that are neither named nor assumed.
  pub same_setting : (a b : ℕ) → Agrees (bit a) (map literal_of us) → Agrees (bit b) (map literal_of us)
      → (bit_and a (visible task) ≡ bit_and b (visible task)) ↔ ((v : ℕ) → named cs v ≡ true → bit a v ≡ bit b v)
  same_setting = unders.part_same n (map literal_of us) cs

  -- S23.5: a model that keeps the assumptions, to which check says yes, is not listed exactly if it has a variable true that is neither named
  -- nor assumed.
  pub unlisted : (a : ℕ) → Model n cs a → Agrees (bit a) (map literal_of us)
      → (Memᴰ a (listing task) → ⊥) ↔ ((v : ℕ) × (bit a v ≡ true) × (named cs v ≡ false) × (names (map literal_of us) v ≡ false))
  unlisted a m g = (
    λ h. unders.outside n (map literal_of us) cs a (λ w. h ((listing_exact a).1 (m, g, w))),
    λ w i. ⊎_elim (λ x. bool_clash x w.2) (λ x. bool_clash x w.3) (((listing_exact a).0 i).2 w.0 w.1),
  )

  -- S23.5: where the clauses name every variable, every call is that on the task with all variables to assign that are not assumed, which
  -- was the formula's before slip 10.
  pub call_all_named : ((v : ℕ) → v < n → named cs v ≡ true) → (c : Checkpoint) (b : ℕ)
      → walk_call s us c b ≡ task_call (record { variables = n; clauses = cs; scope = minus (full n) (variables (map literal_of us)); before = map literal_of us }) c b
  call_all_named all c b =
      walks c b
      ∙ ap (λ (m : ℕ). task_call (record { variables = n; clauses = cs; scope = m; before = map literal_of us }) c b) (all_named n us cs sized all)

  -- S6.6: at every node of the walk that is not full, a value of the chosen variable is open exactly if some model keeps the assumptions,
  -- agrees with the trail and has it.
  pub open_means : (k : ℕ) → length (behind task k).trail < to_assign task → (b : Bool)
      → (opened (choice_at task (behind task k).trail) b ≡ true)
      ↔ ((a : ℕ) × Model n cs a × Agrees (bit a) (map literal_of us) × Agrees (bit a) (behind task k).trail × (bit a (choice_at task (behind task k).trail).variable ≡ b))
  open_means = laws.node_open s us task posed walks

  -- From every checkpoint that the walk has, and on any budget, a call gives what the plain machine gives from there.
  pub from_checkpoint : (c : Checkpoint) (w : Has task c) (b : ℕ) → walk_call s us c b ≡ plain_result task (plain_call task b (state_after task 0 w.0))
  from_checkpoint c w b = ap (λ (x : Checkpoint). walk_call s us x b) (sym w.1) ∙ laws.call_plain s us task posed walks w.0 b

  -- S10, demand 1: 11 exactly for the checkpoints that the walk has not (S7.4)
  pub foreign_exactly : (c : Checkpoint) (b : ℕ) → ((walk_call s us c b).number ≡ 11) ↔ (Has task c → ⊥)
  foreign_exactly c b = laws.foreign_number s us task posed walks c b

  -- S3.3: then the checkpoint is returned unchanged, and all else but the number is 0
  pub foreign_returned : (c : Checkpoint) (b : ℕ) → (Has task c → ⊥) → walk_call s us c b ≡ refusing (ForeignCheckpoint 0) c
  foreign_returned c b f = laws.foreign s us task posed walks c b f

  -- S7.4: the checkpoints that the walk has are the start checkpoint and those that calls return.
  pub returned : (c : Checkpoint) → Has task c ↔ ((bs : List ℕ) × (last_checkpoint s us start bs ≡ c))
  returned c = laws.has_returned s us task posed walks c

  -- Told by themselves: a trail by choice with open values, the mode's own condition, the bytes of that trail, and 0 behind them.
  pub proper : (c : Checkpoint) → Has task c ↔ Proper task c
  proper c = laws.has_proper s us task posed walks c

  -- S17.3, S23.1: every variable in a trail of the walk is named by some clause and not assumed,
  pub trail_named : (k v : ℕ) → names (behind task k).trail v ≡ true → (named cs v ≡ true) × (names (map literal_of us) v ≡ false)
  trail_named k v h = (scope_exactly n us cs v).0 (laws.behind_inside s us task posed walks k v h)

  -- and so is every variable in a checkpoint that the walk has: one with another variable in its trail is refused by 11, on any budget.
  pub unnamed_foreign : (c : Checkpoint) (v b : ℕ) → names (trail_in c) v ≡ true → (named cs v ≡ false) ⊎ (names (map literal_of us) v ≡ true)
      → walk_call s us c b ≡ refusing (ForeignCheckpoint 0) c
  unnamed_foreign c v b h o =
      foreign_returned c b (λ w.
      let x = (scope_exactly n us cs v).0 (laws.has_inside s us task posed walks c w v h) in
      ⊎_elim (λ y. bool_clash x.0 y) (λ y. bool_clash y x.1) o)

  -- S8.2: a call that says spent has made all the steps of its budget
  pub spent_exactly : (bs : List ℕ) (b : ℕ) → (walk_call s us (last_checkpoint s us start bs) b).kind ≡ says_spent → (walk_call s us (last_checkpoint s us start bs) b).steps ≡ b
  spent_exactly bs b = laws.calls_spent s us task posed walks bs b

  -- no call makes more steps than its budget
  pub within_budget : (bs : List ℕ) (b : ℕ) → (walk_call s us (last_checkpoint s us start bs) b).steps ≤ b
  within_budget bs b = laws.calls_within s us task posed walks bs b

  -- S8.2: from the checkpoint of the end every call says ended, with no step made
  pub from_end : (b : ℕ) → walk_call s us (checkpoint_of 4 []) b ≡ answered ended 0 0 (checkpoint_of 4 [])
  from_end b = laws.call_over s us task posed walks b

  -- S23.4: nothing is to be assigned exactly if every named variable is assumed
  pub none_exactly : (to_assign task ≡ 0) ↔ ((v : ℕ) → named cs v ≡ true → names (map literal_of us) v ≡ true)
  none_exactly = unders.none_exactly n (map literal_of us) cs sized

  -- and never more than the assumptions leave
  pub under_most : to_assign task + length us ≤ n
  under_most =
      rw (← length-map us literal_of)
      (unders.under_most n (map literal_of us) cs sized (literals_over n us (map literal_of us) (none_bad_literals n us good)))

  -- S8.2: where something is to be assigned, a call on budget 0 from the start checkpoint says spent, and returns it,
  pub start_zero : 0 < to_assign task → walk_call s us start 0 ≡ answered spent 0 0 start
  start_zero = laws.start_zero s us task posed walks

  -- no call of budget 0 brings a model,
  pub zero_model : 0 < to_assign task → (c : Checkpoint) → (walk_call s us c 0).kind ≡ says_model → ⊥
  zero_model = laws.zero_brings_none s us task posed walks

  -- and mode 1 at length 0 is refused by 11.
  pub assigned_none_foreign : 0 < to_assign task → (b : ℕ) → walk_call s us (checkpoint_of 1 []) b ≡ refusing (ForeignCheckpoint 0) (checkpoint_of 1 [])
  assigned_none_foreign h b = foreign_returned (checkpoint_of 1 []) b (laws.has_assigned s us task posed walks h)

  -- S17.5, S23.4: where nothing is to be assigned, there is one model, that of the assumptions. On any budget a call from the start checkpoint
  -- hands it out, with no step made, and returns mode 1 and no trail;
  module _ (none : to_assign task ≡ 0) where
    pub none_left_listing : listing task ≡ assignment (map literal_of us) ∷ []
    none_left_listing = lefts.one_model task none

    pub none_left_first : (b : ℕ) → walk_call s us start b ≡ answered (found (assignment (map literal_of us))) 0 0 (checkpoint_of 1 [])
    none_left_first b = lefts.call_first task none s us posed walks b

    -- a call from there says ended, with no step made, and so does every later one (`from_end`);
    pub none_left_second : (b : ℕ) → walk_call s us (checkpoint_of 1 []) b ≡ answered ended 0 0 (checkpoint_of 4 [])
    none_left_second b = lefts.call_second task none s us posed walks b

    -- and the walk has no checkpoints but these three.
    pub none_left_checkpoints : (c : Checkpoint) → Has task c ↔ ((c ≡ start) ⊎ ((c ≡ checkpoint_of 1 []) ⊎ (c ≡ checkpoint_of 4 [])))
    none_left_checkpoints = lefts.three_checkpoints task none

-- S10, demand 2: an input is walked exactly if it is readable, none of the assumptions is bad and what stripping leaves of what remains is
-- matched: from the start, on any budget.
pub walked_exactly : (s : List ℕ) (us : List Assumption) (b : ℕ) → ((walk_call s us start b).kind ≡ says_refused → ⊥) ↔ Walkable s us
walked_exactly = refusals.walked_exactly

-- S18.4: where what remains is matched itself, every call is what it is if nothing is stripped, from any checkpoint and on any budget.
pub call_kept : (s : List ℕ) (us : List Assumption) (c : Checkpoint) (b : ℕ) → Pairable s us → walk_call s us c b ≡ call_on (whole_acceptance s us) c b
unfolding walk_call
call_kept s us c b w = ap (λ (a : Acceptance). call_on a c b) (acceptance_kept s us w)

-- S3.2: 10 before 11: a readable input with no bad assumption of which what stripping leaves is not matched is refused by 10, whatever the
-- checkpoint and the budget, each time with the number of marks that judge gives.
pub unmatched : (s : List ℕ) (us : List Assumption) (buffer : List ℕ) (n : ℕ) (cs : List (List Literal)) → max_clauses ≤ length buffer
    → Encodes s n cs → NoneBad n us → ((vs : List ℕ) → Pairs (left_of n (map literal_of us) cs) vs → ⊥)
    → (k : ℕ) × ((judge s us buffer).answer ≡ refused_values (Unmatched k)) × ((c : Checkpoint) (b : ℕ) → walk_call s us c b ≡ refusing (Unmatched k) c)
unmatched s us buffer n cs l w good = refusals.call_unmatched s us buffer n (map literal_of us) cs l (accepted_all s n cs w) (none_bad_literals n us good)

-- S18.1: so the number is 10 exactly for such an input, whatever the checkpoint and the budget.
pub unmatched_exactly : (s : List ℕ) (us : List Assumption) (c : Checkpoint) (b : ℕ)
    → ((walk_call s us c b).number ≡ 10)
    ↔ ((n : ℕ) × (cs : List (List Literal)) × Encodes s n cs × NoneBad n us × ((vs : List ℕ) → Pairs (left_of n (map literal_of us) cs) vs → ⊥))
unmatched_exactly s us c b = (
  refusals.called_unmatched s us c b,
  λ w.
      let x = unmatched s us (replicate max_clauses 0) w.0 w.1 (omega arith) w.2 w.3 w.4 in
      ap (λ (r : Result). r.number) (x.2 c b),
)

-- S17.1: a readable input with a bad assumption is refused by 16, at the index of the first; the checkpoint comes back, and all else is 0.
pub bad_assumption : (s : List ℕ) (us : List Assumption) (n : ℕ) (cs : List (List Literal)) (i : ℕ) (c : Checkpoint) (b : ℕ) → Encodes s n cs → FirstBad n us i
    → walk_call s us c b ≡ refusing (BadAssumption i) c
bad_assumption s us n cs i c b w f = refusals.call_bad s us n cs i c b (accepted_all s n cs w) ((bad_exactly n us i).1 f)

-- 16 before 10 and 11: whatever the checkpoint and the budget, the number is 16 and the place i exactly if the input is readable and the
-- assumption with the index i is the first bad one.
pub bad_assumption_exactly : (s : List ℕ) (us : List Assumption) (c : Checkpoint) (b i : ℕ)
    → (((walk_call s us c b).number ≡ 16) × ((walk_call s us c b).place ≡ i)) ↔ ((n : ℕ) × (cs : List (List Literal)) × Encodes s n cs × FirstBad n us i)
bad_assumption_exactly s us c b i = (
  λ e. refusals.called_bad s us c b i e.0 e.1,
  λ w. let e = bad_assumption s us w.0 w.1 i c b w.2 w.3 in (ap (λ (r : Result). r.number) e, ap (λ (r : Result). r.place) e),
)

-- S3.2: 2 to 9 before the others: an unreadable input gets the reader's refusal, whatever the assumptions.
pub unreadable : (s : List ℕ) (us : List Assumption) (r : Refusal) (c : Checkpoint) (b : ℕ) → Refuses s r → walk_call s us c b ≡ refusing r c
unreadable s us r c b w = refusals.call_unreadable s us r c b (refused_all s r w)

-- S17.6: an empty list of assumptions changes nothing: the task is the formula's own, the named variables to assign and none assigned before,
pub task_unassumed : (n : ℕ) (cs : List (List Literal)) → under n [] cs ≡ whole n cs
task_unassumed = unders.under_none

-- so its plain walk is that of the formula's own,
pub plain_walk_unassumed : (n : ℕ) (cs : List (List Literal)) → plain_walk (under n [] cs) ≡ plain_walk (whole n cs)
plain_walk_unassumed n cs = ap plain_walk (task_unassumed n cs)

-- and a call is what it is without assumptions.
pub call_unassumed : (s : List ℕ) (c : Checkpoint) (b : ℕ) → walk_call s [] c b ≡ plain_call_on (plain_acceptance s) c b
call_unassumed = refusals.called_unassumed
