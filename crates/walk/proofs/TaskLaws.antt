-- The walk calls on an input that is walked as a task: none is refused, and they are those of the plain machine.
use Prim.Native.Nat.{ℕ, suc, ◌*◌, ◌-◌, ◌≤◌, ◌<◌}
use mathlib.Core.Bool.{Bool, true, false, cond}
use mathlib.Core.List.Memᴰ
use mathlib.Core.List.{List, [], ◌∷◌, ◌++◌, map, Memᴰ}
use mathlib.Core.Logic.{◌⊎◌, inl, inr, ⊎_elim, ◌↔◌}
use mathlib.Core.Path.{◌≡◌, refl, sym, ap, ap₂, ◌∙◌, subst}
use native.Mathlib.Nat.{sub-zero}
use native.Mathlib.Omega.{arith}
use lib.ListN.{length, take, drop}
use borrow.Author.Tests.{eq-eqb}
use Rattle.limits.specs.Limits.{max_variables}
use Rattle.lists.specs.Distinct.{Distinct}
use Rattle.lists.specs.Every.{Every}
use Rattle.lists.proofs.TestLaws.{bool_clash}
use Rattle.masks.specs.Mask.{bit}
use Rattle.masks.proofs.SizeLaws.{size_le}
use Rattle.formula.specs.declared.Refusal.TheVariants.{ForeignCheckpoint}
use Rattle.formula.specs.Format.{Literal, names}
use Rattle.formula.specs.Models.{Model}
use Rattle.assumptions.specs.declared.Assumption.{Assumption}
use Rattle.splitting.specs.Terms as terms
use Rattle.splitting.specs.Terms.{opened}
use Rattle.walk.specs.Task.{Task, to_assign, choice_at, ModelFor, Posed}
use Rattle.walk.specs.Plain.{Entry, assigns, assignment, plain_walk, models_of, listing}
use Rattle.walk.specs.Checkpoints.{Checkpoint, Behind, trail_in, checkpoint_of, start, past_all, behind, checkpoint_after}
use Rattle.walk.specs.PlainMachine.{Answer, found, spent, ended, Call, plain_call, plain_calls, state_after, Has}
use Rattle.walk.specs.WalkCall.{walk_call, walk_calls, last_checkpoint}
use Rattle.walk.specs.InnerLocate.{Located, at_state, nowhere, located, by_state, task_call}
use Rattle.walk.specs.Results.{says_model, says_spent, says_ended, says_refused, Result, answer_kind, answered, refusing, plain_result}
use Rattle.walk.specs.Gaps.{brings, brought, SaysEnded, gaps, ModelTrail, PacedLater, Paced, step_bound, ample_budget}
use Rattle.walk.specs.Proper.{Proper}
use Rattle.walk.specs.InnerStack.{Stack, empty, push, depth, trail_of, tree}
use Rattle.walk.specs.InnerMachine.{Position, down, full, back, over, Next, nothing, hands, ends, steps, next, halted, onward, resume}
use Rattle.walk.specs.InnerTest.{stack_of, shown, read, position_of, accepts}
use Rattle.walk.specs.InnerCall.{resumed_result, call_from}
use Rattle.walk.proofs.LocateLaws.{located_stands, has_located, state_append}
use Rattle.walk.proofs.RestLaws.{Pauses, Stops, walk, node, after_node, rest, Replayed, replayed_depth, Reachable, Live}
use Rattle.walk.proofs.PositionLaws.{behind_of, length_trail, full_stops}
use Rattle.walk.proofs.AgreeLaws.{behind_after, At, at_start, at_every, Same, call_same}
use Rattle.walk.proofs.ListingLaws.{walk_lists, walk_distinct, node_model}
use Rattle.walk.proofs.CallLaws.{call_effect, resumes, last_position, results, brought_first, brought_all, never_spent, over_stops, resume_within, spent_all, models_next, model_full, model_mode, ended_stops}
use Rattle.walk.proofs.LoopLaws.{loop_over}
use Rattle.walk.proofs.CostLaws.{walk_cheap}
use Rattle.walk.proofs.PaceLaws.{WaitsFirst, pace, pace_full}
use Rattle.walk.proofs.MetLaws.{start_stops, down_spent, all_got}
use Rattle.walk.proofs.AcceptLaws.{stack_replayed, shown_bytes, shown_trail, shown_position, call_shown, accepted_stopped, stopped_accepted}
use Rattle.walk.proofs.ProperLaws.{stop_proper, proper_stop}
use Rattle.walk.proofs.ByteLaws.{Below}
use Rattle.walk.proofs.TreeLaws.{walk_same, trail_inside, agrees_trail, trail_below, live, open_model, any_open, full_every, splits, cheap, cheap_sound}

module _ (T : Task) where
  -- the mode and the trail behind k entries, and their checkpoint, are those of the position
  at_behind : {k : ℕ} {p : Position} → At (tree T) k p → behind T k ≡ behind_of p
  unfolding behind behind_after
  at_behind {k} a = ap (λ (l : List Entry). past_all (record { mode = 0; trail = [] }) (take k l)) (walk_same T) ∙ a.shown

  at_checkpoint : {k : ℕ} {p : Position} → At (tree T) k p → checkpoint_after T k ≡ shown p
  unfolding checkpoint_after
  at_checkpoint a = ap (λ (b : Behind). checkpoint_of b.mode b.trail) (at_behind a)

  rest_start : rest (tree T) (down empty) ≡ plain_walk T
  unfolding rest node after_node walk
  rest_start = rw sub-zero (sym (walk_same T))

-- no answer of the plain machine is a refusal
pub answer_unrefused : (a : Answer) → answer_kind a ≡ says_refused → ⊥
answer_unrefused (found m) e = let z : ◌≡◌ {A = ℕ} 0 1 = cc in omega arith
answer_unrefused spent e = let z : ◌≡◌ {A = ℕ} 0 1 = cc in omega arith
answer_unrefused ended e = let z : ◌≡◌ {A = ℕ} 0 1 = cc in omega arith

-- an input whose walk calls are those on a task
module _ (s : List ℕ) (us : List Assumption) (T : Task) (P : Posed T) (walks : (c : Checkpoint) (b : ℕ) → walk_call s us c b ≡ task_call T c b) where
  abbrev alive : Live (tree T)
  alive = live T P

  small : to_assign T ≤ max_variables
  small = omega (arith, size_le T.variables T.scope P.below, P.most)

  low : (t : Stack) → Replayed (tree T) t → Below max_variables t
  low = trail_below T P

  start_shown : start ≡ shown (down empty)
  unfolding start trail_of
  start_shown = refl

  start_stop : Stops (tree T) (down empty)
  start_stop = start_stops (tree T) alive

  -- one call of the plain machine
  plain-same : (b k : ℕ) (p : Position) → At (tree T) k p → Same (tree T) (plain_call T b k) (resume (tree T) b p)
  unfolding plain_call
  plain-same b k p a = rw (walk_same T) (call_same (tree T) alive b k p a)

  plain_resumed : (b k : ℕ) (p : Position) → At (tree T) k p → plain_result T (plain_call T b k) ≡ resumed_result (resume (tree T) b p)
  plain_resumed b k p a =
      let w = plain-same b k p a in
      let c = at_checkpoint T w.at in
      rw (w.answer, w.steps, w.expansions, c)

  plain_results : (bs : List ℕ) (k : ℕ) (p : Position) → At (tree T) k p → map (plain_result T) (plain_calls T k bs) ≡ results (tree T) alive p bs
  unfolding plain_calls resumes
  plain_results [] k p a = refl
  plain_results (b ∷ bs) k p a =
      ap₂ {C = List Result} (λ x y. x ∷ y) (plain_resumed b k p a)
      (plain_results bs (plain_call T b k).behind (resume (tree T) b p).position (plain-same b k p a).at)

  -- where the plain machine stands after a list of calls
  state_at : (bs : List ℕ) (k : ℕ) (p : Position) → At (tree T) k p → At (tree T) (state_after T k bs) (last_position (tree T) alive p bs)
  unfolding state_after last_position
  state_at [] k p a = a
  state_at (b ∷ bs) k p a = state_at bs (plain_call T b k).behind (resume (tree T) b p).position (plain-same b k p a).at

  state_stops : (bs : List ℕ) (p : Position) → Reachable (tree T) p → Stops (tree T) p → Stops (tree T) (last_position (tree T) alive p bs)
  unfolding last_position
  state_stops [] p o q = q
  state_stops (b ∷ bs) p o q = let e = call_effect (tree T) alive b p o in state_stops bs (resume (tree T) b p).position e.fine e.stops

  -- the position of a checkpoint that the walk has
  abbrev standing : List ℕ → Position
  standing bs = last_position (tree T) alive (down empty) bs

  standing_at : (bs : List ℕ) → At (tree T) (state_after T 0 bs) (standing bs)
  standing_at bs = state_at bs 0 (down empty) (at_start (tree T))

  standing_stops : (bs : List ℕ) → Stops (tree T) (standing bs)
  standing_stops bs = state_stops bs (down empty) tt start_stop

  -- ---- a call

  -- a call from a checkpoint goes on from its state, or is refused by 11
  pub call_is : (c : Checkpoint) (b : ℕ) (x : Located) → located T c ≡ x → walk_call s us c b ≡ by_state T c x b
  unfolding task_call
  call_is c b x e = walks c b ∙ rw e refl

  -- the checkpoint of a position at which a call can stop is no other's
  shown_one : (p q : Position) → Reachable (tree T) p → Stops (tree T) p → Reachable (tree T) q → Stops (tree T) q → shown p ≡ shown q → p ≡ q
  shown_one p q o h r k e =
      sym (shown_position (tree T) alive small low p o h)
      ∙ ap (λ (c : Checkpoint). position_of (to_assign T) c.mode (read c)) e
      ∙ shown_position (tree T) alive small low q r k

  -- and the walk has it
  stopped_has : (p : Position) → Reachable (tree T) p → Stops (tree T) p → Has T (shown p)
  stopped_has p o q = let g = all_got (tree T) alive p o q in (g.0, at_checkpoint T (standing_at g.0) ∙ ap shown g.1)

  -- a call from it goes on from the position
  call_goes : (b : ℕ) (p : Position) → Reachable (tree T) p → Stops (tree T) p → walk_call s us (shown p) b ≡ resumed_result (resume (tree T) b p)
  call_goes b p o q = at (located T (shown p)) refl
    where
      at : (x : Located) → located T (shown p) ≡ x → walk_call s us (shown p) b ≡ resumed_result (resume (tree T) b p)
      at (at_state k) e =
          let w = located_stands T (shown p) k e in
          let a = standing_at w.0 in
          let one = shown_one (standing w.0) p a.fine (standing_stops w.0) o q (sym (at_checkpoint T a) ∙ ap (checkpoint_after T) w.1 ∙ w.2) in
          call_is (shown p) b (at_state k) e
          ∙ ap (λ (j : ℕ). plain_result T (plain_call T b j)) (sym w.1)
          ∙ plain_resumed b (state_after T 0 w.0) (standing w.0) a
          ∙ ap (λ (x : Position). resumed_result (resume (tree T) b x)) one
      at nowhere e = absurd (has_located T (shown p) (stopped_has p o q) e)

  calls_go : (bs : List ℕ) (p : Position) → Reachable (tree T) p → Stops (tree T) p → walk_calls s us (shown p) bs ≡ results (tree T) alive p bs
  unfolding walk_calls resumes
  calls_go [] p o q = refl
  calls_go (b ∷ bs) p o q =
      let e = call_effect (tree T) alive b p o in
      rw (call_goes b p o q) (ap {B = List Result} (λ l. resumed_result (resume (tree T) b p) ∷ l) (calls_go bs (resume (tree T) b p).position e.fine e.stops))

  last_goes : (bs : List ℕ) (p : Position) → Reachable (tree T) p → Stops (tree T) p → last_checkpoint s us (shown p) bs ≡ shown (last_position (tree T) alive p bs)
  unfolding last_checkpoint last_position
  last_goes [] p o q = refl
  last_goes (b ∷ bs) p o q =
      let e = call_effect (tree T) alive b p o in
      rw (call_goes b p o q) (last_goes bs (resume (tree T) b p).position e.fine e.stops)

  -- the calls from the start are those of the resumable machine
  pub calls_results : (bs : List ℕ) → walk_calls s us start bs ≡ results (tree T) alive (down empty) bs
  calls_results bs = rw start_shown (calls_go bs (down empty) tt start_stop)

  -- the walk's calls are the plain machine's
  pub calls_plain : (bs : List ℕ) → walk_calls s us start bs ≡ map (plain_result T) (plain_calls T 0 bs)
  calls_plain bs = calls_results bs ∙ sym (plain_results bs 0 (down empty) (at_start (tree T)))

  -- none is refused
  none_refused : (l : List Call) → Every (λ r. r.kind ≡ says_refused → ⊥) (map (plain_result T) l)
  none_refused [] = tt
  none_refused (c ∷ l) = (answer_unrefused c.answer, none_refused l)

  -- so no call is refused
  pub calls_unrefused : (bs : List ℕ) → Every (λ r. r.kind ≡ says_refused → ⊥) (walk_calls s us start bs)
  calls_unrefused bs = rw (calls_plain bs) (none_refused (plain_calls T 0 bs))

  -- from a checkpoint that the walk has, a call gives what the plain machine gives from there
  pub call_plain : (bs : List ℕ) (b : ℕ) → walk_call s us (checkpoint_after T (state_after T 0 bs)) b ≡ plain_result T (plain_call T b (state_after T 0 bs))
  call_plain bs b =
      let a = standing_at bs in
      rw (at_checkpoint T a) (call_goes b (standing bs) a.fine (standing_stops bs))
      ∙ sym (plain_resumed b (state_after T 0 bs) (standing bs) a)

  -- the checkpoint that the last call returned is the plain machine's
  pub last_plain : (bs : List ℕ) → last_checkpoint s us start bs ≡ checkpoint_after T (state_after T 0 bs)
  last_plain bs = rw start_shown (last_goes bs (down empty) tt start_stop) ∙ sym (at_checkpoint T (standing_at bs))

  -- the models that the calls bring
  pub calls_first : (bs : List ℕ) → (l : List ℕ) × (listing T ≡ brought (walk_calls s us start bs) ++ l)
  unfolding listing
  calls_first bs = (
    models_of (rest (tree T) (standing bs)),
    rw (calls_results bs) (ap models_of (sym (rest_start T)) ∙ brought_first (tree T) alive bs (down empty) tt),
  )

  -- and all of them
  pub calls_all : (bs : List ℕ) → SaysEnded (walk_calls s us start bs) → brought (walk_calls s us start bs) ≡ listing T
  unfolding listing
  calls_all bs h =
      rw (calls_results bs) (brought_all (tree T) alive bs (down empty) tt (rw (calls_results bs) at h) ∙ ap models_of (rest_start T))

  -- the listing
  pub listing_models : (a : ℕ) → Memᴰ a (listing T) ↔ ModelFor T a
  unfolding listing
  listing_models a = rw (walk_same T) (walk_lists (tree T) (ModelFor T) (splits T P) a)

  -- each once
  pub listing_distinct : Distinct (listing T)
  unfolding listing
  listing_distinct = rw (walk_same T) (walk_distinct (tree T) (ModelFor T) (splits T P))

  -- behind every entry the assigned variables stand as in some model
  pub behind_model : (k : ℕ) → (a : ℕ) × ModelFor T a × terms.Agrees (bit a) (behind T k).trail
  behind_model k =
      let x = at_every (tree T) alive k in
      let t = stack_of x.0 in
      let r = stack_replayed (tree T) x.0 x.1.fine in
      let d = replayed_depth (tree T) (stack_of x.0) r in
      let w = node_model (tree T) (ModelFor T) (splits T P) alive (to_assign T - depth (stack_of x.0)) (stack_of x.0) r (omega arith) in
      (w.0, w.1, rw (at_behind T x.1) (agrees_trail w.0 (stack_of x.0) w.2))

  -- ---- the pace

  told : (p : Position) → Reachable (tree T) p → trail_in (shown p) ≡ trail_of (stack_of p)
  told = shown_trail (tree T) alive small low

  -- the pace over a list of calls, and where the trails of neighbouring models part
  pub calls_pace : (bs : List ℕ) → WaitsFirst (to_assign T) (step_bound T) (gaps (walk_calls s us start bs))
  calls_pace bs = rw (calls_results bs) (pace (tree T) alive (step_bound T) (λ t _. cheap T P t) told bs)

  pub calls_paced : (bs : List ℕ) → Paced (to_assign T) (step_bound T) (gaps (walk_calls s us start bs))
  calls_paced bs = (calls_pace bs).0

  -- and the sharper one: what stripping leaves at a node is matched
  pub calls_paced_sound : (bs : List ℕ) → Paced (to_assign T) (to_assign T * (T.variables * suc T.variables)) (gaps (walk_calls s us start bs))
  calls_paced_sound bs = rw (calls_results bs) (pace (tree T) alive (to_assign T * (T.variables * suc T.variables)) (cheap_sound T P) told bs).0

  -- the same from the checkpoint of a model: mode 1, and every variable assigned
  module _ (c : Checkpoint) (w : Has T c) (mode : c.mode ≡ 1) (all : c.length ≡ to_assign T) where
    at_full : (p : Position) → Reachable (tree T) p → Stops (tree T) p → shown p ≡ c → (t : Stack) × (Replayed (tree T) t × (depth t ≡ to_assign T)) × (shown (full t) ≡ c)
    unfolding checkpoint_of next
    at_full (down empty) o q e = absurd (omega (arith, ap (λ (d : Checkpoint). d.mode) e))
    at_full (down (push v b t)) o (inl z) e = absurd (omega (arith, o.1))
    at_full (down (push v b t)) o (inr q) e =
        let d : suc (depth t) ≡ to_assign T = sym (length_trail (push v b t)) ∙ ap (λ (d : Checkpoint). d.length) e ∙ all in
        absurd (rw (eq-eqb (suc (depth t)) (to_assign T) d) at q)
    at_full (full t) o q e = (t, o, e)
    at_full (back true t) o q e = absurd (omega (arith, ap (λ (d : Checkpoint). d.mode) e))
    at_full (back false t) o q e = absurd (omega (arith, ap (λ (d : Checkpoint). d.mode) e))
    at_full over o q e = absurd (omega (arith, ap (λ (d : Checkpoint). d.mode) e))

    stands_full : (t : Stack) × (Replayed (tree T) t × (depth t ≡ to_assign T)) × (shown (full t) ≡ c)
    stands_full = let a = standing_at w.0 in at_full (standing w.0) a.fine (standing_stops w.0) (sym (at_checkpoint T a) ∙ w.1)

    -- it is the checkpoint of its own trail, whose assignment is a model
    pub full_model : (c ≡ checkpoint_of 1 (trail_in c)) × ModelFor T (assignment (T.before ++ trail_in c))
    full_model =
        let x = stands_full in
        let e : trail_in c ≡ trail_of x.0 = ap trail_in (sym x.2) ∙ told (full x.0) x.1 in
        rw e (sym x.2, ((splits T P).full_model x.0 x.1.0 x.1.1).0)

    pub model_paced : (bs : List ℕ) → PacedLater (to_assign T) (step_bound T) (trail_in c) (gaps (walk_calls s us c bs))
    model_paced bs =
        let x = stands_full in
        let t = x.0 in
        let o = x.1 in
        subst (λ (d : Checkpoint). PacedLater (to_assign T) (step_bound T) (trail_in d) (gaps (walk_calls s us d bs))) x.2
        (rw (told (full t) o, calls_go bs (full t) o (full_stops (tree T) t o.1))
        (pace_full (tree T) alive (step_bound T) (λ u _. cheap T P u) told bs t o.0 o.1).0)

  -- a call that says model returns the checkpoint of the model's trail
  pub call_trail : (c : Checkpoint) → Has T c → (b : ℕ) → (walk_call s us c b).kind ≡ says_model → (x : List Literal) × ModelTrail T (walk_call s us c b) x
  call_trail c w b e =
      let p = standing w.0 in
      let a = standing_at w.0 in
      let goes : walk_call s us c b ≡ resumed_result (resume (tree T) b p) =
      ap (λ (d : Checkpoint). walk_call s us d b) (sym w.1 ∙ at_checkpoint T a) ∙ call_goes b p a.fine (standing_stops w.0) in
      let f = model_full (tree T) alive b p a.fine (sym (ap (λ (r : Result). r.kind) goes) ∙ e) in
      let t = f.0 in
      let o : Reachable (tree T) (full t) = subst (Reachable (tree T)) f.1 (call_effect (tree T) alive b p a.fine).fine in
      let m = ap (λ (r : Result). r.model) goes ∙ f.2 in
      let d = ap (λ (r : Result). r.checkpoint) goes ∙ ap shown f.1 in (
        trail_of t,
        record {
          returned = d;
          read = ap trail_in d ∙ told (full t) o;
          full = length_trail t ∙ o.1;
          every = full_every T P t o.0 o.1;
          model = m;
          values = subst (λ (k : ℕ). terms.Agrees (bit k) (trail_of t)) (sym m) (agrees_trail ((tree T).result t) t ((splits T P).full_model t o.0 o.1).1);
        },
      )

  -- enough steps are not spent
  not_spent : (a : Answer) → (answer_kind a ≡ says_spent → ⊥) → (answer_kind a ≡ says_model) ⊎ (answer_kind a ≡ says_ended)
  not_spent (found a) h = inl refl
  not_spent spent h = absurd (h refl)
  not_spent ended h = inr refl

  -- so a call with that many brings a model or the end
  pub calls_ample : (bs : List ℕ) (b : ℕ) → ample_budget ≤ b
      → ((walk_call s us (last_checkpoint s us start bs) b).kind ≡ says_model) ⊎ ((walk_call s us (last_checkpoint s us start bs) b).kind ≡ says_ended)
  calls_ample bs b h =
      let a = standing_at bs in
      rw (last_plain bs, at_checkpoint T a, call_goes b (standing bs) a.fine (standing_stops bs))
      (not_spent (resume (tree T) b (standing bs)).answer (never_spent (tree T) alive b (standing bs) a.fine (omega (arith, small))))

  -- a call makes at most its budget's steps
  pub calls_within : (bs : List ℕ) (b : ℕ) → (walk_call s us (last_checkpoint s us start bs) b).steps ≤ b
  calls_within bs b =
      let a = standing_at bs in
      rw (last_plain bs, at_checkpoint T a, call_goes b (standing bs) a.fine (standing_stops bs)) (resume_within (tree T) b (standing bs))

  -- and all of them where it says spent
  pub calls_spent : (bs : List ℕ) (b : ℕ) → (walk_call s us (last_checkpoint s us start bs) b).kind ≡ says_spent → (walk_call s us (last_checkpoint s us start bs) b).steps ≡ b
  calls_spent bs b =
      let a = standing_at bs in
      rw (last_plain bs, at_checkpoint T a, call_goes b (standing bs) a.fine (standing_stops bs)) (spent_all (tree T) alive b (standing bs) a.fine)

  -- from the end a call says ended at once
  pub call_over : (b : ℕ) → walk_call s us (checkpoint_of 4 []) b ≡ answered ended 0 0 (checkpoint_of 4 [])
  unfolding trail_of next
  call_over b = call_goes b over tt (over_stops (tree T) alive) ∙ ap resumed_result (loop_over (tree T) b over refl)

  -- a checkpoint that the walk has not is refused by 11
  pub foreign : (c : Checkpoint) (b : ℕ) → (Has T c → ⊥) → walk_call s us c b ≡ refusing (ForeignCheckpoint 0) c
  foreign c b f = at (located T c) refl
    where
      at : (x : Located) → located T c ≡ x → walk_call s us c b ≡ refusing (ForeignCheckpoint 0) c
      at (at_state k) e = let w = located_stands T c k e in absurd (f (w.0, ap (checkpoint_after T) w.1 ∙ w.2))
      at nowhere e = call_is c b nowhere e

  has_number : (c : Checkpoint) (b : ℕ) → Has T c → (walk_call s us c b).number ≡ 0
  has_number c b w = ap (λ (x : Checkpoint). (walk_call s us x b).number) (sym w.1) ∙ ap (λ (r : Result). r.number) (call_plain w.0 b)

  -- 11 exactly for the checkpoints that the walk has not
  pub foreign_number : (c : Checkpoint) (b : ℕ) → ((walk_call s us c b).number ≡ 11) ↔ (Has T c → ⊥)
  foreign_number c b = (λ e w. let z = has_number c b w in omega arith, λ f. ap (λ (r : Result). r.number) (foreign c b f))

  -- ---- the call as the code makes it

  has_accepted : (c : Checkpoint) → Has T c → accepts (tree T) c ≡ true
  has_accepted c w =
      let a = standing_at w.0 in
      stopped_accepted (tree T) alive small low c
      (record { position = standing w.0; fine = a.fine; stops = standing_stops w.0; shows = sym (at_checkpoint T a) ∙ w.1 })

  -- the test passes exactly the checkpoints that the walk has, and the machine goes on from there as the plain one does
  pub call_tested : (c : Checkpoint) (b : ℕ) → length c.bytes ≡ max_variables
      → walk_call s us c b ≡ cond (accepts (tree T) c) (call_from (tree T) c b) (refusing (ForeignCheckpoint 0) c)
  call_tested c b h = at (accepts (tree T) c) refl
    where
      at : (x : Bool) → accepts (tree T) c ≡ x → walk_call s us c b ≡ cond x (call_from (tree T) c b) (refusing (ForeignCheckpoint 0) c)
      at true e =
          let w = accepted_stopped (tree T) alive small low c h e in
          subst (λ (x : Checkpoint). walk_call s us x b ≡ call_from (tree T) x b) w.shows
          (call_goes b w.position w.fine w.stops ∙ sym (call_shown (tree T) alive small low b w.position w.fine w.stops))
      at false e = foreign c b (λ w. bool_clash (has_accepted c w) e)

  -- the checkpoint behind k entries has 48 bytes
  pub after_bytes : (k : ℕ) → length (checkpoint_after T k).bytes ≡ max_variables
  after_bytes k =
      let x = at_every (tree T) alive k in
      ap (λ (c : Checkpoint). length c.bytes) (at_checkpoint T x.1) ∙ shown_bytes (tree T) x.0 x.1.fine small

  -- the checkpoints that the walk has are those that calls from the start return
  pub has_returned : (c : Checkpoint) → Has T c ↔ ((bs : List ℕ) × (last_checkpoint s us start bs ≡ c))
  has_returned c = (λ w. (w.0, last_plain w.0 ∙ w.1), λ w. (w.0, sym (last_plain w.0) ∙ w.1))

  -- and are the proper ones
  pub has_proper : (c : Checkpoint) → Has T c ↔ Proper T c
  has_proper c = (
    λ w. let a = standing_at w.0 in stop_proper T alive (standing w.0) c a.fine (standing_stops w.0) (sym (at_checkpoint T a) ∙ w.1),
    λ w. let x = proper_stop T alive c w in let h = stopped_has x.0 x.1 x.2 in (h.0, h.1 ∙ x.3),
  )

  -- the start checkpoint on budget 0, where something is to be assigned
  pub start_zero : 0 < to_assign T → walk_call s us start 0 ≡ answered spent 0 0 start
  start_zero h = rw start_shown (call_goes 0 (down empty) tt start_stop ∙ ap resumed_result (down_spent (tree T) alive empty h))

  -- at every node of the walk a value of the chosen variable is open exactly if some model of the formula agrees with what is assigned and
  -- has it
  pub node_open : (k : ℕ) → length (behind T k).trail < to_assign T → (b : Bool)
      → (opened (choice_at T (behind T k).trail) b ≡ true)
      ↔ ((a : ℕ) × Model T.variables T.clauses a × terms.Agrees (bit a) T.before × terms.Agrees (bit a) (behind T k).trail × (bit a (choice_at T (behind T k).trail).variable ≡ b))
  node_open k h b =
      let x = at_every (tree T) alive k in
      let t = stack_of x.0 in
      let r = stack_replayed (tree T) x.0 x.1.fine in
      let e : (behind T k).trail ≡ trail_of (stack_of x.0) = ap (λ (b : Behind). b.trail) (at_behind T x.1) in
      let d : depth (stack_of x.0) < to_assign T = omega (arith, length_trail (stack_of x.0), (rw e at h)) in
      rw e (
        λ o. let w = open_model T P t r d b o in (w.0, w.1.model, w.1.agrees, agrees_trail w.0 t w.2.1, w.2.0),
        λ w. any_open T P t r d b w.0 w.1 (λ l i. ⊎_elim (λ j. w.2 l j) (λ j. w.3 l j) (Memᴰ.append_cases T.before i)) w.4,
      )

  -- the expansions of one assignment
  pub assignment_cheap : (l : Literal) (e : ℕ) → Memᴰ (assigns l e) (plain_walk T) → e ≤ step_bound T
  assignment_cheap l e m = walk_cheap (tree T) (step_bound T) (λ t r. cheap T P t) l e (rw (walk_same T) at m)

  -- and by the number of variables alone
  pub assignment_cheap_sound : (l : Literal) (e : ℕ) → Memᴰ (assigns l e) (plain_walk T) → e ≤ to_assign T * (T.variables * suc T.variables)
  assignment_cheap_sound l e m = walk_cheap (tree T) (to_assign T * (T.variables * suc T.variables)) (cheap_sound T P) l e (rw (walk_same T) at m)

  -- a variable of the trail is one of those to assign,
  pub behind_inside : (k v : ℕ) → names (behind T k).trail v ≡ true → bit T.scope v ≡ true
  behind_inside k v h =
      let x = at_every (tree T) alive k in
      let t = stack_of x.0 in
      let e : (behind T k).trail ≡ trail_of t = ap (λ (b : Behind). b.trail) (at_behind T x.1) in
      trail_inside T P t (stack_replayed (tree T) x.0 x.1.fine) v (rw e at h)

  -- also one of the trail in a checkpoint that the walk has
  pub has_inside : (c : Checkpoint) → Has T c → (v : ℕ) → names (trail_in c) v ≡ true → bit T.scope v ≡ true
  has_inside c w v h =
      let p = standing w.0 in
      let a = standing_at w.0 in
      let e : trail_in c ≡ trail_of (stack_of p) = ap trail_in (sym w.1 ∙ at_checkpoint T a) ∙ told p a.fine in
      trail_inside T P (stack_of p) (stack_replayed (tree T) p a.fine) v (rw e at h)

  -- where something is to be assigned, the walk has no checkpoint of mode 1 and no trail
  pub has_assigned : 0 < to_assign T → Has T (checkpoint_of 1 []) → ⊥
  unfolding checkpoint_of
  has_assigned some w =
      let p = (has_proper (checkpoint_of 1 [])).0 w in
      ⊎_elim (λ h. let e = ap (λ (c : Checkpoint). c.length) p.written in omega arith) (λ e. omega arith) p.mode_fits

  -- where something is to be assigned, a call of budget 0 brings no model
  pub zero_brings_none : 0 < to_assign T → (c : Checkpoint) → (walk_call s us c 0).kind ≡ says_model → ⊥
  unfolding resume
  zero_brings_none some c = at (located T c) refl
    where
      kinds : (p : Position) (x : Next) → Pauses x → answer_kind (onward p x (λ e q. halted spent p)).answer ≡ says_model → ⊥
      kinds p nothing h e = let z : ◌≡◌ {A = ℕ} 0 1 = cc in omega arith
      kinds p (hands a q) h e = h
      kinds p (ends q) h e = h
      kinds p (steps n q) h e = let z : ◌≡◌ {A = ℕ} 0 1 = cc in omega arith

      paused : (p : Position) → Stops (tree T) p → answer_kind (resume (tree T) 0 p).answer ≡ says_model → ⊥
      paused p (inl e) h = omega arith
      paused p (inr q) h = kinds p (next (tree T) p) q h

      at : (x : Located) → located T c ≡ x → (walk_call s us c 0).kind ≡ says_model → ⊥
      at (at_state k) q e =
          let w = located_stands T c k q in
          let a = standing_at w.0 in
          let same : checkpoint_after T (state_after T 0 w.0) ≡ c = ap (checkpoint_after T) w.1 ∙ w.2 in
          paused (standing w.0) (standing_stops w.0)
          (sym (ap (λ (r : Result). r.kind) (call_goes 0 (standing w.0) a.fine (standing_stops w.0)))
          ∙ ap (λ (d : Checkpoint). (walk_call s us d 0).kind) (sym (at_checkpoint T a) ∙ same)
          ∙ e)
      at nowhere q e = let z : ◌≡◌ {A = ℕ} 0 1 = cc (ap (λ (r : Result). r.kind) (call_is c 0 nowhere q)) in omega arith

  -- no call makes more steps than its budget, from whatever checkpoint
  pub call_within : (c : Checkpoint) (b : ℕ) → (walk_call s us c b).steps ≤ b
  call_within c b = at (located T c) refl
    where
      at : (x : Located) → located T c ≡ x → (walk_call s us c b).steps ≤ b
      at (at_state k) e =
          let w = located_stands T c k e in
          subst (λ (d : Checkpoint). (walk_call s us d b).steps ≤ b) (last_plain w.0 ∙ ap (checkpoint_after T) w.1 ∙ w.2) (calls_within w.0 b)
      at nowhere e = rw (call_is c b nowhere e) (omega arith)

  -- ---- one call

  -- r, the result of a call, k entries behind before it and j behind it: the checkpoint is that behind j; the models that were left are the
  -- one that it brings, if any, and those left then; behind a model the mode is 1; if it says ended, none is left, and the checkpoint is
  -- that of the end
  pub record Onward (k j : ℕ) (r : Result) : Type 0 where
    pub returned : checkpoint_after T j ≡ r.checkpoint
    pub models : models_of (drop k (plain_walk T)) ≡ brings r.kind r.model ++ models_of (drop j (plain_walk T))
    pub mode : r.kind ≡ says_model → r.checkpoint.mode ≡ 1
    pub none : r.kind ≡ says_ended → models_of (drop j (plain_walk T)) ≡ []
    pub over : r.kind ≡ says_ended → r.checkpoint ≡ checkpoint_of 4 []

  at_models : {k : ℕ} {p : Position} → At (tree T) k p → models_of (drop k (plain_walk T)) ≡ models_of (rest (tree T) p)
  at_models {k} a = ap (λ (l : List Entry). models_of (drop k l)) (walk_same T) ∙ ap models_of a.ahead

  -- a call from a checkpoint that the walk has
  pub call_onward : (bs : List ℕ) (b : ℕ) → Onward (state_after T 0 bs) (state_after T 0 (bs ++ (b ∷ []))) (walk_call s us (checkpoint_after T (state_after T 0 bs)) b)
  unfolding state_after trail_of checkpoint_of
  call_onward bs b =
      let a = standing_at bs in
      let p = standing bs in
      let v = (plain-same b (state_after T 0 bs) p a).at in
      rw (at_checkpoint T a, call_goes b p a.fine (standing_stops bs), state_append T bs (b ∷ []) 0) (record {
        returned = at_checkpoint T v;
        models = at_models a ∙ models_next (tree T) alive b p a.fine
            ∙ ap (λ (l : List ℕ). brings (resumed_result (resume (tree T) b p)).kind (resumed_result (resume (tree T) b p)).model ++ l) (sym (at_models v));
        mode = λ x. model_mode (tree T) alive b p a.fine x;
        none = λ x. at_models v ∙ (ended_stops (tree T) alive b p a.fine x).1;
        over = λ x. ap shown (ended_stops (tree T) alive b p a.fine x).0;
      })
