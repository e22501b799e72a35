-- The gaps of a list of calls: where models are neighbours, and one call more.
use Prim.Native.Nat.{ℕ, ◌+◌, ◌*◌, ◌-◌, ◌≤◌, ◌<◌}
use mathlib.Core.List.{List, [], ◌∷◌, ◌++◌, append_assoc, map}
use mathlib.Core.Logic.{◌⊎◌, inl, inr}
use mathlib.Core.Path.{◌≡◌, refl, sym, ap, ap₂, ◌∙◌}
use native.Mathlib.Omega.{arith}
use lib.ListN.{length, length-append, length-drop}
use Rattle.lists.specs.Every.{Every}
use Rattle.formula.specs.Format.{Literal}
use Rattle.assumptions.specs.declared.Assumption.{Assumption}
use Rattle.walk.specs.Task.{Task, to_assign, Posed}
use Rattle.walk.specs.Plain.{assignment, listing}
use Rattle.walk.specs.Checkpoints.{Checkpoint, trail_in, checkpoint_of, start}
use Rattle.walk.specs.PlainMachine.{Has}
use Rattle.walk.specs.WalkCall.{walk_call, walk_calls, last_checkpoint}
use Rattle.walk.specs.InnerLocate.{task_call}
use Rattle.walk.specs.Results.{AnswerKind, says_model, says_spent, says_ended, says_refused, Result}
use Rattle.walk.specs.Gaps.{brings, brought, Gap, to_model, to_end, so_far, gap_after, gaps_from, gaps, gap_trails, ModelTrail, shared, Parting, step_bound, ample_budget}
use Rattle.walk.proofs.BudgetLaws.{calls_append}
use Rattle.walk.proofs.PaceLaws.{WaitsLater, WaitsFirst}
use Rattle.walk.proofs.TaskLaws as laws
use Rattle.walk.proofs.HasLaws as has

-- ---- behind a model among gaps

-- behind an open gap there is no other
open_last : {C : Type 0} (rs : List Result) (c e d f : ℕ) (g : Gap) (gs hs : List Gap) → gaps_from c e rs ≡ so_far d f ∷ (gs ++ (g ∷ hs)) → C
unfolding gaps_from
open_last [] c e d f g [] hs h = let z : ◌≡◌ {A = ℕ} 0 1 = cc in absurd (omega arith)
open_last [] c e d f g (k ∷ gs) hs h = let z : ◌≡◌ {A = ℕ} 0 1 = cc in absurd (omega arith)
open_last {C} (r ∷ rs) c e d f g gs hs h = at r.kind h (λ c' e'. open_last rs c' e' d f g gs hs)
  where
    at : (k : AnswerKind) → gap_after k (c + r.steps) (e + r.expansions) (trail_in r.checkpoint) (λ c' e'. gaps_from c' e' rs) ≡ so_far d f ∷ (gs ++ (g ∷ hs))
        → ((c e : ℕ) → gaps_from c e rs ≡ so_far d f ∷ (gs ++ (g ∷ hs)) → C) → C
    at says_model h ih = let z : ◌≡◌ {A = ℕ} 0 1 = cc in absurd (omega arith)
    at says_spent h ih = ih _ _ h
    at says_refused h ih = ih _ _ h
    at says_ended h ih = let z : ◌≡◌ {A = ℕ} 0 1 = cc in absurd (omega arith)

module _ (n B : ℕ) where
  later_behind : (gs hs : List Gap) (c e : ℕ) (x y : List Literal) → WaitsLater n B x (gs ++ (to_model c e y ∷ hs)) → WaitsLater n B y hs
  later_behind [] hs c e x y p = (p.0.3, p.1.1)
  later_behind (to_model d f z ∷ gs) hs c e x y p = later_behind gs hs c e z y (p.0.3, p.1.1)
  later_behind (to_end d f ∷ gs) hs c e x y p = later_behind gs hs c e x y (p.0.2, p.1)
  later_behind (so_far d f ∷ gs) hs c e x y p = later_behind gs hs c e x y (p.0.2, p.1)

  -- the waits behind a model, and where the trails part there
  first_behind : (rs : List Result) (gs hs : List Gap) (c e : ℕ) (y : List Literal) → gaps rs ≡ gs ++ (to_model c e y ∷ hs) → WaitsFirst n B (gaps rs) → WaitsLater n B y hs
  first_behind rs gs hs c e y h p = at gs h (rw h at p)
    where
      at : (gs : List Gap) → gaps rs ≡ gs ++ (to_model c e y ∷ hs) → WaitsFirst n B (gs ++ (to_model c e y ∷ hs)) → WaitsLater n B y hs
      at [] h p = (p.0.2, p.1)
      at (to_model d f z ∷ gs) h p = later_behind gs hs c e z y (p.0.2, p.1)
      at (to_end d f ∷ gs) h p = absurd p.0
      at (so_far d f ∷ gs) h p = open_last rs 0 0 d f _ gs hs h

-- trails that part have something behind what they share
pub parting_some : (x y : List Literal) → Parting x y → 0 < length y - shared x y
parting_some x y p = omega (arith, ap length p.has.1, length-drop (shared x y) y)

-- ---- one call more

-- an open gap, and a result behind it
abbrev then : ℕ → ℕ → Result → List Gap
then c e r = gap_after r.kind (c + r.steps) (e + r.expansions) (trail_in r.checkpoint) (λ c' e'. so_far c' e' ∷ [])

-- the gaps of results whose last gap is open, and of one more
gaps_more : (rs : List Result) (r : Result) (c e d f : ℕ) (gs : List Gap) → gaps_from c e rs ≡ gs ++ (so_far d f ∷ []) → gaps_from c e (rs ++ (r ∷ [])) ≡ gs ++ then d f r
unfolding gaps_from
gaps_more [] r c e d f [] h = let p : c ≡ d = cc in let q : e ≡ f = cc in rw (p, q) refl
gaps_more [] r c e d f (g ∷ []) h = let z : ◌≡◌ {A = ℕ} 0 1 = cc in absurd (omega arith)
gaps_more [] r c e d f (g ∷ (k ∷ gs)) h = let z : ◌≡◌ {A = ℕ} 0 1 = cc in absurd (omega arith)
gaps_more (q ∷ rs) r c e d f gs h = at q.kind gs h (λ c' e' gs'. gaps_more rs r c' e' d f gs')
  where
    at : (k : AnswerKind) (gs : List Gap)
        → gap_after k (c + q.steps) (e + q.expansions) (trail_in q.checkpoint) (λ c' e'. gaps_from c' e' rs) ≡ gs ++ (so_far d f ∷ [])
        → ((c e : ℕ) (gs : List Gap) → gaps_from c e rs ≡ gs ++ (so_far d f ∷ []) → gaps_from c e (rs ++ (r ∷ [])) ≡ gs ++ then d f r)
        → gap_after k (c + q.steps) (e + q.expansions) (trail_in q.checkpoint) (λ c' e'. gaps_from c' e' (rs ++ (r ∷ []))) ≡ gs ++ then d f r
    at says_model [] h ih = let z : ◌≡◌ {A = ℕ} 0 1 = cc in absurd (omega arith)
    at says_model (g ∷ gs) h ih =
        let a : to_model (c + q.steps) (e + q.expansions) (trail_in q.checkpoint) ≡ g = cc in
        let b : gaps_from 0 0 rs ≡ gs ++ (so_far d f ∷ []) = cc in
        ap₂ {C = List Gap} (λ x y. x ∷ y) a (ih 0 0 gs b)
    at says_spent gs h ih = ih _ _ gs h
    at says_refused gs h ih = ih _ _ gs h
    at says_ended [] h ih = let z : ◌≡◌ {A = ℕ} 0 1 = cc in absurd (omega arith)
    at says_ended (g ∷ []) h ih = let z : ◌≡◌ {A = ℕ} 0 1 = cc in absurd (omega arith)
    at says_ended (g ∷ (k ∷ gs)) h ih = let z : ◌≡◌ {A = ℕ} 0 1 = cc in absurd (omega arith)

brought_append : (rs ts : List Result) → brought (rs ++ ts) ≡ brought rs ++ brought ts
unfolding brought
brought_append [] ts = refl
brought_append (r ∷ rs) ts =
    ap (λ (m : List ℕ). brings r.kind r.model ++ m) (brought_append rs ts)
    ∙ sym (append_assoc (brings r.kind r.model) (brought rs) (brought ts))

-- ---- over walk calls: an input whose walk calls are those on a task

module _ (s : List ℕ) (us : List Assumption) (T : Task) (P : Posed T) (walks : (c : Checkpoint) (b : ℕ) → walk_call s us c b ≡ task_call T c b) where
  -- what two neighbours are: the wait between them, and where their trails part
  abbrev Waited : ℕ → List Literal → List Literal → Type 0
  Waited d x y = (d ≡ 2 * (length y - shared x y)) × Parting x y

  -- the gaps of a list of calls
  abbrev gaps_of : List ℕ → List Gap
  gaps_of bs = gaps (walk_calls s us start bs)

  -- the waits behind a model with the trail x
  waits_behind : (bs : List ℕ) (gs hs : List Gap) (c e : ℕ) (x : List Literal) → gaps_of bs ≡ gs ++ (to_model c e x ∷ hs) → WaitsLater (to_assign T) (step_bound T) x hs
  waits_behind bs gs hs c e x h = first_behind (to_assign T) (step_bound T) (walk_calls s us start bs) gs hs c e x h (laws.calls_pace s us T P walks bs)

  -- the next model
  pub next_waited : (bs : List ℕ) (gs hs : List Gap) (c e d f : ℕ) (x y : List Literal) → gaps_of bs ≡ gs ++ (to_model c e x ∷ to_model d f y ∷ hs) → Waited d x y
  next_waited bs gs hs c e d f x y h = let w = waits_behind bs gs (to_model d f y ∷ hs) c e x h in (w.0.0, w.1.0)

  -- the call behind a list of calls
  abbrev call_after : List ℕ → ℕ → Result
  call_after bs b = walk_call s us (last_checkpoint s us start bs) b

  gaps_of_more : (bs : List ℕ) (b c e : ℕ) (gs : List Gap) → gaps_of bs ≡ gs ++ (so_far c e ∷ []) → gaps_of (bs ++ (b ∷ [])) ≡ gs ++ then c e (call_after bs b)
  unfolding walk_calls
  gaps_of_more bs b c e gs h =
      ap (λ (rs : List Result). gaps rs) (calls_append s us bs (b ∷ []) start) ∙ gaps_more (walk_calls s us start bs) (call_after bs b) 0 0 c e gs h

  -- c steps behind a model with the trail x, the result r brings the next one or the end
  abbrev Closes : ℕ → List Literal → Result → Type 0
  Closes c x r = ((r.kind ≡ says_model) × Waited (c + r.steps) x (trail_in r.checkpoint)) ⊎ ((r.kind ≡ says_ended) × (c + r.steps ≡ to_assign T))

  -- so it is on an ample budget
  pub ample_closes : (bs : List ℕ) (gs : List Gap) (c e d f : ℕ) (x : List Literal) → gaps_of bs ≡ gs ++ (to_model d f x ∷ so_far c e ∷ []) → (b : ℕ) → ample_budget ≤ b
      → Closes c x (call_after bs b)
  ample_closes bs gs c e d f x h b l = at (laws.calls_ample s us T P walks bs b l)
    where
      more : gaps_of (bs ++ (b ∷ [])) ≡ gs ++ (to_model d f x ∷ then c e (call_after bs b))
      more =
          gaps_of_more bs b c e (gs ++ (to_model d f x ∷ [])) (h ∙ sym (append_assoc gs (to_model d f x ∷ []) (so_far c e ∷ [])))
          ∙ append_assoc gs (to_model d f x ∷ []) (then c e (call_after bs b))

      at : ((call_after bs b).kind ≡ says_model) ⊎ ((call_after bs b).kind ≡ says_ended) → Closes c x (call_after bs b)
      at (inl k) = inl (k, next_waited (bs ++ (b ∷ [])) gs (so_far 0 0 ∷ []) d f _ _ x _ (rw k at more))
      at (inr k) = inr (k, (waits_behind (bs ++ (b ∷ [])) gs _ d f x (rw k at more)).0.0)

  -- from the start
  pub ample_first : (bs : List ℕ) (c e : ℕ) → gaps_of bs ≡ so_far c e ∷ [] → (b : ℕ) → ample_budget ≤ b
      → (let r = call_after bs b in (r.kind ≡ says_model) × (c + r.steps ≡ to_assign T))
  ample_first bs c e h b l = at (laws.calls_ample s us T P walks bs b l)
    where
      at : ((call_after bs b).kind ≡ says_model) ⊎ ((call_after bs b).kind ≡ says_ended) → (let r = call_after bs b in (r.kind ≡ says_model) × (c + r.steps ≡ to_assign T))
      at (inl k) = (k, (rw (rw k at (gaps_of_more bs b c e [] h)) at (laws.calls_paced s us T P walks (bs ++ (b ∷ [])))).0)
      at (inr k) = absurd (rw (rw k at (gaps_of_more bs b c e [] h)) at (laws.calls_paced s us T P walks (bs ++ (b ∷ []))))

  -- once the listing is brought, no further call brings a model
  none_behind_last : (bs : List ℕ) (b : ℕ) → brought (walk_calls s us start bs) ≡ listing T → (call_after bs b).kind ≡ says_model → ⊥
  unfolding walk_calls brought
  none_behind_last bs b h k =
      let w = laws.calls_first s us T P walks (bs ++ (b ∷ [])) in
      let one : brought (walk_calls s us start (bs ++ (b ∷ []))) ≡ brought (walk_calls s us start bs) ++ ((call_after bs b).model ∷ []) =
      ap brought (calls_append s us bs (b ∷ []) start) ∙ brought_append (walk_calls s us start bs) (call_after bs b ∷ [])
      ∙ ap (λ (a : AnswerKind). brought (walk_calls s us start bs) ++ (brings a (call_after bs b).model ++ [])) k in
      omega (
        arith,
        ap length w.1,
        length-append (brought (walk_calls s us start (bs ++ (b ∷ [])))) w.0,
        ap length one,
        length-append (brought (walk_calls s us start bs)) ((call_after bs b).model ∷ []),
        ap length h,
      )

  -- so behind the last model at most n steps are made
  pub after_last : (bs : List ℕ) (gs : List Gap) (c e d f : ℕ) (x : List Literal) → gaps_of bs ≡ gs ++ (to_model d f x ∷ so_far c e ∷ [])
      → brought (walk_calls s us start bs) ≡ listing T → c ≤ to_assign T
  after_last bs gs c e d f x h all = at (ample_closes bs gs c e d f x h ample_budget (omega arith))
    where
      at : Closes c x (call_after bs ample_budget) → c ≤ to_assign T
      at (inl w) = absurd (none_behind_last bs ample_budget all w.0)
      at (inr w) = omega (arith, w.1)

  -- ---- the trails

  -- the trail of every model that calls bring
  pub calls_trails : (bs : List ℕ) (c : Checkpoint) → Has T c → Every (λ r. r.kind ≡ says_model → (x : List Literal) × ModelTrail T r x) (walk_calls s us c bs)
  unfolding walk_calls
  calls_trails [] c w = tt
  calls_trails (b ∷ bs) c w =
      (laws.call_trail s us T P walks c w b, calls_trails bs (walk_call s us c b).checkpoint (has.call_has s us T P walks c w b))

  -- past the end no call brings a model
  end_brings_none : (bs : List ℕ) → brought (walk_calls s us (checkpoint_of 4 []) bs) ≡ []
  unfolding walk_calls brought
  end_brings_none [] = refl
  end_brings_none (b ∷ bs) = rw (laws.call_over s us T P walks b) (end_brings_none bs)

  -- the models of the trails are those that are brought
  pub trails_brought : (bs : List ℕ) (c : Checkpoint) → Has T c → (k e : ℕ)
      → map (λ x. assignment (T.before ++ x)) (gap_trails (gaps_from k e (walk_calls s us c bs))) ≡ brought (walk_calls s us c bs)
  unfolding walk_calls brought gaps_from gap_trails
  trails_brought [] c w k e = refl
  trails_brought (b ∷ bs) c w k e =
      let r = walk_call s us c b in
      at r.kind refl (λ k' e'. trails_brought bs r.checkpoint (has.call_has s us T P walks c w b) k' e')
    where
      at : (a : AnswerKind) → (walk_call s us c b).kind ≡ a
          → ((k e : ℕ) → map (λ x. assignment (T.before ++ x)) (gap_trails (gaps_from k e (walk_calls s us (walk_call s us c b).checkpoint bs)))
          ≡ brought (walk_calls s us (walk_call s us c b).checkpoint bs))
          → (let r = walk_call s us c b in
          map (λ x. assignment (T.before ++ x)) (gap_trails (gap_after a (k + r.steps) (e + r.expansions) (trail_in r.checkpoint) (λ k' e'. gaps_from k' e' (walk_calls s us r.checkpoint bs))))
          ≡ brings a r.model ++ brought (walk_calls s us r.checkpoint bs))
      at says_model q ih =
          let t = (laws.call_trail s us T P walks c w b q).1 in
          ap₂ {C = List ℕ} (λ m ms. m ∷ ms) (ap (λ (x : List Literal). assignment (T.before ++ x)) t.read ∙ sym t.model) (ih 0 0)
      at says_spent q ih = ih _ _
      at says_refused q ih = ih _ _
      at says_ended q ih = sym (ap (λ (d : Checkpoint). brought (walk_calls s us d bs)) ((has.has_onward s us T P walks c w b).over q) ∙ end_brings_none bs)

  -- ---- one call

  -- in the checkpoint that comes back with a model every variable is assigned
  pub model_length : (c : Checkpoint) → Has T c → (b : ℕ) → (walk_call s us c b).kind ≡ says_model → (walk_call s us c b).checkpoint.length ≡ to_assign T
  unfolding checkpoint_of
  model_length c w b e = let t = (laws.call_trail s us T P walks c w b e).1 in ap (λ (d : Checkpoint). d.length) t.returned ∙ t.full

  -- a model that a call from such a checkpoint brings
  pub model_wait : (c : Checkpoint) → Has T c → c.mode ≡ 1 → c.length ≡ to_assign T → (b : ℕ) → (walk_call s us c b).kind ≡ says_model
      → (let y = trail_in (walk_call s us c b).checkpoint in (walk_call s us c b).steps ≡ 2 * (length y - shared (trail_in c) y))
  unfolding walk_calls gaps_from
  model_wait c w m l b e = let p = rw e at (laws.model_paced s us T P walks c w m l (b ∷ [])) in omega (arith, p.0)

  -- and one from the start
  pub start_wait : (b : ℕ) → (walk_call s us start b).kind ≡ says_model → (walk_call s us start b).steps ≡ to_assign T
  unfolding walk_calls gaps_from
  start_wait b e = let p = rw e at (laws.calls_paced s us T P walks (b ∷ [])) in omega (arith, p.0)
