-- Which inputs are walked at all, under which assumptions: the refusals 2 to 10 and 16; and that a call returns a checkpoint of 48 bytes.
use Prim.Native.Nat.{ℕ, ◌≤◌, ◌<◌}
use mathlib.Core.List.{List, [], ◌∷◌, map}
use mathlib.Core.Logic.{◌↔◌}
use mathlib.Core.Path.{◌≡◌, refl, sym, ap, ◌∙◌}
use native.Mathlib.Omega.{arith}
use lib.ListN.{length}
use Rattle.limits.specs.Limits.{max_variables, max_clauses}
use Rattle.formula.specs.declared.Refusal.{Refusal}
use Rattle.formula.specs.declared.Refusal.TheVariants.{Unmatched, BadAssumption}
use Rattle.formula.specs.InnerDecode.{decode}
use Rattle.formula.specs.Decoding.{readable, refused}
use Rattle.formula.specs.Format.{Literal, Encodes}
use Rattle.formula.specs.Refusals.{table_row}
use Rattle.assumptions.specs.declared.Assumption.{Assumption}
use Rattle.assumptions.specs.FirstBad.{NoneBad, FirstBad}
use Rattle.assumptions.specs.Assumed.{literals, bad, literal_of, assumed}
use Rattle.matched.specs.Acceptance.{Acceptance, accepted, declined, acceptance}
use Rattle.matched.specs.Judge.{Judged, refused_values, judge}
use Rattle.matched.specs.Pairing.{Pairs, left_of, Walkable, marked}
use Rattle.matched.specs.WithoutAssumptions.{plain_acceptance}
use Rattle.matched.proofs.Demands.{acceptance_unassumed}
use Rattle.matched.proofs.UnassumedLaws.{plain-same}
use Rattle.matched.proofs.JudgeLaws.{judge_declined}
use Rattle.matched.proofs.AcceptanceLaws.{left_sound, accepted_is, accepted_walkable, walkable_accepted, unpaired_declined, bad_declined, unreadable_declined, declined_number, declined_unmatched, declined_bad}
use Rattle.walk.specs.Task.{Task, under, Posed}
use Rattle.walk.specs.Checkpoints.{Checkpoint, start}
use Rattle.walk.specs.PlainMachine.{plain_call}
use Rattle.walk.specs.WalkCall.{call_on, walk_call, walk_calls}
use Rattle.walk.specs.WithoutAssumptions.{plain_call_on}
use Rattle.walk.specs.InnerLocate.{Located, at_state, nowhere, located, by_state, task_call}
use Rattle.walk.specs.Results.{says_refused, Result, refusing}
use Rattle.walk.proofs.TaskLaws.{answer_unrefused, calls_unrefused, call_is, call_within, after_bytes}
use Rattle.walk.proofs.UnderLaws.{under_posed, under_none}

-- a call on a task is refused by 11 or by nothing
walked_number : (T : Task) (c : Checkpoint) (b : ℕ) (x : Located) {k : ℕ} → 0 < k → (k ≡ 11 → ⊥) → (by_state T c x b).number ≡ k → ⊥
walked_number T c b (at_state i) some other e = omega arith
walked_number T c b nowhere some other e = other (omega arith)

module _ (s : List ℕ) (us : List Assumption) where
  -- a declined input gets its refusal
  pub call_declined : (r : Refusal) (row : List ℕ) (c : Checkpoint) (b : ℕ) → acceptance s us ≡ declined r row → walk_call s us c b ≡ refusing r c
  unfolding walk_call
  call_declined r row c b e = rw e

  -- an accepted one is walked as its formula's task under the assumptions
  pub call_accepted : (n : ℕ) (t : List Literal) (cs : List (List Literal)) (row : List ℕ) → acceptance s us ≡ accepted n t cs row → (c : Checkpoint) (b : ℕ)
      → walk_call s us c b ≡ task_call (under n t cs) c b
  unfolding walk_call
  call_accepted n t cs row e c b = rw e

  -- which is as the walk asks it
  pub accepted_posed : (n : ℕ) (t : List Literal) (cs : List (List Literal)) (row : List ℕ) → acceptance s us ≡ accepted n t cs row → Posed (under n t cs)
  accepted_posed n t cs row e = let w = accepted_is s us n t cs row e in under_posed n t cs w.sized w.over (left_sound n t cs w.vs w.pairs)

  -- an unreadable input gets the reader's refusal
  pub call_unreadable : (r : Refusal) (c : Checkpoint) (b : ℕ) → decode s ≡ refused r → walk_call s us c b ≡ refusing r c
  call_unreadable r c b e = call_declined r [] c b (unreadable_declined s us r e)

  -- a readable one with a bad assumption gets 16
  pub call_bad : (n : ℕ) (cs : List (List Literal)) (i : ℕ) (c : Checkpoint) (b : ℕ) → decode s ≡ readable n cs → assumed n us ≡ bad i
      → walk_call s us c b ≡ refusing (BadAssumption i) c
  call_bad n cs i c b e f = call_declined (BadAssumption i) [] c b (bad_declined s us n cs i e f)

  -- a readable one of which what stripping leaves is not matched gets 10 with the number of marks that judge gives
  pub call_unmatched : (buffer : List ℕ) (n : ℕ) (t : List Literal) (cs : List (List Literal)) → max_clauses ≤ length buffer
      → decode s ≡ readable n cs → assumed n us ≡ literals t → ((vs : List ℕ) → Pairs (left_of n t cs) vs → ⊥)
      → (k : ℕ) × ((judge s us buffer).answer ≡ refused_values (Unmatched k)) × ((c : Checkpoint) (b : ℕ) → walk_call s us c b ≡ refusing (Unmatched k) c)
  call_unmatched buffer n t cs l reads assumes none =
      let w = unpaired_declined s us n t cs reads assumes none in
      let k = length (marked w.0 cs) in
      (k, ap (λ (j : Judged). j.answer) (judge_declined s us buffer l (Unmatched k) _ w.2), λ c b. call_declined (Unmatched k) _ c b w.2)

  -- a call that is not refused: the input is walkable
  unrefused_walkable : (c : Checkpoint) (b : ℕ) → ((walk_call s us c b).kind ≡ says_refused → ⊥) → Walkable s us
  unrefused_walkable c b h = by (acceptance s us) refl
    where
      by : (x : Acceptance) → acceptance s us ≡ x → Walkable s us
      by (accepted n t cs row) e = accepted_walkable s us n t cs row e
      by (declined r row) e = absurd (h (ap (λ (x : Result). x.kind) (call_declined r row c b e)))

  walkable_unrefused : (b : ℕ) → Walkable s us → (walk_call s us start b).kind ≡ says_refused → ⊥
  unfolding walk_calls
  walkable_unrefused b w =
      let n = w.variables in
      let t = map literal_of us in
      let cs = w.clauses in
      let a = walkable_accepted s us w in
      (calls_unrefused s us (under n t cs) (accepted_posed n t cs a.0 a.1) (call_accepted n t cs a.0 a.1) (b ∷ [])).0

  -- from the start a call is not refused exactly if the input is walkable
  pub walked_exactly : (b : ℕ) → ((walk_call s us start b).kind ≡ says_refused → ⊥) ↔ Walkable s us
  walked_exactly b = (unrefused_walkable start b, walkable_unrefused b)

  -- a call with a number but 11 is refused by what declines the input
  numbered : (c : Checkpoint) (b k : ℕ) → 0 < k → (k ≡ 11 → ⊥) → (walk_call s us c b).number ≡ k
      → (r : Refusal) × (row : List ℕ) × (acceptance s us ≡ declined r row) × ((table_row r).number ≡ k) × ((walk_call s us c b).place ≡ (table_row r).place)
  unfolding task_call
  numbered c b k some other q = by (acceptance s us) refl
    where
      by : (a : Acceptance) → acceptance s us ≡ a
          → (r : Refusal) × (row : List ℕ) × (acceptance s us ≡ declined r row) × ((table_row r).number ≡ k) × ((walk_call s us c b).place ≡ (table_row r).place)
      by (accepted n t cs row) e =
          absurd (walked_number (under n t cs) c b (located (under n t cs) c) some other (sym (ap (λ (r : Result). r.number) (call_accepted n t cs row e c b)) ∙ q))
      by (declined r row) e =
          let w = call_declined r row c b e in
          (r, row, e, sym (ap (λ (x : Result). x.number) w) ∙ q, ap (λ (x : Result). x.place) w)

  -- so 16 is given only where an assumption is bad, the first at the place, and 10 only where what stripping leaves can't be paired
  pub called_bad : (c : Checkpoint) (b i : ℕ) → (walk_call s us c b).number ≡ 16 → (walk_call s us c b).place ≡ i
      → (n : ℕ) × (cs : List (List Literal)) × Encodes s n cs × FirstBad n us i
  called_bad c b i q p = let w = numbered c b 16 (omega arith) (λ z. omega arith) q in declined_bad s us w.0 w.1 i w.2 w.3 (sym w.4 ∙ p)

  pub called_unmatched : (c : Checkpoint) (b : ℕ) → (walk_call s us c b).number ≡ 10
      → (n : ℕ) × (cs : List (List Literal)) × Encodes s n cs × NoneBad n us × ((vs : List ℕ) → Pairs (left_of n (map literal_of us) cs) vs → ⊥)
  called_unmatched c b q = let w = numbered c b 10 (omega arith) (λ z. omega arith) q in declined_unmatched s us w.0 w.1 w.2 w.3

  -- a refused call has a number, and no call has one above 16
  pub call_number : (c : Checkpoint) (b : ℕ) → ((walk_call s us c b).kind ≡ says_refused → 0 < (walk_call s us c b).number) × ((walk_call s us c b).number ≤ 16)
  unfolding walk_call task_call
  call_number c b = by (acceptance s us) refl
    where
      at : (T : Task) (x : Located) → ((by_state T c x b).kind ≡ says_refused → 0 < (by_state T c x b).number) × ((by_state T c x b).number ≤ 16)
      at T (at_state k) = (λ e. absurd (answer_unrefused (plain_call T b k).answer e), omega arith)
      at T nowhere = (λ e. omega arith, omega arith)

      by : (x : Acceptance) → acceptance s us ≡ x → ((call_on x c b).kind ≡ says_refused → 0 < (call_on x c b).number) × ((call_on x c b).number ≤ 16)
      by (accepted n t cs row) e = at (under n t cs) (located (under n t cs) c)
      by (declined r row) e = let h = declined_number s us r row e in (λ q. omega arith, omega arith)

  -- no call makes more steps than its budget
  pub call_steps : (c : Checkpoint) (b : ℕ) → (walk_call s us c b).steps ≤ b
  call_steps c b = by (acceptance s us) refl
    where
      by : (x : Acceptance) → acceptance s us ≡ x → (walk_call s us c b).steps ≤ b
      by (accepted n t cs row) e = call_within s us (under n t cs) (accepted_posed n t cs row e) (call_accepted n t cs row e) c b
      by (declined r row) e = rw (call_declined r row c b e) (omega arith)

-- on an empty list a call is what it is without assumptions
pub called_unassumed : (s : List ℕ) (c : Checkpoint) (b : ℕ) → walk_call s [] c b ≡ plain_call_on (plain_acceptance s) c b
unfolding walk_call
called_unassumed s c b =
    ap (λ (a : Acceptance). call_on a c b) (acceptance_unassumed s)
    ∙ plain-same (λ a. call_on a c b) (λ a. plain_call_on a c b) (λ n cs row. ap (λ (T : Task). task_call T c b) (under_none n cs)) (λ r row. refl) s

-- ---- the bytes of a checkpoint

module _ (s : List ℕ) (us : List Assumption) (c : Checkpoint) (b : ℕ) (whole_bytes : length c.bytes ≡ max_variables) where
  -- a call from a checkpoint of 48 bytes returns one of 48 bytes
  pub call_bytes : length (walk_call s us c b).checkpoint.bytes ≡ max_variables
  call_bytes = by (acceptance s us) refl
    where
      kept : (r : Result) → walk_call s us c b ≡ r → length r.checkpoint.bytes ≡ max_variables → length (walk_call s us c b).checkpoint.bytes ≡ max_variables
      kept r e h = ap (λ (x : Result). length x.checkpoint.bytes) e ∙ h

      at : (n : ℕ) (t : List Literal) (cs : List (List Literal)) (row : List ℕ) → acceptance s us ≡ accepted n t cs row → (x : Located) → located (under n t cs) c ≡ x
          → length (walk_call s us c b).checkpoint.bytes ≡ max_variables
      at n t cs row a (at_state k) e =
          kept _ (call_is s us (under n t cs) (accepted_posed s us n t cs row a) (call_accepted s us n t cs row a) c b (at_state k) e)
          (after_bytes s us (under n t cs) (accepted_posed s us n t cs row a) (call_accepted s us n t cs row a) (plain_call (under n t cs) b k).behind)
      at n t cs row a nowhere e = kept _ (call_is s us (under n t cs) (accepted_posed s us n t cs row a) (call_accepted s us n t cs row a) c b nowhere e) whole_bytes

      by : (x : Acceptance) → acceptance s us ≡ x → length (walk_call s us c b).checkpoint.bytes ≡ max_variables
      by (accepted n t cs row) e = at n t cs row e (located (under n t cs) c) refl
      by (declined r row) e = kept _ (call_declined s us r row c b e) whole_bytes
