-- The search for a checkpoint's state finds one exactly where the walk has the checkpoint: calls of budget 1 stop wherever calls stop.
use Prim.Native.Nat.{ℕ, zero, suc, ◌+◌, ◌≤◌, ◌<◌}
use mathlib.Core.Bool.{Bool, true, false, cond, false≢true}
use mathlib.Core.List.{List, [], ◌∷◌, ◌++◌}
use mathlib.Core.Logic.{◌⊎◌, inl, inr}
use mathlib.Core.Path.{◌≡◌, refl, sym, ap, ap₂, ◌∙◌}
use native.Mathlib.Omega.{arith}
use lib.Dec.{eqb, ltb}
use lib.ListN.{length, drop, length-drop}
use borrow.Author.Tests.{eqb-true, eq-eqb, ltb-true, ltb-false}
use Rattle.lists.proofs.DropLaws.{drop_next}
use Rattle.lists.proofs.TestLaws.{bool_clash, and_left, and_right, and_both}
use Rattle.walk.specs.Task.{Task}
use Rattle.walk.specs.Plain.{Entry, assigns, undoes, model, end, plain_walk}
use Rattle.walk.specs.Checkpoints.{Checkpoint, checkpoint_after}
use Rattle.walk.specs.PlainMachine.{go_on, plain_call, state_after, Has}
use Rattle.walk.specs.InnerLocate.{same_bytes, same_checkpoint, at_state, nowhere, locate_from, located}

-- ---- the test of checkpoints

bytes_same : (xs ys : List ℕ) → same_bytes xs ys ≡ true → xs ≡ ys
unfolding same_bytes
bytes_same [] [] h = refl
bytes_same [] (y ∷ ys) h = absurd (false≢true h)
bytes_same (x ∷ xs) [] h = absurd (false≢true h)
bytes_same (x ∷ xs) (y ∷ ys) h =
    ap₂ {C = List ℕ} (λ a l. a ∷ l) (eqb-true x y (and_left (eqb x y) _ h)) (bytes_same xs ys (and_right (eqb x y) _ h))

bytes_self : (xs : List ℕ) → same_bytes xs xs ≡ true
unfolding same_bytes
bytes_self [] = refl
bytes_self (x ∷ xs) = and_both _ _ (eq-eqb x x refl) (bytes_self xs)

same_is : (c d : Checkpoint) → same_checkpoint c d ≡ true → c ≡ d
unfolding same_checkpoint
same_is c d h =
    let r = and_right (eqb c.mode d.mode) _ h in
    let m : c.mode ≡ d.mode = eqb-true _ _ (and_left (eqb c.mode d.mode) _ h) in
    let l : c.length ≡ d.length = eqb-true _ _ (and_left (eqb c.length d.length) _ r) in
    let b : c.bytes ≡ d.bytes = bytes_same _ _ (and_right (eqb c.length d.length) _ r) in
    λ i. record { mode = m i; length = l i; bytes = b i }

same_self : (c : Checkpoint) → same_checkpoint c c ≡ true
unfolding same_checkpoint
same_self c = and_both _ _ (eq-eqb c.mode _ refl) (and_both _ _ (eq-eqb c.length _ refl) (bytes_self c.bytes))

-- ---- where calls stop

-- no call takes an entry back
go_least : (l : List Entry) (b k : ℕ) → k ≤ (go_on l b k).behind
unfolding go_on
go_least [] b k = omega arith
go_least (assigns x e ∷ l) zero k = omega arith
go_least (assigns x e ∷ l) (suc b) k = let i = go_least l b (suc k) in omega arith
go_least (undoes ∷ l) zero k = omega arith
go_least (undoes ∷ l) (suc b) k = let i = go_least l b (suc k) in omega arith
go_least (model a ∷ l) b k = omega arith
go_least (end ∷ l) b k = omega arith

-- a call of budget 1 leaves an entry more behind
go_more : (e : Entry) (l : List Entry) (k : ℕ) → k < (go_on (e ∷ l) 1 k).behind
unfolding go_on
go_more (assigns x e) l k = let i = go_least l 0 (suc k) in omega arith
go_more undoes l k = let i = go_least l 0 (suc k) in omega arith
go_more (model a) l k = omega arith
go_more end l k = omega arith

module _ (T : Task) where
  -- where a call stops
  abbrev stop : ℕ → ℕ → ℕ
  stop b k = (plain_call T b k).behind

  stop_more : (k : ℕ) → k < length (plain_walk T) → k < stop 1 k
  unfolding plain_call
  stop_more k h = at (drop k (plain_walk T)) refl
    where
      at : (l : List Entry) → drop k (plain_walk T) ≡ l → k < (go_on l 1 k).behind
      at [] e = let z = length-drop k (plain_walk T) in let w = ap length e in absurd (omega arith)
      at (e ∷ l) q = go_more e l k

  stop_past : (b k : ℕ) → length (plain_walk T) ≤ k → stop b k ≡ k
  unfolding plain_call go_on
  stop_past b k h = at (drop k (plain_walk T)) refl
    where
      at : (l : List Entry) → drop k (plain_walk T) ≡ l → (go_on l b k).behind ≡ k
      at [] e = refl
      at (e ∷ l) q = let z = length-drop k (plain_walk T) in let w = ap length q in absurd (omega arith)

  -- m is where a call from k stays, or where calls from j stop
  abbrev Stops : ℕ → ℕ → ℕ → Type 0
  Stops k j m = (m ≡ k) ⊎ ((bs : List ℕ) × (m ≡ state_after T j bs))

  -- one step is made; with no budget left the call stops at j, with b it goes on
  step_stops : (b k j : ℕ) (l : List Entry) → drop (suc k) (plain_walk T) ≡ l → (go_on l 0 (suc k)).behind ≡ j → Stops k j (go_on l b (suc k)).behind
  unfolding go_on state_after plain_call
  step_stops b k j [] q s = inr ([], s)
  step_stops b k j (assigns x e ∷ l) q s = inr (b ∷ [], ap (λ (r : List Entry). (go_on r b (suc k)).behind) (sym q) ∙ ap (stop b) s)
  step_stops b k j (undoes ∷ l) q s = inr (b ∷ [], ap (λ (r : List Entry). (go_on r b (suc k)).behind) (sym q) ∙ ap (stop b) s)
  step_stops b k j (model a ∷ l) q s = inr ([], s)
  step_stops b k j (end ∷ l) q s = inr ([], s)

  -- a call stays, or stops where calls after a first one of budget 1 stop
  stops : (b k : ℕ) → Stops k (stop 1 k) (stop b k)
  unfolding plain_call go_on state_after
  stops b k = at b (drop k (plain_walk T)) refl
    where
      at : (b : ℕ) (l : List Entry) → drop k (plain_walk T) ≡ l → Stops k (go_on l 1 k).behind (go_on l b k).behind
      at b [] q = inl refl
      at zero (assigns x e ∷ l) q = inl refl
      at (suc b) (assigns x e ∷ l) q = step_stops b k _ l (drop_next k (plain_walk T) q) refl
      at zero (undoes ∷ l) q = inl refl
      at (suc b) (undoes ∷ l) q = step_stops b k _ l (drop_next k (plain_walk T) q) refl
      at b (model a ∷ l) q = inr ([], refl)
      at b (end ∷ l) q = inr ([], refl)

  -- the calls of two lists
  pub state_append : (bs ds : List ℕ) (k : ℕ) → state_after T k (bs ++ ds) ≡ state_after T (state_after T k bs) ds
  unfolding state_after
  state_append [] ds k = refl
  state_append (b ∷ bs) ds k = state_append bs ds (stop b k)

  -- past the walk every call stays
  state_past : (bs : List ℕ) (k : ℕ) → length (plain_walk T) ≤ k → state_after T k bs ≡ k
  unfolding state_after
  state_past [] k h = refl
  state_past (b ∷ bs) k h = ap (λ (j : ℕ). state_after T j bs) (stop_past b k h) ∙ state_past bs k h

  -- ---- the search

  module _ (c : Checkpoint) where
    -- no calls from k return c
    abbrev Never : ℕ → Type 0
    Never k = (bs : List ℕ) → checkpoint_after T (state_after T k bs) ≡ c → ⊥

    -- c is not at k, and no calls after a first one of budget 1 return it
    never_step : (k : ℕ) → (checkpoint_after T k ≡ c → ⊥) → Never (stop 1 k) → Never k
    unfolding state_after
    never_step k other later [] e = other e
    never_step k other later (b ∷ bs) e = at (never_step k other later bs) (stops b k)
      where
        at : (checkpoint_after T (state_after T k bs) ≡ c → ⊥) → Stops k (stop 1 k) (stop b k) → ⊥
        at ih (inl z) = ih (rw z at e)
        at ih (inr w) = later (w.0 ++ bs) (rw (state_append w.0 bs (stop 1 k), ← w.1) e)

    not_here : (k : ℕ) → same_checkpoint (checkpoint_after T k) c ≡ false → checkpoint_after T k ≡ c → ⊥
    not_here k h e = bool_clash (same_self c) (rw e at h)

    nearer : (f k : ℕ) → length (plain_walk T) ≤ k + suc f → length (plain_walk T) ≤ stop 1 k + f
    nearer f k h = at (ltb k (length (plain_walk T))) refl
      where
        at : (x : Bool) → ltb k (length (plain_walk T)) ≡ x → length (plain_walk T) ≤ stop 1 k + f
        at true e = let m = stop_more k (ltb-true _ _ e) in omega arith
        at false e = let m = ltb-false k _ e in let p = stop_past 1 k m in omega arith

    -- where the search finds nothing, no calls return c
    missed : (f k : ℕ) → length (plain_walk T) ≤ k + f → locate_from T c f k ≡ nowhere → Never k
    unfolding locate_from
    missed zero k h q = at (same_checkpoint (checkpoint_after T k) c) refl q
      where
        at : (x : Bool) → same_checkpoint (checkpoint_after T k) c ≡ x → cond x (at_state k) nowhere ≡ nowhere → Never k
        at true s z = let y : ◌≡◌ {A = ℕ} 0 1 = cc in absurd (omega arith)
        at false s z = λ bs e. not_here k s (rw (state_past bs k (omega arith)) at e)
    missed (suc f) k h q = at (missed f (stop 1 k)) (same_checkpoint (checkpoint_after T k) c) refl q
      where
        at : (length (plain_walk T) ≤ stop 1 k + f → locate_from T c f (stop 1 k) ≡ nowhere → Never (stop 1 k)) → (x : Bool) → same_checkpoint (checkpoint_after T k) c ≡ x
            → cond x (at_state k) (locate_from T c f (stop 1 k)) ≡ nowhere → Never k
        at ih true s z = let y : ◌≡◌ {A = ℕ} 0 1 = cc in absurd (omega arith)
        at ih false s z = never_step k (not_here k s) (ih (nearer f k h) z)

    -- a state that the search finds is one at which calls stop, and its checkpoint is c
    abbrev Stands : ℕ → ℕ → Type 0
    Stands k j = (bs : List ℕ) × (state_after T k bs ≡ j) × (checkpoint_after T j ≡ c)

    here : (k j : ℕ) → same_checkpoint (checkpoint_after T k) c ≡ true → at_state k ≡ at_state j → Stands k j
    unfolding state_after
    here k j s z = let e : k ≡ j = cc in ([], e, rw e at (same_is _ c s))

    found : (f k j : ℕ) → locate_from T c f k ≡ at_state j → Stands k j
    unfolding locate_from state_after
    found zero k j q = at (same_checkpoint (checkpoint_after T k) c) refl q
      where
        at : (x : Bool) → same_checkpoint (checkpoint_after T k) c ≡ x → cond x (at_state k) nowhere ≡ at_state j → Stands k j
        at true s z = here k j s z
        at false s z = let y : ◌≡◌ {A = ℕ} 0 1 = cc in absurd (omega arith)
    found (suc f) k j q = at (found f (stop 1 k) j) (same_checkpoint (checkpoint_after T k) c) refl q
      where
        at : (locate_from T c f (stop 1 k) ≡ at_state j → Stands (stop 1 k) j) → (x : Bool) → same_checkpoint (checkpoint_after T k) c ≡ x
            → cond x (at_state k) (locate_from T c f (stop 1 k)) ≡ at_state j → Stands k j
        at ih true s z = here k j s z
        at ih false s z = let w = ih z in (1 ∷ w.0, w.1, w.2)

    -- the state of a checkpoint is one that calls from the start reach
    pub located_stands : (j : ℕ) → located T c ≡ at_state j → (bs : List ℕ) × (state_after T 0 bs ≡ j) × (checkpoint_after T j ≡ c)
    unfolding located
    located_stands j q = found (length (plain_walk T)) 0 j q

    -- and a checkpoint that the walk has is found
    pub has_located : Has T c → located T c ≡ nowhere → ⊥
    unfolding located
    has_located w q = missed (length (plain_walk T)) 0 (omega arith) q w.0 w.1
