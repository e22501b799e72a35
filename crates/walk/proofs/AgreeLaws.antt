-- The resumable machine agrees with the plain one: k entries behind, and standing at p. Over any tree.
use Prim.Native.Nat.{ℕ, zero, suc, ◌+◌}
use mathlib.Core.List.{List, [], ◌∷◌, ◌++◌}
use mathlib.Core.Logic.{◌⊎◌, inl, inr}
use mathlib.Core.Path.{◌≡◌, refl, ap, ◌∙◌, subst}
use native.Mathlib.Nat.{sub-zero}
use lib.ListN.{take, drop}
use Rattle.lists.proofs.DropLaws.{drop_next, take_next, drop_none, take_none}
use Rattle.walk.specs.Plain.{Entry, assigns, undoes, model, end}
use Rattle.walk.specs.Checkpoints.{Behind, past, past_all}
use Rattle.walk.specs.PlainMachine.{Answer, found, spent, ended, Call, at_once, after_step, go_on}
use Rattle.walk.specs.InnerStack.{empty, trail_of, Tree}
use Rattle.walk.specs.InnerMachine.{Position, down, over, next, Resumed, halted, stepped, resume}
use Rattle.walk.proofs.RestLaws.{seen, Stops, walk, node, after_node, rest, Reachable, Live, Goes, Step, step}
use Rattle.walk.proofs.PositionLaws.{behind_of, past_next, StopsBehind, stops_behind}

past_append : (p : Behind) (a b : List Entry) → past_all p (a ++ b) ≡ past_all (past_all p a) b
unfolding past_all
past_append p [] b = refl
past_append p (e ∷ a) b = past_append (past p e) a b

module _ (K : Tree) where
  -- the mode and the trail behind k entries
  unfoldable pub behind_after : ℕ → Behind
  behind_after k = past_all (record { mode = 0; trail = [] }) (take k (walk K))

  -- k entries are behind, and the position is p
  pub record At (k : ℕ) (p : Position) : Type 0 where
    pub ahead : drop k (walk K) ≡ rest K p
    pub shown : behind_after k ≡ behind_of p
    pub fine : Reachable K p

  -- the start
  pub at_start : At 0 (down empty)
  unfolding walk rest node after_node behind_after past_all trail_of
  at_start = record { ahead = rw sub-zero; shown = refl; fine = tt }

  -- one entry more
  pub at_next : {k : ℕ} {p q : Position} {e : Entry} → At k p → Goes K p e q → At (suc k) q
  unfolding behind_after past_all
  at_next {k} {p} {q} {e} a g = record {
    ahead = drop_next k (walk K) (a.ahead ∙ g.ahead);
    shown = ap (past_all (record { mode = 0; trail = [] })) (take_next k (walk K) (a.ahead ∙ g.ahead))
        ∙ past_append (record { mode = 0; trail = [] }) (take k (walk K)) (e ∷ []) ∙ ap (λ (b : Behind). past b e) a.shown ∙ past_next K g.kind;
    fine = g.fine;
  }

  at_over : {k : ℕ} → At k over → At (suc k) over
  unfolding behind_after rest
  at_over {k} a = record {
    ahead = drop_none k (walk K) a.ahead;
    shown = ap (past_all (record { mode = 0; trail = [] })) (take_none k (walk K) a.ahead) ∙ a.shown;
    fine = tt;
  }

  -- wherever the plain machine may stand
  pub at_every : Live K → (k : ℕ) → (p : Position) × At k p
  at_every L zero = (down empty, at_start)
  at_every L (suc k) = on (at_every L k)
    where
      at : (p : Position) → At k p → (p ≡ over) ⊎ Step K p → (q : Position) × At (suc k) q
      at p a (inl e) = (over, at_over (subst (λ (q : Position). At k q) e a))
      at p a (inr s) = (s.1, at_next a s.2)

      on : (p : Position) × At k p → (q : Position) × At (suc k) q
      on x = at x.0 x.1 (step K L x.0 x.1.fine)

  -- two calls that give the same, and stop at the same place
  pub record Same (c : Call) (r : Resumed) : Type 0 where
    pub answer : c.answer ≡ r.answer
    pub steps : c.steps ≡ r.steps
    pub expansions : c.expansions ≡ r.expansions
    pub at : At c.behind r.position
    pub stops : Stops K r.position

  same_step : (e : ℕ) (c : Call) (r : Resumed) → Same c r → Same (after_step e c) (stepped e r)
  same_step e c r s = record { answer = s.answer; steps = ap suc s.steps; expansions = ap (λ (x : ℕ). e + x) s.expansions; at = s.at; stops = s.stops }

  same_once : (a : Answer) (k : ℕ) (p : Position) → At k p → Stops K p → Same (at_once a k) (halted a p)
  same_once a k p i q = record { answer = refl; steps = refl; expansions = refl; at = i; stops = q }

  same_zero : (k : ℕ) (p : Position) (e : Entry) (q : Position) (l : List Entry) → At k p → At (suc k) q → next K p ≡ seen e q → StopsBehind K e q
      → Same (go_on (e ∷ l) 0 k) (resume K 0 p)
  unfolding go_on resume
  same_zero k p (assigns x c) q l a n s d = rw s (same_once spent k p a (inr (rw s tt)))
  same_zero k p undoes q l a n s d = rw s (same_once spent k p a (inr (rw s tt)))
  same_zero k p (model m) q l a n s d = rw s (same_once (found m) (suc k) q n d)
  same_zero k p end q l a n s d = rw s (same_once ended (suc k) q n d)

  same_suc : (b k : ℕ) (p : Position) (e : Entry) (q : Position) (l : List Entry) → At k p → At (suc k) q → next K p ≡ seen e q → StopsBehind K e q
      → Same (go_on l b (suc k)) (resume K b q) → Same (go_on (e ∷ l) (suc b) k) (resume K (suc b) p)
  unfolding go_on resume
  same_suc b k p (assigns x c) q l a n s d i = rw s (same_step c _ _ i)
  same_suc b k p undoes q l a n s d i = rw s (same_step 0 _ _ i)
  same_suc b k p (model m) q l a n s d i = rw s (same_once (found m) (suc k) q n d)
  same_suc b k p end q l a n s d i = rw s (same_once ended (suc k) q n d)

  same_over : (b k : ℕ) → At k over → Same (go_on [] b k) (resume K b over)
  unfolding go_on resume next
  same_over zero k a = same_once ended k over a (inr tt)
  same_over (suc b) k a = same_once ended k over a (inr tt)

  call_over : (b k : ℕ) (p : Position) → At k p → p ≡ over → Same (go_on (drop k (walk K)) b k) (resume K b p)
  unfolding rest
  call_over b k p a e = let o = subst (λ (q : Position). At k q) e a in rw (e, o.ahead) (same_over b k o)

  -- one call, from the same place
  pub call_same : Live K → (b k : ℕ) (p : Position) → At k p → Same (go_on (drop k (walk K)) b k) (resume K b p)
  call_same L zero k p a = go (step K L p a.fine)
    where
      go : (p ≡ over) ⊎ Step K p → Same (go_on (drop k (walk K)) 0 k) (resume K 0 p)
      go (inl e) = call_over 0 k p a e
      go (inr s) =
          let g = s.2 in
          rw (a.ahead ∙ g.ahead) (same_zero k p s.0 s.1 _ a (at_next a g) g.shows (stops_behind K g.kind))
  call_same L (suc b) k p a = go (step K L p a.fine) (λ q i. call_same L b (suc k) q i)
    where
      go : (p ≡ over) ⊎ Step K p → ((q : Position) → At (suc k) q → Same (go_on (drop (suc k) (walk K)) b (suc k)) (resume K b q))
          → Same (go_on (drop k (walk K)) (suc b) k) (resume K (suc b) p)
      go (inl e) ih = call_over (suc b) k p a e
      go (inr s) ih =
          let g = s.2 in
          let n = at_next a g in
          rw (a.ahead ∙ g.ahead) (same_suc b k p s.0 s.1 _ a n g.shows (stops_behind K g.kind) (rw n.ahead at (ih s.1 n)))
