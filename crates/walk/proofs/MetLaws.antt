-- Every position that choosing allows is one that the walk comes through, and where a call can stop, some list of budgets stops there.
-- Over any tree.
use Prim.Native.Nat.{ℕ, zero, suc, ◌+◌, ◌-◌, ◌<◌}
use mathlib.Core.Bool.{Bool, true, false, cond}
use mathlib.Core.List.{List, [], ◌∷◌, ◌++◌}
use mathlib.Core.Logic.{inl, inr}
use mathlib.Core.Path.{◌≡◌, refl, sym, ap, ◌∙◌, subst}
use native.Mathlib.Omega.{arith}
use lib.Dec.{eqb}
use borrow.Author.Tests.{eqb-true, eqb-false, ne_eqb}
use Rattle.walk.specs.Plain.{Entry, assigns, undoes, model, end}
use Rattle.walk.specs.PlainMachine.{spent}
use Rattle.walk.specs.InnerStack.{Stack, empty, push, depth, Tree}
use Rattle.walk.specs.InnerMachine.{Position, down, full, back, over, Next, nothing, hands, ends, steps, rise, enter, next, halted, onward, resume}
use Rattle.walk.proofs.RestLaws.{Pauses, Stops, rest, after_node, value_closed, Replayed, replayed_depth, Reachable, Live, Rising, from_full, from_back, Goes, model_goes, false_goes, true_goes, true_after_goes, undo_goes, end_goes}
use Rattle.walk.proofs.CallLaws.{last_position}

module _ (K : Tree) where
  -- the positions that the walk comes through
  data Visited : Position → Type 0 where
    met_start : Visited (down empty)
    met_next : {p q : Position} {e : Entry} → Visited p → Reachable K p → Goes K p e q → Visited q

  -- the walk of the node t is done, its last assignment not yet undone
  record Done (t : Stack) : Type 0 where
    position : Position
    fine : Reachable K position
    met : Visited position
    rising : Rising K position t
    ahead : rest K position ≡ after_node K t
    shows : next K position ≡ rise t

  done_back : (v : ℕ) (b : Bool) (t : Stack) → Replayed K (push v b t) → Done (push v b t) → Visited (back b t)
  done_back v b t r d = met_next d.met d.fine (undo_goes K d.position v b t d.rising r d.ahead d.shows)

  done_true : (t : Stack) → Replayed K t → depth t < K.size → (K.choose t).true_open ≡ true → Visited (back true t) → Done t
  done_true t r h q m =
      record { position = back true t; fine = (r, h, q); met = m; rising = from_back true h; ahead = unfold rest in refl; shows = unfold next in refl }

  done_false : (t : Stack) → Replayed K t → depth t < K.size → (K.choose t).false_open ≡ true → (K.choose t).true_open ≡ false → Visited (back false t) → Done t
  unfolding rest next
  done_false t r h o q m =
      record { position = back false t; fine = (r, h, o); met = m; rising = from_back false h; ahead = value_closed K t true (after_node K t) q; shows = rw q refl }

  done_full : (t : Stack) → Replayed K t → depth t ≡ K.size → Visited (down t) → Done t
  done_full t r h m =
      record { position = full t; fine = (r, h); met = met_next m r (model_goes K t r h); rising = from_full h; ahead = unfold rest in refl; shows = unfold next in refl }

  module _ (L : Live K) where
    abbrev Through : Stack → Type 0
    Through t = Replayed K t → Visited (down t) → Done t

    -- from a node, its whole walk
    through : (d : ℕ) (t : Stack) → d + depth t ≡ K.size → Through t
    through zero t e r m = done_full t r (omega arith) m
    through (suc d) t e r m = by_false (λ b. through d (push (K.choose t).variable b t) (omega arith)) (omega arith) (K.choose t).false_open refl
      where
        by_true : ((b : Bool) → Through (push (K.choose t).variable b t)) → depth t < K.size → (K.choose t).true_open ≡ true
            → Visited (down (push (K.choose t).variable true t)) → Done t
        by_true ih h q n = let r' : Replayed K (push (K.choose t).variable true t) = (r, h, refl, q) in done_true t r h q (done_back _ true t r' (ih true r' n))

        after_false : ((b : Bool) → Through (push (K.choose t).variable b t)) → depth t < K.size → (K.choose t).false_open ≡ true
            → Visited (back false t) → (x : Bool) → (K.choose t).true_open ≡ x → Done t
        after_false ih h o n true q = by_true ih h q (met_next n (r, h, o) (true_after_goes K t r h o q))
        after_false ih h o n false q = done_false t r h o q n

        by_false : ((b : Bool) → Through (push (K.choose t).variable b t)) → depth t < K.size → (x : Bool) → (K.choose t).false_open ≡ x → Done t
        by_false ih h true o =
            let r' : Replayed K (push (K.choose t).variable false t) = (r, h, refl, o) in
            after_false ih h o (done_back _ false t r' (ih false r' (met_next m r (false_goes K t r h o)))) (K.choose t).true_open refl
        by_false ih h false o = let q = L.alive t r h o in by_true ih h q (met_next m r (true_goes K t r h o q))

    done : (t : Stack) → Through t
    done t r m = let z = replayed_depth K t r in through (K.size - depth t) t (omega arith) r m

    false_met : (t : Stack) → Replayed K t → depth t < K.size → (K.choose t).false_open ≡ true → Visited (down t) → Visited (back false t)
    false_met t r h o m =
        let r' : Replayed K (push (K.choose t).variable false t) = (r, h, refl, o) in
        done_back _ false t r' (done _ r' (met_next m r (false_goes K t r h o)))

    true_met : (t : Stack) → Replayed K t → depth t < K.size → (K.choose t).true_open ≡ true → Visited (down t) → (x : Bool) → (K.choose t).false_open ≡ x
        → Visited (down (push (K.choose t).variable true t))
    true_met t r h q m true o = met_next (false_met t r h o m) (r, h, o) (true_after_goes K t r h o q)
    true_met t r h q m false o = met_next m r (true_goes K t r h o q)

    down_met : (t : Stack) → Replayed K t → Visited (down t)
    down_met empty r = met_start
    down_met (push v false t) r =
        subst (λ (x : ℕ). Visited (down (push x false t))) (sym r.2) (met_next (down_met t r.0) r.0 (false_goes K t r.0 r.1 r.3))
    down_met (push v true t) r =
        subst (λ (x : ℕ). Visited (down (push x true t))) (sym r.2) (true_met t r.0 r.1 r.3 (down_met t r.0) (K.choose t).false_open refl)

    all_met : (p : Position) → Reachable K p → Visited p
    all_met (down t) o = down_met t o
    all_met (full t) o = met_next (down_met t o.0) o.0 (model_goes K t o.0 o.1)
    all_met (back false t) o = false_met t o.0 o.1 o.2 (down_met t o.0)
    all_met (back true t) o =
        let r' : Replayed K (push (K.choose t).variable true t) = (o.0, o.1, refl, o.2) in done_back _ true t r' (done _ r' (down_met _ r'))
    all_met over o = let d = done empty tt met_start in met_next d.met d.fine (end_goes K d.position d.rising d.ahead d.shows)

    -- some list of budgets stops at p
    abbrev pub Attained : Position → Type 0
    Attained p = (bs : List ℕ) × (last_position K L (down empty) bs ≡ p)

    last-append : (bs : List ℕ) (p : Position) (b : ℕ) → last_position K L p (bs ++ (b ∷ [])) ≡ (resume K b (last_position K L p bs)).position
    unfolding last_position
    last-append [] p b = refl
    last-append (x ∷ bs) p b = last-append bs (resume K x p).position b

    got_call : (b : ℕ) (p : Position) → Attained p → Attained (resume K b p).position
    got_call b p g = (g.0 ++ (b ∷ []), last-append g.0 (down empty) b ∙ ap (λ (q : Position). (resume K b q).position) g.1)

    quiet_zero : (p : Position) → Pauses (next K p) → (resume K 0 p).position ≡ p
    unfolding resume
    quiet_zero p q = at (next K p) q
      where
        at : (x : Next) → Pauses x → (onward p x (λ e q. halted spent p)).position ≡ p
        at nothing h = refl
        at (hands a s) h = absurd h
        at (ends s) h = absurd h
        at (steps e s) h = refl

    step_one : (p : Position) (e : ℕ) (q : Position) → next K p ≡ steps e q → (resume K 1 p).position ≡ (resume K 0 q).position
    unfolding resume
    step_one p e q s = rw s refl

    step_got : (p : Position) (e : ℕ) (q : Position) → next K p ≡ steps e q → Attained (resume K 0 p).position → Attained (resume K 0 q).position
    step_got p e q s h = subst Attained (step_one p e q s) (got_call 1 p (subst Attained (quiet_zero p (rw s tt)) h))

    pass_zero : (p : Position) (x : Next) (q : Position) → next K p ≡ x → (onward p x (λ e q. halted spent p)).position ≡ q → (resume K 0 p).position ≡ q
    unfolding resume
    pass_zero p x q s h = rw s h

    got_next : (p : Position) (e : Entry) (q : Position) → Goes K p e q → Attained (resume K 0 p).position → Attained (resume K 0 q).position
    got_next p (assigns l e) q g h = step_got p e q g.shows h
    got_next p undoes q g h = step_got p 0 q g.shows h
    got_next p (model a) q g h = got_call 0 q (subst Attained (pass_zero p (hands a q) q g.shows refl) h)
    got_next p end q g h = got_call 0 q (subst Attained (pass_zero p (ends q) q g.shows refl) h)

    -- where a variable is left to assign a call can stop
    pub down_quiet : (t : Stack) → depth t < K.size → Pauses (next K (down t))
    unfolding next
    down_quiet t h = rw (ne_eqb (depth t) K.size (λ e. omega arith)) (at (K.choose t).false_open)
      where
        at : (x : Bool) → Pauses (cond x (enter (K.choose t).expansions (K.choose t) false t) (enter (K.choose t).expansions (K.choose t) true t))
        at true = tt
        at false = tt

    -- on budget 0 nothing is done where a variable is left to assign
    pub down_spent : (t : Stack) → depth t < K.size → resume K 0 (down t) ≡ halted spent (down t)
    unfolding resume next
    down_spent t h = rw (ne_eqb (depth t) K.size (λ e. omega arith)) (at (K.choose t).false_open)
      where
        at : (x : Bool)
            → onward (down t) (cond x (enter (K.choose t).expansions (K.choose t) false t) (enter (K.choose t).expansions (K.choose t) true t)) (λ e q. halted spent (down t))
            ≡ halted spent (down t)
        at true = refl
        at false = refl

    start_got : Attained (down empty)
    unfolding last_position
    start_got = ([], refl)

    met_got : {p : Position} → Visited p → Attained (resume K 0 p).position
    met_got met_start = got_call 0 (down empty) start_got
    met_got (met_next {p} {q} {e} m o g) = got_next p e q g (met_got m)

    quiet_got : (p : Position) → Reachable K p → Pauses (next K p) → Attained p
    quiet_got p o q = subst Attained (quiet_zero p q) (met_got (all_met p o))

    -- where nothing is to be assigned the positions are three
    none_got : (p : Position) → Reachable K p → K.size ≡ 0 → Attained p
    unfolding next
    none_got (down empty) o z = start_got
    none_got (down (push v b t)) o z = absurd (omega (arith, o.1))
    none_got (full empty) o z =
        subst Attained (pass_zero (down empty) (hands (K.result empty) (full empty)) (full empty) (model_goes K empty tt (sym z)).shows refl)
        (got_call 0 (down empty) start_got)
    none_got (full (push v b t)) o z = absurd (omega (arith, o.1))
    none_got (back b t) o z = absurd (omega (arith, o.1))
    none_got over o z = quiet_got over o tt

    -- where a call can stop, some list of budgets does
    pub all_got : (p : Position) → Reachable K p → Stops K p → Attained p
    all_got p o (inl z) = none_got p o z
    all_got p o (inr q) = quiet_got p o q

    -- a call can stop at the start
    pub start_stops : Stops K (down empty)
    start_stops = at (eqb K.size 0) refl
      where
        at : (x : Bool) → eqb K.size 0 ≡ x → Stops K (down empty)
        at true e = inl (eqb-true K.size 0 e)
        at false e = let ne : K.size ≡ 0 → ⊥ = eqb-false K.size 0 e in inr (down_quiet empty (omega arith))
