-- A checkpoint's variables are assigned again, one by one.
use Prim.Native.Nat.{ℕ, ◌+◌, ◌-◌, ◌<◌}
use mathlib.Core.Bool.{Bool, true, false}
use mathlib.Core.List.{List}
use mathlib.Core.Path.{◌≡◌, refl, sym, ap, ◌∙◌, subst}
use native.Mathlib.Numerals.{add-one}
use native.Mathlib.Omega.{arith}
use lib.Dec.{eqb, ltb}
use lib.ListN.{length, take, get_or}
use borrow.Author.Tests.{eq-eqb, ne_eqb, lt-ltb, le-ltb}
use Rattle.std.specs.Prelude.{Option, Some, None}
use Rattle.formula.specs.declared.Formula.{Formula}
use Rattle.splitting.specs.declared.Choice.{Choice}
use Rattle.splitting.specs.InnerChoose.{mask_choice}
use Rattle.splitting.specs.Terms.{opened}
use Rattle.walk.specs.Checkpoints.{byte_number, byte_value}
use Rattle.walk.specs.InnerStack.{Stack, empty, push, depth, Tree}
use Rattle.walk.specs.InnerTest.{pushed, replays}
use Rattle.walk.proofs.ReplayLaws.{read_next}
use Rattle.enumeration.specs.declared.scope.Scope.{Scope}
use Rattle.enumeration.specs.declared.state.State.{State}
use Rattle.enumeration.specs.InnerState.{stack_in, Follows, Free, Holds, pushing}
use Rattle.enumeration.specs.InnerRead.{Node, Replayed, noted}
use Rattle.enumeration.proofs.ClearLaws.{clears_note}
use Rattle.enumeration.proofs.StateLaws.{holds_stack, holds_own, holds_push, holds-noted, opens_next}
use Rattle.enumeration.proofs.StepLaws.{choice_at}
use Rattle.enumeration.proofs.FormLaws.{replays_stops}

module _ (f : Formula) (z : Scope) (K : Tree) (F : Follows f z K) (s : State) (h : Holds K s) where
  -- a trail that does not replay gives no state
  replayed_none : (t : Stack) → replays K t ≡ false → Replayed K t None
  replayed_none t e = record { known = sym e; node = λ u x. cc }

  -- a trail of full length goes no further
  replays_full : (v : ℕ) (b : Bool) → s.length ≡ z.size → replays K (push v b (stack_in s)) ≡ false
  unfolding replays
  replays_full v b e =
      let l : ltb (depth (stack_in s)) K.size ≡ false = le-ltb (depth (stack_in s)) K.size (let d = h.deep in let q = F.size in omega arith) in
      rw (h.replayed, l)

  -- so no variable is known there
  pub replayed_full : (v : ℕ) (b : Bool) → s.length ≡ z.size → Replayed K (push v b (stack_in s)) None
  replayed_full v b e = replayed_none _ (replays_full v b e)

  module _ (ne : s.length ≡ z.size → ⊥) where
    not_full : s.length < z.size
    not_full = let d = h.short in let q = F.size in omega arith

    -- a trail that is not full has room
    pub within : depth (stack_in s) < K.size
    within = let d = h.deep in let l = not_full in let q = F.size in omega arith

    -- the code's choice is the tree's
    pub choice_is : (c : Choice) → c ≡ mask_choice f z.mask s.assignment → c ≡ K.choose (stack_in s)
    choice_is c x = x ∙ choice_at f z K F s h not_full

    module _ (c : Choice) (e : c ≡ K.choose (stack_in s)) where
      -- another variable than the chosen one
      replays_other : (v : ℕ) (b : Bool) → (v ≡ c.variable → ⊥) → replays K (push v b (stack_in s)) ≡ false
      unfolding replays
      replays_other v b x =
          let l : ltb (depth (stack_in s)) K.size ≡ true = lt-ltb _ _ within in
          let q : eqb v (K.choose (stack_in s)).variable ≡ false = ne_eqb _ _ (λ y. x (y ∙ sym (ap (λ (d : Choice). d.variable) e))) in
          rw (h.replayed, l, q)

      -- so another variable is not known
      pub replayed_other : (v : ℕ) (b : Bool) → (v ≡ c.variable → ⊥) → Replayed K (push v b (stack_in s)) None
      replayed_other v b x = replayed_none _ (replays_other v b x)

      -- the chosen one
      replays_open : (b : Bool) → replays K (push c.variable b (stack_in s)) ≡ opened c b
      unfolding replays
      replays_open b =
          let l : ltb (depth (stack_in s)) K.size ≡ true = lt-ltb _ _ within in
          let q : eqb c.variable (K.choose (stack_in s)).variable ≡ true = eq-eqb _ _ (ap (λ (d : Choice). d.variable) e) in
          rw (h.replayed, l, q) (ap (λ (d : Choice). opened d b) (sym e))

      node_more : (b free : Bool) → (free ≡ true → Free K (stack_in s)) → opened c b ≡ true
          → Node K (push c.variable b (stack_in s)) (pushing (noted s c.true_open free) c.variable b)
      node_more b free g o =
          let t = stack_in s in
          let x = opens_next K s.open_true s.length c.true_open t c.variable in
          let y : c.true_open ≡ (K.choose t).true_open = ap (λ (d : Choice). d.true_open) e in
          let q = holds-noted K s t c.true_open free h (x true h.deep y h.opens) (clears_note K s.clear s.length free t (sym h.deep) g h.clears) in
          let n = holds_push f z K F (noted s c.true_open free) t q
          c.variable b within (ap (λ (d : Choice). d.variable) e) (ap (λ (d : Choice). opened d b) (sym e) ∙ o) (x b h.deep y h.opens) in
          record {
            holds = holds_own f z K F _ _ n;
            stack = holds_stack f z K F _ _ n;
            place = refl;
          }

      -- so the chosen one is known if its value is open
      pub replayed_shut : (v : ℕ) (b : Bool) → v ≡ c.variable → opened c b ≡ false → Replayed K (push v b (stack_in s)) None
      replayed_shut v b p o = replayed_none _ (rw p (replays_open b ∙ o))

      pub replayed_chosen : (v : ℕ) (b free : Bool) (u : State) → (free ≡ true → Free K (stack_in s)) → v ≡ c.variable → opened c b ≡ true
          → u ≡ pushing (noted s c.true_open free) c.variable b → Replayed K (push v b (stack_in s)) (Some u)
      replayed_chosen v b free u g p o q =
          rw p
          record {
            known = sym (replays_open b ∙ o);
            node = λ w x. let e : pushing (noted s c.true_open free) c.variable b ≡ w = cc in rw (← e) (node_more b free g o);
          }

-- ---- the trail, byte by byte

module _ (K : Tree) where
  module _ (l : List ℕ) (r : Option State) where
    -- one byte more
    pub replayed_next : (i : ℕ) (s : State) → i < length l → Node K (pushed empty (take i l)) s
        → Replayed K (push (byte_number (get_or l i 0) - 1) (byte_value (get_or l i 0)) (stack_in s)) r → Replayed K (pushed empty (take (i + 1) l)) r
    replayed_next i s h n w =
        subst (λ (t : Stack). Replayed K t r) (ap (push (byte_number (get_or l i 0) - 1) (byte_value (get_or l i 0))) n.stack ∙ sym (rw (add-one i) (read_next l i h))) w

  -- a byte that does not replay
  pub replayed_stops : (l : List ℕ) (i : ℕ) → Replayed K (pushed empty (take i l)) None → Replayed K (pushed empty l) None
  replayed_stops l i w = record { known = sym (replays_stops K l i (sym w.known)); node = λ u x. cc }
