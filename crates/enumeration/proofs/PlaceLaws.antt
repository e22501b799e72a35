-- The place of a checkpoint's mode at the node of its trail.
use Prim.Native.Nat.{ℕ, zero, suc, ◌-◌, ◌≤◌}
use mathlib.Core.Bool.{Bool, true, false, cond, not, ◌&&◌, ◌||◌, false≢true, and-true, and-false}
use mathlib.Core.Logic.{◌⊎◌, inl, inr}
use mathlib.Core.Path.{◌≡◌, refl, sym, ap, ◌∙◌, subst}
use native.Mathlib.Omega.{arith}
use lib.Dec.{eqb, ltb}
use borrow.Author.Tests.{eq-eqb, ne_eqb, eqb-true, lt-ltb, le-ltb}
use Rattle.std.specs.Prelude.{Option, Some, None}
use Rattle.formula.specs.declared.Formula.{Formula}
use Rattle.splitting.specs.declared.Choice.{Choice}
use Rattle.walk.specs.Checkpoints.{undone_mode}
use Rattle.walk.specs.Checkpoints as walk
use Rattle.walk.specs.InnerStack.{Stack, empty, push, depth, Tree}
use Rattle.walk.specs.InnerTest.{is_empty, replays, fits, position_of, formed, read, accepts}
use Rattle.enumeration.specs.declared.scope.Scope.{Scope}
use Rattle.enumeration.specs.declared.state.Place.{Place}
use Rattle.enumeration.specs.declared.state.Place.TheVariants.{Full, UndoneFalse, UndoneTrue, Over}
use Rattle.enumeration.specs.declared.state.State.{State}
use Rattle.enumeration.specs.InnerState.{stack_in, position_at, position_in, Follows, Holds, marked_as, at_place}
use Rattle.enumeration.specs.InnerRead.{Node, Replayed, PlaceTaken}
use Rattle.enumeration.proofs.ClearLaws.{bit-marked}
use Rattle.enumeration.proofs.StateLaws.{holds_place, opens_next}
use Rattle.enumeration.proofs.ReplayLaws.{within}

-- a trail is empty exactly if its length is 0
length_empty : (t : Stack) (n : ℕ) → depth t ≡ n → eqb n 0 ≡ is_empty t
length_empty empty n e = eq-eqb n 0 (sym e)
length_empty (push v b t) n e = ne_eqb n 0 (λ z. omega arith)

empty_length : (t : Stack) → is_empty t ≡ true → depth t ≡ 0
empty_length empty e = refl
empty_length (push v b t) e = absurd (false≢true e)

module _ (K : Tree) (m : ℕ) (t : Stack) (x : Bool) where
  -- no walk comes there
  taken_none : x ≡ false → PlaceTaken K m t x None
  taken_none q = record { known = sym q; holds = λ u e. cc; position = λ u e. cc }

  -- one comes there, to the state u
  taken_some : (u : State) → x ≡ true → Holds K u → position_in u ≡ position_of K.size m t → PlaceTaken K m t x (Some u)
  taken_some u q h p =
      record {
        known = sym q;
        holds = λ w e. let k : u ≡ w = cc in rw (← k) h;
        position = λ w e. let k : u ≡ w = cc in rw (← k) p;
      }

-- the state where false of the choice's variable was undone
abbrev pub undoing : State → Choice → State
undoing s c = record {
  place = UndoneFalse;
  variable = c.variable;
  length = s.length;
  bytes = s.bytes;
  assignment = s.assignment;
  open_true = marked_as s.open_true s.length c.true_open;
  clear = s.clear;
}

module _ (f : Formula) (z : Scope) (K : Tree) (F : Follows f z K) (s : State) (n : Node K (stack_in s) s) where
  h : Holds K s
  h = n.holds

  is_empty_length : eqb s.length 0 ≡ is_empty (stack_in s)
  is_empty_length = length_empty (stack_in s) s.length h.deep

  -- ---- modes 2 and 3

  fits_full : (b : Bool) → s.length ≡ z.size → fits K (undone_mode b) (stack_in s) ≡ false
  unfolding fits
  fits_full b e =
      let l : ltb (depth (stack_in s)) K.size ≡ false = le-ltb (depth (stack_in s)) K.size (let d = h.deep in let q = F.size in omega arith) in
      at b l
    where
      at : (b : Bool) → ltb (depth (stack_in s)) K.size ≡ false → fits K (undone_mode b) (stack_in s) ≡ false
      at false l = rw (h.replayed, l)
      at true l = rw (h.replayed, l)

  -- at full length nothing was undone
  pub taken_full : (b : Bool) → s.length ≡ z.size → PlaceTaken K (undone_mode b) (stack_in s) (fits K (undone_mode b) (stack_in s)) None
  taken_full b e = taken_none K (undone_mode b) (stack_in s) _ (fits_full b e)

  module _ (ne : s.length ≡ z.size → ⊥) (c : Choice) (e : c ≡ K.choose (stack_in s)) where
    below : ltb (depth (stack_in s)) K.size ≡ true
    below = lt-ltb _ _ (within f z K F s h ne)

    -- mode 3: if true is open and a variable is assigned
    fits_true : fits K 3 (stack_in s) ≡ c.true_open && not (eqb s.length 0)
    unfolding fits
    fits_true = rw (h.replayed, below, is_empty_length, e)

    pub taken_true_none : (s.length ≡ 0) ⊎ (c.true_open ≡ false) → PlaceTaken K 3 (stack_in s) (fits K 3 (stack_in s)) None
    taken_true_none o = taken_none K 3 (stack_in s) _ (fits_true ∙ at o)
      where
        at : (s.length ≡ 0) ⊎ (c.true_open ≡ false) → c.true_open && not (eqb s.length 0) ≡ false
        at (inl l) = rw (eq-eqb s.length 0 l) (and-false c.true_open)
        at (inr o) = rw o

    pub taken_true : (s.length ≡ 0 → ⊥) → c.true_open ≡ true → PlaceTaken K 3 (stack_in s) (fits K 3 (stack_in s)) (Some (at_place s UndoneTrue))
    taken_true l o =
        taken_some K 3 (stack_in s) _ (at_place s UndoneTrue) (fits_true ∙ rw (o, ne_eqb s.length 0 l))
        (holds_place K s (stack_in s) UndoneTrue h (λ y. cc) (λ y. cc) (λ y. cc)) refl

    -- mode 2: if false is open, and with nothing assigned, where that is the end, true too
    fits_false : fits K 2 (stack_in s) ≡ c.false_open && (not (eqb s.length 0) || c.true_open)
    unfolding fits
    fits_false = rw (h.replayed, below, is_empty_length, e)

    pub taken_false_none : (c.false_open ≡ false) ⊎ ((s.length ≡ 0) × (c.true_open ≡ false)) → PlaceTaken K 2 (stack_in s) (fits K 2 (stack_in s)) None
    taken_false_none o = taken_none K 2 (stack_in s) _ (fits_false ∙ at o)
      where
        at : (c.false_open ≡ false) ⊎ ((s.length ≡ 0) × (c.true_open ≡ false)) → c.false_open && (not (eqb s.length 0) || c.true_open) ≡ false
        at (inl o) = rw o
        at (inr p) = rw (eq-eqb s.length 0 p.0, p.1) (and-false c.false_open)

    undone_holds : Holds K (undoing s c)
    undone_holds =
        let y : c.true_open ≡ (K.choose (stack_in s)).true_open = ap (λ (d : Choice). d.true_open) e in
        let o = opens_next K s.open_true s.length c.true_open (stack_in s) c.variable false h.deep y h.opens in
        record {
          room = h.room;
          short = h.short;
          deep = h.deep;
          bytes = h.bytes;
          assigned = h.assigned;
          replayed = h.replayed;
          opens = o.1;
          clears = h.clears;
          at_full = λ x. cc;
          at_back = λ x. (let d = h.deep in let w = within f z K F s h ne in omega arith, ap (λ (d : Choice). d.variable) e, bit-marked s.open_true s.length c.true_open ∙ y);
          at_over = λ x. cc;
        }

    pub taken_false : c.false_open ≡ true → (s.length ≡ 0 → c.true_open ≡ true) → PlaceTaken K 2 (stack_in s) (fits K 2 (stack_in s)) (Some (undoing s c))
    taken_false p o =
        taken_some K 2 (stack_in s) _ (undoing s c) (fits_false ∙ rw p (at (eqb s.length 0) refl)) undone_holds refl
      where
        at : (x : Bool) → eqb s.length 0 ≡ x → not x || c.true_open ≡ true
        at true y = o (eqb-true s.length 0 y)
        at false y = refl

  -- ---- the other modes

  -- at full length mode 1 fits, also where no variable is to be assigned
  fits_model : s.length ≡ z.size → fits K 1 (stack_in s) ≡ true
  unfolding fits
  fits_model l =
      let e : eqb K.size 0 ≡ is_empty (stack_in s) = length_empty (stack_in s) K.size (h.deep ∙ l ∙ sym F.size) in
      rw (h.replayed, e) (and-true _ ∙ at (is_empty (stack_in s)))
    where
      at : (x : Bool) → not x || x ≡ true
      at true = refl
      at false = refl

  -- elsewhere it does if a variable is assigned
  fits_assigned : (s.length ≡ z.size → ⊥) → fits K 1 (stack_in s) ≡ not (eqb s.length 0)
  unfolding fits
  fits_assigned l = rw (h.replayed, is_empty_length) (and-true _ ∙ at (stack_in s) h.deep)
    where
      at : (t : Stack) → depth t ≡ s.length → not (is_empty t) || eqb K.size 0 ≡ not (is_empty t)
      at empty e = ne_eqb K.size 0 (λ q. l (sym e ∙ sym q ∙ F.size))
      at (push v b t) e = refl

  module _ (m : ℕ) where
    -- mode 0: nothing is assigned
    pub taken_start : m ≡ 0 → PlaceTaken K m (stack_in s) (fits K m (stack_in s)) (cond (eqb s.length 0) (Some s) None)
    unfolding fits
    taken_start e = rw e (at (eqb s.length 0) is_empty_length)
      where
        at : (x : Bool) → x ≡ is_empty (stack_in s) → PlaceTaken K 0 (stack_in s) (is_empty (stack_in s)) (cond x (Some s) None)
        at true q = taken_some K 0 (stack_in s) _ s (sym q) h (ap (λ (p : Place). position_at p (stack_in s)) n.place)
        at false q = taken_none K 0 (stack_in s) _ (sym q)

    -- mode 4: the same
    pub taken_end : 4 ≤ m → PlaceTaken K m (stack_in s) (fits K m (stack_in s)) (cond (eqb s.length 0) (Some (at_place s Over)) None)
    unfolding fits
    taken_end l =
        let e : m ≡ suc (suc (suc (suc (m - 4)))) = omega arith in
        rw e (at (eqb s.length 0) refl)
      where
        at : (x : Bool) → eqb s.length 0 ≡ x
            → PlaceTaken K (suc (suc (suc (suc (m - 4))))) (stack_in s) (is_empty (stack_in s)) (cond x (Some (at_place s Over)) None)
        at true q =
            taken_some K _ (stack_in s) _ (at_place s Over) (sym is_empty_length ∙ q)
            (holds_place K s (stack_in s) Over h (λ y. cc) (λ y. cc) (λ y. eqb-true s.length 0 q)) refl
        at false q = taken_none K _ (stack_in s) _ (sym is_empty_length ∙ q)

    -- mode 1 at full length: the model is handed out
    pub taken_model : m ≡ 1 → s.length ≡ z.size → PlaceTaken K m (stack_in s) (fits K m (stack_in s)) (Some (at_place s Full))
    taken_model e l =
        let d : depth (stack_in s) ≡ K.size = h.deep ∙ l ∙ sym F.size in
        rw e
        (taken_some K 1 (stack_in s) _ (at_place s Full) (fits_model l) (holds_place K s (stack_in s) Full h (λ y. l ∙ sym F.size) (λ y. cc) (λ y. cc))
        (rw (eq-eqb _ _ d)))

    -- mode 1 elsewhere
    module _ (e : m ≡ 1) (l : s.length ≡ z.size → ⊥) where
      pub taken_assigned : (s.length ≡ 0 → ⊥) → PlaceTaken K m (stack_in s) (fits K m (stack_in s)) (Some s)
      taken_assigned g =
          let d : eqb (depth (stack_in s)) K.size ≡ false = ne_eqb _ _ (λ y. l (sym h.deep ∙ y ∙ F.size)) in
          rw e (taken_some K 1 (stack_in s) _ s (fits_assigned l ∙ rw (ne_eqb s.length 0 g)) h (rw (d, n.place)))

      pub taken_root_none : s.length ≡ 0 → PlaceTaken K m (stack_in s) (fits K m (stack_in s)) None
      taken_root_none g = rw e (taken_none K 1 (stack_in s) _ (fits_assigned l ∙ rw (eq-eqb s.length 0 g)))

-- ---- the test

module _ (K : Tree) where
  -- a trail that does not replay
  fits_none : (m : ℕ) (t : Stack) → replays K t ≡ false → fits K m t ≡ false
  unfolding fits replays
  fits_none zero empty e = cc
  fits_none zero (push v b t) e = refl
  fits_none (suc zero) t e = rw e (and-false (not (is_empty t) || eqb K.size 0))
  fits_none (suc (suc zero)) t e = rw e
  fits_none (suc (suc (suc zero))) t e = rw e
  fits_none (suc (suc (suc (suc m)))) empty e = cc
  fits_none (suc (suc (suc (suc m)))) (push v b t) e = refl

  module _ (c : walk.Checkpoint) where
    -- a checkpoint that is not well formed
    pub taken_unformed : formed c ≡ false → PlaceTaken K c.mode (read c) (accepts K c) None
    unfolding accepts
    taken_unformed e = taken_none K c.mode (read c) _ (rw e)

    -- one whose trail does not replay
    pub taken_unreplayed : formed c ≡ true → Replayed K (read c) None → PlaceTaken K c.mode (read c) (accepts K c) None
    unfolding accepts
    taken_unreplayed e w = taken_none K c.mode (read c) _ (rw e (fits_none c.mode (read c) (sym w.known)))

    -- one whose trail replays: its mode decides
    pub taken_read : (r : Option State) → formed c ≡ true → (s : State) → Node K (read c) s
        → (Node K (stack_in s) s → PlaceTaken K c.mode (stack_in s) (fits K c.mode (stack_in s)) r) → PlaceTaken K c.mode (read c) (accepts K c) r
    unfolding accepts
    taken_read r e s n w =
        rw e
        (subst (λ (t : Stack). PlaceTaken K c.mode t (fits K c.mode t) r) n.stack (w (record { holds = n.holds; stack = refl; place = n.place })))
