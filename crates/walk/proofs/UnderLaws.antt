-- The task of a formula under assumptions: the variables that its clauses name and that are not assumed are to be assigned, and the
-- assumptions are the trail before.
use Prim.Native.Nat.{ℕ, zero, suc, ◌+◌, ◌^◌, ◌≤◌, ◌<◌}
use mathlib.Core.Bool.{Bool, true, false, not, ◌&&◌, ◌||◌, and-true, and-false}
use mathlib.Core.List.{List, [], map, Memᴰ}
use mathlib.Core.Logic.{inl, inr, ◌⊎◌, ⊎_elim, ◌↔◌}
use mathlib.Core.Path.{◌≡◌, refl, sym, ap, ap₂, ◌∙◌}
use native.Mathlib.Omega.{arith}
use lib.Bits.{bit_and}
use lib.Dec.{ltb}
use lib.ListN.{length}
use borrow.Author.Tests.{ltb-true, ltb-false, not-true}
use Rattle.lists.proofs.TestLaws.{and_left, and_right, or_cases, or_left, or-none, or_right, bool_cases, bool_clash}
use Rattle.masks.specs.Mask.{bit, minus, full, size}
use Rattle.masks.proofs.BitLaws.{bit-and, bit_below, bit-full, bit-minus, bit-none, bit-or}
use Rattle.masks.proofs.MembersLaws.{mask_same, mask_lt, members_find, some_member}
use Rattle.masks.proofs.SizeLaws.{size_none}
use Rattle.formula.specs.Format.{Literal, names, ClauseOver, Sized}
use Rattle.formula.specs.Masked.{variables}
use Rattle.formula.specs.Models.{Model}
use Rattle.formula.proofs.ClauseLaws.{variables-bit, named_as}
use Rattle.splitting.specs.Nodes.{remaining, named}
use Rattle.splitting.specs.Terms.{Sound, Agrees}
use Rattle.matching.specs.Sets.{union}
use Rattle.matching.proofs.Counting.{one_if, count}
use Rattle.splitting.proofs.ClauseLaws.{literal_names, names_literal, names_some, named_by}
use Rattle.splitting.proofs.CountLaws.{size_count}
use Rattle.splitting.proofs.NodeLaws.{named-remaining}
use Rattle.splitting.proofs.TrailLaws.{trail_count}
use Rattle.splitting.proofs.Theorems.{formula_below}
use Rattle.matched.specs.Pairing.{named_but}
use Rattle.matched.proofs.PairingLaws.{bit-named}
use Rattle.walk.specs.Task.{whole, under, to_assign, visible, ModelFor, Posed}

-- the first k variables hold those to assign and those that t names, apart from each other
scope_count : (t : List Literal) (cs : List (List Literal)) (k : ℕ) → count (bit (named_but t cs)) k + count (names t) k ≤ k
unfolding count
scope_count t cs zero = omega arith
scope_count t cs (suc k) = rw (bit-named t cs k) (at (named cs k) (names t k) (scope_count t cs k))
  where
    at : (a b : Bool) → count (bit (named_but t cs)) k + count (names t) k ≤ k
        → one_if (a && not b) + count (bit (named_but t cs)) k + (one_if b + count (names t) k) ≤ suc k
    at true true e = omega arith
    at true false e = omega arith
    at false true e = omega arith
    at false false e = omega arith

-- named variables are below n
named_below : (n : ℕ) (t : List Literal) (cs : List (List Literal)) → Sized n cs → named_but t cs < 2 ^ n
named_below n t cs Z =
    mask_lt n (named_but t cs) (λ v h. formula_below n cs Z.clauses v (and_left (named cs v) (not (names t v)) (sym (bit-named t cs v) ∙ h)))

module _ (n : ℕ) (t : List Literal) (cs : List (List Literal)) where
  -- the variables to assign are those that some clause names and t does not
  pub scope_exactly : (v : ℕ) → (bit (under n t cs).scope v ≡ true) ↔ ((named cs v ≡ true) × (names t v ≡ false))
  scope_exactly v = (
    λ h.
        let b = sym (bit-named t cs v) ∙ h in
        (and_left (named cs v) (not (names t v)) b, not-true (names t v) (and_right (named cs v) (not (names t v)) b)),
    λ w. bit-named t cs v ∙ rw (w.0, w.1),
  )

  -- and those that are visible are the ones that some clause names or t does
  pub visible_bit : (v : ℕ) → bit (visible (under n t cs)) v ≡ named cs v || names t v
  visible_bit v =
      bit-or (named_but t cs) (variables t) v
      ∙ ap₂ (λ (x y : Bool). x || y) (bit-named t cs v) (variables-bit t v)
      ∙ at (named cs v) (names t v)
    where
      at : (a b : Bool) → (a && not b) || b ≡ a || b
      at true true = refl
      at true false = refl
      at false b = refl

  -- no more than t leaves are to be assigned
  pub under_most : Sized n cs → ClauseOver n t → to_assign (under n t cs) + length t ≤ n
  under_most Z over =
      let e = size_count n (named_but t cs) (omega (arith, Z.most)) (named_below n t cs Z) in
      let f = trail_count n t over in
      omega (arith, scope_count t cs n)

  -- it is what a walk asks, where what stripping leaves of what remains is matched
  pub under_posed : Sized n cs → ClauseOver n t → Sound n (remaining t cs) → Posed (under n t cs)
  under_posed Z over S = record {
    most = Z.most;
    clauses = Z.clauses;
    below = named_below n t cs Z;
    before = over;
    apart = λ v h. ((scope_exactly v).0 h).1;
    covers = λ v h. (scope_exactly v).1 (named-remaining t cs v h);
    sound = S;
  }

  -- nothing is to be assigned exactly if t names what the clauses name
  pub none_exactly : Sized n cs → (to_assign (under n t cs) ≡ 0) ↔ ((v : ℕ) → named cs v ≡ true → names t v ≡ true)
  none_exactly Z = (
    λ e v h. ⊎_elim (λ x. x) (λ x. absurd (some v ((scope_exactly v).1 (h, x)) e)) (bool_cases (names t v)),
    λ w. ap size (mask_same (named_but t cs) 0 (λ v. bit-named t cs v ∙ at (named cs v) (names t v) (w v) ∙ sym (bit-none v))) ∙ size_none 64,
  )
    where
      some : (v : ℕ) → bit (named_but t cs) v ≡ true → to_assign (under n t cs) ≡ 0 → ⊥
      some v b e =
          let m : n ≤ 64 = omega (arith, Z.most) in
          let k = bit_below n v (named_but t cs) (named_below n t cs Z) b in
          let f = (members_find (named_but t cs) 64 v (omega arith) b).within in
          omega arith

      at : (a b : Bool) → (a ≡ true → b ≡ true) → a && not b ≡ false
      at true b f = ap not (f refl)
      at false b f = refl

  -- what a clause or t names is to be assigned or is before
  within : (v : ℕ) → (named cs v ≡ true) ⊎ (names t v ≡ true) → (bit (named_but t cs) v ≡ true) ⊎ (names t v ≡ true)
  within v (inl x) = ⊎_elim (λ y. inr y) (λ y. inl ((scope_exactly v).1 (x, y))) (bool_cases (names t v))
  within v (inr y) = inr y

  -- its models are the formula's that agree with t and have no variable true that neither a clause nor t names
  pub under_models : (a : ℕ) → ModelFor (under n t cs) a ↔ (Model n cs a × Agrees (bit a) t × ((v : ℕ) → bit a v ≡ true → (named cs v ≡ true) ⊎ (names t v ≡ true)))
  under_models a = (
    λ m. (m.model, m.agrees, λ v h. ⊎_elim (λ x. inl ((scope_exactly v).0 x).0) (λ x. inr x) (m.within v h)),
    λ w. record { model = w.0; agrees = w.1; within = λ v h. within v (w.2 v h) },
  )

  -- where that fails of a, some variable is true that neither a clause nor t names
  pub outside : (a : ℕ) → (((v : ℕ) → bit a v ≡ true → (named cs v ≡ true) ⊎ (names t v ≡ true)) → ⊥)
      → (v : ℕ) × (bit a v ≡ true) × (named cs v ≡ false) × (names t v ≡ false)
  outside a h = by (some_member (minus a (visible (under n t cs))) (λ z. h (inside z)))
    where
      inside : minus a (visible (under n t cs)) ≡ 0 → (v : ℕ) → bit a v ≡ true → (named cs v ≡ true) ⊎ (names t v ≡ true)
      inside z v k =
          ⊎_elim (λ x. or_cases (named cs v) (names t v) (sym (visible_bit v) ∙ x))
          (λ x. bool_clash (bit-minus a (visible (under n t cs)) v ∙ ap₂ (λ (p q : Bool). p && not q) k x) (ap (λ (m : ℕ). bit m v) z ∙ bit-none v))
          (bool_cases (bit (visible (under n t cs)) v))

      by : (v : ℕ) × (bit (minus a (visible (under n t cs))) v ≡ true) → (v : ℕ) × (bit a v ≡ true) × (named cs v ≡ false) × (names t v ≡ false)
      by w =
          let v = w.0 in
          let b = sym (bit-minus a (visible (under n t cs)) v) ∙ w.1 in
          let o = or-none (named cs v) (names t v) (sym (visible_bit v) ∙ not-true _ (and_right (bit a v) (not (bit (visible (under n t cs)) v)) b)) in
          (v, and_left (bit a v) (not (bit (visible (under n t cs)) v)) b, o.0, o.1)

  -- ---- what is visible of a model

  visible_named : (v : ℕ) → named cs v ≡ true → bit (visible (under n t cs)) v ≡ true
  visible_named v h = visible_bit v ∙ or_left (named cs v) (names t v) h

  visible_before : (v : ℕ) → names t v ≡ true → bit (visible (under n t cs)) v ≡ true
  visible_before v h = visible_bit v ∙ or_right (named cs v) (names t v) h

  -- the part of a that is visible has a's values there
  part_bit : (a v : ℕ) → bit (visible (under n t cs)) v ≡ true → bit (bit_and a (visible (under n t cs))) v ≡ bit a v
  part_bit a v h = bit-and a (visible (under n t cs)) v ∙ rw h (and-true (bit a v))

  part_visible : (a v : ℕ) → bit (bit_and a (visible (under n t cs))) v ≡ true → bit (visible (under n t cs)) v ≡ true
  part_visible a v h = and_right (bit a v) (bit (visible (under n t cs)) v) (sym (bit-and a (visible (under n t cs)) v) ∙ h)

  -- a literal's variable is named by its list
  literal_named : (c : List Literal) (l : Literal) → Memᴰ l c → names c l.variable ≡ true
  literal_named c l m = named_as c l.variable l.positive (literal_names c l m)

  -- a model that agrees with t stays one without what is not visible
  pub part_model : (a : ℕ) → Model n cs a → Agrees (bit a) t → ModelFor (under n t cs) (bit_and a (visible (under n t cs)))
  part_model a m g = record {
    model = record {
      satisfies = λ c i.
          let w = m.satisfies c i in
          let l = w.0 in
          (l, w.1, part_bit a l.variable (visible_named l.variable (named_by cs c l.variable i (literal_named c l w.1))) ∙ w.2);
      none_above = λ v h. bit-and a (visible (under n t cs)) v ∙ rw (m.none_above v h);
    };
    agrees = λ l i. part_bit a l.variable (visible_before l.variable (literal_named t l i)) ∙ g l i;
    within = λ v h. within v (or_cases (named cs v) (names t v) (sym (visible_bit v) ∙ part_visible a v h));
  }

  -- of two that agree with t the same is visible exactly if they agree on what the clauses name
  pub part_same : (a b : ℕ) → Agrees (bit a) t → Agrees (bit b) t
      → (bit_and a (visible (under n t cs)) ≡ bit_and b (visible (under n t cs))) ↔ ((v : ℕ) → named cs v ≡ true → bit a v ≡ bit b v)
  part_same a b g h = (
    λ e v k. sym (part_bit a v (visible_named v k)) ∙ ap (λ (x : ℕ). bit x v) e ∙ part_bit b v (visible_named v k),
    λ w. mask_same _ _ (λ v. ⊎_elim (λ x. seen v x (or_cases (named cs v) (names t v) (sym (visible_bit v) ∙ x)) w) (λ x. unseen a v x ∙ sym (unseen b v x)) (bool_cases (bit (visible (under n t cs)) v))),
  )
    where
      unseen : (x v : ℕ) → bit (visible (under n t cs)) v ≡ false → bit (bit_and x (visible (under n t cs))) v ≡ false
      unseen x v k = bit-and x (visible (under n t cs)) v ∙ rw k (and-false (bit x v))

      before : (v : ℕ) → names t v ≡ true → bit a v ≡ bit b v
      before v k =
          let s = names_some t v k in
          let l = names_literal t v s.0 s.1 in
          ap (bit a) (sym l.2) ∙ g l.0 l.1 ∙ sym (h l.0 l.1) ∙ ap (bit b) l.2

      seen : (v : ℕ) → bit (visible (under n t cs)) v ≡ true → (named cs v ≡ true) ⊎ (names t v ≡ true) → ((v : ℕ) → named cs v ≡ true → bit a v ≡ bit b v)
          → bit (bit_and a (visible (under n t cs))) v ≡ bit (bit_and b (visible (under n t cs))) v
      seen v x (inl k) w = part_bit a v x ∙ w v k ∙ sym (part_bit b v x)
      seen v x (inr k) w = part_bit a v x ∙ before v k ∙ sym (part_bit b v x)

  -- where the clauses name every variable, all that t does not name are to be assigned
  pub all_named : Sized n cs → ((v : ℕ) → v < n → named cs v ≡ true) → (under n t cs).scope ≡ minus (full n) (variables t)
  all_named Z all = mask_same (named_but t cs) (minus (full n) (variables t)) (λ v.
      bit-named t cs v ∙ ap (λ (x : Bool). x && not (names t v)) (at v (ltb v n) refl) ∙ sym (bit-minus (full n) (variables t) v ∙ rw (bit-full n v, variables-bit t v)))
    where
      at : (v : ℕ) (x : Bool) → ltb v n ≡ x → named cs v ≡ ltb v n
      at v true e = all v (ltb-true v n e) ∙ sym e
      at v false e = ⊎_elim (λ h. absurd (omega (arith, ltb-false v n e, formula_below n cs Z.clauses v h))) (λ h. h ∙ sym e) (bool_cases (named cs v))

-- with nothing assumed it is the task of the formula
pub under_none : (n : ℕ) (cs : List (List Literal)) → under n [] cs ≡ whole n cs
unfolding variables
under_none n cs =
    let m = union (map variables cs) in
    ap (λ (m : ℕ). record { variables = n; clauses = cs; scope = m; before = [] }) (mask_same (minus m 0) m (λ i. bit-minus m 0 i ∙ rw (bit-none i) (and-true (bit m i))))
