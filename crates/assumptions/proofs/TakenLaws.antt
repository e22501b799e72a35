-- One assumption more: what it makes of a list whose first assumptions are read.
use Prim.Native.Nat.{ℕ, ◌+◌, ◌-◌, ◌<◌, ◌≤◌}
use mathlib.Core.Bool.{Bool, true, false, cond}
use mathlib.Core.List.{List, [], ◌∷◌, ◌++◌}
use mathlib.Core.Path.{◌≡◌, refl, sym, ◌∙◌, ap}
use native.Mathlib.Numerals.{add-one}
use lib.ListN.{length, get_or, drop, drop_of_length-le}
use lib.Seq.{drop-cons}
use Rattle.std.specs.Prelude.{Ok, Err}
use Rattle.formula.specs.declared.assignment.Assignment.{Assignment}
use Rattle.formula.specs.declared.Clause.{Clause}
use Rattle.formula.specs.declared.Refusal.{Refusal}
use Rattle.formula.specs.declared.Refusal.TheVariants.{BadAssumption}
use Rattle.formula.specs.Format.{Literal}
use Rattle.formula.specs.InnerAssignment.{unassigned, set_to}
use Rattle.formula.specs.InnerMasked.{no_clause, with_literal, with_literals, clause_of}
use Rattle.formula.proofs.ClauseLaws.{with_literals-last, clause_names}
use Rattle.assumptions.specs.declared.Assumption.{Assumption}
use Rattle.assumptions.specs.Assumed.{bad, literal_of, is_bad, assumed_from, assumed}
use Rattle.assumptions.specs.InnerAssumed.{masks_of, bad_in, taken}

-- the masks of a clause as an assignment
abbrev held : Clause → Assignment
held c = record { trues = c.positive; falses = c.negative }

-- one literal more
held_more : (c : Clause) (v : ℕ) (b : Bool) → held (with_literal c v b) ≡ set_to (held c) v b
held_more c v true = refl
held_more c v false = refl

-- the masks and the literals have the same bad assumptions
bad_same : (n : ℕ) (t : List Literal) (u : Assumption) → bad_in n (held (clause_of t)) u.variable ≡ is_bad n t u
unfolding is_bad
bad_same n t u = rw (clause_names t (u.variable - 1))

-- the first i of the list us are read, to the assignment a: the rest gives what the whole gives
pub record Taken (n : ℕ) (us : List Assumption) (i : ℕ) (a : Assignment) : Type 0 where
  pub said : List Literal
  pub masks : a ≡ held (clause_of said)
  pub rest : assumed n us ≡ assumed_from n i said (drop i us)

-- before the first
pub taken_none : (n : ℕ) (us : List Assumption) → Taken n us 0 unassigned
unfolding assumed with_literals
taken_none n us = record { said = []; masks = refl; rest = refl }

module _ {n : ℕ} {us : List Assumption} {i : ℕ} {a : Assignment} (w : Taken n us i a) where
  -- behind the last
  pub taken_all : length us ≤ i → masks_of (assumed n us) ≡ Ok a
  unfolding assumed_from
  taken_all h = rw (w.rest, drop_of_length-le us h, w.masks)

  module _ (u d : Assumption) (next : i < length us) (here : get_or us i d ≡ u) where
    -- with one more, which is bad or not
    rest_more : (b : Bool) → bad_in n a u.variable ≡ b
        → assumed n us ≡ cond b (bad i) (assumed_from n (i + 1) (w.said ++ (literal_of u ∷ [])) (drop (i + 1) us))
    unfolding assumed_from
    rest_more b e =
        let q : is_bad n w.said u ≡ b = sym (bad_same n w.said u) ∙ (rw w.masks at e) in
        rw (w.rest, drop-cons us i d next, here, add-one) (rw q)

    masks_more : set_to a (u.variable - 1) u.value ≡ held (clause_of (w.said ++ (literal_of u ∷ [])))
    masks_more = rw (w.masks, with_literals-last no_clause w.said (literal_of u)) (sym (held_more (clause_of w.said) (u.variable - 1) u.value))

    -- a bad one ends the list
    pub taken_bad : (r : Refusal) → taken n i u a ≡ Err r → masks_of (assumed n us) ≡ Err r
    taken_bad r e = go (bad_in n a u.variable) refl e
      where
        go : (b : Bool) → bad_in n a u.variable ≡ b → cond b (Err (BadAssumption i)) (Ok (set_to a (u.variable - 1) u.value)) ≡ Err r
            → masks_of (assumed n us) ≡ Err r
        go true p q = ap masks_of (rest_more true p) ∙ q
        go false p q = absurd cc

    -- another is read
    pub taken_next : (x : Assignment) → taken n i u a ≡ Ok x → Taken n us (i + 1) x
    taken_next x e = go (bad_in n a u.variable) refl e
      where
        go : (b : Bool) → bad_in n a u.variable ≡ b → cond b (Err (BadAssumption i)) (Ok (set_to a (u.variable - 1) u.value)) ≡ Ok x
            → Taken n us (i + 1) x
        go true p q = absurd cc
        go false p q =
            let k : set_to a (u.variable - 1) u.value ≡ x = cc in
            record { said = w.said ++ (literal_of u ∷ []); masks = sym k ∙ masks_more; rest = rest_more false p }
