-- Literals that are read in a row: what stands there, and what it makes of the reader.
use Prim.Native.Nat.{ℕ, ◌+◌, ◌-◌, ◌<◌}
use Rattle.std.specs.Prelude.{Some, None, Ok}
use mathlib.Core.Bool.{Bool, true, false, not, cond, ◌||◌}
use mathlib.Core.List.{List}
use mathlib.Core.Logic.{⊎_elim}
use mathlib.Core.Path.{◌≡◌, refl, subst}
use native.Mathlib.Omega.{arith}
use lib.Dec.{eqb, ltb}
use lib.ListN.{length, get_or}
use borrow.Author.Tests.{eqb-true, ne_eqb, ltb-true, lt-ltb, not-true}
use Rattle.lists.proofs.TestLaws.{and_left, and_right, or_cases}
use Rattle.masks.specs.Mask.{bit}
use Rattle.formula.specs.declared.Reader.{Reader}
use Rattle.formula.specs.InnerDecode.{one_to}
use Rattle.formula.specs.InnerReader.{record_event, literal_stands, literal_read, past_literal, Passes, PassesLiterals}
use Rattle.formula.specs.InnerFits.{side}
use Rattle.formula.proofs.ReaderLaws.{whole, turn_next}

-- what a literal that stands says
pub record Stands (s : List ℕ) (r : Reader) : Type 0 where
  pub past : 0 < r.at
  pub inside : r.at + 1 < length s
  pub sign : eqb (get_or s r.at 0) 2 || eqb (get_or s r.at 0) 3 ≡ true
  pub within : one_to r.variables (get_or s (r.at + 1) 0) ≡ true
  pub unopposed : bit (side r.current (not (eqb (get_or s r.at 0) 2))) (get_or s (r.at + 1) 0 - 1) ≡ false

module _ (s : List ℕ) (r : Reader) (e : literal_stands s r ≡ true) where
  pub stands : Stands s r
  stands =
      let a = and_right (ltb 0 r.at) _ e in
      let b = and_right (ltb (r.at + 1) (length s)) _ a in
      let c = and_right (eqb (get_or s r.at 0) 2 || eqb (get_or s r.at 0) 3) _ b in
      record {
        past = ltb-true 0 r.at (and_left _ _ e);
        inside = ltb-true (r.at + 1) (length s) (and_left _ _ a);
        sign = and_left _ _ b;
        within = and_left _ _ c;
        unopposed = not-true _ (and_right (one_to r.variables (get_or s (r.at + 1) 0)) _ c);
      }

  -- its record
  literal_next : record_event s r ≡ Ok (Some (literal_read s r))
  literal_next =
      let w = stands in
      let i = w.inside in
      let h = w.past in
      let l : r.at < length s = omega arith in
      let z : r.at ≡ 0 → ⊥ = λ q. omega arith in
      ⊎_elim
      (λ a. let k = eqb-true (get_or s r.at 0) 2 a in rw (lt-ltb r.at (length s) l, k, ne_eqb r.at 0 z, lt-ltb (r.at + 1) (length s) i, w.within, rw k at w.unopposed))
      (λ a. let k = eqb-true (get_or s r.at 0) 3 a in rw (lt-ltb r.at (length s) l, k, ne_eqb r.at 0 z, lt-ltb (r.at + 1) (length s) i, w.within, rw k at w.unopposed))
      (or_cases _ _ w.sign)

-- one literal more
pub passes_more : (s : List ℕ) (r x y : Reader) → Passes s r x → past_literal s x ≡ Some y → Passes s r y
passes_more s r x y p q = go (literal_stands s x) refl q
  where
    go : (t : Bool) → literal_stands s x ≡ t → cond t (Some (literal_read s x)) None ≡ Some y → Passes s r y
    go true e k =
        let z : literal_read s x ≡ y = cc in
        let i = (stands s x e).inside in
        let f = p.forward in
        subst (Passes s r) z
        (record {
          reads = λ clauses w. (turn_next (whole s x clauses (p.reads clauses w)) (literal_next s x e)).kept (omega arith);
          forward = omega arith;
          inside = omega arith;
          small = p.small;
        })
    go false e k = absurd cc

-- none more
pub passes_all : (s : List ℕ) (r x : Reader) → Passes s r x → past_literal s x ≡ None → PassesLiterals s r x
passes_all s r x p q = record { passes = p; last = go (literal_stands s x) refl q }
  where
    go : (t : Bool) → literal_stands s x ≡ t → cond t (Some (literal_read s x)) None ≡ None → literal_stands s x ≡ false
    go true e k = absurd cc
    go false e k = e
