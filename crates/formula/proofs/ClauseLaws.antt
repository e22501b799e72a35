-- The masks of a clause: what they name, their two sides, and that they fit.
use Prim.Native.Nat.{ℕ, ◌^◌, ◌<◌}
use mathlib.Core.Bool.{Bool, true, false, not, ◌&&◌, ◌||◌, beq, or_assoc, or_comm, or-false, and-false, and-true}
use mathlib.Core.List.{List, [], ◌∷◌, ◌++◌}
use mathlib.Core.Path.{◌≡◌, refl, sym, ap, ◌∙◌}
use lib.Dec.{eqb}
use lib.Pow.{pow_pos}
use borrow.Author.Tests.{eqb-true, eq-eqb, ne_eqb}
use Rattle.lists.specs.Every.{Every}
use Rattle.lists.proofs.TestLaws.{or-none, or_swap, eqb_comm}
use Rattle.masks.specs.Mask.{bit}
use Rattle.masks.proofs.BitLaws.{bit-or, bit_pow, bit-with, bit-none, with_lt}
use Rattle.masks.proofs.MeetLaws.{apart_of}
use Rattle.masks.proofs.MembersLaws.{mask_same, member_some}
use Rattle.formula.specs.declared.Clause.{Clause}
use Rattle.formula.specs.InnerDecode.{none_yet}
use Rattle.formula.specs.Format.{Literal, names, names_as, distinct, ClauseOver}
use Rattle.formula.specs.Masked.{variables}
use Rattle.formula.specs.InnerMasked.{no_clause, with_literal, with_literals, clause_of}
use Rattle.formula.specs.InnerFits.{clause_variables, side, ClauseFits}
use Rattle.formula.proofs.FormatLaws.{names_either, distinct_rest}

-- ---- what the masks name

-- one literal more at the end
pub with_literals-last : (c : Clause) (ls : List Literal) (l : Literal)
    → with_literals c (ls ++ (l ∷ [])) ≡ with_literal (with_literals c ls) l.variable l.positive
unfolding with_literals
with_literals-last c [] l = refl
with_literals-last c (k ∷ ls) l = with_literals-last (with_literal c k.variable k.positive) ls l

-- a literal more names its variable and what was named
with_literal_names : (c : Clause) (v : ℕ) (sign : Bool) (i : ℕ) → bit (clause_variables (with_literal c v sign)) i ≡ bit (clause_variables c) i || eqb i v
with_literal_names c v true i =
    simp (bit-or, bit_pow) (or_swap (bit c.positive i) (bit c.negative i) (eqb i v))
with_literal_names c v false i =
    simp (bit-or, bit_pow) (sym (or_assoc (bit c.positive i) (bit c.negative i) (eqb i v)))

-- the masks name v if they named it before, or a literal does
with_literals_names : (c : Clause) (ls : List Literal) (v : ℕ) → bit (clause_variables (with_literals c ls)) v ≡ bit (clause_variables c) v || names ls v
unfolding with_literals names
with_literals_names c [] v = sym (or-false (bit (clause_variables c) v))
with_literals_names c (l ∷ ls) v =
    with_literals_names (with_literal c l.variable l.positive) ls v
    ∙ ap (λ (b : Bool). b || names ls v)
    (with_literal_names c l.variable l.positive v ∙ ap (λ (b : Bool). bit (clause_variables c) v || b) (eqb_comm v l.variable))
    ∙ or_assoc (bit (clause_variables c) v) (eqb l.variable v) (names ls v)

-- the masks of a clause name what its literals name
pub clause_names : (c : List Literal) (v : ℕ) → bit (clause_variables (clause_of c)) v ≡ names c v
clause_names c v =
    let e : bit (clause_variables no_clause) v ≡ false = bit-none v in
    with_literals_names no_clause c v ∙ rw e

-- and are empty only where there is no literal
pub clause_empty : (c : List Literal) → eqb (clause_variables (clause_of c)) 0 ≡ none_yet c
unfolding with_literals names
clause_empty [] = refl
clause_empty (l ∷ c) =
    let here : names (l ∷ c) l.variable ≡ true = rw (eq-eqb l.variable l.variable refl) in
    ne_eqb (clause_variables (clause_of (l ∷ c))) 0 (member_some (clause_variables (clause_of (l ∷ c))) l.variable (clause_names (l ∷ c) l.variable ∙ here))

-- the mask of all its variables has the variables that the clause names
pub variables-bit : (c : List Literal) (v : ℕ) → bit (variables c) v ≡ names c v
unfolding variables names
variables-bit [] v = bit-none v
variables-bit (l ∷ c) v = bit-with (variables c) l.variable v ∙ rw (variables-bit c v, eqb_comm v l.variable) (or_comm (names c v) (eqb l.variable v))

-- those that its masks name
pub variables-named : (c : List Literal) → variables c ≡ clause_variables (clause_of c)
variables-named c = mask_same (variables c) (clause_variables (clause_of c)) (λ i. variables-bit c i ∙ sym (clause_names c i))

-- and is a mask of n digits for a clause over n variables
pub variables_lt : (n : ℕ) (c : List Literal) → Every (λ l. l.variable < n) c → variables c < 2 ^ n
unfolding variables
variables_lt n [] e = pow_pos n
variables_lt n (l ∷ c) e = with_lt n (variables c) l.variable (variables_lt n c e.1) e.0

-- ---- the two sides

with_literal_side : (c : Clause) (v : ℕ) (s sign : Bool) (i : ℕ)
    → bit (side (with_literal c v s) sign) i ≡ bit (side c sign) i || eqb v i && beq s sign
with_literal_side c v true true i = bit-with c.positive v i ∙ rw (eqb_comm i v, and-true (eqb v i))
with_literal_side c v true false i = rw (and-false (eqb v i)) (sym (or-false (bit c.negative i)))
with_literal_side c v false true i = rw (and-false (eqb v i)) (sym (or-false (bit c.positive i)))
with_literal_side c v false false i = bit-with c.negative v i ∙ rw (eqb_comm i v, and-true (eqb v i))

with_literals_side : (c : Clause) (ls : List Literal) (sign : Bool) (i : ℕ) → bit (side (with_literals c ls) sign) i ≡ bit (side c sign) i || names_as ls i sign
unfolding with_literals names_as
with_literals_side c [] sign i = sym (or-false (bit (side c sign) i))
with_literals_side c (l ∷ ls) sign i =
    with_literals_side (with_literal c l.variable l.positive) ls sign i
    ∙ ap (λ (b : Bool). b || names_as ls i sign) (with_literal_side c l.variable l.positive sign i)
    ∙ or_assoc (bit (side c sign) i) (eqb l.variable i && beq l.positive sign) (names_as ls i sign)

empty_side : (sign : Bool) (i : ℕ) → bit (side no_clause sign) i ≡ false
empty_side true i = bit-none i
empty_side false i = bit-none i

-- a side of a clause has the variables that the clause names that way
pub clause_side : (c : List Literal) (sign : Bool) (i : ℕ) → bit (side (clause_of c) sign) i ≡ names_as c i sign
clause_side c sign i = with_literals_side no_clause c sign i ∙ rw (empty_side sign i)

-- ---- the masks fit

with_literal_below : (n : ℕ) (c : Clause) (v : ℕ) (s : Bool) → v < n → ((sign : Bool) → side c sign < 2 ^ n) → (sign : Bool) → side (with_literal c v s) sign < 2 ^ n
with_literal_below n c v true l h true = with_lt n c.positive v (h true) l
with_literal_below n c v true l h false = h false
with_literal_below n c v false l h true = h true
with_literal_below n c v false l h false = with_lt n c.negative v (h false) l

with_literals_below : (n : ℕ) (c : Clause) (ls : List Literal) → Every (λ l. l.variable < n) ls → ((sign : Bool) → side c sign < 2 ^ n)
    → (sign : Bool) → side (with_literals c ls) sign < 2 ^ n
unfolding with_literals
with_literals_below n c [] e h = h
with_literals_below n c (l ∷ ls) e h = with_literals_below n (with_literal c l.variable l.positive) ls e.1 (with_literal_below n c l.variable l.positive e.0 h)

empty_below : (n : ℕ) (sign : Bool) → side no_clause sign < 2 ^ n
empty_below n true = pow_pos n
empty_below n false = pow_pos n

-- what is named one way is named
pub named_as : (c : List Literal) (v : ℕ) (sign : Bool) → names_as c v sign ≡ true → names c v ≡ true
named_as c v sign e = names_either c v sign ∙ rw e

-- no variable is named both ways
abbrev pub OneWay : List Literal → Type 0
OneWay c = (v : ℕ) → names_as c v true && names_as c v false ≡ false

-- then what is named one way is not named the other
pub other_way : (c : List Literal) → OneWay c → (v : ℕ) (sign : Bool) → names_as c v sign ≡ true → names_as c v (not sign) ≡ false
other_way c o v true e = rw e at (o v)
other_way c o v false e = go (names_as c v true) (rw e at (o v))
  where
    go : (x : Bool) → x && true ≡ false → x ≡ false
    go true q = q
    go false q = refl

-- so it is where no variable is named twice
pub one_way_distinct : (c : List Literal) → distinct c ≡ true → OneWay c
unfolding names_as
one_way_distinct [] d v = refl
one_way_distinct (l ∷ c) d v = go (eqb l.variable v) refl (one_way_distinct c (distinct_rest l c d).1 v)
  where
    unnamed : eqb l.variable v ≡ true → (sign : Bool) → names_as c v sign ≡ false
    unnamed e sign =
        let none : names c v ≡ false = rw (eqb-true l.variable v e) at (distinct_rest l c d).0 in
        (or-none (names_as c v sign) (names_as c v (not sign)) (sym (names_either c v sign) ∙ none)).0

    one_sign : (p : Bool) → (beq p true || false) && (beq p false || false) ≡ false
    one_sign true = refl
    one_sign false = refl

    go : (t : Bool) → eqb l.variable v ≡ t → names_as c v true && names_as c v false ≡ false
        → (t && beq l.positive true || names_as c v true) && (t && beq l.positive false || names_as c v false) ≡ false
    go true e o = rw (unnamed e true, unnamed e false) (one_sign l.positive)
    go false e o = o

-- the masks of a clause over n variables fit
pub clause_fits : {n : ℕ} {c : List Literal} → ClauseOver n c → ClauseFits n (clause_of c)
clause_fits {n} {c} o =
    let b = with_literals_below n no_clause c o.below (empty_below n) in
    record {
      below = b;
      apart =
          apart_of n (clause_of c).positive (clause_of c).negative (b true)
          (λ i l e. clause_side c false i ∙ other_way c (one_way_distinct c o.once) i true (sym (clause_side c true i) ∙ e));
    }
