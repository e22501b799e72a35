-- The survey, the matching and the dropping of clauses told as lists, over their masks.
use Prim.Native.Nat.{ℕ}
use mathlib.Core.Path.{◌≡◌, refl, sym, ◌∙◌, ap}
use mathlib.Core.Bool.{Bool, true, false, not, xor, cond, ◌||◌, or_assoc, or-false}
use mathlib.Core.List.{List, [], ◌∷◌, map}
use mathlib.Core.Logic.{⊎_elim}
use lib.Bits.{bit_or, bit_xor}
use lib.Dec.{eqb}
use Rattle.lists.proofs.TestLaws.{or-none, both_signs, bool_cases, bool_clash}
use Rattle.masks.specs.Mask.{bit}
use Rattle.masks.proofs.BitLaws.{bit-or, bit-bit_xor, bit-none}
use Rattle.formula.specs.declared.Clause.{Clause}
use Rattle.formula.specs.Format.{Literal, names, names_as}
use Rattle.formula.specs.Masked.{variables}
use Rattle.formula.specs.InnerMasked.{clause_of}
use Rattle.formula.specs.InnerFits.{clause_variables}
use Rattle.formula.proofs.ClauseLaws.{clause_side, clause_names, clause_empty, variables-named, named_as}
use Rattle.splitting.specs.declared.clauses.Survey.{Survey}
use Rattle.splitting.specs.Nodes as nodes
use Rattle.splitting.specs.Nodes.{less, assign, occurs}
use Rattle.splitting.specs.Stripping.{pure, not_naming}
use Rattle.splitting.specs.Choosing.{occurrences, emptied}
use Rattle.splitting.specs.InnerChoose.{surveys, survey_from, survey_of, some_empty, occurrences_in}
use Rattle.splitting.proofs.ClauseLaws.{names_some}
use Rattle.splitting.proofs.MaskNodeLaws.{survey_side, surveys-side}

-- ---- what the clauses name

survey_occurs : (s : Survey) (ds : List (List Literal)) (sign : Bool) (v : ℕ)
    → bit (survey_side (survey_from s (map clause_of ds)) sign) v ≡ bit (survey_side s sign) v || occurs ds v sign
unfolding survey_from occurs
survey_occurs s [] sign v = sym (or-false (bit (survey_side s sign) v))
survey_occurs s (d ∷ ds) sign v =
    survey_occurs (surveys s (clause_of d)) ds sign v
    ∙ ap (λ (b : Bool). b || occurs ds v sign) (surveys-side s (clause_of d) sign v ∙ ap (λ (b : Bool). bit (survey_side s sign) v || b) (clause_side d sign v))
    ∙ or_assoc (bit (survey_side s sign) v) (names_as d v sign) (occurs ds v sign)

-- the survey of clauses has the variables that occur in them
pub occurs-bit : (ds : List (List Literal)) (sign : Bool) (v : ℕ) → bit (survey_side (survey_of (map clause_of ds)) sign) v ≡ occurs ds v sign
occurs-bit ds true v = survey_occurs (record { positive = 0; negative = 0; any = false }) ds true v ∙ rw (bit-none v)
occurs-bit ds false v = survey_occurs (record { positive = 0; negative = 0; any = false }) ds false v ∙ rw (bit-none v)

-- the variables named either way, and one way only
pub named-bit : (ds : List (List Literal)) (v : ℕ) → bit (bit_or (survey_of (map clause_of ds)).positive (survey_of (map clause_of ds)).negative) v ≡ nodes.named ds v
unfolding nodes.named
named-bit ds v = bit-or (survey_of (map clause_of ds)).positive (survey_of (map clause_of ds)).negative v ∙ rw (occurs-bit ds true v, occurs-bit ds false v)

pub pure-bit : (ds : List (List Literal)) (v : ℕ) → bit (bit_xor (survey_of (map clause_of ds)).positive (survey_of (map clause_of ds)).negative) v ≡ pure ds v
unfolding pure
pure-bit ds v = bit-bit_xor (survey_of (map clause_of ds)).positive (survey_of (map clause_of ds)).negative v ∙ rw (occurs-bit ds true v, occurs-bit ds false v)

-- how many clauses name a variable
pub occurrences_masks : (ds : List (List Literal)) (v : ℕ) → occurrences_in (map clause_of ds) v ≡ occurrences ds v
unfolding occurrences_in occurrences
occurrences_masks [] v = refl
occurrences_masks (d ∷ ds) v = rw (clause_names d v, occurrences_masks ds v)

survey_goes : (s : Survey) (cs : List Clause) → s.any ≡ true → (survey_from s cs).any ≡ true
unfolding survey_from
survey_goes s [] e = e
survey_goes s (c ∷ cs) e = survey_goes (surveys s c) cs refl

-- whether there is a clause
pub any_some : (d : List Literal) (ds : List (List Literal)) → (survey_of (map clause_of (d ∷ ds))).any ≡ true
unfolding survey_from
any_some d ds = survey_goes (surveys (record { positive = 0; negative = 0; any = false }) (clause_of d)) (map clause_of ds) refl

-- ---- matchings and empty clauses

pub sets_variables : (ds : List (List Literal)) → map clause_variables (map clause_of ds) ≡ map variables ds
sets_variables [] = refl
sets_variables (d ∷ ds) = rw (sets_variables ds, variables-named d)

pub empty_emptied : (ds : List (List Literal)) → some_empty (map clause_of ds) ≡ emptied ds
unfolding some_empty emptied
empty_emptied [] = refl
empty_emptied ([] ∷ ds) = rw (clause_empty [])
empty_emptied ((l ∷ d) ∷ ds) = rw (clause_empty (l ∷ d)) (empty_emptied ds)

-- ---- a pure literal gets its way

less_none : (v : ℕ) (c : List Literal) → names c v ≡ false → less v c ≡ c
unfolding less names
less_none v [] e = refl
less_none v (l ∷ c) e = let w = or-none (eqb l.variable v) (names c v) e in rw (w.0, less_none v c w.1)

-- where no clause names v the other way, assigning it its way drops the clauses that name it
pub assign_drops : (v : ℕ) (sign : Bool) (ds : List (List Literal)) → occurs ds v (not sign) ≡ false → assign v sign ds ≡ not_naming v ds
unfolding assign not_naming occurs
assign_drops v sign [] e = refl
assign_drops v sign (d ∷ ds) e =
    let w = or-none (names_as d v (not sign)) (occurs ds v (not sign)) e in go (names_as d v sign) refl w.0 (assign_drops v sign ds w.1)
  where
    unnamed : names_as d v sign ≡ false → names_as d v (not sign) ≡ false → names d v ≡ false
    unnamed f g = ⊎_elim (λ h. let w = names_some d v h in bool_clash w.1 (both_signs (λ s. names_as d v s ≡ false) sign f g w.0)) (λ h. h) (bool_cases (names d v))

    go : (b : Bool) → names_as d v sign ≡ b → names_as d v (not sign) ≡ false → assign v sign ds ≡ not_naming v ds
        → cond b (assign v sign ds) (less v d ∷ assign v sign ds) ≡ cond (names d v) (not_naming v ds) (d ∷ not_naming v ds)
    go true f g ih = rw (named_as d v sign f) ih
    go false f g ih = rw (unnamed f g, less_none v d (unnamed f g), ih)

-- a variable named one way only is not named the other way
pub pure_way : (ds : List (List Literal)) (v : ℕ) → pure ds v ≡ true → occurs ds v (not (occurs ds v true)) ≡ false
unfolding pure xor
pure_way ds v e = go (occurs ds v true) (occurs ds v false) refl refl e
  where
    go : (x y : Bool) → occurs ds v true ≡ x → occurs ds v false ≡ y → xor x y ≡ true → occurs ds v (not x) ≡ false
    go true true p q h = bool_clash h refl
    go true false p q h = q
    go false y p q h = p
