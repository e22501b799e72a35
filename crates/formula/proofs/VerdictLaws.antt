-- What check says, by what the assignment is.
use Prim.Native.Nat.{ℕ}
use mathlib.Core.Bool.{Bool, true, false, cond, true≢false}
use mathlib.Core.List.{List}
use mathlib.Core.Path.{◌≡◌, refl, sym, ap, ◌∙◌}
use native.Mathlib.Omega.{arith}
use Rattle.std.proofs.lemmas.Bool.{false_from_ne_true}
use Rattle.formula.specs.declared.Refusal.{Refusal}
use Rattle.formula.specs.declared.Refusal.TheVariants.{StrayVariable}
use Rattle.formula.specs.Check.{VerdictValues, said_yes, said_no, verdict_said, verdict_refused, verdict_on, checked}
use Rattle.formula.specs.InnerDecode.{decode}
use Rattle.formula.specs.Decoding.{Decoding, readable, refused}
use Rattle.formula.specs.Format.{Encodes}
use Rattle.formula.specs.Models.{ModelOf, NoModelOf, StrayOf}
use Rattle.formula.specs.InnerModels.{satisfied, stray}
use Rattle.formula.specs.Table.{Refuses}
use Rattle.formula.proofs.ModelLaws.{stray_some, some_stray, stray_none, none_stray, model_tests, tests_model}
use Rattle.formula.proofs.OutcomeLaws.{decode_gives, decode_means}
use Rattle.formula.proofs.RefusalLaws.{given_number}

-- the four answers, each with what it says
pub data Says (s : List ℕ) (a : ℕ) : VerdictValues → Type 0 where
  yes_for : ModelOf s a → Says s a (verdict_said said_yes)
  no_for : NoModelOf s a → Says s a (verdict_said said_no)
  stray_for : StrayOf s a → Says s a (verdict_refused (StrayVariable 0))
  refused_for : (r : Refusal) → decode s ≡ refused r → Says s a (verdict_refused r)

says_of : (s : List ℕ) (a : ℕ) (x : Decoding) → decode s ≡ x → Says s a (verdict_on x a)
says_of s a (readable n cs) e = go (stray n a) refl (satisfied a cs) refl
  where
    encoded : Encodes s n cs
    encoded = rw e at (decode_means s)

    go : (t : Bool) → stray n a ≡ t → (u : Bool) → satisfied a cs ≡ u → Says s a (cond t (verdict_refused (StrayVariable 0)) (cond u (verdict_said said_yes) (verdict_said said_no)))
    go true p u q =
        let w = stray_some n a p in
        stray_for (record { variables = n; clauses = cs; encodes = encoded; variable = w.0; above = w.1; is_true = w.2 })
    go false p true q = yes_for (record { variables = n; clauses = cs; encodes = encoded; model = tests_model n cs a p q })
    go false p false q =
        no_for
        (record {
          variables = n;
          clauses = cs;
          encodes = encoded;
          none_above = stray_none n a p;
          fails = λ m. true≢false (sym (model_tests n cs a m).1 ∙ q);
        })
says_of s a (refused r) e = refused_for r e

-- what check answers says what the assignment is
pub says : (s : List ℕ) (a : ℕ) → Says s a (checked s a)
unfolding checked
says s a = says_of s a (decode s) refl

-- read off what is said
pub says_yes : {s : List ℕ} {a : ℕ} {x : VerdictValues} → Says s a x → x.said ≡ said_yes → ModelOf s a
says_yes (yes_for m) e = m
says_yes (no_for m) e = absurd cc
says_yes (stray_for m) e = absurd cc
says_yes (refused_for r d) e = absurd cc

pub says_no : {s : List ℕ} {a : ℕ} {x : VerdictValues} → Says s a x → x.said ≡ said_no → NoModelOf s a
says_no (yes_for m) e = absurd cc
says_no (no_for m) e = m
says_no (stray_for m) e = absurd cc
says_no (refused_for r d) e = absurd cc

-- and what the assignment is fixes the verdict
pub checked_model : (s : List ℕ) (a : ℕ) → ModelOf s a → checked s a ≡ verdict_said said_yes
unfolding checked
checked_model s a m = let t = model_tests m.variables m.clauses a m.model in rw (decode_gives s (readable m.variables m.clauses) m.encodes, t.0, t.1)

pub checked_no_model : (s : List ℕ) (a : ℕ) → NoModelOf s a → checked s a ≡ verdict_said said_no
unfolding checked
checked_no_model s a m =
    let quiet = none_stray m.variables a m.none_above in
    let fails = false_from_ne_true (satisfied a m.clauses) (λ e. m.fails (tests_model m.variables m.clauses a quiet e)) in
    rw (decode_gives s (readable m.variables m.clauses) m.encodes, quiet, fails)

pub checked-stray : (s : List ℕ) (a : ℕ) → StrayOf s a → checked s a ≡ verdict_refused (StrayVariable 0)
unfolding checked
checked-stray s a m = rw (decode_gives s (readable m.variables m.clauses) m.encodes, some_stray m.variables a m.variable m.above m.is_true)

-- a refusal that reading gives is not 12
pub says_stray : {s : List ℕ} {a : ℕ} {x : VerdictValues} → Says s a x → x ≡ verdict_refused (StrayVariable 0) → StrayOf s a
says_stray (yes_for m) e = absurd (omega (arith, ap (λ (x : VerdictValues). x.number) e))
says_stray (no_for m) e = absurd (omega (arith, ap (λ (x : VerdictValues). x.number) e))
says_stray (stray_for m) e = m
says_stray {s} (refused_for r d) e =
    let h : Refuses s r = rw d at (decode_means s) in
    absurd (omega (arith, (given_number h.given).1, ap (λ (x : VerdictValues). x.number) e))
