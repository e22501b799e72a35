-- Words that are taken one after the other: what is left gives what all give.
use Prim.Native.Nat.{ℕ, ◌≤◌}
use mathlib.Core.Bool.{Bool, true, false, cond}
use mathlib.Core.List.{List, [], ◌∷◌, ◌++◌}
use mathlib.Core.Path.{◌≡◌, refl, sym, ap, subst, ◌∙◌}
use native.Mathlib.Omega.{arith}
use borrow.Author.Tests.{lt-leb, ltb-true, ltb-false, eqb-false}
use lib.Dec.{eqb, leb, ltb}
use Rattle.limits.specs.Limits.{max_variables}
use Rattle.formula.specs.declared.Refusal.{Refusal}
use Rattle.dimacs.specs.declared.reader.Reader.{Reader}
use Rattle.dimacs.specs.declared.scan.Token.TheVariants.{Ends, Literal}
use Rattle.std.specs.Prelude.{Some, None}
use Rattle.dimacs.specs.Text.{Piece, words, all_words, run, value, Token, ends, names_variable, bad, minus_sign, signed, unsigned, token, Progress, Taking, next, stop, take_literal, take_token, take_word, take_words}
use Rattle.dimacs.specs.InnerScan.{cap, capped, token_held}
use Rattle.dimacs.specs.InnerReader.{Keeps, Ready, Stands}
use Rattle.dimacs.proofs.ScanLaws.{capped_low, capped_high}
use Rattle.dimacs.proofs.TakeLaws.{behind, take_words-append}

-- a reader that stands somewhere can go on
pub keeps_ready : {n : ℕ} {s : Progress} {r : Reader} → Keeps n s r → Ready r
keeps_ready {s = s} {r = r} k = record { progress = s; keeps = subst (λ (m : ℕ). Keeps m s r) (sym k.variables) k }

pub stands_ready : {n : ℕ} {t : Taking} {r : Reader} → Stands n t r → Ready r
stands_ready h = keeps_ready h.keeps

-- ---- words in turn

-- of the words ws from s, `rest` are left, and what is read so far is kept
pub record Goes (n : ℕ) (ws : List Piece) (s : Progress) (rest : List Piece) (r : Reader) : Type 0 where
  pub progress : Progress
  pub keeps : Keeps n progress r
  pub same : take_words n ws s ≡ take_words n rest progress

module _ {n : ℕ} {ws : List Piece} {s : Progress} where
  module _ {rest : List Piece} {r : Reader} (g : Goes n ws s rest r) where
    module _ (us vs : List Piece) (parts : rest ≡ us ++ vs) where
      both : (t : Taking) → take_words n us g.progress ≡ t → take_words n ws s ≡ behind n vs t
      both t q =
          g.same
          ∙ ap (λ (ps : List Piece). take_words n ps g.progress) parts
          ∙ take_words-append n us vs g.progress
          ∙ ap (behind n vs) q

      -- the words us are taken, and vs are left
      pub goes_next : {x : Reader} → Stands n (take_words n us g.progress) x → Goes n ws s vs x
      goes_next h = record { progress = h.progress; keeps = h.keeps; same = both (next h.progress) h.taken }

      -- one of them is refused
      pub goes_stop : {y : Refusal} → take_words n us g.progress ≡ stop y → take_words n ws s ≡ stop y
      goes_stop {y} q = both (stop y) q

    -- none is left
    pub goes_end : rest ≡ [] → Stands n (take_words n ws s) r
    unfolding take_words
    goes_end e = record { progress = g.progress; taken = g.same ∙ ap (λ (ps : List Piece). take_words n ps g.progress) e; keeps = g.keeps }

-- one word alone
pub take_one : (n : ℕ) (w : Piece) (s : Progress) → take_words n (w ∷ []) s ≡ take_word n w s
unfolding take_words
take_one n w s = go (take_word n w s)
  where
    go : (t : Taking) → (elim t [ next s' ↦ take_words n [] s' | stop r ↦ stop r ]) ≡ t
    go (next s') = refl
    go (stop r) = refl

pub one_stands : (n : ℕ) (w : Piece) (s : Progress) {r : Reader} → Stands n (take_word n w s) r → Stands n (take_words n (w ∷ []) s) r
one_stands n w s h = record { progress = h.progress; taken = take_one n w s ∙ h.taken; keeps = h.keeps }

-- the words of a line, and of those behind it
pub lines_words : (l : Piece) (ls ms : List Piece) → ms ≡ l ∷ ls → all_words ms ≡ words l ++ all_words ls
unfolding all_words
lines_words l ls ms e = ap all_words e

pub no_words : (ms : List Piece) → ms ≡ [] → all_words ms ≡ []
unfolding all_words
no_words ms e = ap all_words e

-- ---- tokens

pub held_ends : (t : Token) → token_held t ≡ Some Ends → t ≡ ends
held_ends ends e = refl
held_ends (names_variable sign k) e = cc
held_ends bad e = cc

pub held_bad : (t : Token) → token_held t ≡ None → t ≡ bad
held_bad ends e = cc
held_bad (names_variable sign k) e = cc
held_bad bad e = refl

pub record Named (t : Token) (sign : Bool) (k : ℕ) : Type 0 where
  pub number : ℕ
  pub is : t ≡ names_variable sign number
  pub cut : capped number ≡ k

pub held_literal : (t : Token) (sign : Bool) (k : ℕ) → token_held t ≡ Some (Literal sign k) → Named t sign k
held_literal ends sign k e = let z : ◌≡◌ {A = ℕ} 0 1 = cc in absurd (omega arith)
held_literal (names_variable sign' j) sign k e =
    let f : sign' ≡ sign = cc in
    let g : capped j ≡ k = cc in
    record { number = j; is = rw f; cut = g }
held_literal bad sign k e = let z : ◌≡◌ {A = ℕ} 0 1 = cc in absurd (omega arith)

-- a number that a token has is not zero
digits_some : (s : List ℕ) (z : Token) (g sign : Bool) (k : ℕ) → (z ≡ names_variable sign k → ⊥)
    → cond (run s) (cond (eqb (value s) 0) z (names_variable g (value s))) bad ≡ names_variable sign k → 1 ≤ k
digits_some s z g sign k none = go (run s) (eqb (value s) 0) refl
  where
    go : (a b : Bool) → eqb (value s) 0 ≡ b → cond a (cond b z (names_variable g (value s))) bad ≡ names_variable sign k → 1 ≤ k
    go true true e q = absurd (none q)
    go true false e q = let f : value s ≡ k = cc in let h = eqb-false (value s) 0 e in omega arith
    go false b e q = let w : ◌≡◌ {A = ℕ} 0 1 = cc in absurd (omega arith)

pub token_some : (w : List ℕ) (sign : Bool) (k : ℕ) → token w ≡ names_variable sign k → 1 ≤ k
token_some [] sign k e = let z : ◌≡◌ {A = ℕ} 0 1 = cc in absurd (omega arith)
token_some (x ∷ s) sign k e = go (eqb x minus_sign) e
  where
    go : (b : Bool) → cond b (signed s) (unsigned (x ∷ s)) ≡ names_variable sign k → 1 ≤ k
    go true e = digits_some s bad false sign k (λ q. let z : ◌≡◌ {A = ℕ} 0 1 = cc in absurd (omega arith)) e
    go false e = digits_some (x ∷ s) ends true sign k (λ q. let z : ◌≡◌ {A = ℕ} 0 1 = cc in absurd (omega arith)) e

-- nor is its cap
capped_one : (k : ℕ) → 1 ≤ k → 1 ≤ capped k
capped_one k h = go (ltb k cap) refl
  where
    go : (b : Bool) → ltb k cap ≡ b → 1 ≤ cond b k cap
    go true e = h
    go false e = omega arith

-- the cap changes nothing for a literal
literal_capped : (n at : ℕ) (s : Progress) (sign : Bool) (k : ℕ) → n ≤ max_variables → take_literal n at s sign (capped k) ≡ take_literal n at s sign k
literal_capped n at s sign k h = go (ltb k cap) refl
  where
    go : (b : Bool) → ltb k cap ≡ b → take_literal n at s sign (capped k) ≡ take_literal n at s sign k
    go true e = ap (take_literal n at s sign) (capped_low k (ltb-true k cap e))
    go false e =
        let l = ltb-false k cap e in
        let c : leb (capped k) n ≡ false = lt-leb (capped k) n (omega (arith, capped_high k l)) in
        let d : leb k n ≡ false = lt-leb k n (omega arith) in
        rw (c, d)

-- so a word that names a variable is taken as its token is
pub word_literal : (n at : ℕ) (s : Progress) (w : List ℕ) (sign : Bool) (k : ℕ) → n ≤ max_variables → Named (token w) sign k
    → take_word n (record { at = at; bytes = w }) s ≡ take_literal n at s sign k
word_literal n at s w sign k most h =
    ap (take_token n at s) h.is ∙ sym (literal_capped n at s sign h.number most) ∙ ap (take_literal n at s sign) h.cut

-- and its number is not zero
pub named_some : (w : List ℕ) (sign : Bool) (k : ℕ) → Named (token w) sign k → 1 ≤ k
named_some w sign k h = rw (← h.cut) (capped_one h.number (token_some w sign h.number h.is))
