-- The form of a checkpoint, byte by byte; its trail, one byte more.
use Prim.Native.Nat.{ℕ, zero, suc, ◌-◌, ◌≤◌, ◌<◌}
use mathlib.Core.Bool.{Bool, true, false, not, ◌&&◌, and-false}
use mathlib.Core.List.{List, [], ◌∷◌}
use mathlib.Core.Path.{◌≡◌, refl, sym, ap, ◌∙◌}
use native.Mathlib.Omega.{arith}
use lib.Dec.{eqb, leb}
use lib.ListN.{length, take, drop, get_or}
use Rattle.std.specs.List.{list_all}
use Rattle.std.proofs.lemmas.List.{take-append-drop, take_rest}
use borrow.Author.Tests.{eqb-false, not-true, leb-true, le-leb, lt-leb}
use Rattle.limits.specs.Limits.{max_variables}
use Rattle.lists.proofs.TestLaws.{and_left, and_right}
use Rattle.walk.specs.Checkpoints.{Checkpoint, byte_number}
use Rattle.walk.specs.InnerStack.{empty, Tree}
use Rattle.walk.specs.InnerTest.{pushed, numbered, zeros, formed, replays}
use Rattle.walk.proofs.ReplayLaws.{replays_fails}
use Rattle.walk.proofs.ByteLaws.{pushed-append}

-- ---- tests of all bytes

numbered_all : (l : List ℕ) → list_all (λ x. not (eqb (byte_number x) 0)) l ≡ numbered l
unfolding numbered
numbered_all [] = refl
numbered_all (x ∷ l) = ap (λ (b : Bool). not (eqb (byte_number x) 0) && b) (numbered_all l)

zeros_all : (l : List ℕ) → list_all (λ x. eqb x 0) l ≡ zeros l
unfolding zeros
zeros_all [] = refl
zeros_all (x ∷ l) = ap (λ (b : Bool). eqb x 0 && b) (zeros_all l)

-- so each byte of a tested list has another number
pub numbered_at : (l : List ℕ) (i : ℕ) → i < length l → numbered l ≡ true → byte_number (get_or l i 0) ≡ 0 → ⊥
unfolding numbered
numbered_at [] i k e = absurd (omega arith)
numbered_at (x ∷ l) zero k e = eqb-false (byte_number x) 0 (not-true _ (and_left (not (eqb (byte_number x) 0)) (numbered l) e))
numbered_at (x ∷ l) (suc i) k e = numbered_at l i (omega arith) (and_right (not (eqb (byte_number x) 0)) (numbered l) e)

-- ---- the trail of some bytes

module _ (K : Tree) where
  -- where the first i bytes do not replay, all do not
  pub replays_stops : (l : List ℕ) (i : ℕ) → replays K (pushed empty (take i l)) ≡ false → replays K (pushed empty l) ≡ false
  replays_stops l i e =
      ap (λ (m : List ℕ). replays K (pushed empty m)) (sym (take-append-drop i l))
      ∙ ap (replays K) (pushed-append (take i l) (drop i l) empty)
      ∙ replays_fails K (drop i l) (pushed empty (take i l)) e

-- ---- what the form of a checkpoint says

pub record Formed (c : Checkpoint) : Type 0 where
  pub mode : c.mode ≤ 4
  pub length : c.length ≤ max_variables
  pub numbers : numbered (take c.length c.bytes) ≡ true

-- a formed checkpoint has them all
pub formed_means : (c : Checkpoint) → formed c ≡ true → Formed c
unfolding formed
formed_means c f =
    let a = and_right (leb c.mode 4) _ f in
    let b = and_right (leb c.length max_variables) _ a in
    record {
      mode = leb-true c.mode 4 (and_left (leb c.mode 4) _ f);
      length = leb-true c.length max_variables (and_left (leb c.length max_variables) _ a);
      numbers = and_left (numbered (take c.length c.bytes)) _ b;
    }

-- the tests one after another, with the bytes before the length n and those from it on
module _ (c : Checkpoint) (n : ℕ) (b : n ≡ c.length) where
  -- a mode above 4
  pub formed_mode : 4 < c.mode → formed c ≡ false
  unfolding formed
  formed_mode h = let e : leb c.mode 4 ≡ false = lt-leb c.mode 4 h in rw e

  -- a length above 48
  pub formed_length : max_variables < n → formed c ≡ false
  unfolding formed
  formed_length h = let e : leb c.length max_variables ≡ false = lt-leb c.length max_variables (omega arith) in rw e (and-false (leb c.mode 4))

  numbers : (x : Bool) → list_all (λ x. not (eqb (byte_number x) 0)) (take n c.bytes) ≡ x → numbered (take c.length c.bytes) ≡ x
  numbers x e = sym (ap (λ (k : ℕ). numbered (take k c.bytes)) b) ∙ sym (numbered_all (take n c.bytes)) ∙ e

  -- the number 0 before the length
  pub formed_numbers : list_all (λ x. not (eqb (byte_number x) 0)) (take n c.bytes) ≡ false → formed c ≡ false
  unfolding formed
  formed_numbers e = rw (numbers false e) (ap (λ (x : Bool). leb c.mode 4 && x) (and-false (leb c.length max_variables)) ∙ and-false (leb c.mode 4))

  -- otherwise the bytes behind the length decide
  pub formed_zeros : c.mode ≤ 4 → n ≤ max_variables → list_all (λ x. not (eqb (byte_number x) 0)) (take n c.bytes) ≡ true
      → formed c ≡ list_all (λ x. eqb x 0) (take (length c.bytes - n) (drop n c.bytes))
  unfolding formed
  formed_zeros h k e =
      rw (le-leb c.mode 4 h, le-leb c.length max_variables (omega arith), numbers true e, take_rest c.bytes n)
      (sym (ap (λ (k : ℕ). zeros (drop k c.bytes)) b) ∙ sym (zeros_all (drop n c.bytes)))
