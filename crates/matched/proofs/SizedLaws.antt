-- What remains of a formula's clauses, and what stripping leaves of that, is no larger than the formula.
use Prim.Native.Nat.{ℕ}
use mathlib.Core.List.{List}
use native.Mathlib.Omega.{arith}
use Rattle.lists.proofs.EveryLaws.{every_element, every_of}
use Rattle.lists.proofs.SublistLaws.{sub_length, sub_within}
use Rattle.formula.specs.Format.{Literal, Sized, ClauseOver}
use Rattle.splitting.specs.Nodes.{remaining}
use Rattle.splitting.proofs.NodeLaws.{length-remaining}
use Rattle.splitting.proofs.SatisfiedLaws.{remaining-over}
use Rattle.splitting.proofs.Theorems.{left_sub_list}
use Rattle.matched.specs.Pairing.{left_of}

-- what remains of a formula's clauses is as small,
pub remaining_sized : {n : ℕ} {cs : List (List Literal)} (t : List Literal) → Sized n cs → Sized n (remaining t cs)
remaining_sized {n} {cs} t z = record {
  some = z.some;
  most = z.most;
  few = omega (arith, length-remaining t cs, z.few);
  clauses = remaining-over n t cs z.clauses;
}

-- and so is what stripping leaves of it
pub left_sized : {n : ℕ} {cs : List (List Literal)} (t : List Literal) → Sized n cs → Sized n (left_of n t cs)
left_sized {n} {cs} t z =
    let r = remaining_sized t z in
    let s = left_sub_list n (remaining t cs) in
    record {
      some = z.some;
      most = z.most;
      few = omega (arith, sub_length s, r.few);
      clauses = every_of (ClauseOver n) (left_of n t cs) (λ c m. every_element (ClauseOver n) (remaining t cs) c r.clauses (sub_within s c m));
    }
