-- What the code of check computes over masks; proofs/CheckLaws.antt ties it to Models.
use Rattle.std.specs.Prelude.{ℕ, Bool, not, ◌||◌, List, eqb}
use Rattle.std.specs.List.{list_all}
use Rattle.masks.specs.Mask.{minus}
use Rattle.masks.specs.InnerMask.{meets}
use Rattle.formula.specs.declared.Clause.{Clause}

-- the positive mask meets the assignment, or the negative mask its complement
abbrev pub clause_holds : ℕ → Clause → Bool
clause_holds a c = meets c.positive a || not (eqb (minus c.negative a) 0)

-- every clause holds
abbrev pub clauses_hold : ℕ → List Clause → Bool
clauses_hold a cs = list_all (clause_holds a) cs
