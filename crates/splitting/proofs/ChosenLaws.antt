-- The cases of the choice over masks.
use Prim.Native.Nat.{ℕ}
use mathlib.Core.Bool.{true, false}
use mathlib.Core.Path.{◌≡◌}
use lib.Bits.{bit_or}
use borrow.Author.Tests.{ne_eqb}
use Rattle.masks.specs.Mask.{minus}
use Rattle.formula.specs.declared.Formula.{Formula}
use Rattle.formula.specs.declared.assignment.Assignment.{Assignment}
use Rattle.splitting.specs.declared.clauses.Reduced.{Reduced}
use Rattle.splitting.specs.declared.clauses.Survey.{Survey}
use Rattle.splitting.specs.InnerChoose.{node, survey_of, reduced, passing, busiest_first, greatest, listed_last, mask_choice}

-- ---- the choice

module _ (f : Formula) (scope : ℕ) (a : Assignment) (names : Survey) (n : names ≡ survey_of (node f a)) where
  module _ (t : names.any ≡ true) (r : Reduced) (e : r ≡ reduced f a) where
    -- stripping leaves clauses
    pub chosen_passing : r.survey.any ≡ true
        → passing f r.assignment (busiest_first (node f r.assignment)) 0 ≡ mask_choice f scope a
    unfolding mask_choice
    chosen_passing s = rw (mask_choice, ← n, t, ← e, s)

    module _ (s : r.survey.any ≡ false) (others : ℕ) (o : others ≡ minus (bit_or names.positive names.negative) r.noted) where
      -- it leaves none, and every variable that was named is noted
      pub chosen_noted : others ≡ 0 → listed_last f a r.last ≡ mask_choice f scope a
      unfolding mask_choice
      chosen_noted z = rw (mask_choice, ← n, t, ← e, s, ← o, z)

      -- or another one was named
      pub chosen_other : (others ≡ 0 → ⊥) → listed_last f a (greatest others) ≡ mask_choice f scope a
      unfolding mask_choice
      chosen_other z = rw (mask_choice, ← n, t, ← e, s, ← o, ne_eqb others 0 z)
