-- How many vectors were run, and how many answers differed.
use Rattle.std.specs.Prelude.{ℕ, ◌+◌, ◌<◌, ◌≤◌, ◌^◌, Bool, true, false}
use Rattle.vectors.specs.declared.totals.Totals.{Totals}

abbrev pub counted : Totals → Bool → Totals
counted t true = record { vectors = t.vectors + 1; differences = t.differences }
counted t false = record { vectors = t.vectors + 1; differences = t.differences + 1 }

-- each count may grow by k
pub record RoomFor (k : ℕ) (t : Totals) : Type 0 where
  pub vectors : t.vectors + k < 2 ^ 64
  pub differences : t.differences + k < 2 ^ 64

-- from t to r each count has grown by k at most
pub record Grown (k : ℕ) (t r : Totals) : Type 0 where
  pub vectors : r.vectors ≤ t.vectors + k
  pub differences : r.differences ≤ t.differences + k
