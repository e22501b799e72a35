-- When a list of clauses, given by their masks, is matched. For clauses as lists of literals this is `Pairs`, both ways: `matches_pairs` and
-- `pairs_matches` in crates/matched/proofs/PairingLaws.antt.
use Rattle.std.specs.Prelude.{ℕ, ◌<◌, ◌≡◌, true, List, length, get_or}
use Rattle.masks.specs.Mask.{bit}

-- a matching: one variable for each clause in order, each named by its clause, none twice
pub record Matches (sets variables : List ℕ) : Type 0 where
  pub one_each : length variables ≡ length sets
  pub named : (i : ℕ) → i < length sets → bit (get_or sets i 0) (get_or variables i 0) ≡ true
  pub distinct : (i j : ℕ) → i < length sets → j < length sets → get_or variables i 0 ≡ get_or variables j 0 → i ≡ j

-- matched: there is such a list
abbrev pub Matched : List ℕ → Type 0
Matched sets = (variables : List ℕ) × Matches sets variables
