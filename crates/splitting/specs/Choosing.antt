-- S6: the choice of the next variable, at a node of a formula of n variables.
use Rattle.std.specs.Prelude.{ℕ, zero, suc, ◌+◌, Bool, true, false, not, cond, ◌&&◌, ◌||◌, List, [], ◌∷◌, ◌++◌, map, eqb, length}
use Rattle.masks.specs.Mask.{bit}
use Rattle.matching.specs.Search.{Outcome, outcome, succeeds, expansions}
use Rattle.formula.specs.Format.{Literal, names}
use Rattle.formula.specs.Masked.{variables}
use Rattle.splitting.specs.declared.Choice.{Choice}
use Rattle.splitting.specs.Nodes.{assign, remaining, named, lowest_with, upward}
use Rattle.splitting.specs.Stripping.{stripped}

-- ---- a trial

-- the clauses are matched from nothing
unfoldable pub matching_of : List (List Literal) → Outcome
matching_of cs = outcome (map variables cs)

-- whether both matchings succeed, and the expansions of those that were made
pub record Trial : Type 0 where
  pub passes : Bool
  pub cost : ℕ

-- S6.3: a trial of v: the clauses are matched with v false and, unless this fails, also with v true
unfoldable pub trial : List (List Literal) → ℕ → Trial
trial cs v =
    elim (succeeds (matching_of (assign v false cs))) [
      | true ↦ record {
        passes = succeeds (matching_of (assign v true cs));
        cost = expansions (matching_of (assign v false cs)) + expansions (matching_of (assign v true cs));
      }
      | false ↦ record { passes = false; cost = expansions (matching_of (assign v false cs)) }
    ]

-- ---- the choice

-- a variable of which both values are open
abbrev pub both_open : ℕ → ℕ → Choice
both_open v e = record { variable = v; false_open = true; true_open = true; expansions = e }

-- S6.3, S6.6: of the listed variables the first that passes its trial, with both values open. Failed trials count among the expansions.
unfoldable pub first_passing : List (List Literal) → List ℕ → ℕ → Choice
first_passing cs [] e = both_open 0 e
first_passing cs (v ∷ vs) e =
    elim (trial cs v).passes [ true ↦ both_open v (e + (trial cs v).cost) | false ↦ first_passing cs vs (e + (trial cs v).cost) ]

-- S6.3: how many of the clauses name v, either way. Clauses are counted, not literals (a clause names a variable once, S2.2), and those that
-- have become equal count each.
unfoldable pub occurrences : List (List Literal) → ℕ → ℕ
occurrences [] v = 0
occurrences (c ∷ cs) v = cond (names c v) (suc (occurrences cs v)) (occurrences cs v)

-- S6.3: the variables v below n by f v, greatest first, ties lowest first: those with k, upward, then those with k - 1, and so down to 1
unfoldable pub by_count : (ℕ → ℕ) → ℕ → ℕ → List ℕ
by_count f n zero = []
by_count f n (suc k) = upward (λ v. eqb (f v) (suc k)) n ++ by_count f n k

-- S6.3: the variables that the left clauses name, by how many of them do, most first, ties lowest first (request: busiest switch first).
-- These are tried, in this order. The counts are made once, and not again within a trial.
unfoldable pub candidates : ℕ → List (List Literal) → List ℕ
candidates n left = by_count (occurrences left) n (length left)

-- v is on the list
unfoldable pub among : List ℕ → ℕ → Bool
among [] v = false
among (x ∷ l) v = eqb x v || among l v

-- S6.4: the noted variables in order, then those that the remaining clauses name besides, in ascending order
unfoldable pub listed : ℕ → List (List Literal) → List ℕ → List ℕ
listed n cs noted = noted ++ upward (λ v. named cs v && not (among noted v)) n

-- the last of a list, or 0
unfoldable pub last : List ℕ → ℕ
last [] = 0
last (x ∷ []) = x
last (x ∷ (y ∷ l)) = last (y ∷ l)

-- some clause is empty
unfoldable pub emptied : List (List Literal) → Bool
emptied [] = false
emptied ([] ∷ cs) = true
emptied ((l ∷ c) ∷ cs) = emptied cs

-- S6.4: the variable v; a value is open unless it leaves an empty clause. No expansion is made.
unfoldable pub last_listed : List (List Literal) → ℕ → Choice
last_listed cs v =
    record { variable = v; false_open = not (emptied (assign v false cs)); true_open = not (emptied (assign v true cs)); expansions = 0 }

-- clauses remain: by whether stripping leaves some. S6.4: if not, the last listed variable; S6.3: else the first that passes
abbrev pub by_left : ℕ → List (List Literal) → List ℕ → List (List Literal) → Choice
by_left n cs noted [] = last_listed cs (last (listed n cs noted))
by_left n cs noted (c ∷ left) = first_passing (c ∷ left) (candidates n (c ∷ left)) 0

-- S6.5: where no clause remains, the lowest unassigned variable, with both values open
abbrev pub by_remaining : ℕ → (ℕ → Bool) → List (List Literal) → Choice
by_remaining n unassigned [] = both_open (lowest_with unassigned n) 0
by_remaining n unassigned (c ∷ cs) = by_left n (c ∷ cs) (stripped n (c ∷ cs)).noted (stripped n (c ∷ cs)).left

-- the variables of the mask that are to be assigned and that the trail has not
abbrev pub unassigned_of : ℕ → List Literal → ℕ → Bool
unassigned_of scope t v = bit scope v && not (names t v)

-- S6.1: the choice at the node of the trail t; `scope` has the variables to assign
unfoldable pub choice : ℕ → ℕ → List (List Literal) → List Literal → Choice
choice n scope cs t = by_remaining n (unassigned_of scope t) (remaining t cs)
