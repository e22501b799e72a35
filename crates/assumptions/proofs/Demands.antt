-- S17.1: what is read of a list of assumptions (request: fixed settings), against what is told of it in specs/FirstBad.antt.
use Prim.Native.Nat.{ℕ, ◌<◌, ◌≤◌}
use mathlib.Core.List.{List, [], map}
use mathlib.Core.Logic.{◌↔◌}
use mathlib.Core.Path.{◌≡◌, refl}
use lib.ListN.{length}
use Rattle.formula.specs.Format.{Literal, ClauseOver}
use Rattle.assumptions.specs.declared.Assumption.{Assumption}
use Rattle.assumptions.specs.Assumed.{literals, bad, literal_of, assumed_from, assumed}
use Rattle.assumptions.specs.FirstBad.{NoneBad, FirstBad}
use Rattle.assumptions.proofs.AssumedLaws.{bad_first, first_bad, none_literals, literals_good, literals_all, literals_clause, more_bad}

-- S17.1: a list is bad at exactly the index of its first bad assumption
pub bad_exactly : (n : ℕ) (us : List Assumption) (i : ℕ) → (assumed n us ≡ bad i) ↔ FirstBad n us i
bad_exactly n us i = (bad_first n us i, first_bad n us i)

-- S17.1: it has literals exactly where none is bad
pub literals_exactly : (n : ℕ) (us : List Assumption) → ((t : List Literal) × (assumed n us ≡ literals t)) ↔ NoneBad n us
literals_exactly n us = (λ w. (literals_good n us w.0 w.1).none, λ none. (map literal_of us, none_literals n us none))

-- S17.1: and then those of its assumptions, all of them and in their order
pub none_bad_literals : (n : ℕ) (us : List Assumption) → NoneBad n us → assumed n us ≡ literals (map literal_of us)
none_bad_literals = none_literals

pub literals_are : (n : ℕ) (us : List Assumption) (t : List Literal) → assumed n us ≡ literals t → t ≡ map literal_of us
literals_are = literals_all

-- of variables below n, none twice
pub literals_over : (n : ℕ) (us : List Assumption) (t : List Literal) → assumed n us ≡ literals t → ClauseOver n t
literals_over = literals_clause

-- S17.1: a list without assumptions is never bad
pub no_assumptions : (n : ℕ) → assumed n [] ≡ literals []
unfolding assumed assumed_from
no_assumptions n = refl

pub none_bad : (n : ℕ) → NoneBad n []
none_bad n = (literals_exactly n []).0 ([], no_assumptions n)

-- S17.1: of more than n assumptions one of the first n + 1 is bad
pub no_more : (n : ℕ) (us : List Assumption) → n < length us → (i : ℕ) × (i ≤ n) × (assumed n us ≡ bad i)
no_more = more_bad
