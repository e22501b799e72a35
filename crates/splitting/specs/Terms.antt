-- The words in which the theorems are stated.
use Rattle.std.specs.Prelude.{ℕ, ◌<◌, ◌≡◌, Bool, true, false, ◌⊎◌}
use mathlib.Core.List.{List, [], ◌∷◌, map, Memᴰ}
use Rattle.masks.specs.Mask.{bit}
use Rattle.matching.specs.InnerMatched.{Matched}
use Rattle.formula.specs.Format.{Literal, names, ClauseOver}
use Rattle.formula.specs.Masked.{variables}
use Rattle.formula.specs.Models.{Model}
use Rattle.splitting.specs.declared.Choice.{Choice}
use Rattle.splitting.specs.Nodes.{named}
use Rattle.splitting.specs.Stripping.{pure, not_naming, stripped}
use Rattle.splitting.specs.Choosing.{among}

-- every named variable is below n
abbrev pub Below : ℕ → List (List Literal) → Type 0
Below n cs = (v : ℕ) → named cs v ≡ true → v < n

-- no variable is pure
abbrev pub NonePure : List (List Literal) → Type 0
NonePure cs = (v : ℕ) → pure cs v ≡ false

-- S6.2, S18.2: what is left of the clauses once the variables of a list, in order, have dropped theirs
unfoldable pub left_after : List ℕ → List (List Literal) → List (List Literal)
left_after [] cs = cs
left_after (v ∷ vs) cs = left_after vs (not_naming v cs)

-- S6.3: x is tried before y, where f says how many clauses name each: more name x, or as many and x is the lower
abbrev pub Before : (ℕ → ℕ) → ℕ → ℕ → Type 0
Before f x y = (f y < f x) ⊎ ((f x ≡ f y) × (x < y))

-- S6.3: a list in this order: each of it is tried before all behind it
abbrev pub Ordered : (ℕ → ℕ) → List ℕ → Type 0
Ordered f [] = Unit {0}
Ordered f (x ∷ l) = ((y : ℕ) → among l y ≡ true → Before f x y) × Ordered f l

-- What stripping leaves is matched (definition 5.2 of the source: pure literal matched). This is the invariant of the walk.
abbrev pub Sound : ℕ → List (List Literal) → Type 0
Sound n cs = Matched (map variables (stripped n cs).left)

-- a trail is, like a clause, a list of literals over variables below n, none twice
abbrev pub Trail : ℕ → List Literal → Type 0
Trail n t = ClauseOver n t

-- S6.6: the assignment agrees with the trail: it gives every variable of the trail its value there
abbrev pub Agrees : (ℕ → Bool) → List Literal → Type 0
Agrees a t = (l : Literal) → Memᴰ l t → a l.variable ≡ l.positive

-- the mask has every variable that the clauses name
abbrev pub Covers : ℕ → List (List Literal) → Type 0
Covers scope cs = (v : ℕ) → named cs v ≡ true → bit scope v ≡ true

-- no variable is true that neither the mask nor the trail has
abbrev pub Within : ℕ → List Literal → (ℕ → Bool) → Type 0
Within scope t a = (v : ℕ) → a v ≡ true → (bit scope v ≡ true) ⊎ (names t v ≡ true)

-- a model that agrees with the trail, and has no variable true but those of the mask and the trail
pub record ModelAt (n scope : ℕ) (cs : List (List Literal)) (t : List Literal) (a : ℕ) : Type 0 where
  pub model : Model n cs a
  pub agrees : Agrees (bit a) t
  pub within : Within scope t (bit a)

-- a variable of the mask that the trail has not
abbrev pub Unassigned : ℕ → ℕ → List Literal → Type 0
Unassigned n scope t = (v : ℕ) × (v < n) × (bit scope v ≡ true) × (names t v ≡ false)

-- the trail has every variable of the mask
abbrev pub Assigns : ℕ → List Literal → Type 0
Assigns scope t = (v : ℕ) → bit scope v ≡ true → names t v ≡ true

-- the value b is open
abbrev pub opened : Choice → Bool → Bool
opened c false = c.false_open
opened c true = c.true_open
