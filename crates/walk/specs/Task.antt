-- S9.1: what a walk is over: the one parameter of the plain walk, its machine and its checkpoints.
use Rattle.std.specs.Prelude.{ℕ, ◌^◌, ◌≤◌, ◌<◌, true, false, List, [], ◌++◌, map, ◌≡◌}
use Rattle.std.specs.Int.Bits.{bit_or}
use Rattle.limits.specs.Limits.{max_variables}
use Rattle.lists.specs.Every.{Every}
use Rattle.masks.specs.Mask.{bit, size}
use Rattle.formula.specs.Format.{Literal, names, ClauseOver}
use Rattle.formula.specs.Masked.{variables}
use Rattle.matching.specs.Sets.{union}
use Rattle.matched.specs.Pairing.{named_but}
use Rattle.splitting.specs.declared.Choice.{Choice}
use Rattle.splitting.specs.Nodes.{remaining}
use Rattle.splitting.specs.Choosing.{choice}
use Rattle.splitting.specs.Terms.{Sound, Trail, Covers, ModelAt}

-- the number of variables n, the clauses, the variables to assign as a mask, and the trail that is there before the walk begins
pub record Task : Type 0 where
  pub variables : ℕ
  pub clauses : List (List Literal)
  pub scope : ℕ
  pub before : List Literal

-- S17.3, S23.1: the task of a formula under assumptions (request: fixed settings): their literals are the trail before, and to be assigned
-- (request: settled) are the variables that some clause names, as the clauses are written, and that are not assumed
abbrev pub under : ℕ → List Literal → List (List Literal) → Task
under n t cs = record { variables = n; clauses = cs; scope = named_but t cs; before = t }

-- the task of a formula: the variables that its clauses name are to be assigned, and none is assigned before
abbrev pub whole : ℕ → List (List Literal) → Task
whole n cs = record { variables = n; clauses = cs; scope = union (map variables cs); before = [] }

-- how many variables are to be assigned (request: n in the waits, from slip 10 on)
abbrev pub to_assign : Task → ℕ
to_assign T = size T.scope

-- S23.3: the variables whose values a model shows, as a mask: those to assign and those of the trail before. Under assumptions these are the
-- named and the assumed ones
abbrev pub visible : Task → ℕ
visible T = bit_or T.scope (variables T.before)

-- the choice at the node of a trail
abbrev pub choice_at : Task → List Literal → Choice
choice_at T t = choice T.variables T.scope T.clauses (T.before ++ t)

-- what a walk lists: the models that agree with the trail before it and have no variable true but that trail's and those to assign
abbrev pub ModelFor : Task → ℕ → Type 0
ModelFor T a = ModelAt T.variables T.scope T.clauses T.before a

-- What the walk asks of a task. The mask has no variable from n on and none of the trail before, and has every variable that the
-- clauses name at the first node; what stripping leaves there is matched.
pub record Posed (T : Task) : Type 0 where
  pub most : T.variables ≤ max_variables
  pub clauses : Every (ClauseOver T.variables) T.clauses
  pub below : T.scope < 2 ^ T.variables
  pub before : Trail T.variables T.before
  pub apart : (v : ℕ) → bit T.scope v ≡ true → names T.before v ≡ false
  pub covers : Covers T.scope (remaining T.before T.clauses)
  pub sound : Sound T.variables (remaining T.before T.clauses)
