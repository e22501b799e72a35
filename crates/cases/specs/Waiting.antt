-- The waits of a chain (S21): the steps between two models, over all of its calls, compared with the trails in the checkpoints that come
-- back with the models.
use Rattle.std.specs.Prelude.{ℕ, zero, suc, ◌+◌, ◌*◌, ◌-◌, ◌/◌, ◌≤◌, Bool, true, false, ◌&&◌, List, [], ◌∷◌, Option, None, Some, ◌≡◌, eqb, leb, length}
use Rattle.std.specs.List.{take_while, zip}
use Rattle.limits.specs.Limits.{max_variables}
use Rattle.formula.specs.Format.{Literal}
use Rattle.walk.specs.Checkpoints as walk
use Rattle.walk.specs.Gaps.{Gap, to_model, to_end, so_far, gaps_from, gaps, same_literal, shared}
use Rattle.walk.specs.Results.{Result}
use Rattle.walk.specs.WalkCall.{walk_calls}
use Rattle.enumeration.specs.declared.checkpoint.Checkpoint.{Checkpoint}
use Rattle.enumeration.specs.Values.{checkpoint_values}
use Rattle.cases.specs.declared.waiting.Waits.{Waits}
use Rattle.vectors.specs.Corpus.{Parts, four_bytes}
use Rattle.cases.specs.Assuming.{assumptions_of}

-- the budgets of a vector, 4 bytes each, where the vectors of other acts have the bytes that they expect; what is left of these is none
unfoldable pub budgets_from : List ℕ → ℕ → ℕ → List ℕ
budgets_from s at zero = []
budgets_from s at (suc k) = four_bytes s at ∷ budgets_from s (at + 4) k

abbrev pub budgets_of : Parts → List ℕ
budgets_of v = budgets_from v.expected 0 (length v.expected / 4)

-- the steps that are due to a model with the trail y: after a model with the trail x, twice as many as y has literals behind the beginning
-- that the two share; from the start, as many as y has
abbrev pub due : Option (List Literal) → List Literal → ℕ
due (Some x) y = 2 * (length y - shared x y)
due None y = length y

-- the end comes after as many steps as the trail of the last model has literals, and not before a model
abbrev pub may_end : Option (List Literal) → ℕ → Bool
may_end (Some x) c = eqb c (length x)
may_end None c = false

-- so far: at most twice as many as that trail has; before any model at most as many as there are variables, since no trail tells how many are
-- to be assigned
abbrev pub most : Option (List Literal) → ℕ
most (Some x) = 2 * length x
most None = max_variables

-- the gaps are as long as they must be, after a model with the trail x or from the start
unfoldable pub waits_hold : Option (List Literal) → List Gap → Bool
waits_hold x [] = true
waits_hold x (to_model c e y ∷ gs) = eqb c (due x y) && waits_hold (Some y) gs
waits_hold x (to_end c e ∷ gs) = may_end x c && waits_hold x gs
waits_hold x (so_far c e ∷ gs) = leb c (most x) && waits_hold x gs

-- how many waits are over: those to a model, and that to the end
unfoldable pub closed : List Gap → ℕ
closed [] = 0
closed (to_model c e x ∷ gs) = suc (closed gs)
closed (to_end c e ∷ gs) = suc (closed gs)
closed (so_far c e ∷ gs) = closed gs

-- the vector's calls
abbrev pub calls_of : Parts → List Result
calls_of v = walk_calls v.input (assumptions_of v) walk.start (budgets_of v)

-- every wait of the vector's calls is right, and as many are over as the vector says: so no model and no end is left out
unfoldable pub waits_agree : Parts → Bool
waits_agree v =
    let gs = gaps (calls_of v) in
    waits_hold None gs && eqb (closed gs) (four_bytes v.fields 0)

-- ---- call by call

-- how long the longest beginning is that the trails of some bytes share
abbrev pub shared_bytes : List ℕ → List ℕ → ℕ
shared_bytes x y = length (take_while (λ p. same_literal (walk.byte_literal p.0) (walk.byte_literal p.1)) (zip x y))

-- the trail in a checkpoint
abbrev pub checkpoint_trail : Checkpoint → List Literal
checkpoint_trail c = walk.trail_in (checkpoint_values c)

-- and in the last one, if there is one
abbrev pub last_trail : Option Checkpoint → Option (List Literal)
last_trail (Some c) = Some (checkpoint_trail c)
last_trail None = None

-- the tally of calls: whether every wait is right, and how many are over
pub record Tallied : Type 0 where
  pub right : Bool
  pub closed : ℕ

-- of all calls
abbrev pub tallied_in : List Result → Tallied
tallied_in rs = record { right = waits_hold None (gaps rs); closed = closed (gaps rs) }

-- of all calls, from what is known before those that are left: whether the end came, the trail of the last model, if one came, the steps
-- since, how many waits are over, and whether each was right
unfoldable pub tallied_on : Bool → Option (List Literal) → ℕ → ℕ → Bool → List Result → Tallied
tallied_on true x c m right rs = record { right = right; closed = m }
tallied_on false x c m right rs =
    let gs = gaps_from c 0 rs in
    record { right = right && waits_hold x gs; closed = m + closed gs }

abbrev pub tallied : Waits → List Result → Tallied
tallied w rs = tallied_on w.ended (last_trail w.last) w.steps w.closed w.right rs

-- before the first call
pub record NoneYet (r : Waits) : Type 0 where
  pub finds : (rs : List Result) → tallied r rs ≡ tallied_in rs
  pub reached : checkpoint_values r.reached ≡ walk.start
  pub steps : r.steps ≡ 0
  pub closed : r.closed ≡ 0

-- after a call with the result q
pub record AfterCall (w : Waits) (q : Result) (r : Waits) : Type 0 where
  pub finds : (rs : List Result) → tallied r rs ≡ tallied w (q ∷ rs)
  pub reached : checkpoint_values r.reached ≡ q.checkpoint
  pub steps : r.steps ≤ w.steps + q.steps
  pub closed : r.closed ≤ w.closed + 1

-- the calls of a vector that are left, with their budgets
abbrev pub calls_left : Parts → Waits → List ℕ → List Result
calls_left v w bs = walk_calls v.input (assumptions_of v) (checkpoint_values w.reached) bs
