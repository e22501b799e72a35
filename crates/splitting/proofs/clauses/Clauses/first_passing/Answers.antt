-- `first_passing` tries the busiest variables first.
use Prim.Native.Nat.{ℕ, ◌^◌, ◌≤◌, ◌<◌}
use native.Mathlib.Omega.{arith}
use mathlib.Core.List.{List, [], ◌∷◌}
use mathlib.Core.Path.{◌≡◌, refl, sym, ap, ◌∙◌}
use borrow.Author.Rules.{rules}
use lib.ListN.{length}
use Rattle.masks.specs.InnerMask.{without}
use Rattle.masks.proofs.BitLaws.{minus_lt, bit_below}
use Rattle.splitting.specs.Choosing.{by_count}
use Rattle.formula.specs.InnerAssignment.{unassigned}
use Rattle.splitting.specs.InnerChoose.{passing, formula_in, count_at, max_count}
use Rattle.splitting.proofs.CompactLaws.{small_in}
use Rattle.splitting.proofs.MaskTrialLaws.{Lists, lists_first, lists_none, lists_counted, counted_few, without_fewer, passing_found, passing_more, passing-none, trial_cost}
use Rattle.splitting.proofs.clauses.Clauses.first_passing.Goals.{After-busiest-v, After-try_variable-t, At-loop-rest}
use Rattle.splitting.proofs.clauses.Clauses.first_passing.Goals as goal

-- the list of what is left, and without its first
abbrev left : At-loop-rest → List ℕ
left l = l.loop-rest.invariant.1.0

behind : (c : After-busiest-v)
    → (vs : List ℕ) × (left (goal.at.After-busiest-v c).At-loop-rest ≡ c.busiest-v.result ∷ vs)
    × Lists (count_at c.args.counts) vs (without c.loop-rest.rest c.busiest-v.result)
behind c =
    lists_first (count_at c.args.counts) (left (goal.at.After-busiest-v c).At-loop-rest) c.loop-rest.rest c.busiest-v.result c.loop-rest.invariant.1.1 c.busiest-v.ensures

below : (c : After-busiest-v) → c.busiest-v.result < 64
below c =
    bit_below 64 c.busiest-v.result c.loop-rest.rest c.loop-rest.invariant.0 c.busiest-v.ensures.member

cost : (c : After-try_variable-t) → c.try_variable-t.result.cost ≤ 9312
cost c =
    trial_cost (formula_in c.args.self.now) unassigned c.busiest-v.result c.try_variable-t.result c.try_variable-t.ensures (small_in c.args.self.now)

pub loop-rest-init : goal.loop-rest-init
loop-rest-init c =
    let n = c.args.counts in
    (search rules, (by_count (count_at n) 64 max_count, lists_counted n c.counted-rest.result (search rules) c.counted-rest.ensures, refl, omega (arith, counted_few n)))

pub try_variable-t-requires : goal.try_variable-t-requires
try_variable-t-requires c = below c

pub overflow_add-cost : goal.overflow_add-cost
overflow_add-cost c =
    omega (arith, cost (goal.at.overflow_add-cost c).After-try_variable-t, ap length (behind (goal.at.overflow_add-cost c).After-busiest-v).1, c.loop-rest.invariant.1.3)

pub returns-then-t : goal.returns-then-t
returns-then-t c =
    let f = formula_in c.args.self.now in
    let l = (goal.at.returns-then-t c).At-loop-rest in
    let b = behind (goal.at.returns-then-t c).After-busiest-v in
    c.both_open.ensures
    ∙ sym (passing_found f unassigned (left l) b.0 c.loop-rest.cost c.busiest-v.result c.try_variable-t.result b.1 c.try_variable-t.ensures
    c.if-t.true)
    ∙ c.loop-rest.invariant.1.2

pub without-rest-requires : goal.without-rest-requires
without-rest-requires c = below (goal.at.without-rest-requires c).After-busiest-v

pub loop-rest-smaller : goal.loop-rest-smaller
loop-rest-smaller c =
    rw c.without-rest.ensures (without_fewer c.loop-rest.rest c.busiest-v.result c.loop-rest.invariant.0 c.busiest-v.ensures.member)

pub loop-rest-preserved : goal.loop-rest-preserved
loop-rest-preserved c =
    let f = formula_in c.args.self.now in
    let l = (goal.at.loop-rest-preserved c).At-loop-rest in
    let b = behind (goal.at.loop-rest-preserved c).After-busiest-v in (
      rw c.without-rest.ensures (minus_lt 64 c.loop-rest.rest (2 ^ c.busiest-v.result) c.loop-rest.invariant.0),
      (
        b.0,
        rw c.without-rest.ensures b.2,
        sym (passing_more f unassigned (left l) b.0 c.loop-rest.cost c.busiest-v.result c.try_variable-t.result b.1 c.try_variable-t.ensures
            c.if-t.false)
            ∙ c.loop-rest.invariant.1.2,
        omega (arith, cost (goal.at.loop-rest-preserved c).After-try_variable-t, ap length b.1, c.loop-rest.invariant.1.3),
      ),
    )

pub returns : goal.returns
returns c =
    let f = formula_in c.args.self.now in
    let l = (goal.at.returns c).At-loop-rest in
    let none : left l ≡ [] = lists_none (count_at c.args.counts) (left l) c.loop-rest.rest c.loop-rest.invariant.1.1 c.loop-rest-test.false in
    c.both_open-2.ensures ∙ sym (passing-none f unassigned c.loop-rest.cost)
    ∙ ap (λ (vs : List ℕ). passing f unassigned vs c.loop-rest.cost) (sym none) ∙ c.loop-rest.invariant.1.2
