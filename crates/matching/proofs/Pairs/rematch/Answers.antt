-- `rematch` is the definition's re-matching.
use mathlib.Core.Path.{◌≡◌, sym, ◌∙◌, ap, subst}
use mathlib.Core.Logic.{◌⊎◌, ⊎_elim}
use native.Mathlib.Omega.{arith}
use Prim.Native.Nat.{ℕ, ◌<◌}
use lib.ListN.{take, set}
use Rattle.std.proofs.Common.{Some}
use Rattle.std.proofs.lemmas.List.{map-set}
use Rattle.limits.specs.Limits.{max_clauses}
use Rattle.lists.specs.Padded.{padded}
use Rattle.matching.specs.Search.{search_bound}
use Rattle.matching.specs.Inner.{at, number_of, distance, owners_of}
use Rattle.matching.proofs.RematchLaws.{owned_more, link_cases, nearer, augments_next, rematch_next, table_end, owners_end}
use Rattle.matching.proofs.Pairs.rematch.Goals.{After-from-c, Else-c-clause}
use Rattle.matching.proofs.Pairs.rematch.Goals as goal

-- u's clause is the new one or is matched
cases : (c : After-from-c) → (c.from-c.result ≡ c.args.clause) ⊎ (c.from-c.result < c.args.clause)
cases c = rw c.from-c.ensures (link_cases c.loop-clause.invariant.0)

low : (c : After-from-c) → c.from-c.result < max_clauses
low c = ⊎_elim (λ e. omega (arith, c.loop-clause.invariant.0.room)) (λ h. omega (arith, c.loop-clause.invariant.0.room)) (cases c)

pub bounds-self-c : goal.bounds-self-c
bounds-self-c c = low (goal.at.bounds-self-c c).After-from-c

pub bounds-self-c-in-loop-clause : goal.bounds-self-c-in-loop-clause
bounds-self-c-in-loop-clause c = low (goal.at.bounds-self-c-in-loop-clause c).After-from-c

pub invariant_of-self : goal.invariant_of-self
invariant_of-self c = record { owned = owned_more c.loop-clause.self.owners c.loop-clause.u c.from-c.result (low (goal.at.invariant_of-self c).After-from-c) c.loop-clause.self.owned }

pub returns-then-c-clause : goal.returns-then-c-clause
returns-then-c-clause c =
    let a = c.args in
    let e : c.from-c.result ≡ a.clause = c.if-c-clause.true in
    let q : at a.links.now c.loop-clause.u ≡ a.clause = sym c.from-c.ensures ∙ e in
    rw e
    (record {
      table_is = table_end c.loop-clause.invariant.0 q ∙ ap (padded max_clauses 0) c.loop-clause.invariant.1;
      owners_are = map-set number_of c.loop-clause.self.owners c.loop-clause.u (Some a.clause)
          ∙ owners_end c.loop-clause.invariant.0 q ∙ ap owners_of c.loop-clause.invariant.1;
    })

-- where the loop goes on, u's clause is matched
matched : (c : Else-c-clause) → c.from-c.result < c.args.clause
matched c = ⊎_elim (λ e. absurd (c.if-c-clause.false e)) (λ h. h) (cases (goal.at.Else-c-clause c).After-from-c)

pub loop-clause-smaller : goal.loop-clause-smaller
loop-clause-smaller c =
    let a = c.args in
    let d = nearer c.loop-clause.invariant.0 c.from-c.ensures (matched c) in
    subst (λ (x : ℕ). distance search_bound a.links.now (take a.clause (set c.loop-clause.self.table c.from-c.result c.loop-clause.u)) x < distance search_bound a.links.now (take a.clause c.loop-clause.self.table) c.loop-clause.u)
    (sym c.from-old.ensures)
    (omega arith)

pub loop-clause-preserved : goal.loop-clause-preserved
loop-clause-preserved c =
    let i = c.loop-clause.invariant in
    let o = map-set number_of c.loop-clause.self.owners c.loop-clause.u (Some c.from-c.result) in
    rw (c.from-old.ensures, o) (augments_next i.0 c.from-c.ensures (matched c), rematch_next i.0 c.from-c.ensures (matched c) ∙ i.1)
