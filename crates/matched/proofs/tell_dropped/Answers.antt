-- `matched::tell_dropped` meets its contract.
use native.Mathlib.Omega.{arith}
use borrow.Author.Rules.{rules}
use mathlib.Core.List.{◌∷◌}
use mathlib.Core.Logic.{inl, inr, ⊎_elim}
use mathlib.Core.Path.{◌≡◌, refl, ap}
use lib.ListN.{length}
use Rattle.lists.specs.Tabulated.{tabulated}
use Rattle.matched.proofs.TellLaws.{tells_room, tells_next, tells_all}
use Rattle.matched.proofs.tell_dropped.Goals.{In-Some}
use Rattle.matched.proofs.tell_dropped.Goals as goal

-- the clause and the byte stand first in what was left
clause : (e : In-Some) → e.loop-c.c-iterator.a.rest.now ≡ e.in-Some.c.now ∷ e.next.new.self.a.rest.now
clause e = search rules

byte : (e : In-Some) → e.loop-c.c-iterator.b.rest.now ≡ e.in-Some.byte.now ∷ e.next.new.self.b.rest.now
byte e = search rules

pub loop-c-init : goal.loop-c-init
unfolding tabulated
loop-c-init c = rw c.new-told.ensures (refl, search rules, search rules, omega arith)

pub loop-c-preserved : goal.loop-c-preserved
loop-c-preserved c =
    let e = (goal.at.loop-c-preserved c).In-Some in
    rw c.push.ensures.items (tells_next _ _ _ _ _ c.loop-c.invariant (clause e) (byte e) _ c.tell.ensures)

pub push-requires : goal.push-requires
push-requires c =
    let e = (goal.at.push-requires c).In-Some in
    (search rules, omega (arith, tells_room _ _ _ _ _ c.loop-c.invariant (clause e) (byte e), c.deref.ensures.1, ap length c.deref.ensures.0))

pub returns : goal.returns
returns c = tells_all _ _ _ _ _ c.loop-c.invariant (⊎_elim (λ w. inl w.1.0) (λ w. inr w.1.0) c.in-None.ensures.steps) c.requires.0
