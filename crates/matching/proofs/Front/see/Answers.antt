-- `see` is the definition's step for one unseen variable.
use mathlib.Core.Path.{sym, ◌∙◌, ap}
use Prim.Native.Nat.{◌<◌}
use native.Mathlib.Omega.{arith}
use Rattle.matching.specs.Search.{search_bound}
use Rattle.matching.specs.Inner.{number_of, owner_in, search_of}
use Rattle.matching.proofs.StepLaws.{see_free}
use Rattle.matching.proofs.FrontLaws.{owner_read, counted_room, counted_more, seen_matched}
use Rattle.matching.proofs.Front.see.Goals.{After-with, in-None, in-Some}
use Rattle.matching.proofs.Front.see.Goals as goal

room : (c : After-with) → c.args.self.tail < search_bound
room c = let s = c.args.self in counted_room s.seen s.tail c.args.v s.counted c.requires.0 c.requires.1

pub bounds-queue-self : goal.bounds-queue-self
bounds-queue-self c = omega (arith, room (goal.at.bounds-queue-self c).After-with)

pub overflow_add-self : goal.overflow_add-self
overflow_add-self c = omega (arith, room (goal.at.overflow_add-self c).After-with)

pub invariant_of-self-clause-counted : goal.invariant_of-self-clause-counted
invariant_of-self-clause-counted c =
    let s = c.args.self in
    let more = counted_more s.seen s.tail c.args.v s.counted c.requires.0 c.requires.1 in
    elim c.match-pairs-v.branch [
      | in-None w ↦ rw (w.self-is, c.with.ensures) (omega (arith, more))
      | in-Some w ↦ rw (w.self-is, c.with.ensures) more
    ]

pub returns : goal.returns
returns c =
    let a = c.args in
    let own = owner_in a.pairs.now in
    elim c.match-pairs-v.branch [
      | in-None w ↦ rw (w.self-is, w.self2-is, w.queue-is, c.with.ensures)
          (sym (see_free own a.clause a.v (search_of a.self a.queue.now) (owner_read a.pairs.now a.v ∙ ap number_of w.in-None.is)))
      | in-Some w ↦ rw (w.self-is, w.self2-is, w.queue-is, c.with.ensures)
          (seen_matched a.self a.queue.now own a.clause a.v w.in-Some.owner (owner_read a.pairs.now a.v ∙ ap number_of w.in-Some.is)
          (omega (arith, room (goal.at.returns c).After-with)))
    ]
