-- `put_clauses`: the invariant is that the lines are written up to the clauses that are left.
use Prim.Native.Nat.{◌+◌, ◌-◌}
use mathlib.Core.Path.{◌≡◌}
use native.Mathlib.Omega.{arith}
use Rattle.dimacs.proofs.LineLaws.{Listing, listing_first, listing_clause, listing_more, listing_last}
use Rattle.dimacs.proofs.writer.put_clauses.Goals.{At-loop}
use Rattle.dimacs.proofs.writer.put_clauses.Goals as goal

-- how far the lines of the clauses that stand there are written
going : (l : At-loop) → (Listing l.args.input.now l.requires.rest l.requires.clauses l.args.w.now l.loop.w l.loop.from (l.args.count - l.loop.counter))
going l = let v = l.requires in l.loop.invariant v.clauses v.rest v.bytes v.over v.all

pub loop-init : goal.loop-init
loop-init c = let r = c.requires.room in λ ws rest e o n. listing_first c.args.input.now rest 2 ws c.args.w.now _ e o (omega arith) (omega arith)

pub put_clause-from-requires : goal.put_clause-from-requires
put_clause-from-requires c = listing_clause (going (goal.at.put_clause-from-requires c).At-loop) (omega arith) c.requires.room

pub loop-preserved : goal.loop-preserved
loop-preserved c =
    let s : c.args.count - (c.loop.counter + 1) ≡ c.args.count - c.loop.counter - 1 = omega arith in
    λ ws rest e o n. rw s (listing_more (c.loop.invariant ws rest e o n) _ _ (omega arith) c.put_clause-from.ensures)

pub returns : goal.returns
returns c = λ ws rest e o n. listing_last (c.loop.invariant ws rest e o n) (omega arith)
