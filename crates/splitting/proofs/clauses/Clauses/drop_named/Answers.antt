-- `drop_named` keeps the clauses that do not name v.
use Prim.Native.Nat.{ℕ}
use native.Mathlib.Omega.{arith}
use mathlib.Core.Path.{sym, ap, ◌∙◌}
use Rattle.masks.specs.Mask.{bit}
use Rattle.splitting.specs.InnerChoose.{clauses_of}
use Rattle.splitting.proofs.OpenClauseLaws.{clause_read, unnamed_gone, unnamed_more}
use Rattle.splitting.proofs.clauses.Clauses.drop_named.Goals.{then-not-member, else-not-member}
use Rattle.splitting.proofs.clauses.Clauses.drop_named.Goals as goal

pub loop-i-preserved : goal.loop-i-preserved
loop-i-preserved c =
    let s = c.args.self.now in
    let cs = clauses_of s in
    let v = c.args.v in
    let at = clause_read s.positives s.negatives s.count c.loop-i.i (omega arith) ∙ sym (c.loop-i.invariant.2 c.loop-i.i (omega arith)) ∙ sym c.clause-c.ensures in
    let names = ap (λ (m : ℕ). bit m v) (sym c.variables.ensures) ∙ sym c.member.ensures in
    elim c.if-not-member.branch [
      | then-not-member w ↦ (
        omega arith,
        rw (w.self-is, w.kept-is)
            (w.put.ensures.written ∙ rw (c.loop-i.invariant.1, unnamed_more cs v c.loop-i.i c.clause-c.result at (names ∙ w.if-not-member.true))),
        λ j m. rw w.self-is (w.put.ensures.kept j (omega arith) ∙ c.loop-i.invariant.2 j (omega arith)),
      )
      | else-not-member w ↦ (
        omega arith,
        rw (w.self-is, w.kept-is, unnamed_gone cs v c.loop-i.i c.clause-c.result at (names ∙ w.if-not-member.false)) c.loop-i.invariant.1,
        λ j m. rw w.self-is (c.loop-i.invariant.2 j (omega arith)),
      )
    ]
