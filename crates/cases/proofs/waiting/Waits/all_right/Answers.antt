-- `all_right`: by the tests that were made.
use Rattle.std.proofs.Common.{◌≡◌, ◌&&◌, ◌||◌, ◌∙◌}
use lib.Dec.{leb}
use Rattle.cases.specs.Waiting.{most, last_trail}
use Rattle.cases.proofs.WaitingLaws.{right-tallied}
use Rattle.cases.proofs.waiting.Waits.all_right.Goals as goal

pub returns-then-self-2 : goal.returns-then-self-2
returns-then-self-2 c =
    let s = c.args.self.now in
    let e : s.ended ≡ s.right && (s.ended || leb s.steps (most (last_trail s.last))) = rw (c.if-self.true, c.if-self-2.true) in
    e ∙ right-tallied s.ended (last_trail s.last) s.steps s.closed s.right

pub returns-else-self-2 : goal.returns-else-self-2
returns-else-self-2 c =
    let s = c.args.self.now in
    let e : leb s.steps c.most.result ≡ s.right && (s.ended || leb s.steps (most (last_trail s.last))) = rw (c.if-self.true, c.if-self-2.false, c.most.ensures) in
    e ∙ right-tallied s.ended (last_trail s.last) s.steps s.closed s.right

pub returns-else-self : goal.returns-else-self
returns-else-self c =
    let s = c.args.self.now in
    let e : s.right ≡ s.right && (s.ended || leb s.steps (most (last_trail s.last))) = rw c.if-self.false in
    e ∙ right-tallied s.ended (last_trail s.last) s.steps s.closed s.right
