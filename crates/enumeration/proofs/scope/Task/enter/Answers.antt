-- `enter` meets its contract: by the checkpoint's test.
use Rattle.std.proofs.Common.{◌≡◌, length, rules}
use Rattle.limits.specs.Limits.{max_variables}
use Rattle.walk.specs.InnerStack.{tree}
use Rattle.enumeration.proofs.EnterLaws.{walked_follows, entered}
use Rattle.enumeration.proofs.scope.Task.enter.Goals as goal

pub read_checkpoint-requires : goal.read_checkpoint-requires
read_checkpoint-requires c =
    let p = c.requires in
    let w = p.2 in
    (w.fits, record { tree = tree w.task; follows = walked_follows p.0 p.1 _ _ w })

pub returns : goal.returns
returns c = λ s us w.
    let whole : length c.args.c.bytes ≡ max_variables = search (rules, c.well_formed) in
    rw c.ok_or.ensures.value
    (entered s us _ _ w _ whole c.read_checkpoint.result (c.read_checkpoint.ensures (tree w.task) (walked_follows s us _ _ w)))
