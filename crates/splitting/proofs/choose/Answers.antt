-- `choose` is the choice: where no clause is left the free one, and what `choose_open` gives where one is.
use mathlib.Core.Path.{sym, ◌∙◌}
use Rattle.splitting.proofs.NodeMatchingLaws.{small_of}
use Rattle.splitting.proofs.FreeLaws.{chosen_satisfied, some_open}
use Rattle.splitting.proofs.choose.Goals as goal

pub returns-then-all_satisfied : goal.returns-then-all_satisfied
returns-then-all_satisfied c =
    let s = c.args in
    c.choose_free.ensures ∙ sym (chosen_satisfied s.f.now s.a (sym c.all_satisfied.ensures ∙ c.if-all_satisfied.true) s.scope)

pub choose_open-requires : goal.choose_open-requires
choose_open-requires c =
    (small_of c.args.f.now c.requires, some_open c.args.f.now c.args.a (sym c.all_satisfied.ensures ∙ c.if-all_satisfied.false))
