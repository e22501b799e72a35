-- `take_literal`: by the three tests.
use Prim.Native.Nat.{◌-◌, ◌≤◌}
use mathlib.Core.Bool.{Bool, true, false, not}
use mathlib.Core.Path.{◌≡◌, sym, ◌∙◌}
use native.Mathlib.Omega.{arith}
use Rattle.masks.specs.Mask.{bit}
use Rattle.formula.specs.InnerFits.{side, clause_variables}
use Rattle.dimacs.proofs.KeepLaws.{literal_complement, literal_repeat, literal_room, literal_kept}
use Rattle.dimacs.proofs.reader.Reader.take_literal.Goals.{After-member, After-member-2}
use Rattle.dimacs.proofs.reader.Reader.take_literal.Goals as goal

-- behind the first test: the variable is below
below : (d : After-member) → (let a = d.args in a.k ≤ a.self.now.variables)
below d = omega arith

-- the second test is that of the complement
complement : (d : After-member) (x : Bool) → d.member.result ≡ x → (let a = d.args in bit (side a.self.now.current (not a.sign)) (a.k - 1) ≡ x)
complement d x e = rw d.other_side.ensures at (sym d.member.ensures ∙ e)

-- the third is that of the variable
named : (d : After-member-2) (x : Bool) → d.member-2.result ≡ x → (let a = d.args in bit (clause_variables a.self.now.current) (a.k - 1) ≡ x)
named d x e = rw d.variables.ensures at (sym d.member-2.ensures ∙ e)

pub returns-then-member : goal.returns-then-member
returns-then-member c =
    let d = (goal.at.returns-then-member c).After-member in
    λ n s k. let a = c.args in literal_complement k a.at a.sign a.k (below d) (complement d true c.if-member.true)

pub returns-then-member-2 : goal.returns-then-member-2
returns-then-member-2 c =
    let d = (goal.at.returns-then-member-2 c).After-member in
    let e = (goal.at.returns-then-member-2 c).After-member-2 in
    λ n s k. let a = c.args in literal_repeat k a.at a.sign a.k (below d) (complement d false c.if-member.false) (named e true c.if-member-2.true)

pub keep_literal-requires : goal.keep_literal-requires
keep_literal-requires c =
    let d = (goal.at.keep_literal-requires c).After-member in
    let e = (goal.at.keep_literal-requires c).After-member-2 in
    let k = c.requires.1.keeps in
    (c.requires.0, omega (arith, below d, k.sized.most), literal_room k 0 c.args.sign c.args.k (below d) (complement d false c.if-member.false) c.requires.0 (named e false c.if-member-2.false))

pub returns : goal.returns
returns c =
    let d = (goal.at.returns c).After-member in
    let e = (goal.at.returns c).After-member-2 in
    λ n s k.
    let a = c.args in
    rw c.keep_literal.ensures (literal_kept k a.at a.sign a.k (below d) (complement d false c.if-member.false) c.requires.0 (named e false c.if-member-2.false))
