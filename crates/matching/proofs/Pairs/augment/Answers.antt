-- `augment` is the next clause's search and re-matching.
use mathlib.Core.Path.{◌≡◌, ◌∙◌}
use lib.ListN.{take}
use Rattle.matching.specs.Search.{next_search}
use Rattle.matching.specs.Inner.{numbers_in, search_of}
use Rattle.matching.proofs.WholeLaws.{search_is, path_ready, augmented_path, augmented_none}
use Rattle.matching.proofs.Pairs.augment.Goals.{After-find_path-front}
use Rattle.matching.proofs.Pairs.augment.Goals as goal

-- the search that the arrays hold is the next clause's
found : (c : After-find_path-front)
    → search_of c.find_path-front.result c.find_path-front.new.self
    ≡ next_search c.args.sets.now (take c.args.clause c.args.self.now.table)
found c =
    let a = c.args in
    c.find_path-front.ensures ∙ search_is c.requires.0 (λ i _. c.fits-sets i)

pub rematch-requires : goal.rematch-requires
rematch-requires c =
    let a = c.args in
    path_ready c.requires.0 (λ i _. c.fits-sets i) c.find_path-front.result c.find_path-front.new.self
    (found (goal.at.rematch-requires c).After-find_path-front) c.in-Some.is c.requires.1

pub returns-in-Some : goal.returns-in-Some
returns-in-Some c =
    let a = c.args in
    augmented_path c.requires.0 (λ i _. c.fits-sets i) c.find_path-front.result c.find_path-front.new.self
    (found (goal.at.returns-in-Some c).After-find_path-front) c.in-Some.is c.rematch.new.self.table (numbers_in c.rematch.new.self) c.rematch.ensures

pub returns-in_default : goal.returns-in_default
returns-in_default c =
    let a = c.args in
    augmented_none c.requires.0 (λ i _. c.fits-sets i) c.find_path-front.result c.find_path-front.new.self
    (found (goal.at.returns-in_default c).After-find_path-front) c.in_default.is
