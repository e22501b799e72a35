-- Nodes at which no clause is left.
use Prim.Native.Nat.{ℕ}
use mathlib.Core.Bool.{Bool, true, false, cond, ◌&&◌, true≢false}
use mathlib.Core.List.{List, [], ◌∷◌}
use mathlib.Core.Path.{◌≡◌, refl, ◌∙◌}
use mathlib.Core.Logic.{◌⊎◌, inl, inr}
use Rattle.std.specs.List.{list_all}
use Rattle.lists.proofs.TestLaws.{and_left, and_right, and_both, or_left}
use Rattle.formula.specs.declared.Clause.{Clause}
use Rattle.formula.specs.declared.Formula.{Formula}
use Rattle.formula.specs.declared.assignment.Assignment.{Assignment}
use Rattle.splitting.specs.declared.clauses.Survey.{Survey}
use Rattle.formula.specs.InnerAssignment.{set_to, satisfied_under, left_under}
use Rattle.splitting.specs.InnerChoose.{surveys, node, survey_from, survey_of, all_satisfied, free_choice, mask_choice}
use Rattle.splitting.proofs.MaskNodeLaws.{satisfied_more, open_of, open_list}

module _ (a : Assignment) where
  -- what is left of satisfied clauses
  none_open : (cs : List Clause) → list_all (satisfied_under a) cs ≡ true → open_of a cs ≡ []
  unfolding open_of
  none_open [] e = refl
  none_open (c ∷ cs) e =
      rw (and_left (satisfied_under a c) (list_all (satisfied_under a) cs) e) (none_open cs (and_right (satisfied_under a c) (list_all (satisfied_under a) cs) e))

  -- and where not all are
  any_open : (s : Survey) (cs : List Clause) → (s.any ≡ true) ⊎ (list_all (satisfied_under a) cs ≡ false) → (survey_from s (open_of a cs)).any ≡ true
  unfolding open_of survey_from
  any_open s [] (inl e) = e
  any_open s [] (inr e) = absurd (true≢false e)
  any_open s (c ∷ cs) e = go (satisfied_under a c) e (any_open s cs) (any_open (surveys s (left_under a c)) cs (inl refl))
    where
      go : (b : Bool) → (s.any ≡ true) ⊎ (b && list_all (satisfied_under a) cs ≡ false)
          → ((s.any ≡ true) ⊎ (list_all (satisfied_under a) cs ≡ false) → (survey_from s (open_of a cs)).any ≡ true)
          → ((survey_from (surveys s (left_under a c)) (open_of a cs)).any ≡ true)
          → (survey_from s (cond b (open_of a cs) (left_under a c ∷ open_of a cs))).any ≡ true
      go true q h k = h q
      go false q h k = k

  -- they stay so with one variable more
  all_stay : (v : ℕ) (b : Bool) (cs : List Clause) → list_all (satisfied_under a) cs ≡ true → list_all (satisfied_under (set_to a v b)) cs ≡ true
  all_stay v b [] e = refl
  all_stay v b (c ∷ cs) e =
      let all = list_all (satisfied_under a) cs in
      and_both (satisfied_under (set_to a v b) c) (list_all (satisfied_under (set_to a v b)) cs)
      (satisfied_more a c v b ∙ or_left (satisfied_under a c) _ (and_left (satisfied_under a c) all e))
      (all_stay v b cs (and_right (satisfied_under a c) all e))

module _ (f : Formula) (a : Assignment) (e : all_satisfied f a ≡ true) where
  pub satisfied_stays : (v : ℕ) (b : Bool) → all_satisfied f (set_to a v b) ≡ true
  satisfied_stays v b = all_stay a v b f.clauses.items e

  -- the choice there
  pub chosen_satisfied : (scope : ℕ) → mask_choice f scope a ≡ free_choice scope a
  unfolding mask_choice survey_from
  chosen_satisfied scope = rw (mask_choice, open_list a f.clauses.items, none_open a f.clauses.items e)

-- where some clause is left
pub some_open : (f : Formula) (a : Assignment) → all_satisfied f a ≡ false → (survey_of (node f a)).any ≡ true
some_open f a e = rw (open_list a f.clauses.items) (any_open a _ f.clauses.items (inr e))
