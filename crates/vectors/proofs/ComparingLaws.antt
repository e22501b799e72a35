-- Laws of `wrong_from`: at the first place, and at a place i of n.
use Rattle.std.proofs.Common.{ℕ, suc, ◌≡◌, ◌+◌, ◌-◌, ◌<◌, ◌≤◌, Bool, true, false, not, List, length, get_or, arith, sym, ap, ◌∙◌}
use Rattle.std.proofs.Math.Bool.{not-not}
use Rattle.std.proofs.lemmas.List.{get_or_default}
use Rattle.vectors.specs.Comparing.{wrong_from, first_wrong}

module _ {T : Type 0} (same : T → T → Bool) (wanted : ℕ → T) (got : List T) where
  pub from_first : wrong_from same wanted got (length got - 0) 0 ≡ first_wrong same wanted got
  unfolding first_wrong
  from_first = let e : length got - 0 ≡ length got = omega arith in rw e

  module _ (n i : ℕ) where
    -- after the last place
    pub none_wrong : n ≤ i → wrong_from same wanted got (n - i) i ≡ i
    unfolding wrong_from
    none_wrong h = let e : n - i ≡ 0 = omega arith in rw e

    -- a wrong place is the first
    pub wrong_here : i < n → same (get_or got i (wanted i)) (wanted i) ≡ false → wrong_from same wanted got (n - i) i ≡ i
    unfolding wrong_from
    wrong_here h d = let e : n - i ≡ suc (n - (i + 1)) = omega arith in rw (e, d)

    -- past a right place
    pub right_here : i < n → same (get_or got i (wanted i)) (wanted i) ≡ true → wrong_from same wanted got (n - i) i ≡ wrong_from same wanted got (n - (i + 1)) (i + 1)
    unfolding wrong_from
    right_here h d = let e : n - i ≡ suc (n - (i + 1)) = omega arith in rw (e, d)

  -- what `!=` says of the value x at a place where y must stand
  pub compared_here : (i : ℕ) (x y : T) (differs : Bool) → i < length got → x ≡ get_or got i x → y ≡ wanted i → differs ≡ not (same x y) → same (get_or got i (wanted i)) (wanted i) ≡ not differs
  compared_here i x y differs h e f d =
      ap (λ z. same z (wanted i)) (sym (e ∙ get_or_default got i x (wanted i) h)) ∙ ap (λ z. same x z) (sym f) ∙ sym (not-not _) ∙ ap not (sym d)
