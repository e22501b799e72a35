-- Laws of `run_from`: what a run with some bytes left has still to do.
use Rattle.std.specs.Prelude as std
use Rattle.std.proofs.Common.{Bool, IfOk, ℕ, zero, suc, ◌≡◌, ◌-◌, ◌≤◌, List, length, None, Some, refl, sym, ◌∙◌, arith}
use Rattle.std.proofs.lemmas.Result.{IfOk-weaker}
use Rattle.walk.specs.Checkpoints.{Checkpoint, start}
use Rattle.enumeration.specs.declared.checkpoint.Checkpoint as checkpoint
use Rattle.enumeration.specs.Values.{checkpoint_values}
use Rattle.cases.specs.declared.runs.Act.{Act}
use Rattle.vectors.specs.declared.totals.Totals.{Totals}
use Rattle.vectors.specs.Corpus.{Parts, framed}
use Rattle.cases.specs.Runs.{size_of, act_agrees, leaves, run_from, run_of}
use Rattle.cases.specs.Walking.{Leaves}
use Rattle.vectors.specs.Totals.{counted}
use Rattle.vectors.proofs.FrameLaws.{within}

-- where no vector stands at the beginning, a run stops
run_done :
    (k : ℕ) (act : Act) (s : List ℕ) (t : Totals) (last : Checkpoint) →
    framed s (size_of act) ≡ None → run_from k act s t last ≡ record { bytes = s; totals = t }
unfolding run_from
run_done zero act s t last e = refl
run_done (suc k) act s t last e = rw (run_from, e)

run_on :
    (k : ℕ) (act : Act) (s : List ℕ) (t : Totals) (last : Checkpoint) (v : Parts) (rest : List ℕ) →
    framed s (size_of act) ≡ Some (v, rest) →
    run_from (suc k) act s t last ≡ run_from k act rest (counted t (act_agrees act v last)) (leaves act v last)
unfolding run_from
run_on k act s t last v rest e = rw (run_from, e)

-- the run over what is left, with the totals so far, gives what the whole run gives from the first totals
pub record Stands (act : Act) (s : List ℕ) (first : Totals) (left : List ℕ) (t : Totals) (last : Checkpoint) : Type 0 where
  pub fuel : ℕ
  pub enough : length left ≤ fuel
  pub rest : run_from fuel act left t last ≡ run_from (length s) act s first start

module _
    (act : Act) (s : List ℕ) (first : Totals) (left : List ℕ) (t : Totals) (last : Checkpoint)
    (p : Stands act s first left t last) where
  pub stands_done : framed left (size_of act) ≡ None → record { at = length s - length left; totals = t } ≡ run_of act s first
  unfolding run_of
  stands_done e = rw (sym p.rest ∙ run_done p.fuel act left t last e)

  step :
      (k : ℕ) (v : Parts) (rest : List ℕ) →
      length left ≤ k →
      run_from k act left t last ≡ run_from (length s) act s first start →
      framed left (size_of act) ≡ Some (v, rest) →
      Stands act s first rest (counted t (act_agrees act v last)) (leaves act v last)
  step zero v rest n r e = absurd (omega (arith, (within left (size_of act) v rest e).shorter))
  step (suc k) v rest n r e =
      record { fuel = k; enough = omega (arith, (within left (size_of act) v rest e).shorter); rest = sym (run_on k act left t last v rest e) ∙ r }

  pub stands_next :
      (v : Parts) (rest : List ℕ) →
      framed left (size_of act) ≡ Some (v, rest) →
      Stands act s first rest (counted t (act_agrees act v last)) (leaves act v last)
  stands_next v rest e = step p.fuel v rest p.enough p.rest e

-- an act that leaves the last checkpoint as it is
pub kept :
    {E : Type 0} (r : std.Result Bool E) (agreeing : Bool) (last : checkpoint.Checkpoint) →
    IfOk r (λ agrees. agrees ≡ agreeing) → IfOk r (Leaves agreeing (checkpoint_values last) last)
kept r agreeing last h =
    IfOk-weaker r (λ (agrees : Bool). agrees ≡ agreeing) (Leaves agreeing (checkpoint_values last) last) (λ agrees e. record { agrees = e; leaves = refl }) h
