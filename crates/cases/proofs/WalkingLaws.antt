-- The law of the walk's comparison: from what its parts give.
use Rattle.std.proofs.Common.{ℕ, ◌≡◌, ◌-◌, Bool, List, length, drop, take, ap, ◌∙◌, arith, length-drop}
use lib.Seq.{take_all}
use Rattle.walk.specs.Checkpoints.{Checkpoint}
use Rattle.walk.specs.WalkCall.{walk_call}
use Rattle.walk.specs.Results.{Result}
use Rattle.enumeration.specs.Values.{checkpoint_values}
use Rattle.vectors.specs.Corpus.{Parts, four_bytes}
use Rattle.cases.specs.declared.walking.Told.{Told}
use Rattle.cases.specs.declared.walking.Called.{Called}
use Rattle.cases.specs.Assuming.{assumptions_of}
use Rattle.cases.specs.Walking.{stored_checkpoint_size, Tells, expected_call, walk_alike, origin, called, checkpoint_wrong, walk_agrees, walk_leaves, Leaves}

-- all bytes from number n on
pub from_on : (s : List ℕ) (n : ℕ) → take (length s - n) (drop n s) ≡ drop n s
from_on s n = take_all (length s - n) (drop n s) (omega (arith, length-drop {A = ℕ}))

-- the comparison is that of `walk_agrees`, since each side is what its function ensures, and what is left is the checkpoint that was returned
pub compared :
    (v : Parts) (last from : Checkpoint) (budget : ℕ) (r : Result) (got : Called) (wanted : Told) (wrong : ℕ) (agrees : Bool) →
    from ≡ origin (drop 72 v.fields) last →
    budget ≡ four_bytes v.fields 123 →
    r ≡ walk_call v.input (assumptions_of v) from budget →
    Tells r got →
    wanted ≡ expected_call v.fields →
    wrong ≡ checkpoint_wrong (take stored_checkpoint_size (drop 22 v.fields)) (checkpoint_values got.checkpoint) →
    agrees ≡ walk_alike wanted got.told wrong →
    Leaves (walk_agrees v last) (walk_leaves v last) got.checkpoint agrees
unfolding called walk_agrees walk_leaves
compared v last from budget r got wanted wrong agrees f b e t w g a =
    let is : r ≡ called v last = e ∙ rw (f, b) in
    record {
      agrees = a ∙ rw (g, w, t.told, t.checkpoint, is);
      leaves = t.checkpoint ∙ ap (λ (q : Result). q.checkpoint) is;
    }
