-- The law of the comparison of pages: from what its parts give.
use Rattle.std.specs.Prelude as std
use Rattle.std.proofs.Common.{ℕ, ◌≡◌, Bool, List, length, get_or, drop, take, replicate, sym, ap, ◌∙◌}
use lib.Dec.{eqb}
use Rattle.formula.specs.declared.Refusal.{Refusal}
use Rattle.walk.specs.Checkpoints as checkpoints
use Rattle.enumeration.specs.declared.checkpoint.Checkpoint.{Checkpoint}
use Rattle.enumeration.specs.Values.{checkpoint_values}
use Rattle.page.specs.declared.Paged.{Paged}
use Rattle.page.specs.Pages.{page_values, page_checkpoint, PageCall, page_call, page_told}
use Rattle.vectors.specs.declared.answers.Answer.{Answer}
use Rattle.vectors.specs.Answers.{expected}
use Rattle.vectors.specs.Comparing.{first_wrong}
use Rattle.vectors.specs.Corpus.{Parts, two_bytes, four_bytes}
use Rattle.cases.specs.Assuming.{assumptions_of}
use Rattle.cases.specs.Walking.{stored_checkpoint_size, origin, checkpoint_wrong, Leaves}
use Rattle.cases.specs.Paging.{page_written, written_size, page_byte, page_alike, paged, page_agrees, page_leaves}

-- the call is that of `paged`, since each argument is what its function ensures
pub paging :
    (v : Parts) (last from : checkpoints.Checkpoint) (serial size : ℕ) (r : PageCall) →
    from ≡ origin (drop 56 v.fields) last →
    serial ≡ four_bytes v.fields 107 →
    size ≡ two_bytes v.fields 111 →
    page_call v.input (assumptions_of v) from serial (take size (replicate 65536 (get_or v.fields 113 0))) ≡ r → r ≡ paged v last
unfolding paged
paging v last from serial size r f n z e = sym e ∙ rw (f, n, z)

-- the comparison is that of `page_agrees`, since each side is what its function ensures, and what is left is the checkpoint that was returned
pub compared :
    (v : Parts) (last from : checkpoints.Checkpoint) (returned : Checkpoint) (r : std.Result Paged Refusal) (after : List ℕ) (wanted got : Answer)
    (written other wrong : ℕ) (agrees : Bool) →
    page_told from r after ≡ paged v last →
    checkpoint_values returned ≡ page_checkpoint from r →
    wanted ≡ expected v.fields →
    written ≡ written_size wanted.says →
    got ≡ page_written (page_values r) →
    other ≡ checkpoint_wrong (take stored_checkpoint_size (drop 6 v.fields)) (checkpoint_values returned) →
    wrong ≡ first_wrong eqb (page_byte v.expected written (get_or v.fields 113 0)) after →
    agrees ≡ page_alike wanted got other wrong (length after) →
    Leaves (page_agrees v last) (page_leaves v last) returned agrees
unfolding page_agrees page_leaves
compared v last from returned r after wanted got written other wrong agrees is c w z g o f a = record {
  agrees = a ∙ rw (f, z, w, g, o, c, ← is);
  leaves = c ∙ ap (λ (p : PageCall). p.checkpoint) is;
}
