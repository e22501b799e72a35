-- The vectors of a file, each by its act.
use Rattle.std.specs.Prelude.{ℕ, zero, suc, ◌-◌, Bool, List, None, Some, ◌≡◌, length}
use Rattle.walk.specs.Checkpoints.{Checkpoint, start}
use Rattle.cases.specs.declared.runs.Act.{Act}
use Rattle.cases.specs.declared.runs.Act.TheVariants.{Check, Judge, Weigh, Deficiency, ReadText, WriteText, Start, Walk, Wait, Listing, Models, Page, Compare, Print}
use Rattle.cases.specs.declared.runs.Run.{Run}
use Rattle.vectors.specs.declared.totals.Totals.{Totals}
use Rattle.dimacs.specs.Convert.{to_encoded, to_text}
use Rattle.vectors.specs.Checking.{check_agrees}
use Rattle.vectors.specs.Corpus.{Parts, framed}
use Rattle.cases.specs.Converting.{convert_agrees}
use Rattle.cases.specs.Judging.{judge_agrees}
use Rattle.cases.specs.Listing.{listing_agrees, listing_leaves, list_agrees, list_leaves}
use Rattle.cases.specs.Measuring.{deficiency_agrees}
use Rattle.cases.specs.Paging.{page_agrees, page_leaves}
use Rattle.cases.specs.Prints.{print_agrees}
use Rattle.vectors.specs.Totals.{counted, Grown}
use Rattle.cases.specs.Trying.{compare_agrees}
use Rattle.cases.specs.Waiting.{waits_agree}
use Rattle.cases.specs.Walking.{stored_checkpoint_size, start_agrees, walk_agrees, walk_leaves}
use Rattle.cases.specs.Weighing.{weigh_agrees}

-- the size of the fields of an act's vector
abbrev pub size_of : Act → ℕ
size_of Check = 14
size_of Judge = 104
size_of Weigh = 104
size_of Deficiency = 6
size_of ReadText = 9
size_of WriteText = 9
size_of Start = stored_checkpoint_size
size_of Walk = 127
size_of Wait = 4
size_of Listing = 23
size_of Models = 125
size_of Page = 114
size_of Compare = 6
size_of Print = 0

-- the act gives what the vector expects
abbrev pub act_agrees : Act → Parts → Checkpoint → Bool
act_agrees Check v last = check_agrees v
act_agrees Judge v last = judge_agrees v
act_agrees Weigh v last = weigh_agrees v
act_agrees Deficiency v last = deficiency_agrees v
act_agrees ReadText v last = convert_agrees to_encoded v
act_agrees WriteText v last = convert_agrees to_text v
act_agrees Start v last = start_agrees v
act_agrees Walk v last = walk_agrees v last
act_agrees Wait v last = waits_agree v
act_agrees Listing v last = listing_agrees v last
act_agrees Models v last = list_agrees v last
act_agrees Page v last = page_agrees v last
act_agrees Compare v last = compare_agrees v
act_agrees Print v last = print_agrees v

-- the checkpoint that the last walk call returned, after the vector
abbrev pub leaves : Act → Parts → Checkpoint → Checkpoint
leaves Check v last = last
leaves Judge v last = last
leaves Weigh v last = last
leaves Deficiency v last = last
leaves ReadText v last = last
leaves WriteText v last = last
leaves Start v last = last
leaves Walk v last = walk_leaves v last
leaves Wait v last = last
leaves Listing v last = listing_leaves v last
leaves Models v last = list_leaves v last
leaves Page v last = page_leaves v last
leaves Compare v last = last
leaves Print v last = last

-- what is left of a file, and the totals
pub record Left : Type 0 where
  pub bytes : List ℕ
  pub totals : Totals

-- the vectors at the beginning, up to the end or to one that runs past it. The number is at least the count of the bytes.
unfoldable pub run_from : ℕ → Act → List ℕ → Totals → Checkpoint → Left
run_from zero act s t last = record { bytes = s; totals = t }
run_from (suc k) act s t last =
    elim (framed s (size_of act)) [
      | Some p ↦ run_from k act p.1 (counted t (act_agrees act p.0 last)) (leaves act p.0 last)
      | None ↦ record { bytes = s; totals = t }
    ]

-- all vectors, counted on from totals; the start checkpoint stands for that of a last call
unfoldable pub run_of : Act → List ℕ → Totals → Run
run_of act s t =
    let l = run_from (length s) act s t start in
    record { at = length s - length l.bytes; totals = l.totals }

-- a run over all vectors, and how much the totals have grown by it
pub record Ran (act : Act) (s : List ℕ) (t : Totals) (r : Run) : Type 0 where
  pub run : r ≡ run_of act s t
  pub grown : Grown (length s) t r.totals

-- from t to r by a file: by some bytes, since no contract can say which a file has
pub record AfterFile (act : Act) (t r : Totals) : Type 0 where
  pub bytes : List ℕ
  pub totals : r ≡ (run_of act bytes t).totals
  pub grown : Grown 65536 t r
