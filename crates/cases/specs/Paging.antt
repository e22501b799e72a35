-- The vectors of pages: the answer, the checkpoint and the page of their definition (S19), compared with those that the corpus has.
use Rattle.std.specs.Prelude.{ℕ, ◌+◌, ◌-◌, ◌%◌, Bool, cond, ◌&&◌, List, eqb, ltb, length, get_or, take, drop, replicate}
use Rattle.writing.specs.Text.{line_feed, blank}
use Rattle.walk.specs.Checkpoints.{Checkpoint}
use Rattle.page.specs.PageLines.{line_size, page_size}
use Rattle.page.specs.Pages.{PageValues, PageCall, page_call}
use Rattle.vectors.specs.declared.answers.Says.{Says}
use Rattle.vectors.specs.declared.answers.Says.TheVariants.{Filled}
use Rattle.vectors.specs.declared.answers.Answer.{Answer}
use Rattle.vectors.specs.Answers.{byte_of, plain, expected, same_answer}
use Rattle.vectors.specs.Comparing.{first_wrong}
use Rattle.vectors.specs.Corpus.{Parts, two_bytes, four_bytes}
use Rattle.cases.specs.Assuming.{assumptions_of}
use Rattle.cases.specs.Judging.{unless_refused}
use Rattle.cases.specs.Walking.{stored_checkpoint_size, origin, checkpoint_wrong}

-- how the corpus writes an answer: the place is the refusal's or the number of lines that are filled, since the other one is 0
abbrev pub page_written : PageValues → Answer
page_written a = plain (unless_refused Filled a.number) a.number (a.place + a.lines)

-- so many bytes are written, by what an answer says
abbrev pub written_size : Says → ℕ
written_size says = cond (eqb (byte_of says) (byte_of Filled)) page_size 0

-- the byte behind the filled lines, at i: of a blank line, or the fill where nothing is written
abbrev pub byte_behind : ℕ → ℕ → ℕ → ℕ
byte_behind size fill i = cond (ltb i size) (cond (eqb (i % line_size) (line_size - 1)) line_feed blank) fill

-- the byte that must stand at i: the filled lines stand first
abbrev pub page_byte : List ℕ → ℕ → ℕ → ℕ → ℕ
page_byte expected size fill i = get_or expected i (byte_behind size fill i)

-- what the vector's call gives. The last fields: the first serial; the length of the page, which has the fill everywhere before the call; and
-- the fill
unfoldable pub paged : Parts → Checkpoint → PageCall
paged v last =
    page_call v.input (assumptions_of v) (origin (drop 56 v.fields) last) (four_bytes v.fields 107)
    (take (two_bytes v.fields 111) (replicate 65536 (get_or v.fields 113 0)))

-- no byte of the checkpoint is wrong, the answers are the same, and the first wrong byte of the page would stand behind it
abbrev pub page_alike : Answer → Answer → ℕ → ℕ → ℕ → Bool
page_alike wanted got other wrong size = eqb other stored_checkpoint_size && (same_answer wanted got && eqb wrong size)

-- the call gives what it must
unfoldable pub page_agrees : Parts → Checkpoint → Bool
page_agrees v last =
    let p = paged v last in
    let wanted = expected v.fields in
    page_alike wanted (page_written p.answer)
    (checkpoint_wrong (take stored_checkpoint_size (drop 6 v.fields)) p.checkpoint)
    (first_wrong eqb (page_byte v.expected (written_size wanted.says) (get_or v.fields 113 0)) p.page)
    (length p.page)

-- the checkpoint that the call returns
unfoldable pub page_leaves : Parts → Checkpoint → Checkpoint
page_leaves v last = (paged v last).checkpoint
