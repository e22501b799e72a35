-- The vectors of start and walk: the answer and the checkpoint of their definitions (S8, S17.3), compared with those that the corpus has.
use Rattle.std.specs.Prelude.{ℕ, ◌+◌, Bool, cond, ◌&&◌, List, ◌∷◌, ◌≡◌, eqb, get_or, take, drop}
use Rattle.limits.specs.Limits.{max_variables}
use Rattle.walk.specs.Checkpoints as checkpoints
use Rattle.walk.specs.Checkpoints.{start}
use Rattle.walk.specs.WalkCall.{walk_call}
use Rattle.walk.specs.Results.{AnswerKind, says_model, says_spent, says_ended, says_refused, Result}
use Rattle.enumeration.specs.declared.checkpoint.Checkpoint.{Checkpoint}
use Rattle.enumeration.specs.Values.{checkpoint_values}
use Rattle.vectors.specs.declared.answers.Says.{Says}
use Rattle.vectors.specs.declared.answers.Says.TheVariants.{Model, Spent, Ended, Refused}
use Rattle.cases.specs.declared.walking.Told.{Told}
use Rattle.cases.specs.declared.walking.Called.{Called}
use Rattle.vectors.specs.Answers.{plain, expected, same_answer}
use Rattle.vectors.specs.Comparing.{first_wrong}
use Rattle.vectors.specs.Corpus.{Parts, four_bytes, eight_bytes}
use Rattle.cases.specs.Assuming.{assumptions_of}

-- how the corpus writes what an answer says
abbrev pub kind_written : AnswerKind → Says
kind_written says_model = Model
kind_written says_spent = Spent
kind_written says_ended = Ended
kind_written says_refused = Refused

abbrev pub walk_written : Result → Told
walk_written r = record {
  answer = plain (kind_written r.kind) r.number r.place;
  model = r.model;
  steps = r.steps;
  expansions = r.expansions;
}

-- what a call gives, and the checkpoint that it returns
pub record Tells (r : Result) (called : Called) : Type 0 where
  pub told : called.told ≡ walk_written r
  pub checkpoint : checkpoint_values called.checkpoint ≡ r.checkpoint

-- what a call must give, with which a vector's fields begin: the answer, the model, the steps and the expansions
abbrev pub expected_call : List ℕ → Told
expected_call fields = record {
  answer = expected fields;
  model = eight_bytes fields 6;
  steps = four_bytes fields 14;
  expansions = four_bytes fields 18;
}

-- the bytes of a checkpoint: its mode, its length and its trail
abbrev pub stored_checkpoint_size : ℕ
stored_checkpoint_size = 2 + max_variables

abbrev pub checkpoint_bytes : checkpoints.Checkpoint → List ℕ
checkpoint_bytes c = c.mode ∷ (c.length ∷ c.bytes)

-- the checkpoint that some bytes begin with
abbrev pub checkpoint_in : List ℕ → checkpoints.Checkpoint
checkpoint_in s = record { mode = get_or s 0 0; length = get_or s 1 0; bytes = take max_variables (drop 2 s) }

-- the checkpoint that the call gets, by a byte: 0 the one that follows it, 1 the start checkpoint, else the last
abbrev pub origin : List ℕ → checkpoints.Checkpoint → checkpoints.Checkpoint
origin s last = cond (eqb (get_or s 0 0) 0) (checkpoint_in (drop 1 s)) (cond (eqb (get_or s 0 0) 1) start last)

-- the vector's call
unfoldable pub called : Parts → checkpoints.Checkpoint → Result
called v last = walk_call v.input (assumptions_of v) (origin (drop 72 v.fields) last) (four_bytes v.fields 123)

-- where the checkpoint first has another byte than is expected; its size if nowhere
unfoldable pub checkpoint_wrong : List ℕ → checkpoints.Checkpoint → ℕ
checkpoint_wrong expected c = first_wrong eqb (λ i. get_or expected i 0) (checkpoint_bytes c)

-- the same is told
abbrev pub same_told : Told → Told → Bool
same_told a b =
    same_answer a.answer b.answer && (eqb a.model b.model && (eqb a.steps b.steps && eqb a.expansions b.expansions))

-- no byte of the checkpoint is wrong, and all else is the same
abbrev pub walk_alike : Told → Told → ℕ → Bool
walk_alike a b wrong = eqb wrong stored_checkpoint_size && same_told a b

-- the start checkpoint is the expected one
unfoldable pub start_agrees : Parts → Bool
start_agrees v = eqb (checkpoint_wrong v.fields start) stored_checkpoint_size

-- the vector's call gives what it must
unfoldable pub walk_agrees : Parts → checkpoints.Checkpoint → Bool
walk_agrees v last =
    let r = called v last in
    walk_alike (expected_call v.fields) (walk_written r) (checkpoint_wrong (take stored_checkpoint_size (drop 22 v.fields)) r.checkpoint)

-- the checkpoint that the call returns
unfoldable pub walk_leaves : Parts → checkpoints.Checkpoint → checkpoints.Checkpoint
walk_leaves v last = (called v last).checkpoint

-- whether the vector agrees, and the checkpoint that the last call returned
pub record Leaves (agreeing : Bool) (leaving : checkpoints.Checkpoint) (last : Checkpoint) (r : Bool) : Type 0 where
  pub agrees : r ≡ agreeing
  pub leaves : checkpoint_values last ≡ leaving
