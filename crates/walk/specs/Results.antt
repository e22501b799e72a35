-- S8.1, S3.3: what a walk call gives.
use Rattle.std.specs.Prelude.{ℕ}
use Rattle.formula.specs.declared.Refusal.{Refusal}
use Rattle.formula.specs.Refusals.{table_row}
use Rattle.walk.specs.Task.{Task}
use Rattle.walk.specs.Checkpoints.{Checkpoint, checkpoint_after}
use Rattle.walk.specs.PlainMachine.{Answer, found, spent, ended, Call}

-- the answers (request: set-up, spent, ended, refused)
pub data AnswerKind : Type 0 where
  says_model : AnswerKind
  says_spent : AnswerKind
  says_ended : AnswerKind
  says_refused : AnswerKind

-- the values of a result: the model, or 0; the refusal's number and place, or zeros; the steps, the expansions and the checkpoint
pub record Result : Type 0 where
  pub kind : AnswerKind
  pub model : ℕ
  pub number : ℕ
  pub place : ℕ
  pub steps : ℕ
  pub expansions : ℕ
  pub checkpoint : Checkpoint

-- how an answer is told
abbrev pub answer_kind : Answer → AnswerKind
answer_kind (found a) = says_model
answer_kind spent = says_spent
answer_kind ended = says_ended

-- the model of an answer, 0 where there is none
abbrev pub model_of : Answer → ℕ
model_of (found a) = a
model_of spent = 0
model_of ended = 0

-- the values of an answer
abbrev pub answered : Answer → ℕ → ℕ → Checkpoint → Result
answered a s e c = record { kind = answer_kind a; model = model_of a; number = 0; place = 0; steps = s; expansions = e; checkpoint = c }

-- S3.3: the values of a refusal: its number and place, the checkpoint that was given, and zeros
abbrev pub refusing : Refusal → Checkpoint → Result
refusing r c =
    record { kind = says_refused; model = 0; number = (table_row r).number; place = (table_row r).place; steps = 0; expansions = 0; checkpoint = c }

-- what the plain machine gives, as a result
abbrev pub plain_result : Task → Call → Result
plain_result T p = answered p.answer p.steps p.expansions (checkpoint_after T p.behind)
