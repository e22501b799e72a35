-- S8.1: the values of what a walk call gives, for each case of its answer.
use Rattle.std.specs.Prelude as std
use Rattle.std.specs.Prelude.{ℕ, Ok, Err}
use Rattle.formula.specs.declared.Refusal.{Refusal}
use Rattle.walk.specs.Checkpoints as walk
use Rattle.walk.specs.Results.{says_model, says_spent, says_ended, Result, refusing}
use Rattle.enumeration.specs.declared.checkpoint.Checkpoint.{Checkpoint}
use Rattle.enumeration.specs.declared.listing.Listed.{Listed}
use Rattle.enumeration.specs.declared.calls.Walked.{Walked}
use Rattle.enumeration.specs.declared.steps.Answer.{Answer}
use Rattle.enumeration.specs.declared.steps.Answer.TheVariants.{Model, Spent, Ended}

-- a checkpoint's mode, length and bytes
abbrev pub checkpoint_values : Checkpoint → walk.Checkpoint
checkpoint_values c = record { mode = c.mode; length = c.length; bytes = c.bytes }

-- the values of each answer: the model, or 0
abbrev pub answer_values : Answer → ℕ → ℕ → walk.Checkpoint → Result
answer_values (Model a) s e c = record { kind = says_model; model = a; number = 0; place = 0; steps = s; expansions = e; checkpoint = c }
answer_values Spent s e c = record { kind = says_spent; model = 0; number = 0; place = 0; steps = s; expansions = e; checkpoint = c }
answer_values Ended s e c = record { kind = says_ended; model = 0; number = 0; place = 0; steps = s; expansions = e; checkpoint = c }

abbrev pub walked_values : Walked → Result
walked_values w = answer_values w.answer w.steps w.expansions (checkpoint_values w.checkpoint)

-- a call from the checkpoint c: those, or a refusal's, which gives c back
abbrev pub call_values : walk.Checkpoint → std.Result Walked Refusal → Result
call_values c (Ok w) = walked_values w
call_values c (Err r) = refusing r c

-- the result without its steps and expansions
abbrev pub uncounted : Result → Result
uncounted r =
    record { kind = r.kind; model = r.model; number = r.number; place = r.place; steps = 0; expansions = 0; checkpoint = r.checkpoint }

-- the answer and the checkpoint of a list
abbrev pub listed_values : Listed → Result
listed_values r = answer_values r.answer 0 0 (checkpoint_values r.checkpoint)

-- a list from the checkpoint c: those, or a refusal's, which gives c back
abbrev pub list_values : walk.Checkpoint → std.Result Listed Refusal → Result
list_values c (Ok r) = listed_values r
list_values c (Err r) = refusing r c

-- the number of models of a list, none beside a refusal
abbrev pub list_count : std.Result Listed Refusal → ℕ
list_count (Ok r) = r.count
list_count (Err r) = 0
