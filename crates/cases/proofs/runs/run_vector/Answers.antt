-- `run_vector`: a conversion is that of its act.
use Rattle.std.proofs.Common.{rules}
use Rattle.dimacs.specs.Convert.{to_encoded, to_text}
use Rattle.vectors.specs.Corpus.{parts_of}
use Rattle.cases.specs.Converting.{convert_agrees}
use Rattle.cases.proofs.RunLaws.{kept}
use Rattle.cases.proofs.runs.run_vector.Goals as goal

pub returns-in-ReadText : goal.returns-in-ReadText
returns-in-ReadText g c =
    rw c.in-ReadText.is
    (kept c.convert_vector.result (convert_agrees to_encoded (parts_of c.args.v.now)) c.args.last.now
    (c.convert_vector.ensures to_encoded (λ given before after r p. search rules)))

pub returns-in-WriteText : goal.returns-in-WriteText
returns-in-WriteText g c =
    rw c.in-WriteText.is
    (kept c.convert_vector-in-WriteText.result (convert_agrees to_text (parts_of c.args.v.now)) c.args.last.now
    (c.convert_vector-in-WriteText.ensures to_text (λ given before after r p. search rules)))
