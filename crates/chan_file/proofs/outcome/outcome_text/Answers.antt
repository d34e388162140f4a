use Rattle.std.proofs.Common.{◌∙◌, ap, sym}
use Rattle.std.specs.Prelude.{slice_get}
use Rattle.chan_file.proofs.outcome.outcome_text.Goals as goal

pub push_streams-requires-clause-words : goal.push_streams-requires-clause-words
push_streams-requires-clause-words c = λ k chan stream at_chan at_stream.
    c.requires.outcome.words k chan stream
    (ap (λ xs. slice_get xs k) (sym c.as_slice.ensures) ∙ at_chan)
    (ap (λ xs. slice_get xs k) (sym c.as_slice-2.ensures) ∙ at_stream)
