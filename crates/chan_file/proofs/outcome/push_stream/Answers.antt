use Rattle.std.proofs.Common.{sym, subst}
use Rattle.net_core.specs.WellFormed.{AreWordsOf}
use Rattle.xb_value.specs.Width.{width_of}
use Rattle.chan_file.proofs.outcome.push_stream.Goals as goal

pub push_words-requires-clause-words : goal.push_words-requires-clause-words
push_words-requires-clause-words c =
    subst (λ ws. AreWordsOf (width_of c.args.chan.now.ty) ws) (sym c.as_slice.ensures) c.requires.words
