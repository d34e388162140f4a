use Rattle.std.proofs.Common.{sym, arith}
use Rattle.chan_file.proofs.Written.{read_there}
use Rattle.chan_file.proofs.outcome.push_words.Goals as goal

pub push_word-requires-clause-fits : goal.push_word-requires-clause-fits
push_word-requires-clause-fits c =
    sym (c.requires.words c.words.i c.index-words-i.result (read_there c.args.words.now c.words.i c.index-words-i.result (omega arith) c.index-words-i.is)).fits
