use Rattle.std.proofs.Common.{arith}
use Rattle.chan_file.specs.OutcomeText.{stream_line}
use Rattle.chan_file.proofs.Written.{lines_done, read_there}
use Rattle.chan_file.proofs.outcome.push_streams.Goals as goal

pub push_stream-requires-clause-words : goal.push_stream-requires-clause-words
push_stream-requires-clause-words c =
    c.requires.words c.chans.c c.index-chans-c.result c.index-streams-c.result
    (read_there c.args.chans.now c.chans.c c.index-chans-c.result (omega arith) c.index-chans-c.is)
    (read_there c.args.streams.now c.chans.c c.index-streams-c.result (omega arith) c.index-streams-c.is)

pub returns : goal.returns
returns c = lines_done stream_line c.args.chans.now c.args.streams.now c.chans.c _ _ (omega arith) c.chans.invariant
