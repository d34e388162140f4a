use Rattle.std.proofs.Common.{◌≡◌, ◌++◌, drop, string_bytes}
use Rattle.chan_file.specs.OutcomeText.{stream_line, lines_by}
use Rattle.chan_file.proofs.outcome.push_streams.Given as goal

abbrev pub invariant-chans : goal.invariant-chans
invariant-chans l =
    string_bytes l.text ++ lines_by stream_line (drop l.c l.chans) (drop l.c l.streams) ≡ string_bytes l.fn.text ++ lines_by stream_line l.chans l.streams
