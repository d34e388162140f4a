use Rattle.std.proofs.Common.{◌≡◌, ◌++◌, drop, map, string_bytes}
use Rattle.ir_text.specs.Printer.Lines.{channel_text, lines_text}
use Rattle.ir_text.proofs.printer.package.push_channels.Given as goal

abbrev pub invariant-channels : goal.invariant-channels
invariant-channels l = string_bytes l.text ++ lines_text (map channel_text (drop l.channel-index l.channels)) ≡ string_bytes l.fn.text ++ lines_text (map channel_text l.channels)
