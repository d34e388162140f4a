use Rattle.std.proofs.Common.{◌≡◌, ◌++◌, ◌-◌, drop, length, string_bytes}
use Rattle.ir_text.specs.Printer.Parts.{sizes_text}
use Rattle.ir_text.proofs.printer.part.push_sizes.Given as goal

abbrev pub invariant-sizes : goal.invariant-sizes
invariant-sizes l = string_bytes l.text ≡ string_bytes l.fn.text ++ sizes_text (drop (length l.sizes - l.i) l.sizes)
