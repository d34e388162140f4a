use Rattle.std.proofs.Common.{◌≡◌, ◌++◌, drop, string_bytes}
use Rattle.ir_text.specs.Printer.Parts.{operands_text}
use Rattle.ir_text.proofs.printer.part.push_before.Given as goal

abbrev pub invariant-operands : goal.invariant-operands
invariant-operands l = string_bytes l.text ++ operands_text l.nodes (drop l.operand-index l.operands) ≡ string_bytes l.fn.text ++ operands_text l.nodes l.operands
