use Rattle.std.proofs.Common.{◌≡◌, ◌++◌, [], map, drop, string_bytes}
use denote.Shadow.{shadow}
use denote.Text.{Utf8}
use Rattle.xb_value.specs.Text.{listed}
use Rattle.ir_text.specs.Printer.Parts.{operand_text}
use Rattle.ir_text.proofs.printer.part.push_operands.Given as goal

abbrev pub invariant-operands : goal.invariant-operands
invariant-operands l =
    record {
      written : string_bytes l.text ++ listed l.separator (map (operand_text l.nodes) (drop l.operand-index l.operands)) ≡ string_bytes l.fn.text ++ listed [] (map (operand_text l.nodes) l.operands);
      is_text : shadow (Utf8 l.separator);
    }
