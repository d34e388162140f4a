use Rattle.std.proofs.Common.{◌≡◌, ◌++◌, [], map, drop, string_bytes}
use denote.Shadow.{shadow}
use denote.Text.{Utf8}
use Rattle.xb_value.specs.Text.{listed}
use Rattle.ir_text.specs.Printer.Parts.{type_text}
use Rattle.ir_text.proofs.printer.part.+types.Given as goal

abbrev pub invariant-push_types-parts : goal.invariant-push_types-parts
invariant-push_types-parts l =
    record {
      written : string_bytes l.text ++ listed l.separator (map type_text (drop l.part-index l.parts)) ≡ string_bytes l.fn.text ++ listed [] (map type_text l.parts);
      is_text : shadow (Utf8 l.separator);
    }
