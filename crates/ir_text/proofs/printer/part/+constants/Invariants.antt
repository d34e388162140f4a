use Rattle.std.proofs.Common.{◌≡◌, ◌++◌, [], map, drop, string_bytes}
use denote.Shadow.{shadow}
use denote.Text.{Utf8}
use Rattle.xb_value.specs.Text.{listed}
use Rattle.ir_text.specs.Printer.Parts.{constant_text}
use Rattle.ir_text.proofs.printer.part.+constants.Given as goal

abbrev pub invariant-push_constants-parts : goal.invariant-push_constants-parts
invariant-push_constants-parts l =
    record {
      written : string_bytes l.text ++ listed l.separator (map constant_text (drop l.part-index l.parts)) ≡ string_bytes l.fn.text ++ listed [] (map constant_text l.parts);
      is_text : shadow (Utf8 l.separator);
    }
