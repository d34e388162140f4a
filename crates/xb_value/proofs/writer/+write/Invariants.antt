use Rattle.std.proofs.Common.{◌≡◌, ◌++◌, [], map, drop, string_bytes}
use denote.Shadow.{shadow}
use denote.Text.{Utf8}
use Rattle.xb_value.specs.Text.{text_of, listed}
use Rattle.xb_value.proofs.writer.+write.Given as goal

abbrev pub invariant-push_list-parts : goal.invariant-push_list-parts
invariant-push_list-parts l =
    record {
      written : string_bytes l.text ++ listed l.separator (map text_of (drop l.part-index l.parts)) ≡ string_bytes l.fn.text ++ listed [] (map text_of l.parts);
      is_text : shadow (Utf8 l.separator);
    }
