use Rattle.std.proofs.Common.{◌≡◌, ◌++◌, [], map, drop, string_bytes}
use denote.Shadow.{shadow}
use denote.Text.{Utf8}
use Rattle.xb_value.specs.Text.{listed}
use Rattle.vlog_text.specs.Printer.Parts.{atom_text}
use Rattle.vlog_text.proofs.printer.atom.push_atoms.Given as goal

abbrev pub invariant-atoms : goal.invariant-atoms
invariant-atoms l =
    record {
      written : string_bytes l.text ++ listed l.separator (map (atom_text l.design) (drop l.atom-index l.atoms)) ≡ string_bytes l.fn.text ++ listed [] (map (atom_text l.design) l.atoms);
      is_text : shadow (Utf8 l.separator);
    }
