use Rattle.std.proofs.Common.{◌++◌, ◌<◌, [], map, length, arith, rules, string_bytes}
use Rattle.xb_value.specs.Text.{listed}
use Rattle.vlog_text.specs.Printer.Parts.{atom_text}
use Rattle.vlog_text.proofs.OnPrinter.Listing.{listed_step}
use Rattle.vlog_text.proofs.printer.atom.push_atoms.Goals as goal

pub atoms-preserved : goal.atoms-preserved
atoms-preserved c =
    let xs = c.args.atoms.now in
    let i = c.atoms.atom-index in
    let inside : i < length xs = omega arith in
    record {
      written = listed_step (atom_text c.args.design.now) xs i c.atom-item.result c.atoms.separator.now (string_bytes c.atoms.text) (string_bytes c.push_str.new.self) (string_bytes c.push_atom.new.text)
          (string_bytes c.args.text.now ++ listed [] (map (atom_text c.args.design.now) xs)) inside c.atom-item.is c.in_ok-push_str.ensures.bytes c.in_ok-push_atom.ensures c.atoms.invariant.written;
      is_text = search rules;
    }
