use Rattle.std.proofs.Common.{◌≡◌, ◌++◌, [], map, drop, string_bytes}
use denote.Shadow.{shadow}
use denote.Text.{Utf8}
use Rattle.xb_value.specs.Text.{listed}
use Rattle.vlog_text.specs.Printer.ModuleText.{port_text}
use Rattle.vlog_text.proofs.printer.module.push_ports.Given as goal

abbrev pub invariant-ports : goal.invariant-ports
invariant-ports l =
    record {
      written : string_bytes l.text ++ listed l.separator (map port_text (drop l.port-index l.ports)) ≡ string_bytes l.fn.text ++ listed [] (map port_text l.ports);
      is_text : shadow (Utf8 l.separator);
    }
