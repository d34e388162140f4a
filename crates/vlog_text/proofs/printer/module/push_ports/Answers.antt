use Rattle.std.proofs.Common.{◌++◌, ◌<◌, [], map, length, arith, rules, string_bytes}
use Rattle.xb_value.specs.Text.{listed}
use Rattle.vlog_text.specs.Printer.ModuleText.{port_text}
use Rattle.vlog_text.proofs.OnPrinter.Listing.{listed_step}
use Rattle.vlog_text.proofs.printer.module.push_ports.Goals as goal

pub ports-preserved : goal.ports-preserved
ports-preserved c =
    let xs = c.args.ports.now in
    let i = c.ports.port-index in
    let inside : i < length xs = omega arith in
    record {
      written = listed_step port_text xs i c.port-item.result c.ports.separator.now (string_bytes c.ports.text) (string_bytes c.push_str.new.self) (string_bytes c.push_port.new.text)
          (string_bytes c.args.text.now ++ listed [] (map port_text xs)) inside c.port-item.is c.in_ok-push_str.ensures.bytes c.in_ok-push_port.ensures c.ports.invariant.written;
      is_text = search rules;
    }
