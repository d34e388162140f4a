use Rattle.std.proofs.Common.{◌≡◌, ◌++◌, drop, string_bytes}
use Rattle.std.specs.Prelude.{flat_map}
use Rattle.vlog_text.specs.Printer.ModuleText.{declaration_text}
use Rattle.vlog_text.proofs.printer.module.push_declarations.Given as goal

abbrev pub invariant-declarations : goal.invariant-declarations
invariant-declarations l = string_bytes l.text ++ flat_map declaration_text (drop l.own-index l.own_names) ≡ string_bytes l.fn.text ++ flat_map declaration_text l.own_names
