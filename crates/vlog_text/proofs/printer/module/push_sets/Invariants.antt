use Rattle.std.proofs.Common.{◌≡◌, ◌++◌, drop, string_bytes}
use Rattle.std.specs.Prelude.{flat_map}
use Rattle.vlog_text.specs.Printer.ModuleText.{set_text}
use Rattle.vlog_text.proofs.printer.module.push_sets.Given as goal

abbrev pub invariant-sets : goal.invariant-sets
invariant-sets l = string_bytes l.text ++ flat_map (set_text l.design) (drop l.set-index l.sets) ≡ string_bytes l.fn.text ++ flat_map (set_text l.design) l.sets
