use Rattle.std.proofs.Common.{◌≡◌, [], take}
use Rattle.dslx_meaning.specs.Rules.ModuleRules.{item_names}
use Rattle.dslx_check_rules.specs.Seen.{seen}
use Rattle.dslx_check_declarations.specs.Names.{AreBefore}
use Rattle.dslx_check_declarations.proofs.Lemmas.Listed.{names_behind}
use Rattle.dslx_check_declarations.proofs.OnTops.{item_name}
use Rattle.dslx_check_declarations.proofs.tops.item_names.Given as goal

abbrev pub invariant-items : goal.invariant-items
invariant-items l = record {
  found : l.faults ≡ seen (item_names [] (take l.item-index l.items));
  names : AreBefore l.before (names_behind item_name [] (take l.item-index l.items));
}
