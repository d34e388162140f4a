use Rattle.std.proofs.Common.{◌≡◌, Some, take}
use Rattle.std.specs.List.{All}
use Rattle.dslx_meaning.specs.Lists.{all_some}
use Rattle.dslx_check_rules.specs.Interned.{HasRow}
use Rattle.dslx_check_declarations.proofs.structs.all_there.Given as goal

abbrev pub invariant-types : goal.invariant-types
invariant-types l = record {
  found : all_some (take l.ty-index l.types) ≡ Some l.all.items;
  rows : All (HasRow l.table) l.all.items;
}
