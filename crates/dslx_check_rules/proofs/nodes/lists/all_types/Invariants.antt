use Rattle.std.proofs.Common.{◌≡◌, Some, map, take}
use Rattle.std.specs.List.{All}
use Rattle.dslx_meaning.specs.Lists.{all_some}
use Rattle.dslx_check_rules.specs.Interned.{HasRow}
use Rattle.dslx_check_rules.specs.declared.nodes.parts.Spanned.{Spanned}
use Rattle.dslx_check_rules.proofs.nodes.lists.all_types.Given as goal

abbrev pub invariant-parts : goal.invariant-parts
invariant-parts l = record {
  found : all_some (map (λ (part : Spanned). part.typing.ty) (take l.part-index l.parts)) ≡ Some l.all.items;
  rows : All (HasRow l.types) l.all.items;
}
