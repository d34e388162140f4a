use Rattle.std.proofs.Common.{◌≡◌, map, take}
use Rattle.dslx_check_declarations.specs.Items.{member_if}
use Rattle.dslx_check_declarations.proofs.enums.member_values.Given as goal

abbrev pub invariant-values : goal.invariant-values
invariant-values l = l.members.items ≡ map (member_if l.is_type l.name) (take l.value-index l.values)
