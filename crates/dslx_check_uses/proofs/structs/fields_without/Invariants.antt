use Rattle.std.proofs.Common.{◌≡◌, map, take}
use Rattle.dslx_check_uses.specs.Inner.Fields.{without_type}
use Rattle.dslx_check_uses.proofs.structs.fields_without.Given as goal

abbrev pub invariant-values : goal.invariant-values
invariant-values l = l.all.items ≡ map without_type (take l.value-index l.values)
