use Rattle.std.proofs.Common.{◌≡◌, Some, take}
use Rattle.dslx_meaning.specs.Lists.{all_some}
use Rattle.dslx_check_uses.proofs.parametrics.values_of.Given as goal

abbrev pub invariant-values : goal.invariant-values
invariant-values l = all_some (take l.value-index l.values) ≡ Some l.all.items
