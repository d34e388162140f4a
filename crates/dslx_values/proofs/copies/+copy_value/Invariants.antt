use Rattle.std.proofs.Common.{◌≡◌, take}
use Rattle.dslx_values.proofs.copies.+copy_value.Given as goal

abbrev pub invariant-copy_values-values : goal.invariant-copy_values-values
invariant-copy_values-values l = l.copies.items ≡ take l.value-index l.values
