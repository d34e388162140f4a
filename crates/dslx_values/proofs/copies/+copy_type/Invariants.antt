use Rattle.std.proofs.Common.{◌≡◌, take}
use Rattle.dslx_values.proofs.copies.+copy_type.Given as goal

abbrev pub invariant-copy_types-types : goal.invariant-copy_types-types
invariant-copy_types-types l = l.copies.items ≡ take l.ty-index l.types
