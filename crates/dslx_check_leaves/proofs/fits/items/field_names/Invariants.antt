use Rattle.std.proofs.Common.{◌≡◌, map, take}
use Rattle.dslx_meaning.specs.Items.{name_of_field}
use Rattle.dslx_check_leaves.proofs.fits.items.field_names.Given as goal

abbrev pub invariant-fields : goal.invariant-fields
invariant-fields l = l.names.items ≡ map name_of_field (take l.field-index l.fields)
