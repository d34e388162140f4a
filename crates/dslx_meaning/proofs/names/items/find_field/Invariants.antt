use Rattle.std.proofs.Common.{◌≡◌, drop}
use Rattle.dslx_meaning.specs.Names.ConstMachine.Layers.{field_among}
use Rattle.dslx_meaning.proofs.names.items.find_field.Given as goal

abbrev pub invariant-fields : goal.invariant-fields
invariant-fields l = field_among l.name (drop l.field-index l.fields) ≡ field_among l.name l.fields
