use Rattle.std.proofs.Common.{◌≡◌, drop, map}
use Rattle.dslx_check_items.specs.Inner.Walks.{mentioning_all}
use Rattle.dslx_check_items.specs.Inner.Definitions.{in_field_type}
use Rattle.dslx_check_items.specs.Inner.Plain.{walk_shown}
use Rattle.dslx_check_items.proofs.definitions.mention_fields.Given as goal

abbrev pub invariant-fields : goal.invariant-fields
invariant-fields l = mentioning_all (map in_field_type (drop l.field-index l.fields)) (walk_shown l.w) ≡ mentioning_all (map in_field_type l.fields) (walk_shown l.initial.w)
