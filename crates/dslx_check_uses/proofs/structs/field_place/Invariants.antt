use Rattle.std.proofs.Common.{◌≡◌, ◌+◌, drop, map}
use Rattle.std.specs.Option.{option_map}
use Rattle.dslx_meaning.specs.Items.{name_of_field}
use Rattle.dslx_meaning.specs.Lists.{index_in}
use Rattle.dslx_check_uses.proofs.structs.field_place.Given as goal

abbrev pub invariant-fields : goal.invariant-fields
invariant-fields l = option_map (λ k. l.i + k) (index_in l.name (map name_of_field (drop l.i l.fields))) ≡ index_in l.name (map name_of_field l.fields)
