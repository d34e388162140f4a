use Rattle.std.proofs.Common.{◌≡◌, ℕ, List, is_some, map, take}
use Rattle.base.specs.NameTable.Found.{found}
use Rattle.dslx_meaning.specs.Lists.{is_in}
use Rattle.dslx_meaning.specs.Items.{name_of_field}
use Rattle.dslx_check_rules.proofs.nodes.structs.names_of.Given as goal

abbrev pub invariant-fields : goal.invariant-fields
invariant-fields l = (name : List ℕ) → is_some (found l.names name) ≡ is_in name (map name_of_field (take l.field-index l.fields))
