use Rattle.std.proofs.Common.{◌≡◌, ℕ, List, is_some, map, not, take}
use Rattle.std.specs.List.{list_any}
use Rattle.base.specs.NameTable.Found.{found}
use Rattle.dslx_meaning.specs.Lists.{is_in}
use Rattle.dslx_meaning.specs.Items.{name_of_field}
use Rattle.dslx_check_rules.proofs.nodes.structs.some_lacks.Given as goal

abbrev pub invariant-fields : goal.invariant-fields
invariant-fields l = (names : List (List ℕ)) → ((name : List ℕ) → is_some (found l.written name) ≡ is_in name names)
    → l.is_lacking ≡ list_any (λ name. not (is_in name names)) (map name_of_field (take l.field-index l.fields))
