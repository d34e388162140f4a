use Rattle.std.proofs.Common.{◌≡◌, ℕ, List, is_some, map, take}
use Rattle.base.specs.NameTable.Found.{found}
use Rattle.dslx_meaning.specs.Lists.{is_in}
use Rattle.dslx_check_rules.specs.Seen.{seen}
use Rattle.dslx_check_rules.specs.Nodes.Nodes.Structs.{ident_of, unknown_idents}
use Rattle.dslx_check_rules.proofs.nodes.structs.unknown_faults.Given as goal

abbrev pub invariant-fields : goal.invariant-fields
invariant-fields l = (declared : List (List ℕ)) → ((name : List ℕ) → is_some (found l.names name) ≡ is_in name declared)
    → l.faults ≡ seen (unknown_idents declared (map ident_of (take l.field-index l.fields)))
