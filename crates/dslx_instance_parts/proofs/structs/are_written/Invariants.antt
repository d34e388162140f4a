use Rattle.std.proofs.Common.{◌≡◌, drop}
use Rattle.std.specs.List.{list_all}
use Rattle.dslx_meaning.specs.Lists.{is_in}
use Rattle.dslx_core.specs.Machines.Machine.Parts.{names_of_fields}
use Rattle.dslx_instance_parts.proofs.structs.are_written.Given as goal

-- whether those that are left are written
abbrev pub invariant-fields : goal.invariant-fields
invariant-fields l = list_all (λ field. is_in field (names_of_fields l.written)) (drop l.field-index l.fields) ≡ list_all (λ field. is_in field (names_of_fields l.written)) l.fields
