-- Members with their numbers.
use Rattle.std.specs.Prelude.{ℕ, Option, Some}
use Rattle.dslx_tree.specs.declared.process.End.{End}
use Rattle.dslx_meaning.specs.Lists.{and_then, where_true}
use Rattle.dslx_core.specs.Lowering.CoreScopes.{CoreScope}
use Rattle.dslx_core.specs.Lowering.Steps.{CoreMember, can_travel}
use Rattle.dslx_core.specs.Lowering.Trees.{lower_type_of_text}

-- the member of a number
abbrev pub numbered_member : CoreScope → ℕ → End → Option CoreMember
numbered_member outer n e = and_then (lower_type_of_text e.word outer) (λ t. where_true (can_travel t) (Some (record { number = n; word = t })))
