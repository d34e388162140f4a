-- Which written types see a local.
use Rattle.std.specs.Prelude.{[], Bool}
use Rattle.std.specs.List.{list_any}
use Rattle.dslx_tree.specs.declared.type_expr.TypeExpr.{TypeExpr}
use Rattle.dslx_meaning.specs.Lists.{is_in}
use Rattle.dslx_meaning.specs.Rules.Mentions.{mentioned_in_type, value_names}
use Rattle.dslx_core.specs.Lowering.CoreScopes.{CoreScope, slot_names}

-- some name that is free in a size of the type is bound around it
abbrev pub type_sees_a_local : CoreScope → TypeExpr → Bool
type_sees_a_local scope t = list_any (λ name. is_in name (slot_names scope.locals)) (value_names (mentioned_in_type t []))
