-- Parts that a builtin or a match looks at.
use Rattle.std.specs.Prelude.{List, [], ◌∷◌, ℕ, Bool, false, Option, Some, None}
use Rattle.std.specs.List.{list_all}
use Rattle.dslx_meaning.specs.Lists.{where_true}
use Rattle.dslx_meaning.specs.declared.ty.DslxType.{DslxType}
use Rattle.dslx_meaning.specs.Rules.AggregateRules.{array_in}
use Rattle.dslx_core.specs.Lowering.EqualTypes.{equal_type}
use Rattle.dslx_core.specs.Lowering.Patterns.{LoweredArm}

-- the type of the first arm's value, where all are of it
abbrev pub type_of_first : LoweredArm → List LoweredArm → Option DslxType
type_of_first a as' = where_true (list_all (λ (c : LoweredArm). equal_type a.ty c.ty) as') (Some a.ty)

abbrev pub type_of_all : List LoweredArm → Option DslxType
type_of_all [] = None
type_of_all (a ∷ as') = type_of_first a as'

-- it is the type of the elements
abbrev pub is_of_elements : Option (DslxType × ℕ) → DslxType → Bool
is_of_elements None t = false
is_of_elements (Some parts) t = equal_type parts.0 t
