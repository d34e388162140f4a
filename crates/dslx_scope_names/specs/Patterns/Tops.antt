-- What a pattern is lowered to, by what stands at its top.
use Rattle.std.specs.Prelude.{ℕ, List, [], ◌∷◌, map, Option, Some}
use Rattle.dslx_tree.specs.declared.block.Stmt.TheOpen.{Shape-F}
use Rattle.dslx_meaning.specs.Lists.{and_then, where_true}
use Rattle.dslx_meaning.specs.Values.{bool_value, plain_value, type_of_value}
use Rattle.dslx_meaning.specs.declared.ty.DslxType.{DslxType, out-DslxType}
use Rattle.dslx_meaning.specs.declared.value.DslxValue.{DslxValue}
use Rattle.dslx_meaning.specs.Names.ConstMachine.Layers.{PatternLayer}
use Rattle.dslx_core.specs.declared.expr.Shape.{Shape}
use Rattle.dslx_core.specs.declared.expr.Shape as shape
use Rattle.dslx_core.specs.Lowering.CoreScopes.{CoreScope}
use Rattle.dslx_core.specs.Lowering.EqualTypes.{equal_type}
use Rattle.dslx_core.specs.Lowering.Patterns.{LoweredShape, name_shape, names_of_all, shaped, tuple_shape, value_shape}
use Rattle.dslx_core.specs.Lowering.Steps.{lower_pattern_of_text}
use Rattle.dslx_core.specs.Machines.Machine.Steps.{number_at}

abbrev pub top_shape : PatternLayer → CoreScope → CoreScope → DslxType → Option LoweredShape
top_shape Shape-F.Wild outer scope t = shaped shape.Wild scope
top_shape (Shape-F.Shape::Bool b) outer scope t = value_shape (Some (bool_value b)) scope t
top_shape (Shape-F.Shape::Number n) outer scope t = value_shape (number_at outer n) scope t
top_shape (Shape-F.Shape::Name name) outer scope t = name_shape name scope t
top_shape (Shape-F.Shape::Member e a) outer scope t = value_shape (scope.known.items.member e.name a.name) scope t
top_shape (Shape-F.Shape::Tuple ps) outer scope t = tuple_shape (map lower_pattern_of_text ps) outer scope (out-DslxType t)

abbrev pub top_names : PatternLayer → List (List ℕ)
top_names (Shape-F.Shape::Name name) = name ∷ []
top_names (Shape-F.Shape::Tuple ps) = names_of_all (map lower_pattern_of_text ps)
top_names _ = []

-- one value of the type
abbrev pub equal_shape : Option DslxValue → DslxType → Option Shape
equal_shape v t = and_then v (λ v. where_true (equal_type t (type_of_value v)) (Some (shape.Equal (plain_value v))))
