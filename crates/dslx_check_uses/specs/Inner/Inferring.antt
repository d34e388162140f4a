-- What one operand infers, and what a type is by its row.
use Rattle.std.specs.Prelude.{ℕ, List, [], ◌==◌, ◌||◌, Bool, Option, Some, None, map, not}
use Rattle.std.specs.Str.{bytes_eq}
use Rattle.dslx_tree.specs.declared.type_expr.TypeExpr.{TypeExpr}
use Rattle.dslx_meaning.specs.Inference.{Inferred as InferredNumber, inferred_in}
use Rattle.dslx_meaning.specs.Rules.CallRules.{inferable_in}
use Rattle.dslx_meaning.specs.declared.ty.DslxType.{DslxType}
use Rattle.dslx_meaning.specs.declared.ty.DslxType.TheOpen.{DslxType-F}
use Rattle.dslx_check_rules.specs.Interned.{ItemNames}
use Rattle.dslx_check_rules.specs.declared.table.row.TypeId.{TypeId}
use Rattle.dslx_check_rules.specs.declared.table.row.TypeRow.{TypeRow}
use Rattle.dslx_check_rules.specs.declared.table.row.TypeRow.TheVariants as row

-- what one operand infers, where it has a type, and what it might where it has none
abbrev pub inferred_if : TypeExpr → Option DslxType → List InferredNumber
inferred_if written None = []
inferred_if written (Some t) = inferred_in written t

abbrev pub maybe_if : TypeExpr → Option DslxType → List (List ℕ)
maybe_if written None = inferable_in written
maybe_if written (Some t) = []

-- what a type is, by its row
abbrev pub level_of : ItemNames → (ℕ → DslxType) → TypeRow → DslxType-F DslxType
level_of names f (row.Bits k) = DslxType-F.Bits k.signed k.width
level_of names f (row.Tuple ts) = DslxType-F.Tuple (map (λ (t : TypeId). f t.0) ts)
level_of names f (row.Array t n) = DslxType-F.Array (f t.0) n
level_of names f (row.Struct i ts) = DslxType-F.Struct (names.item i) (names.fields i) (map (λ (t : TypeId). f t.0) ts)
level_of names f (row.Enum i k) = DslxType-F.Enum (names.item i) k.signed k.width
level_of names f row.Token = DslxType-F.Token

-- it isn't of this name, or it is this number
abbrev pub agrees_with : List ℕ → ℕ → InferredNumber → Bool
agrees_with name number i = not (bytes_eq name i.name) || i.number == number
