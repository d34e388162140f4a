-- What steps do with several expressions, one after another.
use Rattle.std.specs.Prelude.{ℕ, List, [], ◌∷◌, map, Bool, Option, Some, None, if◌then◌else◌}
use Rattle.std.specs.List.{list_all}
use Rattle.dslx_tree.specs.declared.expr.Arg.{Arg, out-Arg}
use Rattle.dslx_tree.specs.declared.expr.Expr.{Expr}
use Rattle.dslx_tree.specs.declared.expr.FieldValue.{FieldValue, out-FieldValue}
use Rattle.dslx_tree.specs.declared.type_expr.TypeExpr.{TypeExpr}
use Rattle.dslx_meaning.specs.Callees.{CallKind, Calls, kind_of_call}
use Rattle.dslx_meaning.specs.Items.{all_parametric_args, as_function, inferred_from, item_named}
use Rattle.dslx_meaning.specs.Lists.{all_some, and_then, is_in}
use Rattle.dslx_meaning.specs.Meaning.{denotation}
use Rattle.dslx_meaning.specs.declared.ty.DslxType.{DslxType, out-DslxType}
use Rattle.dslx_meaning.specs.declared.ty.DslxType as ty
use Rattle.dslx_meaning.specs.declared.ty.DslxType.TheOpen.{DslxType-F}
use Rattle.dslx_meaning.specs.declared.value.UntypedLiteral.{UntypedLiteral}
use Rattle.dslx_meaning.specs.declared.value.DslxValue.{DslxValue}
use Rattle.dslx_meaning.specs.Rules.AggregateRules.{array_in}
use Rattle.dslx_core.specs.declared.expr.CoreExpr as core
use Rattle.dslx_core.specs.declared.expr.Shape as shape
use Rattle.dslx_meaning.specs.Names.ConstMachine.Layers.{field_among}
use Rattle.dslx_core.specs.Lowering.CoreScopes.{CoreScope, constant_at}
use Rattle.dslx_core.specs.Lowering.Lowering.{LoweredExpr, lower_call, cores_of, lower_field, lowered, lower_name, lower_number, types_of_lowered}
use Rattle.dslx_core.specs.Lowering.Trees.{lower_array_elements, lower_filled, of_type, lower_type_of_text}
use Rattle.dslx_core.specs.Machines.Machine.Tasks.{PartsMaker, MakesTuple, MakesArray, Fills, CallsWith, StructWork, LowersExpr, Gathers, TakesOthers, MakesBind, GathersFields, CallsInstance, OpenBody, InstanceEnv}
use Rattle.dslx_core.specs.Machines.Machine.Bodies.{doing, gives, scope_in, restores, unnamed}

-- ---- calls

-- an instance is called, once all its parametric arguments are found
abbrev pub calls_function : InstanceEnv → List ℕ → List LoweredExpr → List DslxValue → OpenBody → Option OpenBody
calls_function context name es given body =
    and_then (as_function (item_named name context.text.items)) (λ f.
    and_then (all_parametric_args context.items (inferred_from f.arguments (types_of_lowered es)) [] f.parametrics given) (λ parametric_args.
    Some (doing (CallsInstance (record { name = name; parametric_args = parametric_args }) es ∷ []) body)))

abbrev pub parametric_args_at : CoreScope → List Arg → List (Option DslxValue)
parametric_args_at scope parametric_args = map (λ (a : Arg). constant_at scope (out-Arg a).value) parametric_args

abbrev pub calls_by_kind : CallKind → InstanceEnv → List ℕ → List Arg → List LoweredExpr → OpenBody → Option OpenBody
calls_by_kind Calls context name parametric_args es body = and_then (all_some (parametric_args_at (scope_in context body) parametric_args)) (λ given. calls_function context name es given body)
calls_by_kind kind context name parametric_args es body = gives (lower_call kind name (scope_in context body) [] (map Some es)) body

-- ---- expressions in order

abbrev pub made_of_parts : PartsMaker → InstanceEnv → List LoweredExpr → OpenBody → Option OpenBody
made_of_parts MakesTuple context es body = gives (lowered (core.Tuple (cores_of es)) (ty.Tuple (types_of_lowered es))) body
made_of_parts MakesArray context es body = gives (lower_array_elements es) body
made_of_parts (Fills t n dots) context es body = gives (lower_filled body.count t dots n es) body
made_of_parts (CallsWith name parametric_args) context es body = calls_by_kind (kind_of_call name) context name parametric_args es body

-- an element of a type, which may be a number without one
abbrev pub element_begins : DslxType → Option UntypedLiteral → Expr → OpenBody → Option OpenBody
element_begins t None e body = Some (doing (LowersExpr e ∷ []) body)
element_begins t (Some number) e body = gives (lower_number (Some t) number) body

abbrev pub part_begins : PartsMaker → Expr → OpenBody → Option OpenBody
part_begins (Fills t n dots) e body = element_begins t (denotation e).bare e body
part_begins maker e body = Some (doing (LowersExpr e ∷ []) body)

-- the expressions that are left, behind these
abbrev pub gathers : InstanceEnv → List LoweredExpr → List Expr → PartsMaker → OpenBody → Option OpenBody
gathers context before [] maker body = made_of_parts maker context before body
gathers context before (e ∷ es) maker body = part_begins maker e (doing (Gathers before es maker ∷ []) body)

-- a part is of the type that is wanted
abbrev pub part_taken : PartsMaker → LoweredExpr → Option LoweredExpr
part_taken (Fills t n dots) e = of_type t (Some e)
part_taken maker e = Some e

abbrev pub array_begins : Option TypeExpr → InstanceEnv → List Expr → Bool → OpenBody → Option OpenBody
array_begins None context es dots body = if dots then None else gathers context [] es MakesArray body
array_begins (Some t) context es dots body = and_then (and_then (lower_type_of_text t (scope_in context body)) array_in) (λ parts. gathers context [] es (Fills parts.0 parts.1 dots) body)

-- ---- fields

-- a field given by its name alone is what that name stands for
abbrev pub field_value_begins : List ℕ → Option Expr → InstanceEnv → OpenBody → Option OpenBody
field_value_begins name None context body = gives (lower_name name (scope_in context body)) body
field_value_begins name (Some e) context body = Some (doing (LowersExpr e ∷ []) body)

abbrev pub field_begins : Option FieldValue → List ℕ → Option LoweredExpr → InstanceEnv → OpenBody → Option OpenBody
field_begins None field others context body = gives (lower_field others field) body
field_begins (Some f) field others context body = field_value_begins (out-FieldValue f).name.name (out-FieldValue f).value context body

-- the fields that are left, behind these
abbrev pub fields_on : InstanceEnv → StructWork → List LoweredExpr → List (List ℕ) → List DslxType → OpenBody → Option OpenBody
fields_on context work before [] [] body = gives (lowered (core.Tuple (cores_of before)) work.ty) body
fields_on context work before (field ∷ fields) (t ∷ ts) body =
    field_begins (field_among field work.written) field work.others context (doing (GathersFields work before t fields ts ∷ []) body)
fields_on context work before [] (t ∷ ts) body = None
fields_on context work before (field ∷ fields) [] body = None

abbrev pub names_of_fields : List FieldValue → List (List ℕ)
names_of_fields fs = map (λ (f : FieldValue). (out-FieldValue f).name.name) fs

-- the expression that has the other fields is lowered only where a field isn't written
abbrev pub fields_begin : InstanceEnv → List FieldValue → Option Expr → DslxType → List (List ℕ) → List DslxType → OpenBody → Option OpenBody
fields_begin context written None t fields ts body = fields_on context (record { ty = t; written = written; others = None }) [] fields ts body
fields_begin context written (Some e) t fields ts body =
    if list_all (λ field. is_in field (names_of_fields written)) fields then fields_on context (record { ty = t; written = written; others = None }) [] fields ts body
    else Some (doing (LowersExpr e ∷ TakesOthers t fields ts written ∷ []) body)

abbrev pub struct_begins : InstanceEnv → List FieldValue → Option Expr → DslxType-F DslxType → OpenBody → Option OpenBody
struct_begins context written rest (DslxType-F.Struct name fields ts) body = fields_begin context written rest (ty.Struct name fields ts) fields ts body
struct_begins context written rest _ body = None

-- the fields that aren't written are those of this value, which is bound
abbrev pub others_taken : InstanceEnv → LoweredExpr → DslxType → List (List ℕ) → List DslxType → List FieldValue → OpenBody → Option OpenBody
others_taken context e t fields ts written body =
    fields_on context (record { ty = t; written = written; others = lowered (core.Slot body.count) e.ty }) [] fields ts (unnamed (doing (MakesBind e shape.Bound ∷ restores body ∷ []) body))
