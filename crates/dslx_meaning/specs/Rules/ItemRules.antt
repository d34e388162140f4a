-- The rules of items: of an instance of a function or a proc, of constants, types, structs and enums.
use Rattle.std.specs.Prelude.{ℕ, List, [], ◌∷◌, ◌++◌, ◌&&◌, ◌||◌, map, Bool, true, false, Option, Some, None, if◌then◌else◌}
use Rattle.xb_span.specs.declared.fault.Fault.{Fault}
use Rattle.dslx_tree.specs.declared.block.Block.{Block, out-Block}
use Rattle.dslx_tree.specs.declared.expr.Expr.{Expr, out-Expr}
use Rattle.dslx_tree.specs.declared.type_expr.TypeExpr.{TypeExpr}
use Rattle.dslx_tree.specs.declared.item.Function.{Function}
use Rattle.dslx_tree.specs.declared.item.Parametric.{Parametric}
use Rattle.dslx_tree.specs.declared.item.Field.{Field}
use Rattle.dslx_tree.specs.declared.item.Constant.{Constant}
use Rattle.dslx_tree.specs.declared.item.Alias.{Alias}
use Rattle.dslx_tree.specs.declared.item.Struct.{Struct}
use Rattle.dslx_tree.specs.declared.item.Enum.{Enum}
use Rattle.dslx_tree.specs.declared.item.Member.{Member}
use Rattle.dslx_meaning.specs.Lists.{all_some, and_then, where_true}
use Rattle.dslx_meaning.specs.Types.{bits_in, unit_type}
use Rattle.dslx_meaning.specs.Values.{same_value}
use Rattle.dslx_meaning.specs.Environment.{Given}
use Rattle.dslx_meaning.specs.Items.{parametric_args_bound, with_number, enum_member, name_of_field}
use Rattle.dslx_meaning.specs.declared.ty.DslxType.{DslxType}
use Rattle.dslx_meaning.specs.declared.ty.DslxType as ty
use Rattle.dslx_meaning.specs.declared.value.DslxValue.{DslxValue}
use Rattle.dslx_meaning.specs.Rules.TypeEnvs.{GlobalEnv, Instance, Typed, TypeEnv, Judgement, ExprPair, breaks_if, unless_broken, type_limits, span_of, untyped_of}
use Rattle.dslx_meaning.specs.Rules.ConstantRules.{ConstantSeen, constant_of, with_size_limit, is_empty}
use Rattle.dslx_meaning.specs.Rules.NameRules.{listed_name, local_name}
use Rattle.dslx_meaning.specs.Rules.PatternRules.{is_there}
use Rattle.dslx_meaning.specs.Rules.TypeRules.{inner_type}
use Rattle.dslx_meaning.specs.Rules.OperatorRules.{unless_type, is_bits}
use Rattle.dslx_meaning.specs.Rules.AggregateRules.{wanted_faults, range_faults, untyped_value}
use Rattle.dslx_meaning.specs.Rules.NodeRules.{expr_pair, block_pair, type_pair}
use Rattle.dslx_meaning.specs.declared.value.UntypedLiteral.{UntypedLiteral}
use Rattle.dslx_meaning.specs.Rules.RuleNumbers as rule

-- the faults of a declaration, and the instances that it reaches
pub record Found : Type 0 where
  pub faults : List Fault
  pub reached : List Instance

abbrev pub nothing_found : Found
nothing_found = record { faults = []; reached = [] }

abbrev pub and_found : Found → Found → Found
and_found a b = record { faults = a.faults ++ b.faults; reached = a.reached ++ b.reached }

abbrev pub only_faults : List Fault → Found
only_faults faults = record { faults = faults; reached = [] }

abbrev pub found_in : Judgement → Found
found_in j = record { faults = j.faults; reached = j.reached }

abbrev pub all_found : List Found → Found
all_found [] = nothing_found
all_found (f ∷ fs) = and_found f (all_found fs)

-- the type environment in the text of an item, outside all blocks
abbrev pub item_type_env : GlobalEnv → List ℕ → List Given → TypeEnv
item_type_env known owner parametric_args = record { known = known; owner = owner; parametric_args = parametric_args; unknown = []; ends = []; locals = []; members = []; used = [] }

abbrev pub typing_of_type : TypeEnv → TypeExpr → Judgement
typing_of_type context t = (type_pair t).1 context

-- a type where () may not stand
abbrev pub typing_of_inner : TypeEnv → TypeExpr → Judgement
typing_of_inner context t = inner_type context (type_pair t)

-- ---- parametrics of an instance

-- a default is of the parametric's type
abbrev pub default_found : TypeEnv → Option DslxType → Option Expr → Found
default_found context t None = nothing_found
default_found context t (Some e) =
    let c = constant_of context (expr_pair e) in
    record { faults = c.judgement.faults ++ wanted_faults (out-Expr e).span t c.judgement.ty; reached = c.judgement.reached }

abbrev pub number_at : List DslxValue → Option DslxValue
number_at [] = None
number_at (v ∷ vs) = Some v

abbrev pub parametric_args_behind : List DslxValue → List DslxValue
parametric_args_behind [] = []
parametric_args_behind (v ∷ vs) = vs

abbrev pub bound_with : List Given → Parametric → Option DslxValue → List Given
bound_with so_far p None = so_far
bound_with so_far p (Some v) = with_number so_far p v

abbrev pub parametrics_found : GlobalEnv → List ℕ → List (List ℕ) → List Given → List Parametric → List DslxValue → Found
parametrics_found known owner before so_far [] values = nothing_found
parametrics_found known owner before so_far (p ∷ ps) values =
    let context = item_type_env known owner so_far in
    let t = typing_of_inner context p.ty in
    and_found (only_faults (local_name context before p.name))
    (and_found (found_in t)
    (and_found (default_found context t.ty p.default)
    (parametrics_found known owner (p.name.name ∷ before) (bound_with so_far p (number_at values)) ps (parametric_args_behind values))))

-- ---- functions

abbrev pub arguments_found : TypeEnv → List (List ℕ) → List Field → Found
arguments_found context before [] = nothing_found
arguments_found context before (f ∷ fs) =
    and_found (only_faults (local_name context before f.name))
    (and_found (found_in (typing_of_inner context f.ty)) (arguments_found context (f.name.name ∷ before) fs))

abbrev pub arguments_typed : TypeEnv → List Typed → List Field → List Typed
arguments_typed context so_far [] = so_far
arguments_typed context so_far (f ∷ fs) = arguments_typed context (record { name = f.name.name; ty = (typing_of_inner context f.ty).ty } ∷ so_far) fs

abbrev pub result_typing : TypeEnv → Option TypeExpr → Judgement
result_typing context None = record { ty = Some unit_type; faults = []; reached = []; size = Some 0 }
result_typing context (Some t) = typing_of_type context t

-- a body whose value has to be of this type: rule 9 at the whole block, and the limit on its size
abbrev pub body_typing : Bool → TypeEnv → Option DslxType → Block → Judgement
body_typing on_top context wanted body =
    let j = (block_pair body).1 on_top context in
    with_size_limit context.known (out-Block body).span.to
    (record j { faults = j.faults ++ wanted_faults (out-Block body).span wanted j.ty })

-- an instance of a function: what its text breaks and reaches with these parametric arguments, and its body's judgement
pub record FunctionSeen : Type 0 where
  pub found : Found
  pub body : Judgement

abbrev pub function_type_env : GlobalEnv → Function → List DslxValue → TypeEnv
function_type_env known f parametric_args = item_type_env known f.name.name (parametric_args_bound [] f.parametrics parametric_args)

abbrev pub function_seen : GlobalEnv → Function → List DslxValue → FunctionSeen
function_seen known f parametric_args =
    let context = function_type_env known f parametric_args in
    let result = result_typing context f.result in
    let body = body_typing false (record context { locals = arguments_typed context [] f.arguments }) result.ty f.body in
    record {
      found = and_found (parametrics_found known f.name.name [] [] f.parametrics parametric_args)
          (and_found (arguments_found context [] f.arguments) (and_found (found_in result) (found_in body)));
      body = body;
    }

-- ---- constants

abbrev pub annotation_typing : TypeEnv → Option TypeExpr → Judgement
annotation_typing context None = record { ty = None; faults = []; reached = []; size = Some 0 }
annotation_typing context (Some t) = typing_of_type context t

-- a constant: what its text breaks and reaches, and its value
pub record ConstantFound : Type 0 where
  pub found : Found
  pub value : Option DslxValue

-- the written type, if there is one, is a type
abbrev pub is_annotated : Option TypeExpr → Option DslxType → Bool
is_annotated None t = true
is_annotated (Some e) t = is_there t

abbrev pub constant_seen : GlobalEnv → Constant → ConstantFound
constant_seen known c =
    let context = item_type_env known c.name.name [] in
    let written = annotation_typing context c.ty in
    let value = constant_of context (expr_pair c.value) in
    let wrong = wanted_faults (out-Expr c.value).span written.ty value.judgement.ty in
    record {
      found = record { faults = written.faults ++ value.judgement.faults ++ wrong; reached = written.reached ++ value.judgement.reached };
      value = if is_empty (written.faults ++ wrong) && is_annotated c.ty written.ty then value.value else None;
    }

-- ---- types, structs and enums: what their text breaks and reaches, and the type that they name
pub record TypeFound : Type 0 where
  pub found : Found
  pub ty : Option DslxType

abbrev pub alias_seen : GlobalEnv → Alias → TypeFound
alias_seen known a = let j = typing_of_type (item_type_env known a.name.name []) a.ty in record { found = found_in j; ty = unless_broken j.faults j.ty }

abbrev pub fields_found : TypeEnv → List (List ℕ) → List Field → Found
fields_found context before [] = nothing_found
fields_found context before (f ∷ fs) =
    and_found (only_faults (listed_name before f.name))
    (and_found (found_in (typing_of_inner context f.ty)) (fields_found context (f.name.name ∷ before) fs))

abbrev pub fields_types : TypeEnv → List Field → Option (List DslxType)
fields_types context fs = all_some (map (λ (f : Field). (typing_of_inner context f.ty).ty) fs)

-- rule 31: a struct without fields
abbrev pub struct_seen : GlobalEnv → Struct → TypeFound
struct_seen known s =
    let context = item_type_env known s.name.name [] in
    let found = fields_found context [] s.fields in
    let faults = found.faults ++ breaks_if (is_empty s.fields) rule.NO_UNIT_INSIDE s.span in
    let t = unless_broken faults (and_then (fields_types context s.fields) (λ ts. Some (ty.Struct s.name.name (map name_of_field s.fields) ts))) in
    record { found = record { faults = faults ++ type_limits s.span.to t; reached = found.reached }; ty = t }

-- a member's value: a number without a type in the base's range, or a constant of the base. Where the base has no type, it has
-- none
abbrev pub member_constant : TypeEnv → Option DslxType → Member → ConstantFound
member_constant context base m = by_untyped (untyped_of pair)
  where
    pair : ExprPair
    pair = expr_pair m.value

    number_in_base : Option DslxType → UntypedLiteral → Option DslxValue
    number_in_base None number = None
    number_in_base (Some t) number = untyped_value t number

    of_base : ConstantSeen → List Fault → ConstantFound
    of_base c wrong = record {
      found = record { faults = c.judgement.faults ++ wrong; reached = c.judgement.reached };
      value = and_then base (λ t. if is_empty wrong then c.value else None);
    }

    by_untyped : Option UntypedLiteral → ConstantFound
    by_untyped None = let c = constant_of context pair in of_base c (wanted_faults (span_of pair) base c.judgement.ty)
    by_untyped (Some number) = record { found = only_faults (range_faults (span_of pair) base number); value = number_in_base base number }

abbrev pub members_found : TypeEnv → Option DslxType → List (List ℕ) → List Member → Found
members_found context base before [] = nothing_found
members_found context base before (m ∷ ms) =
    and_found (only_faults (listed_name before m.name))
    (and_found (member_constant context base m).found (members_found context base (m.name.name ∷ before) ms))

abbrev pub member_values : TypeEnv → Option DslxType → List Member → List (Option DslxValue)
member_values context base ms = map (λ m. (member_constant context base m).value) ms

abbrev pub is_among_values : DslxValue → List (Option DslxValue) → Bool
is_among_values v [] = false
is_among_values v (None ∷ ws) = is_among_values v ws
is_among_values v (Some w ∷ ws) = same_value v w || is_among_values v ws

abbrev pub has_equal_values : List (Option DslxValue) → Bool
has_equal_values [] = false
has_equal_values (None ∷ vs) = has_equal_values vs
has_equal_values (Some v ∷ vs) = is_among_values v vs || has_equal_values vs

abbrev pub base_if_bits : Option DslxType → Option DslxType
base_if_bits t = and_then t (λ t. where_true (is_bits t) (Some t))

abbrev pub enum_of_base : List ℕ → Option DslxType → Option DslxType
enum_of_base name base = and_then base (λ t. and_then (bits_in t) (λ kind. Some (ty.Enum name kind.signed kind.width)))

-- rule 23: the base isn't bits, there is no member, or two have one value. Of a base that isn't bits the members' values
-- aren't typed
abbrev pub enum_seen : GlobalEnv → Enum → TypeFound
enum_seen known e =
    let context = item_type_env known e.name.name [] in
    let base = typing_of_type context e.base in
    let members = members_found context (base_if_bits base.ty) [] e.members in
    let faults = base.faults ++ members.faults ++ unless_type is_bits rule.ENUM_MEMBERS e.span base.ty
    ++ breaks_if (is_empty e.members || has_equal_values (member_values context (base_if_bits base.ty) e.members)) rule.ENUM_MEMBERS e.span in
    record { found = record { faults = faults; reached = base.reached ++ members.reached }; ty = unless_broken faults (enum_of_base e.name.name base.ty) }

-- the value of a member, if the enum is a type and the member has a value
abbrev pub enum_member_value : GlobalEnv → Enum → List ℕ → Option Member → Option DslxValue
enum_member_value known e name None = None
enum_member_value known e name (Some m) =
    let context = item_type_env known e.name.name [] in
    and_then (enum_seen known e).ty (λ t. and_then (member_constant context (base_if_bits (typing_of_type context e.base).ty) m).value (enum_member e.name.name))
