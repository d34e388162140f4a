-- What a step does where an item is used: it goes to the item, unless the chain of uses is too long or there is none such.
use Rattle.std.specs.Prelude.{nat_lt, ℕ, List, [], ◌∷◌, ◌==◌, map, length, Bool, true, false, Option, Some, None, if◌then◌else◌}
use Rattle.dslx_tree.specs.declared.expr.Expr.{Expr}
use Rattle.dslx_tree.specs.declared.item.Constant.{Constant}
use Rattle.dslx_tree.specs.declared.item.Definition.{Definition}
use Rattle.dslx_tree.specs.declared.item.Definition.TheVariants as d
use Rattle.dslx_tree.specs.declared.item.Enum.{Enum}
use Rattle.dslx_tree.specs.declared.item.Field.{Field}
use Rattle.dslx_tree.specs.declared.item.Function.{Function}
use Rattle.dslx_tree.specs.declared.item.Member.{Member}
use Rattle.dslx_tree.specs.declared.item.Module.{Module}
use Rattle.dslx_tree.specs.declared.item.Parametric.{Parametric}
use Rattle.dslx_tree.specs.declared.item.Struct.{Struct}
use Rattle.dslx_meaning.specs.Environment.{given_in}
use Rattle.dslx_meaning.specs.Inference.{Inferred, inferred_for}
use Rattle.dslx_meaning.specs.Items.{item_named, as_function, as_constant, as_struct, as_enum, is_constant_item, member_named, name_of_field, inferred_from}
use Rattle.dslx_meaning.specs.Values.{type_of_value}
use Rattle.dslx_meaning.specs.declared.ty.DslxType.{DslxType}
use Rattle.dslx_meaning.specs.declared.ty.DslxType as ty
use Rattle.dslx_meaning.specs.declared.value.DslxValue.{DslxValue}
use Rattle.dslx_meaning.specs.Names.ConstMachine.Kept.{KeptValues, is_hidden}
use Rattle.dslx_meaning.specs.Names.ConstMachine.Tasks.{ConstState, ConstCall, ValueDen, DoesBlock, FindsType, FindsMember, MakesEnumType, GathersFieldTypes, FindsParametrics, GivesParametric, GivesOperands, Numbers, Returns}
use Rattle.dslx_meaning.specs.Names.ConstMachine.States.{finds_value, finds_type, doing, one_less, at_item, back_at, binding}

-- ---- constants and members

-- whether a name is a constant's, where a chain may go through so many items
abbrev pub is_constant_from : Option ℕ → Module → List ℕ → Bool
is_constant_from None m name = false
is_constant_from (Some n) m name = is_constant_item (item_named name m.items)

abbrev pub is_constant_within : Module → ℕ → List ℕ → Bool
is_constant_within m n name = is_constant_from (one_less n) m name

abbrev pub at_constant : ℕ → Option Constant → ConstState → ConstState
at_constant n None run = finds_value None run
at_constant n (Some c) run = at_item n (ValueDen c.value ∷ []) run

abbrev pub constant_from : Option ℕ → List ℕ → ConstState → ConstState
constant_from None name run = finds_value None run
constant_from (Some n) name run = at_constant n (as_constant (item_named name run.text.items)) run

abbrev pub constant_by : Option KeptValues → List ℕ → ConstState → ConstState
constant_by None name run = constant_from (one_less run.left) name run
constant_by (Some kept) name run = finds_value (kept.constant name) run

-- the value of a constant
abbrev pub uses_constant : List ℕ → ConstState → ConstState
uses_constant name run = constant_by run.kept name run

abbrev pub given_or_constant : Option DslxValue → List ℕ → ConstState → ConstState
given_or_constant None name run = uses_constant name run
given_or_constant (Some v) name run = finds_value (Some v) run

-- the value of a name
abbrev pub uses_name : List ℕ → ConstState → ConstState
uses_name name run = given_or_constant (given_in name run.bound) name run

abbrev pub at_member : ℕ → Enum → Option Member → ConstState → ConstState
at_member n e None run = finds_value None run
at_member n e (Some m) run = at_item n (FindsType e.base ∷ FindsMember m.value e.name.name ∷ []) run

abbrev pub at_member_of : ℕ → Option Enum → List ℕ → ConstState → ConstState
at_member_of n None a run = finds_value None run
at_member_of n (Some e) a run = at_member n e (member_named a e.members) run

abbrev pub member_from : Option ℕ → List ℕ → List ℕ → ConstState → ConstState
member_from None e a run = finds_value None run
member_from (Some n) e a run = at_member_of n (as_enum (item_named e run.text.items)) a run

abbrev pub member_by : Option KeptValues → List ℕ → List ℕ → ConstState → ConstState
member_by None e a run = member_from (one_less run.left) e a run
member_by (Some kept) e a run = finds_value (kept.member e a) run

-- the value of an enum's member
abbrev pub uses_member : List ℕ → List ℕ → ConstState → ConstState
uses_member e a run = member_by run.kept e a run

-- ---- types

-- the types of the fields that are left, behind these
abbrev pub field_types_on : List DslxType → List Field → Struct → ConstState → ConstState
field_types_on ts [] s run = finds_type (Some (ty.Struct s.name.name (map name_of_field s.fields) ts)) run
field_types_on ts (f ∷ fs) s run = doing (FindsType f.ty ∷ GathersFieldTypes ts fs s ∷ []) run

abbrev pub at_struct : ℕ → Option Struct → ConstState → ConstState
at_struct n None run = finds_type None run
at_struct n (Some s) run = field_types_on [] s.fields s (at_item n [] run)

abbrev pub struct_from : Option ℕ → List ℕ → ConstState → ConstState
struct_from None name run = finds_type None run
struct_from (Some n) name run = at_struct n (as_struct (item_named name run.text.items)) run

abbrev pub struct_unless : Bool → List ℕ → ConstState → ConstState
struct_unless true name run = finds_type None run
struct_unless false name run = struct_from (one_less run.left) name run

-- the type of a struct
abbrev pub uses_struct : List ℕ → ConstState → ConstState
uses_struct name run = struct_unless (is_hidden run.kept name) name run

abbrev pub at_type_item : ℕ → Option Definition → ConstState → ConstState
at_type_item n (Some (d.Alias a)) run = at_item n (FindsType a.ty ∷ []) run
at_type_item n (Some (d.Struct s)) run = at_struct n (Some s) run
at_type_item n (Some (d.Enum e)) run = at_item n (FindsType e.base ∷ MakesEnumType e.name.name ∷ []) run
at_type_item n _ run = finds_type None run

abbrev pub type_from : Option ℕ → List ℕ → ConstState → ConstState
type_from None name run = finds_type None run
type_from (Some n) name run = at_type_item n (item_named name run.text.items) run

abbrev pub type_unless : Bool → List ℕ → ConstState → ConstState
type_unless true name run = finds_type None run
type_unless false name run = type_from (one_less run.left) name run

-- the type that a name stands for
abbrev pub uses_type : List ℕ → ConstState → ConstState
uses_type name run = type_unless (is_hidden run.kept name) name run

-- ---- calls of functions

-- what operands infer, where not all parametrics are given
abbrev pub inferred_by : Function → List DslxValue → List DslxValue → List Inferred
inferred_by f parametric_args vs = if nat_lt (length parametric_args) (length f.parametrics) then inferred_from f.arguments (map type_of_value vs) else []

abbrev pub call_from : Function → List DslxValue → List DslxValue → ConstState → ConstCall
call_from f parametric_args vs run = record { function = f; given = parametric_args; inferred = inferred_by f parametric_args vs; operands = vs; bound = run.bound; left = run.left }

abbrev pub at_function : ℕ → Option Function → List DslxValue → List DslxValue → ConstState → ConstState
at_function n None parametric_args vs run = finds_value None run
at_function n (Some f) parametric_args vs run = record run { todo = FindsParametrics (call_from f parametric_args vs run) f.parametrics ∷ run.todo; bound = []; left = n }

abbrev pub function_from : Option ℕ → List ℕ → List DslxValue → List DslxValue → ConstState → ConstState
function_from None name parametric_args vs run = finds_value None run
function_from (Some n) name parametric_args vs run = at_function n (as_function (item_named name run.text.items)) parametric_args vs run

abbrev pub function_unless : Bool → List ℕ → List DslxValue → List DslxValue → ConstState → ConstState
function_unless true name parametric_args vs run = finds_value None run
function_unless false name parametric_args vs run = function_from (one_less run.left) name parametric_args vs run

-- a function of the text at its parametric arguments and its operands
abbrev pub uses_function : List ℕ → List DslxValue → List DslxValue → ConstState → ConstState
uses_function name parametric_args vs run = function_unless (is_hidden run.kept name) name parametric_args vs run

-- a call that comes to nothing
abbrev pub call_fails : ConstCall → ConstState → ConstState
call_fails call run = finds_value None (back_at call.bound call.left run)

abbrev pub body_begins : ConstCall → ConstState → ConstState
body_begins call run = doing (DoesBlock call.function.body ∷ Returns call.bound call.left ∷ []) run

-- the first operand is bound
abbrev pub operands_on : List DslxValue → ConstCall → List Field → ConstState → ConstState
operands_on [] call fs run = body_begins call run
operands_on (v ∷ vs) call [] run = body_begins call run
operands_on (v ∷ vs) call (f ∷ fs) run = doing (GivesOperands (record call { operands = vs }) fs ∷ []) (binding f.name.name v run)

-- the operands, where all parametrics have their values
abbrev pub call_begins : ConstCall → ConstState → ConstState
call_begins call run = if length call.operands == length call.function.arguments then doing (GivesOperands call call.function.arguments ∷ []) run else call_fails call run

abbrev pub default_begins : Option Expr → ConstCall → Parametric → List Parametric → ConstState → ConstState
default_begins None call p ps run = call_fails call run
default_begins (Some e) call p ps run = doing (ValueDen e ∷ GivesParametric call p ps ∷ []) run

-- a parametric that the operands infer, or else its default
abbrev pub parametric_begins : Option ℕ → ConstCall → Parametric → List Parametric → ConstState → ConstState
parametric_begins (Some k) call p ps run = doing (FindsType p.ty ∷ Numbers (record { is_negative = false; value = k }) ∷ GivesParametric call p ps ∷ []) run
parametric_begins None call p ps run = default_begins p.default call p ps run

-- the first parametric is bound
abbrev pub parametrics_on : List DslxValue → ConstCall → List Parametric → ConstState → ConstState
parametrics_on [] call [] run = call_begins call run
parametrics_on [] call (p ∷ ps) run = parametric_begins (inferred_for p.name.name call.inferred) call p ps run
parametrics_on (v ∷ vs) call [] run = call_fails call run
parametrics_on (v ∷ vs) call (p ∷ ps) run = doing (FindsParametrics (record call { given = vs }) ps ∷ []) (binding p.name.name v run)

abbrev pub parametric_given : Option DslxValue → ConstCall → Parametric → List Parametric → ConstState → ConstState
parametric_given None call p ps run = call_fails call run
parametric_given (Some v) call p ps run = doing (FindsParametrics call ps ∷ []) (binding p.name.name v run)
