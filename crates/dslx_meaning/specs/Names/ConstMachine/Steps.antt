-- What each step of the machine does.
use Rattle.std.specs.Prelude.{ℕ, zero, suc, List, [], ◌∷◌, ◌++◌, Bool, true, false, length, Option, Some, None, if◌then◌else◌}
use Rattle.dslx_tree.specs.declared.block.Block.{Block, out-Block}
use Rattle.dslx_tree.specs.declared.block.Let.{out-Let}
use Rattle.dslx_tree.specs.declared.block.Stmt.{Stmt, out-Stmt}
use Rattle.dslx_tree.specs.declared.block.Stmt.TheOpen.{Stmt-F, Node-F, TypeNode-F}
use Rattle.dslx_tree.specs.declared.expr.Arm.{Arm}
use Rattle.dslx_tree.specs.declared.expr.Expr.{Expr}
use Rattle.dslx_tree.specs.declared.expr.For.{out-For}
use Rattle.dslx_tree.specs.declared.item.Field.{Field}
use Rattle.dslx_tree.specs.declared.item.Module.{Module}
use Rattle.dslx_tree.specs.declared.item.Struct.{Struct}
use Rattle.dslx_tree.specs.declared.pattern.Pattern.{Pattern}
use Rattle.dslx_tree.specs.declared.type_expr.TypeExpr.{TypeExpr}
use Rattle.dslx_meaning.specs.Activation.{NodeLayer, StmtLayer, node_of}
use Rattle.dslx_meaning.specs.Environment.{Given}
use Rattle.dslx_meaning.specs.Items.{enum_member}
use Rattle.dslx_meaning.specs.Lists.{and_then, where_true}
use Rattle.dslx_meaning.specs.Meaning.{some_count, count_in, bound_in, field_of}
use Rattle.dslx_meaning.specs.Operators.{number_value, prefix_value, binary_value, truth, cast_value, slice_value, part_value, index_value, element_value}
use Rattle.dslx_meaning.specs.Types.{bits_in, same_type}
use Rattle.dslx_meaning.specs.Values.{type_of_value, bits_of, bool_value, unit_value}
use Rattle.dslx_meaning.specs.declared.ty.BitKind.{BitKind}
use Rattle.dslx_meaning.specs.declared.ty.DslxType.{DslxType}
use Rattle.dslx_meaning.specs.declared.ty.DslxType as ty
use Rattle.dslx_meaning.specs.declared.value.UntypedLiteral.{UntypedLiteral}
use Rattle.dslx_meaning.specs.declared.value.DslxValue.{DslxValue}
use Rattle.dslx_meaning.specs.Names.ConstMachine.Kept.{KeptValues}
use Rattle.dslx_meaning.specs.Names.ConstMachine.Tasks as task
use Rattle.dslx_meaning.specs.Names.ConstMachine.Tasks.{ConstTask, ConstState, Finding, OneMaker, MakesPrefix, MakesField, MakesElement, MakesCast, MakesSlice, PairMaker, MakesBinary, MakesIndexed, MakesPart, MakesTuple, MakesArray, ThenStatements}
use Rattle.dslx_meaning.specs.Names.ConstMachine.Layers.{TypeLayer, type_of, untyped_of, count_of}
use Rattle.dslx_meaning.specs.Names.ConstMachine.States.{value_in, type_in, count_in_finding, finds_value, finds_type, finds_count, without_finding, doing, back_at, forgetting}
use Rattle.dslx_meaning.specs.Names.ConstMachine.Items.{uses_name, uses_member, uses_struct, uses_type, field_types_on, parametrics_on, parametric_given, operands_on}
use Rattle.dslx_meaning.specs.Names.ConstMachine.Lists.{gathers, gathered, gathers_parametric_args, number_gathered, elements_begin, fields_begin, gathers_fields, field_gathered}
use Rattle.dslx_meaning.specs.Names.ConstMachine.Patterns.{uses_number, fits_one, fits_all, fits_if_same, selects, tries, all_bind_nothing, loop_begins, first_found, last_found, turns}

-- ---- expressions

abbrev pub array_begins : Option TypeExpr → List Expr → Bool → ConstState → ConstState
array_begins None es dots run = gathers [] es MakesArray run
array_begins (Some t) es dots run = doing (task.FindsType t ∷ task.FindsElements es dots ∷ []) run

abbrev pub node_begins : NodeLayer → ConstState → ConstState
node_begins (Node-F.Node::Number n) run = uses_number n run
node_begins (Node-F.Node::Bool b) run = finds_value (Some (bool_value b)) run
node_begins (Node-F.Node::Array t es dots) run = array_begins t es dots run
node_begins (Node-F.Node::Name name) run = uses_name name run
node_begins (Node-F.Node::Member e a) run = uses_member e.name a.name run
node_begins (Node-F.Call f parametric_args es) run = gathers_parametric_args [] parametric_args f.name es run
node_begins (Node-F.Node::Tuple es) run = gathers [] es MakesTuple run
node_begins (Node-F.Struct s fields rest) run = uses_struct s.name (doing (task.FindsFields fields rest ∷ []) run)
node_begins (Node-F.Block b) run = doing (task.DoesBlock b ∷ []) run
node_begins (Node-F.If c a b) run = doing (task.ValueDen c ∷ task.Chooses a b ∷ []) run
node_begins (Node-F.Match e arms) run = doing (task.ValueDen e ∷ task.Selects arms ∷ []) run
node_begins (Node-F.For f) run = doing (task.ValueDen (out-For f).start ∷ task.StartsLoop f ∷ []) run
node_begins (Node-F.Index e i) run = doing (task.ValueDen e ∷ task.FindsRight MakesIndexed i ∷ []) run
node_begins (Node-F.Slice e a b) run = doing (task.CountsBound a ∷ task.FindsEnd e b ∷ []) run
node_begins (Node-F.Part e i t) run = doing (task.FindsType t ∷ task.TakesPart e i ∷ []) run
node_begins (Node-F.Field e name) run = doing (task.ValueDen e ∷ task.MakesOne (MakesField name.name) ∷ []) run
node_begins (Node-F.Element e span k) run = doing (task.ValueDen e ∷ task.MakesOne (MakesElement k) ∷ []) run
node_begins (Node-F.Prefix o e) run = doing (task.ValueDen e ∷ task.MakesOne (MakesPrefix o) ∷ []) run
node_begins (Node-F.Cast e t) run = doing (task.FindsType t ∷ task.Casts e ∷ []) run
node_begins (Node-F.Binary o l r) run = doing (task.ValueDen l ∷ task.FindsRight (MakesBinary o) r ∷ []) run

abbrev pub made_of_one : OneMaker → DslxValue → Option DslxValue
made_of_one (MakesPrefix o) v = prefix_value o v
made_of_one (MakesField name) v = field_of v name
made_of_one (MakesElement k) v = element_value v k
made_of_one (MakesCast t) v = cast_value t v
made_of_one (MakesSlice from to) v = slice_value v from to

abbrev pub made_of_pair : PairMaker → DslxValue → DslxValue → Option DslxValue
made_of_pair (MakesBinary o) v w = binary_value o v w
made_of_pair MakesIndexed v w = index_value v w
made_of_pair (MakesPart n) v w = part_value v w n

abbrev pub right_begins : PairMaker → Expr → Option DslxValue → ConstState → ConstState
right_begins maker e None run = finds_value None run
right_begins maker e (Some v) run = doing (task.ValueDen e ∷ task.MakesPair maker v ∷ []) run

abbrev pub part_begins : Option BitKind → Expr → Expr → ConstState → ConstState
part_begins None e i run = finds_value None run
part_begins (Some kind) e i run = if kind.signed then finds_value None run else doing (task.ValueDen e ∷ task.FindsRight (MakesPart kind.width) i ∷ []) run

abbrev pub cast_begins : Option DslxType → Expr → ConstState → ConstState
cast_begins None e run = finds_value None run
cast_begins (Some t) e run = doing (task.ValueDen e ∷ task.MakesOne (MakesCast t) ∷ []) run

abbrev pub end_begins : Option ℕ → Expr → Expr → ConstState → ConstState
end_begins None e b run = finds_value None run
end_begins (Some from) e b run = doing (task.CountsBound b ∷ task.Slices e from ∷ []) run

abbrev pub slice_begins : Option ℕ → Expr → ℕ → ConstState → ConstState
slice_begins None e from run = finds_value None run
slice_begins (Some to) e from run = doing (task.ValueDen e ∷ task.MakesOne (MakesSlice from to) ∷ []) run

abbrev pub chooses : Option Bool → Block → Expr → ConstState → ConstState
chooses None a b run = finds_value None run
chooses (Some true) a b run = doing (task.DoesBlock a ∷ []) run
chooses (Some false) a b run = doing (task.ValueDen b ∷ []) run

abbrev pub selection_begins : List Arm → Option DslxValue → ConstState → ConstState
selection_begins arms None run = finds_value None run
selection_begins arms (Some v) run = selects arms v run

-- ---- blocks

abbrev pub stmt_begins : StmtLayer → List Stmt → Option Expr → ConstState → ConstState
stmt_begins (Stmt-F.Let l) ss last run = doing (task.ValueDen (out-Let l).value ∷ task.Binds (out-Let l).pattern ss last ∷ []) run
stmt_begins (Stmt-F.Bare e) ss last run = doing (task.ValueDen e ∷ task.Passes ss last ∷ []) run

abbrev pub last_begins : Option Expr → ConstState → ConstState
last_begins None run = finds_value (Some unit_value) run
last_begins (Some e) run = doing (task.ValueDen e ∷ []) run

abbrev pub statements_begin : List Stmt → Option Expr → ConstState → ConstState
statements_begin [] last run = last_begins last run
statements_begin (s ∷ ss) last run = stmt_begins (out-Stmt s) ss last run

abbrev pub bind_begins : Option DslxValue → Pattern → List Stmt → Option Expr → ConstState → ConstState
bind_begins None p ss last run = finds_value None run
bind_begins (Some v) p ss last run = fits_one p v [] [] (ThenStatements ss last) run

abbrev pub passes : Option DslxValue → List Stmt → Option Expr → ConstState → ConstState
passes None ss last run = finds_value None run
passes (Some v) ss last run = doing (task.DoesStatements ss last ∷ []) run

-- ---- types, sizes and bounds

abbrev pub types_on : List DslxType → List TypeExpr → ConstState → ConstState
types_on ts [] run = finds_type (Some (ty.Tuple ts)) run
types_on ts (t ∷ rest) run = doing (task.FindsType t ∷ task.GathersTypes ts rest ∷ []) run

abbrev pub type_begins : TypeLayer → ConstState → ConstState
type_begins (TypeNode-F.Bits s w) run = finds_type (Some (ty.Bits s w)) run
type_begins (TypeNode-F.Wide s e) run = doing (task.CountsSize e ∷ task.MakesBits s ∷ []) run
type_begins TypeNode-F.TypeNode::Bool run = finds_type (Some (ty.Bits false 1)) run
type_begins (TypeNode-F.TypeNode::Name name) run = uses_type name run
type_begins (TypeNode-F.TypeNode::Tuple ts) run = types_on [] ts run
type_begins (TypeNode-F.TypeNode::Array t e) run = doing (task.FindsType t ∷ task.FindsSize e ∷ []) run

abbrev pub type_gathered : List DslxType → List TypeExpr → Option DslxType → ConstState → ConstState
type_gathered ts rest None run = finds_type None run
type_gathered ts rest (Some t) run = types_on (ts ++ t ∷ []) rest run

abbrev pub field_type_gathered : List DslxType → List Field → Struct → Option DslxType → ConstState → ConstState
field_type_gathered ts fs s None run = finds_type None run
field_type_gathered ts fs s (Some t) run = field_types_on (ts ++ t ∷ []) fs s run

abbrev pub array_size_begins : Option DslxType → Expr → ConstState → ConstState
array_size_begins None e run = finds_type None run
array_size_begins (Some t) e run = doing (task.CountsSize e ∷ task.MakesArrayType t ∷ []) run

abbrev pub member_begins : BitKind → Option UntypedLiteral → Expr → List ℕ → ConstState → ConstState
member_begins kind None e name run = doing (task.ValueDen e ∷ task.MakesMember kind name ∷ []) run
member_begins kind (Some b) e name run = finds_value (and_then (number_value (ty.Bits kind.signed kind.width) b) (enum_member name)) run

abbrev pub base_found : Option BitKind → Expr → List ℕ → ConstState → ConstState
base_found None e name run = finds_value None run
base_found (Some kind) e name run = member_begins kind (untyped_of e) e name run

-- a value of the base of an enum
abbrev pub of_base : BitKind → DslxValue → Option DslxValue
of_base kind v = where_true (same_type (type_of_value v) (ty.Bits kind.signed kind.width)) (Some v)

abbrev pub size_begins : Option UntypedLiteral → Expr → ConstState → ConstState
size_begins None e run = doing (task.ValueDen e ∷ task.IsSize ∷ []) run
size_begins (Some b) e run = finds_count (and_then (count_of b) some_count) run

abbrev pub bound_begins : Option UntypedLiteral → Expr → ConstState → ConstState
bound_begins None e run = doing (task.ValueDen e ∷ task.IsBound ∷ []) run
bound_begins (Some b) e run = finds_count (count_of b) run

-- ---- one step

abbrev pub stepped : ConstTask → ConstState → ConstState
stepped (task.ValueDen e) run = node_begins (node_of e) run
stepped (task.DoesBlock b) run = statements_begin (out-Block b).statements (out-Block b).value run
stepped (task.DoesStatements ss last) run = statements_begin ss last run
stepped (task.Binds p ss last) run = bind_begins (value_in run.found) p ss last (without_finding run)
stepped (task.Passes ss last) run = passes (value_in run.found) ss last (without_finding run)
stepped (task.Numbers b) run = finds_value (and_then (type_in run.found) (λ t. number_value t b)) run
stepped (task.MakesOne maker) run = finds_value (and_then (value_in run.found) (made_of_one maker)) run
stepped (task.FindsRight maker e) run = right_begins maker e (value_in run.found) (without_finding run)
stepped (task.MakesPair maker v) run = finds_value (and_then (value_in run.found) (made_of_pair maker v)) run
stepped (task.TakesPart e i) run = part_begins (and_then (type_in run.found) bits_in) e i (without_finding run)
stepped (task.Casts e) run = cast_begins (type_in run.found) e (without_finding run)
stepped (task.FindsEnd e b) run = end_begins (count_in_finding run.found) e b (without_finding run)
stepped (task.Slices e from) run = slice_begins (count_in_finding run.found) e from (without_finding run)
stepped (task.Chooses a b) run = chooses (and_then (value_in run.found) truth) a b (without_finding run)
stepped (task.FindsElements es dots) run = elements_begin (type_in run.found) es dots (without_finding run)
stepped (task.Gathers vs es maker) run = gathered vs es maker (value_in run.found) (without_finding run)
stepped (task.GathersParametricArgs vs parametric_args name es) run = number_gathered vs parametric_args name es (value_in run.found) (without_finding run)
stepped (task.FindsFields fields rest) run = fields_begin (type_in run.found) fields rest (without_finding run)
stepped (task.TakesRest name names fields) run = gathers_fields name names [] fields (value_in run.found) (without_finding run)
stepped (task.GathersFields name names vs fields rest) run = field_gathered name names vs fields rest (value_in run.found) (without_finding run)
stepped (task.Selects arms) run = selection_begins arms (value_in run.found) (without_finding run)
stepped (task.Tries ps a rest v) run = tries ps a rest v run
stepped (task.BindsNothing pss e) run = all_bind_nothing pss e run
stepped (task.Fits work names next) run = fits_all work names next run
stepped (task.Compares v work names next) run = fits_if_same (value_in run.found) v work names next (without_finding run)
stepped (task.Forgets k) run = forgetting k run
stepped (task.StartsLoop f) run = loop_begins f (value_in run.found) (without_finding run)
stepped (task.FindsFirst f start) run = first_found f start (and_then (value_in run.found) bits_of) (without_finding run)
stepped (task.FindsLast f start a) run = last_found f start a (and_then (value_in run.found) bits_of) (without_finding run)
stepped (task.Turns f signed n i) run = turns f signed n i (value_in run.found) (without_finding run)
stepped (task.FindsType t) run = type_begins (type_of t) run
stepped (task.MakesBits s) run = finds_type (and_then (count_in_finding run.found) (λ w. Some (ty.Bits s w))) run
stepped (task.FindsSize e) run = array_size_begins (type_in run.found) e (without_finding run)
stepped (task.MakesArrayType t) run = finds_type (and_then (count_in_finding run.found) (λ n. Some (ty.Array t n))) run
stepped (task.GathersTypes ts rest) run = type_gathered ts rest (type_in run.found) (without_finding run)
stepped (task.GathersFieldTypes ts fs s) run = field_type_gathered ts fs s (type_in run.found) (without_finding run)
stepped (task.MakesEnumType name) run = finds_type (and_then (and_then (type_in run.found) bits_in) (λ kind. Some (ty.Enum name kind.signed kind.width))) run
stepped (task.FindsMember e name) run = base_found (and_then (type_in run.found) bits_in) e name (without_finding run)
stepped (task.MakesMember kind name) run = finds_value (and_then (and_then (value_in run.found) (of_base kind)) (enum_member name)) run
stepped (task.CountsSize e) run = size_begins (untyped_of e) e run
stepped task.IsSize run = finds_count (and_then (count_in None (value_in run.found)) some_count) run
stepped (task.CountsBound e) run = bound_begins (untyped_of e) e run
stepped task.IsBound run = finds_count (bound_in None (value_in run.found)) run
stepped (task.FindsParametrics call ps) run = parametrics_on call.given call ps run
stepped (task.GivesParametric call p ps) run = parametric_given (value_in run.found) call p ps (without_finding run)
stepped (task.GivesOperands call fs) run = operands_on call.operands call fs run
stepped (task.Returns bound n) run = back_at bound n run

-- ---- several steps

-- with a task less
abbrev pub behind : List ConstTask → ConstState → ConstState
behind todo run = record run { todo = todo }

abbrev pub stepped_first : List ConstTask → ConstState → ConstState
stepped_first [] run = run
stepped_first (d ∷ todo) run = stepped d (behind todo run)

abbrev pub answered : List ConstTask → Finding → Option Finding
answered [] f = Some f
answered (d ∷ todo) f = None

-- what was found last after so many steps, if nothing is left to be done then
abbrev pub after : ℕ → ConstState → Option Finding
after zero run = answered run.todo run.found
after (suc n) run = after n (stepped_first run.todo run)

-- the machine that is to do this in a text where these values are kept and these names are bound, the last one first
abbrev pub begins_over : Module → Option KeptValues → List Given → ConstTask → ConstState
begins_over m kept bound d = record { text = m; kept = kept; todo = d ∷ []; found = task.ValueFound None; bound = bound; left = length m.items }

-- the same where none are kept
abbrev pub begins : Module → List Given → ConstTask → ConstState
begins m bound d = begins_over m None bound d
