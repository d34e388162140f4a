-- What each task comes to, by what the parts of a text mean.
use Rattle.std.proofs.Common.{◌==◌, ℕ, suc, not, List, [], ◌∷◌, ◌++◌, Option, Some, None, drop, length, map, if◌then◌else◌}
use Rattle.std.specs.List.{list_all}
use Rattle.std.specs.Option.{option_map}
use Rattle.dslx_tree.specs.declared.expr.Arm.{Arm}
use Rattle.dslx_tree.specs.declared.expr.Expr.{Expr}
use Rattle.dslx_tree.specs.declared.expr.FieldValue.{FieldValue}
use Rattle.dslx_tree.specs.declared.expr.For.{For, out-For}
use Rattle.dslx_tree.specs.declared.item.Field.{Field}
use Rattle.dslx_tree.specs.declared.item.Module.{Module}
use Rattle.dslx_tree.specs.declared.item.Parametric.{Parametric}
use Rattle.dslx_tree.specs.declared.item.Struct.{Struct as StructItem}
use Rattle.dslx_tree.specs.declared.pattern.Pattern.{Pattern}
use Rattle.dslx_tree.specs.declared.type_expr.TypeExpr.{TypeExpr}
use Rattle.dslx_meaning.specs.Callees.{kind_of_call}
use Rattle.dslx_meaning.specs.Environment.{Env, Given, with_bound}
use Rattle.dslx_meaning.specs.Items.{all_parametric_args, parametric_args_bound, operands_bound, enum_member, name_of_field}
use Rattle.dslx_meaning.specs.Lists.{all_some, and_then, with_both, where_true}
use Rattle.dslx_meaning.specs.Meaning as m
use Rattle.dslx_meaning.specs.Meaning.{ExprDen, denotation, arg_denotation, pattern_denotation, value_of, value_of_block, written_type, fitted}
use Rattle.dslx_meaning.specs.Operators.{number_value, truth, cast_value, slice_value, part_value}
use Rattle.dslx_meaning.specs.Types.{bits_in}
use Rattle.dslx_meaning.specs.Values.{bits_of}
use Rattle.dslx_meaning.specs.declared.ty.BitKind.{BitKind}
use Rattle.dslx_meaning.specs.declared.ty.DslxType.{DslxType, out-DslxType}
use Rattle.dslx_meaning.specs.declared.ty.DslxType as ty
use Rattle.dslx_meaning.specs.declared.value.UntypedLiteral.{UntypedLiteral}
use Rattle.dslx_meaning.specs.declared.value.DslxValue.{DslxValue, Tuple, Array, Struct}
use Rattle.dslx_meaning.specs.declared.value.SignedWord.{SignedWord}
use Rattle.dslx_meaning.specs.Names.ConstMachine.Kept.{KeptValues, items_within}
use Rattle.dslx_meaning.specs.Names.ConstMachine.Tasks as task
use Rattle.dslx_meaning.specs.Names.ConstMachine.Tasks.{ConstTask, ConstState, ConstCall, Finding, ValueFound, TypeFound, CountFound, ListMaker, MakesTuple, MakesArray, Fills, CallsWith, Waiting, Sequel, ThenStatements, ThenAccumulator, ThenBody, ThenArm}
use Rattle.dslx_meaning.specs.Names.ConstMachine.States.{value_in, type_in, count_in_finding}
use Rattle.dslx_meaning.specs.Names.ConstMachine.Steps.{made_of_one, made_of_pair, of_base}
use Rattle.dslx_meaning.proofs.OnNames.OnConstMachine.Meanings.{arm_by_parts, arm_means, field_means, statements_mean, turn_of}

-- where the machine stands, but for what is to be done
pub record Place : Type 0 where
  pub text : Module
  pub kept : Option KeptValues
  pub found : Finding
  pub bound : List Given
  pub left : ℕ

abbrev pub place_of : ConstState → Place
place_of run = record { text = run.text; kept = run.kept; found = run.found; bound = run.bound; left = run.left }

-- what is in sight there
abbrev pub env_at : Place → Env
env_at p = record { items = items_within p.kept p.text p.left; bound = p.bound }

abbrev pub env_in : ConstState → Env
env_in run = record { items = items_within run.kept run.text run.left; bound = run.bound }

-- where these names are bound too, the last one first
abbrev pub env_behind : List Given → Place → Env
env_behind names p = with_bound (env_at p) (names ++ p.bound)

abbrev pub gives : Option DslxValue → Place → Place
gives v p = record p { found = ValueFound v }

abbrev pub gives_type : Option DslxType → Place → Place
gives_type t p = record p { found = TypeFound t }

abbrev pub gives_count : Option ℕ → Place → Place
gives_count n p = record p { found = CountFound n }

abbrev pub forgot : ℕ → Place → Place
forgot k p = record p { bound = drop k p.bound }

-- ---- several values

-- a part of what is made of several values
abbrev pub part_in : ListMaker → Env → ExprDen → Option DslxValue
part_in (Fills t n dots) env = m.element_den t env
part_in _ env = λ (e : ExprDen). e.value env

abbrev pub parts_in : ListMaker → Env → List Expr → Option (List DslxValue)
parts_in maker env es = all_some (map (part_in maker env) (map denotation es))

abbrev pub made_in : ListMaker → Env → List DslxValue → Option DslxValue
made_in MakesTuple env vs = Some (Tuple vs)
made_in MakesArray env vs = Some (Array vs)
made_in (Fills t n dots) env vs = m.filled dots n vs
made_in (CallsWith name parametric_args) env vs = m.call_den (kind_of_call name) name env parametric_args vs

-- the fields of a struct value
abbrev pub fields_in : Env → Option DslxValue → List FieldValue → List (List ℕ) → Option (List DslxValue)
fields_in env rest fields names = all_some (map (λ field. m.field_given env rest field (m.field_written field (map field_means fields))) names)

abbrev pub types_in : Env → List TypeExpr → Option (List DslxType)
types_in env ts = all_some (map (λ (t : m.TypeDen). t env) (map written_type ts))

abbrev pub field_types_in : Env → List Field → Option (List DslxType)
field_types_in env fs = all_some (map (λ (f : Field). written_type f.ty env) fs)

abbrev pub struct_of : StructItem → List DslxType → Option DslxType
struct_of s ts = Some (ty.Struct s.name.name (map name_of_field s.fields) ts)

abbrev pub rest_in : Env → Option Expr → Option DslxValue
rest_in env rest = m.rest_of (option_map denotation rest) env

-- ---- patterns

-- what is bound where all that waits fits
abbrev pub fit_all : Env → List Waiting → Env → Option Env
fit_all place [] env = Some env
fit_all place (w ∷ work) env = and_then (m.fit_each place (map pattern_denotation w.patterns) w.values env) (fit_all place work)

-- behind an arm that doesn't fit
abbrev pub rest_value : Arm → List Arm → DslxValue → Env → Option DslxValue
rest_value a [] v env = m.value_without (arm_by_parts a) env
rest_value a (b ∷ rest) v env = m.match_arms (map arm_means (b ∷ rest)) v env

-- an arm by these patterns of it, and what is behind it
abbrev pub tried_value : List Pattern → Arm → List Arm → DslxValue → Env → Option DslxValue
tried_value ps a rest v env = m.take_arm (arm_by_parts a) (m.first_fit (map pattern_denotation ps) v env) (rest_value a rest v env)

-- what comes behind a pattern, by what is bound where it fits, and what else is in sight
abbrev pub sequel_value : Sequel → Option Env → Env → Option DslxValue
sequel_value (ThenStatements ss last) inner env = and_then inner (statements_mean ss last)
sequel_value (ThenAccumulator p v b) inner env = and_then inner (λ within. and_then (fitted p v within) (value_of_block b))
sequel_value (ThenBody k b) inner env = and_then inner (value_of_block b)
sequel_value (ThenArm ps a rest v) inner env = m.take_arm (arm_by_parts a) inner (tried_value ps a rest v env)

-- how many names of a loop's index are bound until then
abbrev pub names_of_index : Sequel → ℕ
names_of_index (ThenBody k b) = k
names_of_index _ = 0

-- a pattern that what is bound fits or not, and what comes behind it
abbrev pub fitting : Sequel → Option Env → Place → Place
fitting next inner p = forgot (names_of_index next) (gives (sequel_value next inner (env_at p)) p)

abbrev pub names_in : List (List Pattern) → List (List ℕ)
names_in [] = []
names_in (ps ∷ pss) = m.all_names (map pattern_denotation ps) ++ names_in pss

abbrev pub value_if_nothing : List (List Pattern) → Expr → Env → Option DslxValue
value_if_nothing pss e env = if list_all env.items.is_constant (names_in pss) then value_of e env else None

-- ---- loops

abbrev pub from_last : For → DslxValue → SignedWord → Option DslxValue → Env → Option DslxValue
from_last f start a b env = and_then (and_then b bits_of) (m.loop_over (turn_of f env) start a)

abbrev pub from_first : For → DslxValue → Option DslxValue → Env → Option DslxValue
from_first f start a env = with_both (and_then a bits_of) (and_then (value_of (out-For f).to env) bits_of) (m.loop_over (turn_of f env) start)

-- ---- members and calls

-- a member's value in a base
abbrev pub member_in : BitKind → Option UntypedLiteral → Option DslxValue → Option DslxValue
member_in kind None v = and_then v (of_base kind)
member_in kind (Some b) v = number_value (ty.Bits kind.signed kind.width) b

-- a function where these values of its parametrics are bound behind others
abbrev pub body_in : ConstCall → List Parametric → Env → List DslxValue → Option DslxValue
body_in call ps env ns =
    where_true (length call.operands == length call.function.arguments)
    (value_of_block call.function.body (record { items = env.items; bound = operands_bound (parametric_args_bound env.bound ps ns) call.function.arguments call.operands }))

-- a call whose last parametrics are not bound yet
abbrev pub call_in : ConstCall → List Parametric → Env → Option DslxValue
call_in call ps env = and_then (all_parametric_args env.items call.inferred env.bound ps call.given) (body_in call ps env)

-- a function whose last operands are not bound yet
abbrev pub operands_in : ConstCall → List Field → Env → Option DslxValue
operands_in call fs env = value_of_block call.function.body (record { items = env.items; bound = operands_bound env.bound fs call.operands })

-- a parameter and those behind it
abbrev pub parametric_in : ConstCall → Parametric → List Parametric → Option DslxValue → Env → Option DslxValue
parametric_in call p ps v env = and_then v (λ v. call_in call ps (record { items = env.items; bound = record { name = p.name.name; value = v } ∷ env.bound }))

abbrev pub back_from : ConstCall → Option DslxValue → Place → Place
back_from call v p = record p { found = ValueFound v; bound = call.bound; left = call.left }

-- ---- each task

abbrev pub done : ConstTask → Place → Place
done (task.ValueDen e) p = gives (value_of e (env_at p)) p
done (task.DoesBlock b) p = gives (value_of_block b (env_at p)) p
done (task.DoesStatements ss last) p = gives (statements_mean ss last (env_at p)) p
done (task.Binds q ss last) p = gives (and_then (value_in p.found) (λ v. and_then (fitted q v (env_at p)) (statements_mean ss last))) p
done (task.Passes ss last) p = gives (and_then (value_in p.found) (λ v. statements_mean ss last (env_at p))) p
done (task.Numbers b) p = gives (and_then (type_in p.found) (λ t. number_value t b)) p
done (task.MakesOne maker) p = gives (and_then (value_in p.found) (made_of_one maker)) p
done (task.FindsRight maker e) p = gives (with_both (value_in p.found) (value_of e (env_at p)) (made_of_pair maker)) p
done (task.MakesPair maker v) p = gives (and_then (value_in p.found) (made_of_pair maker v)) p
done (task.TakesPart e i) p =
    gives (and_then (and_then (type_in p.found) bits_in) (λ kind. where_true (not kind.signed) (with_both (value_of e (env_at p)) (value_of i (env_at p)) (λ v k. part_value v k kind.width)))) p
done (task.Casts e) p = gives (and_then (type_in p.found) (λ t. and_then (value_of e (env_at p)) (cast_value t))) p
done (task.FindsEnd e b) p =
    gives (and_then (count_in_finding p.found) (λ from. and_then (m.bound_of (denotation b) (env_at p)) (λ to. and_then (value_of e (env_at p)) (λ v. slice_value v from to)))) p
done (task.Slices e from) p = gives (and_then (count_in_finding p.found) (λ to. and_then (value_of e (env_at p)) (λ v. slice_value v from to))) p
done (task.Chooses a b) p = gives (m.choose (and_then (value_in p.found) truth) (value_of_block a (env_at p)) (value_of b (env_at p))) p
done (task.FindsElements es dots) p = gives (and_then (type_in p.found) (λ t. m.array_at (env_at p) (map denotation es) dots (out-DslxType t))) p
done (task.Gathers vs es maker) p = gives (and_then (value_in p.found) (λ v. and_then (parts_in maker (env_at p) es) (λ ws. made_in maker (env_at p) (vs ++ v ∷ ws)))) p
done (task.GathersParametricArgs vs parametric_args name es) p =
    gives (and_then (value_in p.found) (λ v. and_then (m.values_of (map arg_denotation parametric_args) (env_at p)) (λ ns.
    and_then (m.values_of (map denotation es) (env_at p)) (λ ws. m.call_den (kind_of_call name) name (env_at p) (vs ++ v ∷ ns) ws)))) p
done (task.FindsFields fields rest) p = gives (and_then (type_in p.found) (λ t. m.struct_at (env_at p) (map field_means fields) (rest_in (env_at p) rest) (out-DslxType t))) p
done (task.TakesRest name names fields) p = gives (and_then (fields_in (env_at p) (value_in p.found) fields names) (λ ws. Some (Struct name names ws))) p
done (task.GathersFields name names vs fields rest) p =
    gives (and_then (value_in p.found) (λ v. and_then (fields_in (env_at p) rest fields (drop (suc (length vs)) names)) (λ ws. Some (Struct name names (vs ++ v ∷ ws))))) p
done (task.Selects arms) p = gives (and_then (value_in p.found) (λ v. m.match_arms (map arm_means arms) v (env_at p))) p
done (task.Tries ps a rest v) p = gives (tried_value ps a rest v (env_at p)) p
done (task.BindsNothing pss e) p = gives (value_if_nothing pss e (env_at p)) p
done (task.Fits work names next) p = fitting next (fit_all (env_at p) work (env_behind names p)) p
done (task.Compares v work names next) p = fitting next (and_then (m.fit_value (value_in p.found) v (env_behind names p)) (fit_all (env_at p) work)) p
done (task.Forgets k) p = forgot k p
done (task.StartsLoop f) p = gives (and_then (value_in p.found) (λ start. from_first f start (value_of (out-For f).from (env_at p)) (env_at p))) p
done (task.FindsFirst f start) p = gives (from_first f start (value_in p.found) (env_at p)) p
done (task.FindsLast f start a) p = gives (from_last f start a (value_in p.found) (env_at p)) p
done (task.Turns f signed n i) p = gives (and_then (value_in p.found) (m.turns_from (turn_of f (env_at p)) signed n i)) p
done (task.FindsType t) p = gives_type (written_type t (env_at p)) p
done (task.MakesBits s) p = gives_type (and_then (count_in_finding p.found) (λ w. Some (ty.Bits s w))) p
done (task.FindsSize e) p = gives_type (and_then (type_in p.found) (λ t. and_then (m.size_of (denotation e) (env_at p)) (λ n. Some (ty.Array t n)))) p
done (task.MakesArrayType t) p = gives_type (and_then (count_in_finding p.found) (λ n. Some (ty.Array t n))) p
done (task.GathersTypes ts rest) p = gives_type (and_then (type_in p.found) (λ t. and_then (types_in (env_at p) rest) (λ us. Some (ty.Tuple (ts ++ t ∷ us))))) p
done (task.GathersFieldTypes ts fs s) p = gives_type (and_then (type_in p.found) (λ t. and_then (field_types_in (env_at p) fs) (λ us. struct_of s (ts ++ t ∷ us)))) p
done (task.MakesEnumType name) p = gives_type (and_then (and_then (type_in p.found) bits_in) (λ kind. Some (ty.Enum name kind.signed kind.width))) p
done (task.FindsMember e name) p =
    gives (and_then (and_then (type_in p.found) bits_in) (λ kind. and_then (member_in kind (denotation e).bare (value_of e (env_at p))) (enum_member name))) p
done (task.MakesMember kind name) p = gives (and_then (and_then (value_in p.found) (of_base kind)) (enum_member name)) p
done (task.CountsSize e) p = gives_count (m.size_of (denotation e) (env_at p)) p
done task.IsSize p = gives_count (and_then (m.count_in None (value_in p.found)) m.some_count) p
done (task.CountsBound e) p = gives_count (m.bound_of (denotation e) (env_at p)) p
done task.IsBound p = gives_count (m.bound_in None (value_in p.found)) p
done (task.FindsParametrics call ps) p = back_from call (call_in call ps (env_at p)) p
done (task.GivesParametric call q ps) p = back_from call (parametric_in call q ps (value_in p.found) (env_at p)) p
done (task.GivesOperands call fs) p = back_from call (operands_in call fs (env_at p)) p
done (task.Returns bound n) p = record p { bound = bound; left = n }

-- where the machine stands when all of this is done
abbrev pub answer : List ConstTask → Place → Place
answer [] p = p
answer (d ∷ todo) p = answer todo (done d p)

abbrev pub answer_of : ConstState → Place
answer_of run = answer run.todo (place_of run)
