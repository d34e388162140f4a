-- Each expression is judged within the limits on its type.
use Rattle.std.proofs.Common.{ℕ, Bool, true, false, if◌then◌else◌, List, [], ◌∷◌, Option, Some, None, length, map, ◌++◌, ◌-◌, ◌||◌}
use Rattle.xb_span.specs.declared.span.Span.{Span}
use Rattle.dslx_tree.specs.declared.ident.Ident.{Ident}
use Rattle.dslx_tree.specs.declared.item.Function.{Function}
use Rattle.dslx_tree.specs.declared.item.Struct.{Struct}
use Rattle.dslx_meaning.specs.Callees.{AllOnes, CallKind, Calls, CountsLeading, CountsTrailing, Joins, Parity, Receives, ReceivesIf, Reverses, Sends, SendsIf, SomeOne, Updates}
use Rattle.dslx_meaning.specs.Environment.{given_in}
use Rattle.dslx_meaning.specs.Items.{as_function, as_struct, item_named, name_of_field}
use Rattle.dslx_meaning.specs.Lists.{is_in, all_some, and_then, where_true, with_both}
use Rattle.dslx_meaning.specs.Types.{bool_type, same_type, unsigned}
use Rattle.dslx_meaning.specs.declared.ty.DslxType.{DslxType}
use Rattle.dslx_meaning.specs.declared.ty.DslxType as ty
use Rattle.dslx_meaning.specs.declared.value.DslxValue.{DslxValue}
use Rattle.dslx_meaning.specs.Rules.AggregateRules.{struct_if, struct_typing, array_faults, array_in, element_alone, element_in, element_type, field_typing, field_part_typing, field_type, first_type_of, has_twice, index_typing, is_array, lacks_one, like_first, others_typing, pair_or_alone, part_type, tuple_element_typing, tuple_typing, typed_array, unknown_fields, untyped_array, when_all, written_fields}
use Rattle.dslx_meaning.specs.Rules.CallRules.{ParametricArgument, builtin_typing, call_typing, counting, first_operand_type, function_call, given_parametric_args, has_right_count, updating, without_parametric_args, ParametricArgsSeen, call_parts_faults, call_type, joining, operand_faults, right_call, signature_seen, token_typing, update_faults, wrong_call, call_parametric_args, typing_there}
use Rattle.dslx_meaning.specs.Rules.TypeEnvs.{ExprPair, Judgement, TypeEnv, all_alone, settled, typed_in, alone, breaks, breaks_if, faults_of_all, one_and, plus_size, span_of, types_of}
use Rattle.dslx_meaning.specs.Rules.Typings.{ArgPair, FieldSeen, ArmSeen, BlockPair, TypeExprTyping, StatementTyping}
use Rattle.dslx_meaning.specs.Rules.NameRules.{item_value, local_or_other, name_typing, parametric_or_item, end_or_other}
use Rattle.dslx_meaning.specs.Rules.OperatorRules.{binary_faults, binary_typing, binary_type, bound_number, cast_typing, is_bits, is_bits_or_enum, is_bool, part_typing, prefix_typing, slice_faults, slice_typing, unless_type, unless_types}
use Rattle.dslx_core.proofs.Lemmas.Typing.Typed.{none_some}
use Rattle.dslx_total.specs.Expressions.ExprLowering.{IsLimited, KeepsLimits}
use Rattle.dslx_total.proofs.OnExpressions.Limits.{settled_keeps}
use Rattle.xb_span.specs.declared.fault.Fault.{Fault}
use Rattle.std.specs.Prelude.{option_map}
use Rattle.dslx_tree.specs.declared.operator.Binary.{Binary}
use Rattle.dslx_meaning.specs.Rules.PatternRules.{is_there}
use Rattle.dslx_meaning.specs.Rules.ControlRules.{LoopSeen, all_known, arm_typing, arm_values, arms_faults, block_alone, first_of_types, if_typing, last_typing, loop_faults, loop_parts_faults, loop_type, loop_with, match_faults, match_typing, statements_typing}
use Rattle.dslx_meaning.specs.Rules.ConstantRules.{constant_or_untyped, is_empty, is_unsigned}
use Rattle.dslx_meaning.specs.Values.{type_of_value}

-- ---- judgements

abbrev Keeps : Judgement → Type 0
Keeps j = KeepsLimits j.faults j.ty

pub bool_limited : (span : Span) → IsLimited (λ context. settled span (Some bool_type) [] [] (Some 1))
bool_limited span context = settled_keeps span (Some bool_type) []

-- ---- names

pub name_limited : (span : Span) (name : List ℕ) → IsLimited (λ context. name_typing span context name)
name_limited span name context = by_local (typed_in name context.locals)
  where
    by_item : (b : Bool) → Keeps (item_value span context name b)
    by_item false = settled_keeps span None (breaks 1 span ∷ [])
    by_item true = settled_keeps span (option_map type_of_value (context.known.items.constant name)) (breaks_if (context.known.is_cyclic context.owner name) 3 span)

    by_globals : (b : Bool) → Keeps (if b then settled span None [] [] (Some 1) else item_value span context name (context.known.items.is_constant name))
    by_globals true = settled_keeps span None []
    by_globals false = by_item (context.known.items.is_constant name)

    by_number : (o : Option DslxValue) → Keeps (parametric_or_item span context name o)
    by_number None = by_globals (is_in name context.unknown)
    by_number (Some v) = settled_keeps span (Some (type_of_value v)) []

    by_end : (b : Bool) → Keeps (end_or_other span context name b)
    by_end true = settled_keeps span None (breaks 1 span ∷ [])
    by_end false = by_number (given_in name context.parametric_args)

    by_local : (o : Option (Option DslxType)) → Keeps (local_or_other span context name o)
    by_local None = by_end (is_in name context.ends)
    by_local (Some t) = settled_keeps span t []

-- ---- aggregates

pub tuple_limited : (span : Span) (es : List ExprPair) → IsLimited (λ context. tuple_typing span context es)
tuple_limited span es context =
    let js = map (element_alone context) es in
    settled_keeps span (and_then (all_some (types_of js)) (λ ts. Some (ty.Tuple ts))) (faults_of_all js)

pub untyped_limited : (span : Span) (es : List ExprPair) (dots : Bool) → IsLimited (λ context. untyped_array span context es dots)
untyped_limited span es dots context =
    let js = map (element_alone context) es in
    let first = first_type_of (types_of js) in
    settled_keeps span (when_all (types_of js) (and_then first (λ t. Some (ty.Array t (length es))))) ((faults_of_all js ++ like_first first es (types_of js)) ++ breaks_if (dots || is_empty es) 21 span)

pub typed_limited : (span : Span) (j : TypeExprTyping) (es : List ExprPair) (dots : Bool) → IsLimited (λ context. typed_array span context (j context) es dots)
typed_limited span j es dots context =
    let t = j context in
    let parts = and_then t.ty array_in in
    let js = map (element_in context (element_type parts)) es in
    settled_keeps span (when_all (types_of js) t.ty) ((t.faults ++ faults_of_all js) ++ array_faults span t.ty parts (length es) dots)

pub struct_limited : (span : Span) (name : Ident) (fields : List FieldSeen) (others : Option ExprPair) → IsLimited (λ context. struct_typing span context name fields others)
struct_limited span name fields others context = by_struct (as_struct (item_named name.name context.known.whole.items))
  where
    by_struct : (o : Option Struct) → Keeps (struct_if span context name fields others o)
    by_struct None = settled_keeps span None ((breaks 1 name.span ∷ faults_of_all (map (field_typing context None) fields)) ++ (others_typing context None others).faults)
    by_struct (Some declared) =
        let struct = context.known.items.struct_named name.name in
        let js = map (field_typing context struct) fields in
        let rest = others_typing context struct others in
        let names = map name_of_field declared.fields in
        settled_keeps span (when_all (rest.ty ∷ types_of js) struct)
        ((((breaks_if (context.known.is_cyclic context.owner name.name) 3 name.span ++ faults_of_all js) ++ rest.faults) ++ unknown_fields names fields)
        ++ breaks_if (has_twice (written_fields fields) || lacks_one names (written_fields fields) (is_there others)) 22 span)

-- ---- operators

pub binary_limited : (span : Span) (o : Binary) (l r : ExprPair) → IsLimited (λ context. binary_typing span context o l r)
binary_limited span o l r context =
    let a = alone context l in
    let c = alone context r in
    settled_keeps span (binary_type o a.ty c.ty) ((a.faults ++ c.faults) ++ binary_faults o span (span_of l) a.ty (span_of r) c.ty)

pub prefix_limited : (span : Span) (e : ExprPair) → IsLimited (λ context. prefix_typing span context e)
prefix_limited span e context = let a = alone context e in settled_keeps span a.ty (a.faults ++ unless_type is_bits 11 span a.ty)

pub cast_limited : (span : Span) (e : ExprPair) (j : TypeExprTyping) → IsLimited (λ context. cast_typing span context e (j context))
cast_limited span e j context =
    let a = alone context e in
    let target = j context in
    settled_keeps span (and_then a.ty (λ t. target.ty)) (((a.faults ++ target.faults) ++ unless_type is_bits_or_enum 20 span a.ty) ++ unless_type is_bits 20 span target.ty)

pub index_limited : (span : Span) (e i : ExprPair) → IsLimited (λ context. index_typing span context e i)
index_limited span e i context =
    let a = alone context e in
    let c = alone context i in
    settled_keeps span (and_then c.ty (λ k. element_type (and_then a.ty array_in))) (((a.faults ++ c.faults) ++ unless_type is_array 19 span a.ty) ++ unless_type is_unsigned 19 span c.ty)

pub slice_limited : (span : Span) (e a c : ExprPair) → IsLimited (λ context. slice_typing span context e a c)
slice_limited span e a c context =
    let whole = alone context e in
    let from = constant_or_untyped context a in
    let to = constant_or_untyped context c in
    settled_keeps span (and_then whole.ty (λ t. with_both (bound_number from) (bound_number to) (λ i j. Some (unsigned (j - i)))))
    (((whole.faults ++ from.judgement.faults) ++ to.judgement.faults) ++ slice_faults span whole.ty from to)

pub part_limited : (span : Span) (e i : ExprPair) (j : TypeExprTyping) → IsLimited (λ context. part_typing span context e i (j context))
part_limited span e i j context =
    let a = alone context e in
    let c = alone context i in
    let target = j context in
    settled_keeps span (and_then a.ty (λ t. and_then c.ty (λ u. target.ty)))
    (((((a.faults ++ c.faults) ++ target.faults) ++ unless_type is_bits 18 span a.ty) ++ unless_type is_unsigned 18 span c.ty) ++ unless_type is_unsigned 18 span target.ty)

pub field_limited : (span : Span) (e : ExprPair) (name : Ident) → IsLimited (λ context. field_part_typing span context e name)
field_limited span e name context =
    let a = alone context e in
    settled_keeps span (field_type a.ty name.name) (a.faults ++ unless_type (λ t. is_there (field_type (Some t) name.name)) 19 span a.ty)

pub element_limited : (span : Span) (e : ExprPair) (k : ℕ) → IsLimited (λ context. tuple_element_typing span context e k)
element_limited span e k context =
    let a = pair_or_alone k context e in
    settled_keeps span (and_then a.ty (λ t. part_type t k)) (a.faults ++ unless_type (λ t. is_there (part_type t k)) 19 span a.ty)

-- ---- control

pub if_limited : (span : Span) (c : ExprPair) (a : BlockPair) (b : ExprPair) → IsLimited (λ context. if_typing span context c a b)
if_limited span c a b context =
    let condition = alone context c in
    let first = block_alone context a in
    let second = alone context b in
    settled_keeps span (and_then condition.ty (λ t. with_both first.ty second.ty (λ u v. Some u)))
    ((((condition.faults ++ first.faults) ++ second.faults) ++ unless_type is_bool 15 (span_of c) condition.ty) ++ unless_types same_type 25 span first.ty second.ty)

pub match_limited : (span : Span) (e : ExprPair) (arms : List ArmSeen) → IsLimited (λ context. match_typing span context e arms)
match_limited span e arms context =
    let value = alone context e in
    let js = map (arm_typing context value.ty) arms in
    settled_keeps span (and_then value.ty (λ t. where_true (all_known js) (first_of_types (all_some (types_of (arm_values js)))))) ((value.faults ++ arms_faults js) ++ match_faults span context value.ty js)

pub block_limited : (span : Span) (ss : List StatementTyping) (o : Option ExprPair)
    → IsLimited (λ context. settled span (last_typing (statements_typing ss false context).context o).ty ((statements_typing ss false context).faults ++ (last_typing (statements_typing ss false context).context o).faults)
    ((statements_typing ss false context).reached ++ (last_typing (statements_typing ss false context).context o).reached)
    (one_and (plus_size (statements_typing ss false context).size (last_typing (statements_typing ss false context).context o).size)))
block_limited span ss o context =
    let walked = statements_typing ss false context in
    let last = last_typing walked.context o in
    settled_keeps span last.ty (walked.faults ++ last.faults)

pub loop_limited : (span body_span : Span) (seen : TypeEnv → LoopSeen) → IsLimited (λ context. loop_with span body_span (seen context))
loop_limited span body_span seen context = settled_keeps span (loop_type (seen context)) (loop_parts_faults (seen context) ++ loop_faults span body_span (seen context))

-- ---- calls

wrong_keeps : (span : Span) (gs : List ParametricArgument) (js : List Judgement) (more : List Fault) → Keeps (wrong_call span gs js more)
wrong_keeps span gs js more = settled_keeps span None (call_parts_faults gs js ++ breaks 10 span ∷ more)

counting_keeps : (span : Span) (es : List ExprPair) (js : List Judgement) (o : Option DslxType) → Keeps (counting span es js o)
counting_keeps span (e ∷ []) (j ∷ []) o = settled_keeps span (and_then j.ty (λ t. o)) (j.faults ++ unless_type is_bits 27 (span_of e) j.ty)
counting_keeps span [] js o = wrong_keeps span [] js []
counting_keeps span (e ∷ d ∷ es) js o = wrong_keeps span [] js []
counting_keeps span (e ∷ []) [] o = wrong_keeps span [] [] []
counting_keeps span (e ∷ []) (j ∷ k ∷ js) o = wrong_keeps span [] (j ∷ k ∷ js) []

updating_keeps : (span : Span) (context : TypeEnv) (es : List ExprPair) → Keeps (updating span es (all_alone context es))
updating_keeps span context [] = wrong_keeps span [] [] []
updating_keeps span context (e ∷ []) = wrong_keeps span [] (all_alone context (e ∷ [])) []
updating_keeps span context (e ∷ i ∷ []) = wrong_keeps span [] (all_alone context (e ∷ i ∷ [])) []
updating_keeps span context (e ∷ i ∷ v ∷ []) =
    let a = alone context e in
    let c = alone context i in
    let d = alone context v in
    settled_keeps span (and_then c.ty (λ t. and_then d.ty (λ u. a.ty)))
    (((((a.faults ++ c.faults) ++ d.faults) ++ unless_type is_array 27 (span_of e) a.ty) ++ unless_type is_unsigned 27 (span_of i) c.ty) ++ update_faults (span_of v) (element_type (and_then a.ty array_in)) d.ty)
updating_keeps span context (e ∷ i ∷ v ∷ w ∷ es) = wrong_keeps span [] (all_alone context (e ∷ i ∷ v ∷ w ∷ es)) []

joining_keeps : (span : Span) (context : TypeEnv) (es : List ExprPair) → Keeps (joining span context es)
joining_keeps span context es = let js = map (token_typing context) es in settled_keeps span (when_all (types_of js) (Some ty.Token)) (faults_of_all js)

without_keeps : (span : Span) (context : TypeEnv) (as' : List ArgPair) (es : List ExprPair) (j : Judgement) → Keeps j → Keeps (without_parametric_args span context as' es j)
without_keeps span context [] es j k = k
without_keeps span context (a ∷ as') es j k = wrong_keeps span (given_parametric_args context (a ∷ as')) (all_alone context es) []

function_keeps : (span : Span) (context : TypeEnv) (name : Ident) (gs : List ParametricArgument) (es : List ExprPair) → Keeps (function_call span context name gs es (all_alone context es) (as_function (item_named name.name context.known.whole.items)))
function_keeps span context name gs es = by_function (as_function (item_named name.name context.known.whole.items))
  where
    js : List Judgement
    js = all_alone context es

    cyclic : List Fault
    cyclic = breaks_if (context.known.is_cyclic context.owner name.name) 3 span

    seen : Function → ParametricArgsSeen
    seen f = call_parametric_args context.known f gs (types_of js)

    by_count : (f : Function) (b : Bool) → Keeps (if b then right_call span context f gs es js cyclic (seen f) else wrong_call span gs js cyclic)
    by_count f false = wrong_keeps span gs js cyclic
    by_count f true =
        settled_keeps span (call_type context.known f (seen f) js)
        (((((call_parts_faults gs js ++ cyclic) ++ (seen f).faults) ++ (typing_there cyclic (seen f)).faults) ++ breaks_if (seen f).is_wrong 10 span)
        ++ (if (seen f).is_wrong then [] else operand_faults (signature_seen context.known f.name.name (seen f)).arguments es js))

    by_function : (o : Option Function) → Keeps (function_call span context name gs es js o)
    by_function None = settled_keeps span None (call_parts_faults gs js ++ breaks 1 name.span ∷ [])
    by_function (Some f) = by_count f (has_right_count f gs es)

pub call_limited : (kind : CallKind) (span : Span) (f : Ident) (as' : List ArgPair) (es : List ExprPair) → IsLimited (λ context. call_typing kind span f as' es false context)
call_limited Joins span f as' es context = without_keeps span context as' es (builtin_typing Joins span es context) (joining_keeps span context es)
call_limited CountsLeading span f as' es context = without_keeps span context as' es (builtin_typing CountsLeading span es context) (counting_keeps span es (all_alone context es) (first_operand_type (all_alone context es)))
call_limited CountsTrailing span f as' es context = without_keeps span context as' es (builtin_typing CountsTrailing span es context) (counting_keeps span es (all_alone context es) (first_operand_type (all_alone context es)))
call_limited Reverses span f as' es context = without_keeps span context as' es (builtin_typing Reverses span es context) (counting_keeps span es (all_alone context es) (first_operand_type (all_alone context es)))
call_limited AllOnes span f as' es context = without_keeps span context as' es (builtin_typing AllOnes span es context) (counting_keeps span es (all_alone context es) (Some bool_type))
call_limited SomeOne span f as' es context = without_keeps span context as' es (builtin_typing SomeOne span es context) (counting_keeps span es (all_alone context es) (Some bool_type))
call_limited Parity span f as' es context = without_keeps span context as' es (builtin_typing Parity span es context) (counting_keeps span es (all_alone context es) (Some bool_type))
call_limited Updates span f as' es context = without_keeps span context as' es (builtin_typing Updates span es context) (updating_keeps span context es)
call_limited Receives span f as' es context = λ faults t e. none_some t e
call_limited ReceivesIf span f as' es context = λ faults t e. none_some t e
call_limited Sends span f as' es context = λ faults t e. none_some t e
call_limited SendsIf span f as' es context = λ faults t e. none_some t e
call_limited Calls span f as' es context = function_keeps span context f (given_parametric_args context as') es
