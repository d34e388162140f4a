-- The rules of calls: of functions, builtins and effects.
use Rattle.std.specs.Prelude.{ℕ, List, [], ◌∷◌, ◌++◌, ◌==◌, ◌&&◌, ◌||◌, nat_lt, map, Bool, true, false, not, Option, Some, None, length, if◌then◌else◌}
use Rattle.std.specs.Str.{bytes_eq}
use Rattle.std.specs.List.{list_all}
use Rattle.xb_span.specs.declared.span.Span.{Span}
use Rattle.xb_span.specs.declared.fault.Fault.{Fault}
use Rattle.dslx_tree.specs.declared.ident.Ident.{Ident}
use Rattle.dslx_tree.specs.declared.block.Stmt.TheOpen.{Node-F, TypeNode-F}
use Rattle.dslx_tree.specs.declared.expr.Expr.{Expr, out-Expr}
use Rattle.dslx_tree.specs.declared.type_expr.TypeExpr.{TypeExpr, fold-TypeExpr}
use Rattle.dslx_tree.specs.declared.item.Function.{Function}
use Rattle.dslx_tree.specs.declared.item.Parametric.{Parametric}
use Rattle.dslx_tree.specs.declared.item.Field.{Field}
use Rattle.dslx_tree.specs.declared.process.Direction.{Direction}
use Rattle.dslx_tree.specs.declared.process.Direction.TheVariants.{In, Out}
use Rattle.dslx_meaning.specs.Lists.{and_then, with_both, is_in}
use Rattle.dslx_meaning.specs.Callees.{CallKind, Joins, Receives, ReceivesIf, Sends, SendsIf, CountsLeading, CountsTrailing, Reverses, Updates, Calls}
use Rattle.dslx_meaning.specs.Types.{same_type, bool_type, is_token_type, holds_token, received}
use Rattle.dslx_meaning.specs.Values.{type_of_value}
use Rattle.dslx_meaning.specs.Operators.{number_value}
use Rattle.dslx_meaning.specs.Inference.{Inferred, inferred_in, Naming, Nil}
use Rattle.dslx_meaning.specs.Items.{item_named, as_function}
use Rattle.dslx_meaning.specs.declared.ty.DslxType.{DslxType}
use Rattle.dslx_meaning.specs.declared.ty.DslxType as ty
use Rattle.dslx_meaning.specs.declared.value.DslxValue.{DslxValue}
use Rattle.dslx_meaning.specs.Rules.TypeEnvs.{GlobalEnv, Signature, Instance, ChannelEnd, TypeEnv, Judgement, ExprPair, breaks, breaks_if, settled, has_broken, span_of, name_of_expr, within, alone, all_alone, faults_of_all, reached_of_all, size_of_all, types_of, plus_size, one_and, typed_in}
use Rattle.dslx_meaning.specs.Rules.Typings.{ArgPair}
use Rattle.dslx_meaning.specs.Rules.ConstantRules.{ConstantSeen, constant_of, is_unsigned}
use Rattle.dslx_meaning.specs.Rules.PatternRules.{is_there}
use Rattle.dslx_meaning.specs.Rules.TypeRules.{unless_unit}
use Rattle.dslx_meaning.specs.Rules.OperatorRules.{unless_type, is_bits, is_bool}
use Rattle.dslx_meaning.specs.Rules.AggregateRules.{wanted_faults, is_array, array_in, element_type, untyped_value, when_all}
use Rattle.dslx_meaning.specs.Rules.RuleNumbers as rule

-- ---- parametrics

-- which names a written type may infer
abbrev pub NameList : Type 0
NameList = List (List ℕ)

abbrev pub name_listed : Naming → NameList
name_listed None = []
name_listed (Some name) = name ∷ []

abbrev pub all_listed : List NameList → NameList
all_listed [] = []
all_listed (ns ∷ nss) = ns ++ all_listed nss

abbrev pub inferable_node : TypeNode-F Nil Naming Nil NameList Nil Nil Nil Nil Naming Nil Nil Nil Nil NameList → NameList
inferable_node (TypeNode-F.Bits s w) = []
inferable_node (TypeNode-F.Wide s e) = name_listed e
inferable_node TypeNode-F.TypeNode::Bool = []
inferable_node (TypeNode-F.TypeNode::Name name) = []
inferable_node (TypeNode-F.TypeNode::Tuple nss) = all_listed nss
inferable_node (TypeNode-F.TypeNode::Array ns e) = ns ++ name_listed e

abbrev pub naming_of : Node-F Nil Naming Nil NameList Nil Nil Nil Nil Naming Nil Nil Nil Nil NameList → Naming
naming_of (Node-F.Node::Name name) = Some name
naming_of _ = None

abbrev pub inferable_in : TypeExpr → NameList
inferable_in = fold-TypeExpr Nil Naming Nil NameList Nil Nil Nil Nil Naming Nil Nil Nil Nil NameList
    (λ s. tt) naming_of (λ p. tt) inferable_node (λ b. tt) (λ l. tt) (λ a. tt) (λ a. tt) (λ e. e.node) (λ f. tt) (λ f. tt) (λ n. tt) (λ p. tt) (λ t. t.node)

-- what operands of these types infer, and what one without a type might have inferred
abbrev pub inferred_by : List Field → List (Option DslxType) → List Inferred
inferred_by [] ts = []
inferred_by (f ∷ fs) [] = []
inferred_by (f ∷ fs) (None ∷ ts) = inferred_by fs ts
inferred_by (f ∷ fs) (Some t ∷ ts) = inferred_in f.ty t ++ inferred_by fs ts

abbrev pub maybe_inferred : List Field → List (Option DslxType) → List (List ℕ)
maybe_inferred [] ts = []
maybe_inferred (f ∷ fs) [] = []
maybe_inferred (f ∷ fs) (None ∷ ts) = inferable_in f.ty ++ maybe_inferred fs ts
maybe_inferred (f ∷ fs) (Some t ∷ ts) = maybe_inferred fs ts

-- all numbers that are inferred for a name
abbrev pub parametric_args_for : List ℕ → List Inferred → List ℕ
parametric_args_for name [] = []
parametric_args_for name (i ∷ is) = if bytes_eq name i.name then i.number ∷ parametric_args_for name is else parametric_args_for name is

-- a parametric argument that is written
pub record ParametricArgument : Type 0 where
  pub span : Span
  pub seen : ConstantSeen

-- the value of a parametric: known, unknown, or wrong, which rule 10 refuses
pub data Resolved : Type 0 where
  Number : DslxValue → Resolved
  Unknown : Resolved
  Wrong : Resolved

abbrev pub resolved_value : Option DslxValue → Resolved
resolved_value None = Unknown
resolved_value (Some v) = Number v

-- a number that is inferred lies in the parametric's type
abbrev pub in_type : Option DslxType → ℕ → Resolved
in_type None n = Unknown
in_type (Some t) n = if is_there (number_value t (record { is_negative = false; value = n })) then resolved_value (untyped_value t (record { is_negative = false; value = n })) else Wrong

abbrev pub of_type : Option DslxType → Option DslxValue → Option DslxValue
of_type t v = with_both t v (λ t v. if same_type t (type_of_value v) then Some v else None)

-- the parametrics before one, the last one first: their values, and whether all are known
pub record Before : Type 0 where
  pub values : List (Option DslxValue)
  pub are_known : Bool

-- where all have values
abbrev pub known_before : List (Option DslxValue) → Before
known_before values = record { values = values; are_known = true }

abbrev pub and_parametric : Before → Resolved → Before
and_parametric before (Number v) = record before { values = Some v ∷ before.values }
and_parametric before Unknown = record { values = None ∷ before.values; are_known = false }
and_parametric before Wrong = record { values = None ∷ before.values; are_known = false }

-- the type that is declared for the parametric behind these, where () is none
abbrev pub parametric_type : GlobalEnv → List ℕ → Before → Option DslxType
parametric_type known owner before = unless_unit (known.parameter_in owner before.values).ty

-- the typing of another declaration: what it breaks and passes there, and the instances that it reaches
pub record JudgedThere : Type 0 where
  pub faults : List Fault
  pub reached : List Instance

abbrev pub nothing_there : JudgedThere
nothing_there = record { faults = []; reached = [] }

abbrev pub and_there : JudgedThere → JudgedThere → JudgedThere
and_there a b = record { faults = a.faults ++ b.faults; reached = a.reached ++ b.reached }

-- the typing of a parametric's type at a call, up to the first parametric without a value
abbrev pub type_there : GlobalEnv → List ℕ → Before → JudgedThere
type_there known owner before =
    if before.are_known
    then record { faults = (known.parameter_in owner before.values).faults; reached = (known.parameter_in owner before.values).reached }
    else nothing_there

-- a parametric that isn't given, with the typing of its default where that is used
pub record NotGiven : Type 0 where
  pub value : Resolved
  pub typing : JudgedThere

abbrev pub without_default : Resolved → NotGiven
without_default r = record { value = r; typing = nothing_there }

abbrev pub default_there : GlobalEnv → List ℕ → List (Option DslxValue) → Option DslxType → Expr → NotGiven
default_there known owner values t e =
    let default = known.default_in owner values in
    record {
      value = resolved_value (of_type t default.value);
      typing = record { faults = default.judgement.faults ++ wanted_faults (out-Expr e).span t default.judgement.ty; reached = default.judgement.reached };
    }

-- behind a parametric without a value no default is looked at
abbrev pub default_value : GlobalEnv → List ℕ → Before → Option DslxType → Option Expr → NotGiven
default_value known owner before t None = without_default Wrong
default_value known owner before t (Some e) = if before.are_known then default_there known owner before.values t e else without_default Unknown

-- inferred, if that is one number, or else the default. Where an operand without a type might give it, nothing is known of it
abbrev pub not_given : GlobalEnv → List ℕ → Before → Parametric → Option DslxType → Bool → List ℕ → NotGiven
not_given known owner before p t true ns = without_default Unknown
not_given known owner before p t false [] = default_value known owner before t p.default
not_given known owner before p t false (n ∷ ns) = without_default (if list_all (λ k. k == n) ns then in_type t n else Wrong)

-- the parametrics of a call or a spawn: the values where all are known, those that are, whether rule 10 is broken, rule 9
-- at what is given, and the typing of the other declaration
pub record ParametricArgsSeen : Type 0 where
  pub values : Option (List DslxValue)
  pub bound : Before
  pub is_wrong : Bool
  pub faults : List Fault
  pub declared : JudgedThere

abbrev pub value_before : Resolved → Option (List DslxValue) → Option (List DslxValue)
value_before (Number v) (Some vs) = Some (v ∷ vs)
value_before _ _ = None

abbrev pub is_wrong_parametric : Resolved → Bool
is_wrong_parametric Wrong = true
is_wrong_parametric _ = false

abbrev pub number_before : Resolved → List Fault → JudgedThere → ParametricArgsSeen → ParametricArgsSeen
number_before r faults declared rest = record {
  values = value_before r rest.values;
  bound = rest.bound;
  is_wrong = is_wrong_parametric r || rest.is_wrong;
  faults = faults ++ rest.faults;
  declared = and_there declared rest.declared;
}

abbrev pub parametric_args_seen : GlobalEnv → List ℕ → List Inferred → List (List ℕ) → Before → List Parametric → List ParametricArgument → ParametricArgsSeen
parametric_args_seen known owner inferred maybe before [] [] = record { values = Some []; bound = before; is_wrong = false; faults = []; declared = nothing_there }
parametric_args_seen known owner inferred maybe before [] (g ∷ gs) = record { values = None; bound = before; is_wrong = true; faults = []; declared = nothing_there }
parametric_args_seen known owner inferred maybe before (p ∷ ps) (g ∷ gs) =
    let t = parametric_type known owner before in
    let r = resolved_value (of_type t g.seen.value) in
    number_before r (wanted_faults g.span t g.seen.judgement.ty) (type_there known owner before)
    (parametric_args_seen known owner inferred maybe (and_parametric before r) ps gs)
parametric_args_seen known owner inferred maybe before (p ∷ ps) [] =
    let r = not_given known owner before p (parametric_type known owner before) (is_in p.name.name maybe) (parametric_args_for p.name.name inferred) in
    number_before r.value [] (and_there (type_there known owner before) r.typing)
    (parametric_args_seen known owner inferred maybe (and_parametric before r.value) ps [])

-- a call or a spawn that breaks rule 3 or 10 types nothing of the other declaration, and reaches no instance of it
abbrev pub is_refused : List Fault → ParametricArgsSeen → Bool
is_refused cyclic parametric_args = has_broken cyclic || parametric_args.is_wrong

abbrev pub typing_there : List Fault → ParametricArgsSeen → JudgedThere
typing_there cyclic parametric_args = if is_refused cyclic parametric_args then nothing_there else parametric_args.declared

abbrev pub given_parametric_args : TypeEnv → List ArgPair → List ParametricArgument
given_parametric_args context as' = map (λ (a : ArgPair). record { span = span_of a.1; seen = constant_of context a.1 }) as'

abbrev pub given_judgements : List ParametricArgument → List Judgement
given_judgements gs = map (λ (g : ParametricArgument). g.seen.judgement) gs

-- ---- calls of functions

-- rule 9 at the operands
abbrev pub operand_faults : List (Option DslxType) → List ExprPair → List Judgement → List Fault
operand_faults (t ∷ ts) (e ∷ es) (j ∷ js) = wanted_faults (span_of e) t j.ty ++ operand_faults ts es js
operand_faults _ _ _ = []

-- the signature of a function or a proc by the parametrics of a call or a spawn
abbrev pub signature_seen : GlobalEnv → List ℕ → ParametricArgsSeen → Signature
signature_seen known owner parametric_args = known.signature_in owner parametric_args.bound.values

-- the type of a call's result: where all parametrics are known, and each operand has a type
abbrev pub call_type : GlobalEnv → Function → ParametricArgsSeen → List Judgement → Option DslxType
call_type known f parametric_args js = and_then parametric_args.values (λ vs. when_all (types_of js) (signature_seen known f.name.name parametric_args).result)

abbrev pub reached_by : Bool → List ℕ → Option (List DslxValue) → List Instance
reached_by true name parametric_args = []
reached_by false name None = []
reached_by false name (Some vs) = record { name = name; parametric_args = vs } ∷ []

abbrev pub callee_size : GlobalEnv → List ℕ → Option (List DslxValue) → Option ℕ
callee_size known name None = None
callee_size known name (Some vs) = known.body_size (record { name = name; parametric_args = vs })

abbrev pub call_parts_faults : List ParametricArgument → List Judgement → List Fault
call_parts_faults given js = faults_of_all (given_judgements given) ++ faults_of_all js

abbrev pub call_parts_reached : List ParametricArgument → List Judgement → List Instance
call_parts_reached given js = reached_of_all (given_judgements given) ++ reached_of_all js

-- rule 10: another number of arguments
abbrev pub wrong_call : Span → List ParametricArgument → List Judgement → List Fault → Judgement
wrong_call span given js more =
    settled span None (call_parts_faults given js ++ breaks rule.ARGUMENTS_FIT span ∷ more) (call_parts_reached given js) None

abbrev pub right_call : Span → TypeEnv → Function → List ParametricArgument → List ExprPair → List Judgement → List Fault → ParametricArgsSeen → Judgement
right_call span context f given es js cyclic parametric_args =
    let declared = typing_there cyclic parametric_args in
    settled span (call_type context.known f parametric_args js)
    (call_parts_faults given js ++ cyclic ++ parametric_args.faults ++ declared.faults ++ breaks_if parametric_args.is_wrong rule.ARGUMENTS_FIT span
    ++ (if parametric_args.is_wrong then [] else operand_faults (signature_seen context.known f.name.name parametric_args).arguments es js))
    (call_parts_reached given js ++ declared.reached ++ reached_by (is_refused cyclic parametric_args) f.name.name parametric_args.values)
    (one_and (plus_size (size_of_all js) (callee_size context.known f.name.name parametric_args.values)))

-- operands of these types infer parametrics
abbrev pub call_parametric_args : GlobalEnv → Function → List ParametricArgument → List (Option DslxType) → ParametricArgsSeen
call_parametric_args known f given types = parametric_args_seen known f.name.name (inferred_by f.arguments types) (maybe_inferred f.arguments types) (known_before []) f.parametrics given

abbrev pub has_right_count : Function → List ParametricArgument → List ExprPair → Bool
has_right_count f given es = length es == length f.arguments && not (nat_lt (length f.parametrics) (length given))

abbrev pub function_call : Span → TypeEnv → Ident → List ParametricArgument → List ExprPair → List Judgement → Option Function → Judgement
function_call span context name given es js None = settled span None (call_parts_faults given js ++ breaks rule.NAME_IS_DECLARED name.span ∷ []) (call_parts_reached given js) None
function_call span context name given es js (Some f) =
    let cyclic = breaks_if (context.known.is_cyclic context.owner name.name) rule.NO_ITEM_REACHES_ITSELF span in
    if has_right_count f given es then
    right_call span context f given es js cyclic (call_parametric_args context.known f given (types_of js))
    else wrong_call span given js cyclic

-- ---- builtins

abbrev pub counting : Span → List ExprPair → List Judgement → Option DslxType → Judgement
counting span (e ∷ []) (j ∷ []) result = settled span (and_then j.ty (λ t. result)) (j.faults ++ unless_type is_bits rule.BUILTIN_OPERANDS (span_of e) j.ty) j.reached (one_and j.size)
counting span es js result = wrong_call span [] js []

abbrev pub first_operand_type : List Judgement → Option DslxType
first_operand_type [] = None
first_operand_type (j ∷ js) = j.ty

-- a value of another type than the array's elements
abbrev pub update_faults : Span → Option DslxType → Option DslxType → List Fault
update_faults span (Some t) (Some u) = breaks_if (not (same_type t u)) rule.BUILTIN_OPERANDS span
update_faults span _ _ = []

abbrev pub updating : Span → List ExprPair → List Judgement → Judgement
updating span (e ∷ i ∷ v ∷ []) (a ∷ k ∷ w ∷ []) =
    settled span (and_then k.ty (λ t. and_then w.ty (λ u. a.ty)))
    (a.faults ++ k.faults ++ w.faults ++ unless_type is_array rule.BUILTIN_OPERANDS (span_of e) a.ty ++ unless_type is_unsigned rule.BUILTIN_OPERANDS (span_of i) k.ty
    ++ update_faults (span_of v) (element_type (and_then a.ty array_in)) w.ty)
    (a.reached ++ k.reached ++ w.reached) (one_and (plus_size a.size (plus_size k.size w.size)))
updating span es js = wrong_call span [] js []

-- ---- tokens and effects

-- a receive's pair doesn't stand where a token may
abbrev pub held_faults : Span → Option DslxType → List Fault
held_faults span None = []
held_faults span (Some t) = breaks_if (holds_token t && not (is_token_type t)) rule.EFFECT_STANDS_ALONE span

-- where a token has to stand
abbrev pub token_faults : Span → Option DslxType → List Fault
token_faults span None = []
token_faults span (Some t) = held_faults span (Some t) ++ breaks_if (not (holds_token t)) rule.VALUE_HAS_ITS_TYPE span

abbrev pub token_typing : TypeEnv → ExprPair → Judgement
token_typing context e = let j = within context e in record j { faults = j.faults ++ token_faults (span_of e) j.ty }

abbrev pub held_typing : TypeEnv → ExprPair → Judgement
held_typing context e = let j = within context e in record j { faults = j.faults ++ held_faults (span_of e) j.ty }

abbrev pub joining : Span → TypeEnv → List ExprPair → Judgement
joining span context es =
    let js = map (token_typing context) es in
    settled span (when_all (types_of js) (Some ty.Token)) (faults_of_all js) (reached_of_all js) (one_and (size_of_all js))

abbrev pub channel_end_in : List ℕ → List ChannelEnd → Option ChannelEnd
channel_end_in name [] = None
channel_end_in name (o ∷ os) = if bytes_eq name o.name then Some o else channel_end_in name os

-- the end that a name stands for: a member's, unless a bound name hides it
abbrev pub channel_end_if : Option (Option DslxType) → Option ChannelEnd → Option ChannelEnd
channel_end_if None channel_end = channel_end
channel_end_if (Some ty) channel_end = None

abbrev pub channel_end_at : TypeEnv → List ℕ → Option ChannelEnd
channel_end_at context name = channel_end_if (typed_in name context.locals) (channel_end_in name context.members)

-- an effect's channel: the end, if it is one, and its name
pub record ChannelSeen : Type 0 where
  pub judgement : Judgement
  pub channel_end : Option ChannelEnd
  pub name : Option (List ℕ)

abbrev pub named_channel : Span → List ℕ → Option ChannelEnd → Judgement
named_channel span name None = record { ty = None; faults = breaks rule.NAME_IS_DECLARED span ∷ []; reached = []; size = Some 1 }
named_channel span name (Some channel_end) = record { ty = None; faults = []; reached = []; size = Some 1 }

abbrev pub channel_named : TypeEnv → ExprPair → Option (List ℕ) → ChannelSeen
channel_named context e None = record { judgement = alone context e; channel_end = None; name = None }
channel_named context e (Some name) = record { judgement = named_channel (span_of e) name (channel_end_at context name); channel_end = channel_end_at context name; name = Some name }

abbrev pub channel_seen : TypeEnv → ExprPair → ChannelSeen
channel_seen context e = channel_named context e (name_of_expr e)

abbrev pub same_direction : Direction → Direction → Bool
same_direction In In = true
same_direction Out Out = true
same_direction In Out = false
same_direction Out In = false

abbrev pub goes_there : Direction → Option ChannelEnd → Bool
goes_there direction None = false
goes_there direction (Some o) = same_direction direction o.direction

abbrev pub has_site : TypeEnv → Option (List ℕ) → Bool
has_site context None = false
has_site context (Some name) = is_in name context.used

-- rule 29: no member, of the other direction, or with a site before
abbrev pub site_faults : Span → TypeEnv → Direction → ChannelSeen → List Fault
site_faults span context direction c = breaks_if (not (goes_there direction c.channel_end) || has_site context c.name) rule.EFFECT_ON_FREE_MEMBER span

abbrev pub word_of : ChannelSeen → Option DslxType
word_of c = and_then c.channel_end (λ (o : ChannelEnd). o.word)

-- an effect of these arguments: a token, a channel, and others, with their faults
abbrev pub effect_with : Span → TypeEnv → Direction → Judgement → ChannelSeen → List Judgement → List Fault → Option DslxType → Judgement
effect_with span context direction t c others more given =
    settled span (and_then t.ty (λ u. when_all (types_of others) given))
    (t.faults ++ c.judgement.faults ++ faults_of_all others ++ more ++ site_faults span context direction c)
    (t.reached ++ c.judgement.reached ++ reached_of_all others)
    (one_and (plus_size t.size (plus_size c.judgement.size (size_of_all others))))

-- another number of arguments than the effect's, or parametric arguments
abbrev pub wrong_effect : Span → TypeEnv → List ParametricArgument → List ExprPair → Judgement
wrong_effect span context given [] = wrong_call span given [] []
wrong_effect span context given (t ∷ []) = wrong_call span given (held_typing context t ∷ []) []
wrong_effect span context given (t ∷ c ∷ es) = wrong_call span given (held_typing context t ∷ (channel_seen context c).judgement ∷ all_alone context es) []

abbrev pub receiving : Span → TypeEnv → List ExprPair → Judgement
receiving span context (t ∷ c ∷ []) =
    let channel = channel_seen context c in
    effect_with span context In (token_typing context t) channel [] [] (and_then (word_of channel) (λ w. Some (received w)))
receiving span context es = wrong_effect span context [] es

abbrev pub receiving_if : Span → TypeEnv → List ExprPair → Judgement
receiving_if span context (t ∷ c ∷ p ∷ e ∷ []) =
    let channel = channel_seen context c in
    let condition = alone context p in
    let default = alone context e in
    effect_with span context In (token_typing context t) channel (condition ∷ default ∷ [])
    (unless_type is_bool rule.CONDITION_IS_BOOL (span_of p) condition.ty ++ wanted_faults (span_of e) (word_of channel) default.ty)
    (and_then (word_of channel) (λ w. Some (received w)))
receiving_if span context es = wrong_effect span context [] es

abbrev pub sending : Span → TypeEnv → List ExprPair → Judgement
sending span context (t ∷ c ∷ e ∷ []) =
    let channel = channel_seen context c in
    let word = alone context e in
    effect_with span context Out (token_typing context t) channel (word ∷ []) (wanted_faults (span_of e) (word_of channel) word.ty)
    (and_then (word_of channel) (λ w. Some ty.Token))
sending span context es = wrong_effect span context [] es

abbrev pub sending_if : Span → TypeEnv → List ExprPair → Judgement
sending_if span context (t ∷ c ∷ p ∷ e ∷ []) =
    let channel = channel_seen context c in
    let condition = alone context p in
    let word = alone context e in
    effect_with span context Out (token_typing context t) channel (condition ∷ word ∷ [])
    (unless_type is_bool rule.CONDITION_IS_BOOL (span_of p) condition.ty ++ wanted_faults (span_of e) (word_of channel) word.ty)
    (and_then (word_of channel) (λ w. Some ty.Token))
sending_if span context es = wrong_effect span context [] es

-- rule 28: an effect stands at the top of `next` alone
abbrev pub only_on_top : Bool → Span → Judgement → Judgement
only_on_top true span j = j
only_on_top false span j = record { ty = None; faults = j.faults ++ breaks rule.EFFECT_STANDS_ALONE span ∷ []; reached = j.reached; size = j.size }

-- ---- any call

-- rule 10: a builtin has no parametric arguments
abbrev pub without_parametric_args : Span → TypeEnv → List ArgPair → List ExprPair → Judgement → Judgement
without_parametric_args span context [] es j = j
without_parametric_args span context (n ∷ ns) es j = wrong_call span (given_parametric_args context (n ∷ ns)) (all_alone context es) []

abbrev pub builtin_typing : CallKind → Span → List ExprPair → TypeEnv → Judgement
builtin_typing Joins span es context = joining span context es
builtin_typing CountsLeading span es context = let js = all_alone context es in counting span es js (first_operand_type js)
builtin_typing CountsTrailing span es context = let js = all_alone context es in counting span es js (first_operand_type js)
builtin_typing Reverses span es context = let js = all_alone context es in counting span es js (first_operand_type js)
builtin_typing Updates span es context = updating span es (all_alone context es)
builtin_typing _ span es context = counting span es (all_alone context es) (Some bool_type)

-- nor has an effect
abbrev pub unnumbered_effect : Span → TypeEnv → List ArgPair → List ExprPair → Judgement → Judgement
unnumbered_effect span context [] es j = j
unnumbered_effect span context (n ∷ ns) es j = wrong_effect span context (given_parametric_args context (n ∷ ns)) es

abbrev pub call_typing : CallKind → Span → Ident → List ArgPair → List ExprPair → Bool → TypeEnv → Judgement
call_typing Receives span name parametric_args es on_top context = only_on_top on_top span (unnumbered_effect span context parametric_args es (receiving span context es))
call_typing ReceivesIf span name parametric_args es on_top context = only_on_top on_top span (unnumbered_effect span context parametric_args es (receiving_if span context es))
call_typing Sends span name parametric_args es on_top context = only_on_top on_top span (unnumbered_effect span context parametric_args es (sending span context es))
call_typing SendsIf span name parametric_args es on_top context = only_on_top on_top span (unnumbered_effect span context parametric_args es (sending_if span context es))
call_typing Calls span name parametric_args es on_top context =
    function_call span context name (given_parametric_args context parametric_args) es (all_alone context es) (as_function (item_named name.name context.known.whole.items))
call_typing kind span name parametric_args es on_top context = without_parametric_args span context parametric_args es (builtin_typing kind span es context)
