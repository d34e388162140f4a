-- What calls reach.
use Rattle.std.proofs.Common.{◌≡◌, ◌++◌, ℕ, Bool, true, false, if◌then◌else◌, List, [], ◌∷◌, map, Option, Some, None, refl}
use Rattle.xb_span.specs.declared.span.Span.{Span}
use Rattle.xb_span.specs.declared.fault.Fault.{Fault}
use Rattle.dslx_tree.specs.declared.expr.Expr.{Expr}
use Rattle.dslx_tree.specs.declared.ident.Ident.{Ident}
use Rattle.dslx_tree.specs.declared.item.Function.{Function}
use Rattle.dslx_tree.specs.declared.item.Parametric.{Parametric}
use Rattle.dslx_meaning.specs.Callees.{AllOnes, CallKind, Calls, CountsLeading, CountsTrailing, Joins, Parity, Receives, ReceivesIf, Reverses, Sends, SendsIf, SomeOne, Updates}
use Rattle.dslx_meaning.specs.Inference.{Inferred}
use Rattle.dslx_meaning.specs.Items.{as_function, item_named}
use Rattle.dslx_meaning.specs.Lists.{is_in}
use Rattle.dslx_meaning.specs.Types.{bool_type}
use Rattle.dslx_meaning.specs.declared.ty.DslxType.{DslxType}
use Rattle.dslx_meaning.specs.declared.value.DslxValue.{DslxValue}
use Rattle.dslx_meaning.specs.Rules.CallRules.{Before, ParametricArgument, ParametricArgsSeen, Unknown, and_parametric, builtin_typing, call_typing, call_parametric_args, call_parts_reached, channel_named, channel_seen, counting, parametric_type, default_there, default_value, first_operand_type, function_call, given_judgements, given_parametric_args, has_right_count, held_typing, inferred_by, is_refused, typing_there, known_before, maybe_inferred, named_channel, not_given, nothing_there, parametric_args_for, parametric_args_seen, of_type, only_on_top, channel_end_at, reached_by, receiving, receiving_if, resolved_value, right_call, sending, sending_if, token_typing, type_there, unnumbered_effect, updating, without_default, without_parametric_args, wrong_call, wrong_effect}
use Rattle.dslx_meaning.specs.Rules.TypeEnvs.{ExprPair, Judgement, GlobalEnv, ChannelEnd, TypeEnv, all_alone, alone, breaks_if, name_of_expr, reached_of_all, span_of, types_of, within}
use Rattle.dslx_meaning.specs.Rules.Typings.{ArgPair}
use Rattle.dslx_core.specs.Typing.TypingRelations.Reached.{AllNamed, DeclarationReaches, InstancesReach}
use Rattle.dslx_core.proofs.OnTyping.OnTyping.Parts.{join, join_three, unmarked}

-- ---- parametrics

default_reaches : (P : List ℕ → Bool) (known : GlobalEnv) (owner : List ℕ) (before : Before) (t : Option DslxType) → DeclarationReaches P known owner → (o : Option Expr) → AllNamed P (default_value known owner before t o).typing.reached
default_reaches P known owner before t h None = tt
default_reaches P known owner before t h (Some e) = by_known before.are_known
  where
    by_known : (b : Bool) → AllNamed P (if b then default_there known owner before.values t e else without_default Unknown).typing.reached
    by_known true = h.default before.values
    by_known false = tt

not_given_reaches : (P : List ℕ → Bool) (known : GlobalEnv) (owner : List ℕ) (before : Before) (p : Parametric) → DeclarationReaches P known owner → (t : Option DslxType) (maybe : Bool) (ns : List ℕ)
    → AllNamed P (not_given known owner before p t maybe ns).typing.reached
not_given_reaches P known owner before p h t true ns = tt
not_given_reaches P known owner before p h t false [] = default_reaches P known owner before t h p.default
not_given_reaches P known owner before p h t false (n ∷ ns) = tt

type_reaches : (P : List ℕ → Bool) (known : GlobalEnv) (owner : List ℕ) (before : Before) → DeclarationReaches P known owner → AllNamed P (type_there known owner before).reached
type_reaches P known owner before h = by_known before.are_known
  where
    by_known : (b : Bool) → AllNamed P (if b then record { faults = (known.parameter_in owner before.values).faults; reached = (known.parameter_in owner before.values).reached } else nothing_there).reached
    by_known true = h.ty before.values
    by_known false = tt

pub parametric_args_reach : (P : List ℕ → Bool) (known : GlobalEnv) (owner : List ℕ) (inferred : List Inferred) (maybe : List (List ℕ)) (before : Before) (ps : List Parametric) (gs : List ParametricArgument)
    → DeclarationReaches P known owner → AllNamed P (parametric_args_seen known owner inferred maybe before ps gs).declared.reached
parametric_args_reach P known owner inferred maybe before [] [] h = tt
parametric_args_reach P known owner inferred maybe before [] (g ∷ gs) h = tt
parametric_args_reach P known owner inferred maybe before (p ∷ ps) (g ∷ gs) h =
    let r = resolved_value (of_type (parametric_type known owner before) g.seen.value) in
    let rest = parametric_args_seen known owner inferred maybe (and_parametric before r) ps gs in
    join P (type_there known owner before).reached rest.declared.reached (type_reaches P known owner before h) (parametric_args_reach P known owner inferred maybe (and_parametric before r) ps gs h)
parametric_args_reach P known owner inferred maybe before (p ∷ ps) [] h =
    let t = parametric_type known owner before in
    let r = not_given known owner before p t (is_in p.name.name maybe) (parametric_args_for p.name.name inferred) in
    let rest = parametric_args_seen known owner inferred maybe (and_parametric before r.value) ps [] in
    join_three P (type_there known owner before).reached r.typing.reached rest.declared.reached (type_reaches P known owner before h)
    (not_given_reaches P known owner before p h t (is_in p.name.name maybe) (parametric_args_for p.name.name inferred))
    (parametric_args_reach P known owner inferred maybe (and_parametric before r.value) ps [] h)

-- so does what is judged where the call isn't refused
pub typing_reaches : (P : List ℕ → Bool) (known : GlobalEnv) (owner : List ℕ) (inferred : List Inferred) (maybe : List (List ℕ)) (ps : List Parametric) (gs : List ParametricArgument) (cyclic : List Fault)
    → DeclarationReaches P known owner → AllNamed P (typing_there cyclic (parametric_args_seen known owner inferred maybe (known_before []) ps gs)).reached
typing_reaches P known owner inferred maybe ps gs cyclic h = by_refusal (is_refused cyclic seen)
  where
    seen : ParametricArgsSeen
    seen = parametric_args_seen known owner inferred maybe (known_before []) ps gs

    by_refusal : (b : Bool) → AllNamed P (if b then nothing_there else seen.declared).reached
    by_refusal true = tt
    by_refusal false = parametric_args_reach P known owner inferred maybe (known_before []) ps gs h

-- ---- calls of functions

pub instance_reached : (P : List ℕ → Bool) (b : Bool) (name : List ℕ) (o : Option (List DslxValue)) → P name ≡ true → AllNamed P (reached_by b name o)
instance_reached P true name o h = tt
instance_reached P false name None h = tt
instance_reached P false name (Some vs) h = (h, tt)

-- a function of the text, where rule 3 doesn't refuse its call
abbrev pub CalleeReaches : (List ℕ → Bool) → TypeEnv → List ℕ → Type 0
CalleeReaches P context name = context.known.is_cyclic context.owner name ≡ false → (f : Function) → as_function (item_named name context.known.whole.items) ≡ Some f → InstancesReach P context.known f.name.name

pub function_reaches : (P : List ℕ → Bool) (span : Span) (context : TypeEnv) (name : Ident) (gs : List ParametricArgument) (es : List ExprPair) (js : List Judgement) → AllNamed P (call_parts_reached gs js) → CalleeReaches P context name.name
    → AllNamed P (function_call span context name gs es js (as_function (item_named name.name context.known.whole.items))).reached
function_reaches P span context name gs es js h k = by_function (as_function (item_named name.name context.known.whole.items)) refl
  where
    seen : Function → ParametricArgsSeen
    seen f = call_parametric_args context.known f gs (types_of js)

    by_cycle : (f : Function) → as_function (item_named name.name context.known.whole.items) ≡ Some f → (c : Bool) → context.known.is_cyclic context.owner name.name ≡ c
        → AllNamed P (right_call span context f gs es js (breaks_if c 3 span) (seen f)).reached
    by_cycle f q true e = join_three P (call_parts_reached gs js) [] [] h tt tt
    by_cycle f q false e =
        let r = k e f q in
        join_three P (call_parts_reached gs js) (typing_there [] (seen f)).reached (reached_by (is_refused [] (seen f)) f.name.name (seen f).values) h
        (typing_reaches P context.known f.name.name (inferred_by f.arguments (types_of js)) (maybe_inferred f.arguments (types_of js)) f.parametrics gs [] r.declared)
        (instance_reached P (is_refused [] (seen f)) f.name.name (seen f).values r.own)

    by_count : (f : Function) → as_function (item_named name.name context.known.whole.items) ≡ Some f → (b : Bool)
        → AllNamed P (if b then right_call span context f gs es js (breaks_if (context.known.is_cyclic context.owner name.name) 3 span) (seen f) else wrong_call span gs js (breaks_if (context.known.is_cyclic context.owner name.name) 3 span)).reached
    by_count f q false = h
    by_count f q true = by_cycle f q (context.known.is_cyclic context.owner name.name) refl

    by_function : (o : Option Function) → as_function (item_named name.name context.known.whole.items) ≡ o → AllNamed P (function_call span context name gs es js o).reached
    by_function None q = h
    by_function (Some f) q = by_count f q (has_right_count f gs es)

-- ---- operands

-- each operand, wherever it stands
abbrev pub EachReaches : (List ℕ → Bool) → TypeEnv → List ExprPair → Type 0
EachReaches P context [] = Unit {0}
EachReaches P context (e ∷ es) = AllNamed P (e.1 false context).reached × EachReaches P context es

pub alone_reach : (P : List ℕ → Bool) (context : TypeEnv) (es : List ExprPair) → EachReaches P context es → AllNamed P (reached_of_all (all_alone context es))
alone_reach P context [] h = tt
alone_reach P context (e ∷ es) h = join P (alone context e).reached (reached_of_all (all_alone context es)) (unmarked P (span_of e) (within context e) h.0) (alone_reach P context es h.1)

pub given_reach : (P : List ℕ → Bool) (context : TypeEnv) (as' : List ArgPair) → EachReaches P context (map (λ (a : ArgPair). a.1) as') → AllNamed P (reached_of_all (given_judgements (given_parametric_args context as')))
given_reach P context [] h = tt
given_reach P context (a ∷ as') h =
    join P (alone context a.1).reached (reached_of_all (given_judgements (given_parametric_args context as'))) (unmarked P (span_of a.1) (within context a.1) h.0) (given_reach P context as' h.1)

-- ---- builtins

token_reach : (P : List ℕ → Bool) (context : TypeEnv) (es : List ExprPair) → EachReaches P context es → AllNamed P (reached_of_all (map (token_typing context) es))
token_reach P context [] h = tt
token_reach P context (e ∷ es) h = join P (token_typing context e).reached (reached_of_all (map (token_typing context) es)) h.0 (token_reach P context es h.1)

counting_reaches : (P : List ℕ → Bool) (span : Span) (context : TypeEnv) (es : List ExprPair) (t : Option DslxType) → EachReaches P context es → AllNamed P (counting span es (all_alone context es) t).reached
counting_reaches P span context [] t h = tt
counting_reaches P span context (e ∷ []) t h = unmarked P (span_of e) (within context e) h.0
counting_reaches P span context (e ∷ a ∷ es) t h = alone_reach P context (e ∷ a ∷ es) h

updating_reaches : (P : List ℕ → Bool) (span : Span) (context : TypeEnv) (es : List ExprPair) → EachReaches P context es → AllNamed P (updating span es (all_alone context es)).reached
updating_reaches P span context [] h = tt
updating_reaches P span context (a ∷ []) h = alone_reach P context (a ∷ []) h
updating_reaches P span context (a ∷ k ∷ []) h = alone_reach P context (a ∷ k ∷ []) h
updating_reaches P span context (a ∷ k ∷ w ∷ []) h =
    join_three P (alone context a).reached (alone context k).reached (alone context w).reached (unmarked P (span_of a) (within context a) h.0) (unmarked P (span_of k) (within context k) h.1.0) (unmarked P (span_of w) (within context w) h.1.1.0)
updating_reaches P span context (a ∷ k ∷ w ∷ e ∷ es) h = alone_reach P context (a ∷ k ∷ w ∷ e ∷ es) h

-- ---- effects

channel_reaches : (P : List ℕ → Bool) (context : TypeEnv) (e : ExprPair) → AllNamed P (e.1 false context).reached → AllNamed P (channel_seen context e).judgement.reached
channel_reaches P context e h = by_name (name_of_expr e)
  where
    by_channel_end : (name : List ℕ) (o : Option ChannelEnd) → AllNamed P (named_channel (span_of e) name o).reached
    by_channel_end name None = tt
    by_channel_end name (Some o) = tt

    by_name : (o : Option (List ℕ)) → AllNamed P (channel_named context e o).judgement.reached
    by_name None = unmarked P (span_of e) (within context e) h
    by_name (Some name) = by_channel_end name (channel_end_at context name)

wrong_effect_reaches : (P : List ℕ → Bool) (span : Span) (context : TypeEnv) (gs : List ParametricArgument) (es : List ExprPair) → AllNamed P (reached_of_all (given_judgements gs)) → EachReaches P context es
    → AllNamed P (wrong_effect span context gs es).reached
wrong_effect_reaches P span context gs [] g h = join P (reached_of_all (given_judgements gs)) [] g tt
wrong_effect_reaches P span context gs (t ∷ []) g h = join P (reached_of_all (given_judgements gs)) (reached_of_all (held_typing context t ∷ [])) g (join P (held_typing context t).reached [] h.0 tt)
wrong_effect_reaches P span context gs (t ∷ c ∷ es) g h =
    join P (reached_of_all (given_judgements gs)) (reached_of_all (held_typing context t ∷ (channel_seen context c).judgement ∷ all_alone context es)) g
    (join P (held_typing context t).reached (reached_of_all ((channel_seen context c).judgement ∷ all_alone context es)) h.0
    (join P (channel_seen context c).judgement.reached (reached_of_all (all_alone context es)) (channel_reaches P context c h.1.0) (alone_reach P context es h.1.1)))

effect_reaches : (P : List ℕ → Bool) (context : TypeEnv) (t c : ExprPair) (es : List ExprPair) → EachReaches P context (t ∷ c ∷ es)
    → AllNamed P (((token_typing context t).reached ++ (channel_seen context c).judgement.reached) ++ reached_of_all (all_alone context es))
effect_reaches P context t c es h = join_three P (token_typing context t).reached (channel_seen context c).judgement.reached (reached_of_all (all_alone context es)) h.0 (channel_reaches P context c h.1.0) (alone_reach P context es h.1.1)

receiving_reaches : (P : List ℕ → Bool) (span : Span) (context : TypeEnv) (es : List ExprPair) → EachReaches P context es → AllNamed P (receiving span context es).reached
receiving_reaches P span context [] h = wrong_effect_reaches P span context [] [] tt h
receiving_reaches P span context (t ∷ []) h = wrong_effect_reaches P span context [] (t ∷ []) tt h
receiving_reaches P span context (t ∷ c ∷ []) h = effect_reaches P context t c [] h
receiving_reaches P span context (t ∷ c ∷ e ∷ es) h = wrong_effect_reaches P span context [] (t ∷ c ∷ e ∷ es) tt h

sending_reaches : (P : List ℕ → Bool) (span : Span) (context : TypeEnv) (es : List ExprPair) → EachReaches P context es → AllNamed P (sending span context es).reached
sending_reaches P span context [] h = wrong_effect_reaches P span context [] [] tt h
sending_reaches P span context (t ∷ []) h = wrong_effect_reaches P span context [] (t ∷ []) tt h
sending_reaches P span context (t ∷ c ∷ []) h = wrong_effect_reaches P span context [] (t ∷ c ∷ []) tt h
sending_reaches P span context (t ∷ c ∷ e ∷ []) h = effect_reaches P context t c (e ∷ []) h
sending_reaches P span context (t ∷ c ∷ e ∷ a ∷ es) h = wrong_effect_reaches P span context [] (t ∷ c ∷ e ∷ a ∷ es) tt h

receiving_if_reaches : (P : List ℕ → Bool) (span : Span) (context : TypeEnv) (es : List ExprPair) → EachReaches P context es → AllNamed P (receiving_if span context es).reached
receiving_if_reaches P span context [] h = wrong_effect_reaches P span context [] [] tt h
receiving_if_reaches P span context (t ∷ []) h = wrong_effect_reaches P span context [] (t ∷ []) tt h
receiving_if_reaches P span context (t ∷ c ∷ []) h = wrong_effect_reaches P span context [] (t ∷ c ∷ []) tt h
receiving_if_reaches P span context (t ∷ c ∷ p ∷ []) h = wrong_effect_reaches P span context [] (t ∷ c ∷ p ∷ []) tt h
receiving_if_reaches P span context (t ∷ c ∷ p ∷ e ∷ []) h = effect_reaches P context t c (p ∷ e ∷ []) h
receiving_if_reaches P span context (t ∷ c ∷ p ∷ e ∷ a ∷ es) h = wrong_effect_reaches P span context [] (t ∷ c ∷ p ∷ e ∷ a ∷ es) tt h

sending_if_reaches : (P : List ℕ → Bool) (span : Span) (context : TypeEnv) (es : List ExprPair) → EachReaches P context es → AllNamed P (sending_if span context es).reached
sending_if_reaches P span context [] h = wrong_effect_reaches P span context [] [] tt h
sending_if_reaches P span context (t ∷ []) h = wrong_effect_reaches P span context [] (t ∷ []) tt h
sending_if_reaches P span context (t ∷ c ∷ []) h = wrong_effect_reaches P span context [] (t ∷ c ∷ []) tt h
sending_if_reaches P span context (t ∷ c ∷ p ∷ []) h = wrong_effect_reaches P span context [] (t ∷ c ∷ p ∷ []) tt h
sending_if_reaches P span context (t ∷ c ∷ p ∷ e ∷ []) h = effect_reaches P context t c (p ∷ e ∷ []) h
sending_if_reaches P span context (t ∷ c ∷ p ∷ e ∷ a ∷ es) h = wrong_effect_reaches P span context [] (t ∷ c ∷ p ∷ e ∷ a ∷ es) tt h

on_top_reaches : (P : List ℕ → Bool) (b : Bool) (span : Span) (j : Judgement) → AllNamed P j.reached → AllNamed P (only_on_top b span j).reached
on_top_reaches P true span j h = h
on_top_reaches P false span j h = h

-- ---- any call

unnumbered : (P : List ℕ → Bool) (span : Span) (context : TypeEnv) (as' : List ArgPair) (es : List ExprPair) (j : Judgement) → EachReaches P context (map (λ (a : ArgPair). a.1) as') → EachReaches P context es → AllNamed P j.reached
    → AllNamed P (without_parametric_args span context as' es j).reached
unnumbered P span context [] es j h k r = r
unnumbered P span context (a ∷ as') es j h k r =
    join P (reached_of_all (given_judgements (given_parametric_args context (a ∷ as')))) (reached_of_all (all_alone context es)) (given_reach P context (a ∷ as') h) (alone_reach P context es k)

effect_unnumbered : (P : List ℕ → Bool) (span : Span) (context : TypeEnv) (as' : List ArgPair) (es : List ExprPair) (j : Judgement) → EachReaches P context (map (λ (a : ArgPair). a.1) as') → EachReaches P context es → AllNamed P j.reached
    → AllNamed P (unnumbered_effect span context as' es j).reached
effect_unnumbered P span context [] es j h k r = r
effect_unnumbered P span context (a ∷ as') es j h k r = wrong_effect_reaches P span context (given_parametric_args context (a ∷ as')) es (given_reach P context (a ∷ as') h) k

-- the kind is a function of the text, and then it is as the function reaches
abbrev pub IfCalls : CallKind → Type 0 → Type 0
IfCalls Calls X = X
IfCalls _ X = Unit {0}

pub call_reaches : (P : List ℕ → Bool) (kind : CallKind) (span : Span) (name : Ident) (as' : List ArgPair) (es : List ExprPair) (on_top : Bool) (context : TypeEnv) → EachReaches P context (map (λ (a : ArgPair). a.1) as')
    → EachReaches P context es → IfCalls kind (CalleeReaches P context name.name)
    → AllNamed P (call_typing kind span name as' es on_top context).reached
call_reaches P Calls span name as' es on_top context h k f =
    function_reaches P span context name (given_parametric_args context as') es (all_alone context es)
    (join P (reached_of_all (given_judgements (given_parametric_args context as'))) (reached_of_all (all_alone context es)) (given_reach P context as' h) (alone_reach P context es k)) f
call_reaches P Receives span name as' es on_top context h k f = on_top_reaches P on_top span (unnumbered_effect span context as' es (receiving span context es)) (effect_unnumbered P span context as' es (receiving span context es) h k (receiving_reaches P span context es k))
call_reaches P ReceivesIf span name as' es on_top context h k f = on_top_reaches P on_top span (unnumbered_effect span context as' es (receiving_if span context es)) (effect_unnumbered P span context as' es (receiving_if span context es) h k (receiving_if_reaches P span context es k))
call_reaches P Sends span name as' es on_top context h k f = on_top_reaches P on_top span (unnumbered_effect span context as' es (sending span context es)) (effect_unnumbered P span context as' es (sending span context es) h k (sending_reaches P span context es k))
call_reaches P SendsIf span name as' es on_top context h k f = on_top_reaches P on_top span (unnumbered_effect span context as' es (sending_if span context es)) (effect_unnumbered P span context as' es (sending_if span context es) h k (sending_if_reaches P span context es k))
call_reaches P Joins span name as' es on_top context h k f = unnumbered P span context as' es (builtin_typing Joins span es context) h k (token_reach P context es k)
call_reaches P CountsLeading span name as' es on_top context h k f = unnumbered P span context as' es (builtin_typing CountsLeading span es context) h k (counting_reaches P span context es (first_operand_type (all_alone context es)) k)
call_reaches P CountsTrailing span name as' es on_top context h k f = unnumbered P span context as' es (builtin_typing CountsTrailing span es context) h k (counting_reaches P span context es (first_operand_type (all_alone context es)) k)
call_reaches P Reverses span name as' es on_top context h k f = unnumbered P span context as' es (builtin_typing Reverses span es context) h k (counting_reaches P span context es (first_operand_type (all_alone context es)) k)
call_reaches P AllOnes span name as' es on_top context h k f = unnumbered P span context as' es (builtin_typing AllOnes span es context) h k (counting_reaches P span context es (Some bool_type) k)
call_reaches P SomeOne span name as' es on_top context h k f = unnumbered P span context as' es (builtin_typing SomeOne span es context) h k (counting_reaches P span context es (Some bool_type) k)
call_reaches P Parity span name as' es on_top context h k f = unnumbered P span context as' es (builtin_typing Parity span es context) h k (counting_reaches P span context es (Some bool_type) k)
call_reaches P Updates span name as' es on_top context h k f = unnumbered P span context as' es (builtin_typing Updates span es context) h k (updating_reaches P span context es k)
