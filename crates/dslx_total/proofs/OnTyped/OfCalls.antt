-- Calls have types.
use Rattle.std.proofs.Common.{◌≡◌, ◌++◌, ℕ, Bool, true, false, if◌then◌else◌, List, [], ◌∷◌, Option, Some, None, refl, sym, ap, ◌∙◌}
use Rattle.xb_span.specs.declared.fault.Fault.{Fault}
use Rattle.xb_span.specs.declared.span.Span.{Span}
use Rattle.dslx_tree.specs.declared.ident.Ident.{Ident}
use Rattle.dslx_tree.specs.declared.item.Function.{Function}
use Rattle.dslx_meaning.specs.Callees.{AllOnes, CallKind, Calls, CountsLeading, CountsTrailing, Joins, Parity, Receives, ReceivesIf, Reverses, Sends, SendsIf, SomeOne, Updates}
use Rattle.dslx_meaning.specs.Items.{as_function, item_named}
use Rattle.dslx_meaning.specs.Lists.{all_some, and_then}
use Rattle.dslx_meaning.specs.Types.{bool_type}
use Rattle.dslx_meaning.specs.declared.ty.DslxType.{DslxType}
use Rattle.dslx_meaning.specs.declared.ty.DslxType as ty
use Rattle.dslx_meaning.specs.declared.value.DslxValue.{DslxValue}
use Rattle.dslx_meaning.specs.Rules.AggregateRules.{array_in, element_type, is_array}
use Rattle.dslx_meaning.specs.Rules.CallRules.{ParametricArgsSeen, ParametricArgument, builtin_typing, call_parametric_args, call_parts_faults, call_parts_reached, call_typing, counting, first_operand_type, function_call, given_parametric_args, has_right_count, joining, right_call, update_faults, updating, without_parametric_args, wrong_call}
use Rattle.dslx_meaning.specs.Rules.ConstantRules.{is_unsigned}
use Rattle.dslx_meaning.specs.Rules.OperatorRules.{is_bits, unless_type}
use Rattle.dslx_meaning.specs.Rules.TypeEnvs.{ExprPair, Judgement, TypeEnv, all_alone, alone, breaks, breaks_if, one_and, plus_size, span_of, types_of}
use Rattle.dslx_meaning.specs.Rules.Typings.{ArgPair}
use Rattle.dslx_core.proofs.Lemmas.Typing.Sound.{all_in_three, none_in, none_in_three, right_well_typed, settled_well_typed, some_fault, wrongly_called}
use Rattle.dslx_core.specs.declared.expr.CoreUnary.{CoreUnary}
use Rattle.dslx_core.specs.declared.expr.CoreUnary.TheVariants as u
use Rattle.dslx_core.specs.declared.expr.CoreExpr as core
use Rattle.dslx_core.specs.Lowering.CoreScopes.{CoreScope}
use Rattle.dslx_core.specs.Lowering.Lowering.{lower_call, lower_counted, lower_function, lower_reduced, lower_updated, lowered}
use Rattle.dslx_core.specs.Lowering.Patterns.{ExprLowering}
use Rattle.dslx_core.specs.Lowering.Trees.{LoweredPair, lower_all}
use Rattle.dslx_core.specs.Typing.Typed.Complete.{IsWellTypedPart}
use Rattle.dslx_core.specs.Types.Typing.{unary_type}
use Rattle.dslx_total.specs.Expressions.ExprLowering.{reaching}
use Rattle.dslx_total.specs.Typed.Scopes.{TypedIfThere}
use Rattle.dslx_total.specs.Typed.Claims.{PartIsTyped}
use Rattle.dslx_total.proofs.OnTyped.OnConstructs.{bool_sound, bool_wide, function_typed, unary_typed, unit_core, update_typed}
use Rattle.dslx_total.proofs.OnTyped.OnOperators.{bits_are_wide, unless_passed, unsigned_are_bits}
use Rattle.dslx_total.proofs.OnTyped.OnOptions.{then_typed, typed_as}
use Rattle.dslx_total.proofs.OnTyped.OnParts.{EachExprTyped, alone_typed_to, operands_typed}
use Rattle.dslx_total.proofs.OnTyped.OnTypes.{plain_token, sound_token}

-- ---- builtins of one operand

-- it gives bits as wide as its operand
abbrev Counts : CoreUnary → Type 0
Counts op = (w : ℕ) → unary_type op w ≡ unary_type u.Neg w

-- it gives a bit
abbrev Reduces : CoreUnary → Type 0
Reduces op = (w : ℕ) → unary_type op w ≡ unary_type u.OrReduce w

typed_counts : (span : Span) (op : CoreUnary) → Counts op → (es : List ExprPair) (xs : List LoweredPair) → EachExprTyped es xs
    → PartIsTyped (λ context. counting span es (all_alone context es) (first_operand_type (all_alone context es))) (λ scope. lower_counted op (lower_all scope xs))
typed_counts span op c [] xs k here context env scope fs ts h at scoped well_typed = wrongly_called (reaching context.known here) span [] [] [] well_typed
typed_counts span op c (e ∷ d ∷ es) xs k here context env scope fs ts h at scoped well_typed = wrongly_called (reaching context.known here) span [] (alone context e ∷ alone context d ∷ all_alone context es) [] well_typed
typed_counts span op c (e ∷ []) [] k here context env scope fs ts h at scoped well_typed = absurd k
typed_counts span op c (e ∷ []) (x ∷ y ∷ xs) k here context env scope fs ts h at scoped well_typed = absurd k.2
typed_counts span op c (e ∷ []) (x ∷ []) k here context env scope fs ts h at scoped well_typed =
    let a = alone context e in
    let bits = unless_type is_bits 27 (span_of e) a.ty in
    let s = settled_well_typed (reaching context.known here) span (and_then a.ty (λ t. a.ty)) (a.faults ++ bits) a.reached (one_and a.size) well_typed in
    let f = none_in a.faults bits s.faults in
    let g = alone_typed_to here context env scope fs ts h at scoped e x.1 k.1 f.0 s.reached in
    let w = bits_are_wide g.expr.ty g.core.sound (unless_passed is_bits 27 (span_of e) a.ty g.expr.ty g.typed f.1) in
    typed_as fs ts (lower_counted op (x.1 scope ∷ [])) (lower_counted op (Some g.expr ∷ [])) (ap (λ o. lower_counted op (o ∷ [])) g.is) (unary_typed fs ts op g.expr w.0.width g.expr.ty g.core w.2 (c w.0.width ∙ sym w.2.plain) g.core.sound)

typed_reduces : (span : Span) (op : CoreUnary) → Reduces op → (es : List ExprPair) (xs : List LoweredPair) → EachExprTyped es xs
    → PartIsTyped (λ context. counting span es (all_alone context es) (Some bool_type)) (λ scope. lower_reduced op (lower_all scope xs))
typed_reduces span op c [] xs k here context env scope fs ts h at scoped well_typed = wrongly_called (reaching context.known here) span [] [] [] well_typed
typed_reduces span op c (e ∷ d ∷ es) xs k here context env scope fs ts h at scoped well_typed = wrongly_called (reaching context.known here) span [] (alone context e ∷ alone context d ∷ all_alone context es) [] well_typed
typed_reduces span op c (e ∷ []) [] k here context env scope fs ts h at scoped well_typed = absurd k
typed_reduces span op c (e ∷ []) (x ∷ y ∷ xs) k here context env scope fs ts h at scoped well_typed = absurd k.2
typed_reduces span op c (e ∷ []) (x ∷ []) k here context env scope fs ts h at scoped well_typed =
    let a = alone context e in
    let bits = unless_type is_bits 27 (span_of e) a.ty in
    let s = settled_well_typed (reaching context.known here) span (and_then a.ty (λ t. Some bool_type)) (a.faults ++ bits) a.reached (one_and a.size) well_typed in
    let f = none_in a.faults bits s.faults in
    let g = alone_typed_to here context env scope fs ts h at scoped e x.1 k.1 f.0 s.reached in
    let w = bits_are_wide g.expr.ty g.core.sound (unless_passed is_bits 27 (span_of e) a.ty g.expr.ty g.typed f.1) in
    typed_as fs ts (lower_reduced op (x.1 scope ∷ [])) (lower_reduced op (Some g.expr ∷ [])) (ap (λ o. lower_reduced op (o ∷ [])) g.is) (unary_typed fs ts op g.expr w.0.width bool_type g.core w.2 (c w.0.width ∙ sym bool_wide.plain) bool_sound)

-- ---- `update`

typed_updates : (span : Span) (es : List ExprPair) (xs : List LoweredPair) → EachExprTyped es xs → PartIsTyped (λ context. updating span es (all_alone context es)) (λ scope. lower_updated (lower_all scope xs))
typed_updates span [] xs k here context env scope fs ts h at scoped well_typed = wrongly_called (reaching context.known here) span [] [] [] well_typed
typed_updates span (e ∷ []) xs k here context env scope fs ts h at scoped well_typed = wrongly_called (reaching context.known here) span [] (alone context e ∷ []) [] well_typed
typed_updates span (e ∷ i ∷ []) xs k here context env scope fs ts h at scoped well_typed = wrongly_called (reaching context.known here) span [] (alone context e ∷ alone context i ∷ []) [] well_typed
typed_updates span (e ∷ i ∷ v ∷ w ∷ es) xs k here context env scope fs ts h at scoped well_typed =
    wrongly_called (reaching context.known here) span [] (alone context e ∷ alone context i ∷ alone context v ∷ alone context w ∷ all_alone context es) [] well_typed
typed_updates span (e ∷ i ∷ v ∷ []) [] k here context env scope fs ts h at scoped well_typed = absurd k
typed_updates span (e ∷ i ∷ v ∷ []) (x ∷ []) k here context env scope fs ts h at scoped well_typed = absurd k.2
typed_updates span (e ∷ i ∷ v ∷ []) (x ∷ y ∷ []) k here context env scope fs ts h at scoped well_typed = absurd k.2.2
typed_updates span (e ∷ i ∷ v ∷ []) (x ∷ y ∷ z ∷ w ∷ xs) k here context env scope fs ts h at scoped well_typed = absurd k.2.2.2
typed_updates span (e ∷ i ∷ v ∷ []) (x ∷ y ∷ z ∷ []) k here context env scope fs ts h at scoped well_typed =
    let a = alone context e in
    let c = alone context i in
    let d = alone context v in
    let array = unless_type is_array 27 (span_of e) a.ty in
    let start = unless_type is_unsigned 27 (span_of i) c.ty in
    let same = update_faults (span_of v) (element_type (and_then a.ty array_in)) d.ty in
    let own = and_then c.ty (λ t. and_then d.ty (λ u. a.ty)) in
    let three = (a.faults ++ c.faults) ++ d.faults in
    let s = settled_well_typed (reaching context.known here) span own (((three ++ array) ++ start) ++ same) ((a.reached ++ c.reached) ++ d.reached) (one_and (plus_size a.size (plus_size c.size d.size))) well_typed in
    let p = none_in_three (three ++ array) start same s.faults in
    let q = none_in three array p.0 in
    let r = none_in_three a.faults c.faults d.faults q.0 in
    let m = all_in_three here a.reached c.reached d.reached s.reached in
    let ga = alone_typed_to here context env scope fs ts h at scoped e x.1 k.1 r.0 m.0 in
    let gc = alone_typed_to here context env scope fs ts h at scoped i y.1 k.2.1 r.1 m.1 in
    let gd = alone_typed_to here context env scope fs ts h at scoped v z.1 k.2.2.1 r.2 m.2 in
    let w = bits_are_wide gc.expr.ty gc.core.sound (unsigned_are_bits gc.expr.ty (unless_passed is_unsigned 27 (span_of i) c.ty gc.expr.ty gc.typed p.1)) in
    typed_as fs ts (lower_updated (x.1 scope ∷ y.1 scope ∷ z.1 scope ∷ [])) (lower_updated (Some ga.expr ∷ Some gc.expr ∷ Some gd.expr ∷ [])) (λ j. lower_updated (ga.is j ∷ gc.is j ∷ gd.is j ∷ []))
    (update_typed fs ts ga.expr gc.expr gd.expr w.0.width ga.core gc.core gd.core w.2)

-- ---- `join`

typed_joins : (span : Span) (name : List ℕ) (parametric_args : CoreScope → List (Option DslxValue)) (es : List ExprPair) (xs : List LoweredPair)
    → PartIsTyped (λ context. joining span context es) (λ scope. lower_call Joins name scope (parametric_args scope) (lower_all scope xs))
typed_joins span name parametric_args es xs here context env scope fs ts h at scoped well_typed =
    then_typed fs ts (all_some (lower_all scope xs)) (λ es. lowered (core.Tuple []) ty.Token) (λ es q. unit_core fs ts ty.Token plain_token sound_token)

-- ---- functions

typed_function : (span : Span) (name : Ident) (as' : List ArgPair) (parametric_args : CoreScope → List (Option DslxValue)) (es : List ExprPair) (xs : List LoweredPair) → EachExprTyped es xs
    → PartIsTyped (λ context. function_call span context name (given_parametric_args context as') es (all_alone context es) (as_function (item_named name.name context.known.whole.items)))
    (λ scope. lower_function scope name.name (parametric_args scope) (lower_all scope xs))
typed_function span name as' parametric_args es xs kx here context env scope fs ts h at scoped well_typed = by_function (as_function (item_named name.name context.known.whole.items)) well_typed
  where
    gs : List ParametricArgument
    gs = given_parametric_args context as'

    js : List Judgement
    js = all_alone context es

    cycle : List Fault
    cycle = breaks_if (context.known.is_cyclic context.owner name.name) 3 span

    seen : Function → ParametricArgsSeen
    seen f = call_parametric_args context.known f gs (types_of js)

    right : Function → Judgement
    right f = right_call span context f gs es js cycle (seen f)

    by_count : (f : Function) (b : Bool) → IsWellTypedPart (reaching context.known here) (if b then right f else wrong_call span gs js cycle) → TypedIfThere fs ts (lower_function scope name.name (parametric_args scope) (lower_all scope xs))
    by_count f false g = wrongly_called (reaching context.known here) span gs js cycle g
    by_count f true g =
        let w = right_well_typed (reaching context.known here) context span f gs es js cycle (seen f) g in
        function_typed fs ts scope name.name (parametric_args scope) (lower_all scope xs) scoped.known (operands_typed here context env scope fs ts h at scoped es xs kx w.operands_given w.operands_reach)

    by_function : (o : Option Function) → IsWellTypedPart (reaching context.known here) (function_call span context name gs es js o) → TypedIfThere fs ts (lower_function scope name.name (parametric_args scope) (lower_all scope xs))
    by_function None g =
        let s = settled_well_typed (reaching context.known here) span None (call_parts_faults gs js ++ breaks 1 name.span ∷ []) (call_parts_reached gs js) None g in
        some_fault (breaks 1 name.span) [] (none_in (call_parts_faults gs js) (breaks 1 name.span ∷ []) s.faults).1
    by_function (Some f) g = by_count f (has_right_count f gs es) g

-- ---- any call

typed_without : (span : Span) (as' : List ArgPair) (es : List ExprPair) (j : TypeEnv → Judgement) (l : ExprLowering) → PartIsTyped j l → PartIsTyped (λ context. without_parametric_args span context as' es (j context)) l
typed_without span [] es j l k here context env scope fs ts h at scoped well_typed = k here context env scope fs ts h at scoped well_typed
typed_without span (a ∷ as') es j l k here context env scope fs ts h at scoped well_typed = wrongly_called (reaching context.known here) span (given_parametric_args context (a ∷ as')) (all_alone context es) [] well_typed

pub typed_call : (kind : CallKind) (span : Span) (f : Ident) (as' : List ArgPair) (parametric_args : CoreScope → List (Option DslxValue)) (es : List ExprPair) (xs : List LoweredPair) → EachExprTyped es xs
    → PartIsTyped (λ context. call_typing kind span f as' es false context) (λ scope. lower_call kind f.name scope (parametric_args scope) (lower_all scope xs))
typed_call Joins span f as' n es xs kx = typed_without span as' es (λ context. joining span context es) (λ scope. lower_call Joins f.name scope (n scope) (lower_all scope xs)) (typed_joins span f.name n es xs)
typed_call CountsLeading span f as' n es xs kx = typed_without span as' es (builtin_typing CountsLeading span es) (λ scope. lower_counted u.Clz (lower_all scope xs)) (typed_counts span u.Clz (λ w. refl) es xs kx)
typed_call CountsTrailing span f as' n es xs kx = typed_without span as' es (builtin_typing CountsTrailing span es) (λ scope. lower_counted u.Ctz (lower_all scope xs)) (typed_counts span u.Ctz (λ w. refl) es xs kx)
typed_call Reverses span f as' n es xs kx = typed_without span as' es (builtin_typing Reverses span es) (λ scope. lower_counted u.Rev (lower_all scope xs)) (typed_counts span u.Rev (λ w. refl) es xs kx)
typed_call AllOnes span f as' n es xs kx = typed_without span as' es (builtin_typing AllOnes span es) (λ scope. lower_reduced u.AndReduce (lower_all scope xs)) (typed_reduces span u.AndReduce (λ w. refl) es xs kx)
typed_call SomeOne span f as' n es xs kx = typed_without span as' es (builtin_typing SomeOne span es) (λ scope. lower_reduced u.OrReduce (lower_all scope xs)) (typed_reduces span u.OrReduce (λ w. refl) es xs kx)
typed_call Parity span f as' n es xs kx = typed_without span as' es (builtin_typing Parity span es) (λ scope. lower_reduced u.XorReduce (lower_all scope xs)) (typed_reduces span u.XorReduce (λ w. refl) es xs kx)
typed_call Updates span f as' n es xs kx = typed_without span as' es (builtin_typing Updates span es) (λ scope. lower_updated (lower_all scope xs)) (typed_updates span es xs kx)
typed_call Receives span f as' n es xs kx = λ here context env scope fs ts h at scoped well_typed. tt
typed_call ReceivesIf span f as' n es xs kx = λ here context env scope fs ts h at scoped well_typed. tt
typed_call Sends span f as' n es xs kx = λ here context env scope fs ts h at scoped well_typed. tt
typed_call SendsIf span f as' n es xs kx = λ here context env scope fs ts h at scoped well_typed. tt
typed_call Calls span f as' n es xs kx = typed_function span f as' n es xs kx
