-- What calls reach with which nothing is wrong.
use Rattle.std.proofs.Common.{◌≡◌, ◌&&◌, ◌||◌, ◌++◌, ℕ, Bool, true, false, if◌then◌else◌, List, [], ◌∷◌, map, Option, Some, None, refl, sym, ap, subst, ◌∙◌}
use Rattle.std.specs.List.{list_all}
use Rattle.xb_span.specs.declared.fault.Fault.{Fault}
use Rattle.xb_span.specs.declared.span.Span.{Span}
use Rattle.dslx_tree.specs.declared.ident.Ident.{Ident}
use Rattle.dslx_tree.specs.declared.item.Function.{Function}
use Rattle.dslx_tree.specs.declared.process.Direction.{Direction}
use Rattle.dslx_tree.specs.declared.process.Direction.TheVariants.{In, Out}
use Rattle.dslx_meaning.specs.Callees.{AllOnes, CallKind, Calls, CountsLeading, CountsTrailing, Joins, Parity, Receives, ReceivesIf, Reverses, Sends, SendsIf, SomeOne, Updates}
use Rattle.dslx_meaning.specs.Environment.{Env}
use Rattle.dslx_meaning.specs.Items.{as_function, item_named}
use Rattle.dslx_meaning.specs.Lists.{and_then}
use Rattle.dslx_meaning.specs.Meaning.{ExprDen}
use Rattle.dslx_meaning.specs.Types.{bool_type, received}
use Rattle.dslx_meaning.specs.declared.ty.DslxType.{DslxType}
use Rattle.dslx_meaning.specs.declared.ty.DslxType as ty
use Rattle.dslx_meaning.specs.Rules.AggregateRules.{array_in, element_type, is_array, wanted_faults}
use Rattle.dslx_meaning.specs.Rules.CallRules.{JudgedThere, ParametricArgsSeen, ParametricArgument, builtin_typing, call_parametric_args, call_parts_faults, call_parts_reached, call_typing, channel_end_at, channel_named, channel_seen, counting, effect_with, first_operand_type, function_call, given_judgements, given_parametric_args, has_right_count, held_typing, inferred_by, joining, maybe_inferred, named_channel, only_on_top, reached_by, receiving, receiving_if, right_call, sending, sending_if, site_faults, token_faults, token_typing, typing_there, is_refused, unnumbered_effect, update_faults, updating, without_parametric_args, word_of, wrong_call, wrong_effect}
use Rattle.dslx_meaning.specs.Rules.ConstantRules.{constant_of, is_unsigned}
use Rattle.dslx_meaning.specs.Rules.OperatorRules.{is_bits, is_bool, unless_type}
use Rattle.dslx_meaning.specs.Rules.TypeEnvs.{ChannelEnd, ExprPair, Instance, Judgement, TypeEnv, all_alone, alone, breaks, breaks_if, faults_of_all, has_broken, name_of_expr, reached_of_all, span_of, types_of, within}
use Rattle.dslx_meaning.specs.Rules.Typings.{ArgPair}
use Rattle.dslx_core.proofs.Lemmas.Typing.Laws.{and_true}
use Rattle.dslx_core.proofs.Lemmas.Typing.Sound.{CallFound, all_in, alone_has, call_found, none_in, right_well_typed, settled_well_typed, some_fault, typing_right, wrongly_called}
use Rattle.dslx_core.specs.Typing.Sound.Sound.{EachExprGives}
use Rattle.dslx_core.specs.Typing.Typed.Complete.{IsWellTypedPart}
use Rattle.dslx_core.specs.Typing.Typed.WellTyped.{IsWellTypedEnv}
use Rattle.dslx_total.specs.Expressions.ExprLowering.{reaching}
use Rattle.dslx_total.proofs.OnExpressions.Parts.{all_sound}
use Rattle.dslx_total.proofs.OnOwn.Passing.{CalleesPass, EachPasses, Passes, WithinPasses, alone_passes, before_more, both_pass, constant_passes, join, join_three}

-- ---- operands

-- they have types
operands_typed : (context : TypeEnv) (env : Env) → IsWellTypedEnv context env → (es : List ExprPair) (xs : List ExprDen) → EachExprGives es xs → faults_of_all (all_alone context es) ≡ []
    → list_all context.known.is_sound (reached_of_all (all_alone context es)) ≡ true → (ts : List DslxType) × (types_of (all_alone context es) ≡ map Some ts)
operands_typed context env h [] [] k f r = ([], refl)
operands_typed context env h [] (x ∷ xs) k f r = absurd k
operands_typed context env h (e ∷ es) [] k f r = absurd k
operands_typed context env h (e ∷ es) (x ∷ xs) k f r =
    let a = alone context e in
    let p = none_in a.faults (faults_of_all (all_alone context es)) f in
    let s = all_in context.known.is_sound a.reached (reached_of_all (all_alone context es)) r in
    let g = alone_has context env e x k.0 h p.0 s.0 in
    let more = operands_typed context env h es xs k.1 p.1 s.1 in
    (g.0 ∷ more.0, λ i. g.1 i ∷ more.1 i)

module _ (here test : Instance → Bool) (context : TypeEnv) where
  abbrev AllPass : List Judgement → Type 0
  AllPass js = Passes here test (faults_of_all js) (reached_of_all js)

  pub operands_pass : (es : List ExprPair) → EachPasses here test context es → AllPass (all_alone context es)
  operands_pass [] h = λ f r. refl
  operands_pass (e ∷ es) h =
      join here test (alone context e).faults (faults_of_all (all_alone context es)) (alone context e).reached (reached_of_all (all_alone context es)) (alone_passes here test context e h.0) (operands_pass es h.1)

  pub given_pass : (as' : List ArgPair) → EachPasses here test context (map (λ (a : ArgPair). a.1) as') → AllPass (given_judgements (given_parametric_args context as'))
  given_pass [] h = λ f r. refl
  given_pass (a ∷ as') h =
      let j = (constant_of context a.1).judgement in
      let js = given_judgements (given_parametric_args context as') in
      join here test j.faults (faults_of_all js) j.reached (reached_of_all js) (constant_passes here test context a.1 (alone_passes here test context a.1 h.0)) (given_pass as' h.1)

  token_passes : (e : ExprPair) → WithinPasses here test context e → Passes here test (token_typing context e).faults (token_typing context e).reached
  token_passes e h = let j = within context e in before_more here test j.faults (token_faults (span_of e) j.ty) j.reached h

  tokens_pass : (es : List ExprPair) → EachPasses here test context es → AllPass (map (token_typing context) es)
  tokens_pass [] h = λ f r. refl
  tokens_pass (e ∷ es) h =
      let j = token_typing context e in
      let js = map (token_typing context) es in
      join here test j.faults (faults_of_all js) j.reached (reached_of_all js) (token_passes e h.0) (tokens_pass es h.1)

  -- another number of arguments is wrong
  wrong_passes : (span : Span) (gs : List ParametricArgument) (js : List Judgement) (more : List Fault) → Passes here test (wrong_call span gs js more).faults (wrong_call span gs js more).reached
  wrong_passes span gs js more f r = wrongly_called (reaching context.known here) span gs js more (record { faults = f; reached = r })

  wrong_effect_passes : (span : Span) (gs : List ParametricArgument) (es : List ExprPair) → Passes here test (wrong_effect span context gs es).faults (wrong_effect span context gs es).reached
  wrong_effect_passes span gs [] = wrong_passes span gs [] []
  wrong_effect_passes span gs (t ∷ []) = wrong_passes span gs (held_typing context t ∷ []) []
  wrong_effect_passes span gs (t ∷ c ∷ es) = wrong_passes span gs (held_typing context t ∷ (channel_seen context c).judgement ∷ all_alone context es) []

  -- ---- builtins

  counting_passes : (span : Span) (es : List ExprPair) (t : Option DslxType) → EachPasses here test context es → Passes here test (counting span es (all_alone context es) t).faults (counting span es (all_alone context es) t).reached
  counting_passes span [] t h = wrong_passes span [] [] []
  counting_passes span (e ∷ []) t h =
      let a = alone context e in
      let bits = unless_type is_bits 27 (span_of e) a.ty in
      before_more here test (a.faults ++ bits) _ a.reached (before_more here test a.faults bits a.reached (alone_passes here test context e h.0))
  counting_passes span (e ∷ d ∷ es) t h = wrong_passes span [] (alone context e ∷ alone context d ∷ all_alone context es) []

  updating_passes : (span : Span) (es : List ExprPair) → EachPasses here test context es → Passes here test (updating span es (all_alone context es)).faults (updating span es (all_alone context es)).reached
  updating_passes span [] h = wrong_passes span [] [] []
  updating_passes span (e ∷ []) h = wrong_passes span [] (alone context e ∷ []) []
  updating_passes span (e ∷ i ∷ []) h = wrong_passes span [] (alone context e ∷ alone context i ∷ []) []
  updating_passes span (e ∷ i ∷ v ∷ []) h =
      let a = alone context e in
      let c = alone context i in
      let d = alone context v in
      let array = unless_type is_array 27 (span_of e) a.ty in
      let start = unless_type is_unsigned 27 (span_of i) c.ty in
      let same = update_faults (span_of v) (element_type (and_then a.ty array_in)) d.ty in
      let three = (a.faults ++ c.faults) ++ d.faults in
      let reached = (a.reached ++ c.reached) ++ d.reached in
      before_more here test (((three ++ array) ++ start) ++ same) _ reached
      (before_more here test ((three ++ array) ++ start) same reached
      (before_more here test (three ++ array) start reached
      (before_more here test three array reached
      (join_three here test a.faults c.faults d.faults a.reached c.reached d.reached (alone_passes here test context e h.0) (alone_passes here test context i h.1.0) (alone_passes here test context v h.1.1.0)))))
  updating_passes span (e ∷ i ∷ v ∷ w ∷ es) h = wrong_passes span [] (alone context e ∷ alone context i ∷ alone context v ∷ alone context w ∷ all_alone context es) []

  joining_passes : (span : Span) (es : List ExprPair) → EachPasses here test context es → Passes here test (joining span context es).faults (joining span context es).reached
  joining_passes span es h = let js = map (token_typing context) es in before_more here test (faults_of_all js) _ (reached_of_all js) (tokens_pass es h)

  unnumbered : (span : Span) (as' : List ArgPair) (es : List ExprPair) (j : Judgement) → Passes here test j.faults j.reached → Passes here test (without_parametric_args span context as' es j).faults (without_parametric_args span context as' es j).reached
  unnumbered span [] es j p = p
  unnumbered span (a ∷ as') es j p = wrong_passes span (given_parametric_args context (a ∷ as')) (all_alone context es) []

  -- ---- effects

  channel_passes : (e : ExprPair) → WithinPasses here test context e → Passes here test (channel_seen context e).judgement.faults (channel_seen context e).judgement.reached
  channel_passes e h = by_name (name_of_expr e)
    where
      by_channel_end : (name : List ℕ) (o : Option ChannelEnd) → Passes here test (named_channel (span_of e) name o).faults (named_channel (span_of e) name o).reached
      by_channel_end name None = λ f r. refl
      by_channel_end name (Some o) = λ f r. refl

      by_name : (o : Option (List ℕ)) → Passes here test (channel_named context e o).judgement.faults (channel_named context e o).judgement.reached
      by_name None = alone_passes here test context e h
      by_name (Some name) = by_channel_end name (channel_end_at context name)

  effect_passes : (span : Span) (direction : Direction) (t c : ExprPair) (es : List ExprPair) (more : List Fault) (given : Option DslxType) → WithinPasses here test context t → WithinPasses here test context c → EachPasses here test context es
      → Passes here test (effect_with span context direction (token_typing context t) (channel_seen context c) (all_alone context es) more given).faults (effect_with span context direction (token_typing context t) (channel_seen context c) (all_alone context es) more given).reached
  effect_passes span direction t c es more given pt pc ps =
      let a = token_typing context t in
      let b = channel_seen context c in
      let js = all_alone context es in
      let sites = site_faults span context direction b in
      let three = (a.faults ++ b.judgement.faults) ++ faults_of_all js in
      let reached = (a.reached ++ b.judgement.reached) ++ reached_of_all js in
      before_more here test ((three ++ more) ++ sites) _ reached
      (before_more here test (three ++ more) sites reached
      (before_more here test three more reached
      (join_three here test a.faults b.judgement.faults (faults_of_all js) a.reached b.judgement.reached (reached_of_all js) (token_passes t pt) (channel_passes c pc) (operands_pass es ps))))

  receiving_passes : (span : Span) (es : List ExprPair) → EachPasses here test context es → Passes here test (receiving span context es).faults (receiving span context es).reached
  receiving_passes span [] h = wrong_effect_passes span [] []
  receiving_passes span (t ∷ []) h = wrong_effect_passes span [] (t ∷ [])
  receiving_passes span (t ∷ c ∷ []) h = effect_passes span In t c [] [] (and_then (word_of (channel_seen context c)) (λ w. Some (received w))) h.0 h.1.0 tt
  receiving_passes span (t ∷ c ∷ x ∷ es) h = wrong_effect_passes span [] (t ∷ c ∷ x ∷ es)

  receiving_if_passes : (span : Span) (es : List ExprPair) → EachPasses here test context es → Passes here test (receiving_if span context es).faults (receiving_if span context es).reached
  receiving_if_passes span [] h = wrong_effect_passes span [] []
  receiving_if_passes span (t ∷ []) h = wrong_effect_passes span [] (t ∷ [])
  receiving_if_passes span (t ∷ c ∷ []) h = wrong_effect_passes span [] (t ∷ c ∷ [])
  receiving_if_passes span (t ∷ c ∷ p ∷ []) h = wrong_effect_passes span [] (t ∷ c ∷ p ∷ [])
  receiving_if_passes span (t ∷ c ∷ p ∷ e ∷ []) h =
      effect_passes span In t c (p ∷ e ∷ []) (unless_type is_bool 15 (span_of p) (alone context p).ty ++ wanted_faults (span_of e) (word_of (channel_seen context c)) (alone context e).ty) (and_then (word_of (channel_seen context c)) (λ w. Some (received w))) h.0 h.1.0 h.1.1
  receiving_if_passes span (t ∷ c ∷ p ∷ e ∷ x ∷ es) h = wrong_effect_passes span [] (t ∷ c ∷ p ∷ e ∷ x ∷ es)

  sending_passes : (span : Span) (es : List ExprPair) → EachPasses here test context es → Passes here test (sending span context es).faults (sending span context es).reached
  sending_passes span [] h = wrong_effect_passes span [] []
  sending_passes span (t ∷ []) h = wrong_effect_passes span [] (t ∷ [])
  sending_passes span (t ∷ c ∷ []) h = wrong_effect_passes span [] (t ∷ c ∷ [])
  sending_passes span (t ∷ c ∷ e ∷ []) h =
      effect_passes span Out t c (e ∷ []) (wanted_faults (span_of e) (word_of (channel_seen context c)) (alone context e).ty) (and_then (word_of (channel_seen context c)) (λ w. Some ty.Token)) h.0 h.1.0 h.1.1
  sending_passes span (t ∷ c ∷ e ∷ x ∷ es) h = wrong_effect_passes span [] (t ∷ c ∷ e ∷ x ∷ es)

  sending_if_passes : (span : Span) (es : List ExprPair) → EachPasses here test context es → Passes here test (sending_if span context es).faults (sending_if span context es).reached
  sending_if_passes span [] h = wrong_effect_passes span [] []
  sending_if_passes span (t ∷ []) h = wrong_effect_passes span [] (t ∷ [])
  sending_if_passes span (t ∷ c ∷ []) h = wrong_effect_passes span [] (t ∷ c ∷ [])
  sending_if_passes span (t ∷ c ∷ p ∷ []) h = wrong_effect_passes span [] (t ∷ c ∷ p ∷ [])
  sending_if_passes span (t ∷ c ∷ p ∷ e ∷ []) h =
      effect_passes span Out t c (p ∷ e ∷ []) (unless_type is_bool 15 (span_of p) (alone context p).ty ++ wanted_faults (span_of e) (word_of (channel_seen context c)) (alone context e).ty) (and_then (word_of (channel_seen context c)) (λ w. Some ty.Token)) h.0 h.1.0 h.1.1
  sending_if_passes span (t ∷ c ∷ p ∷ e ∷ x ∷ es) h = wrong_effect_passes span [] (t ∷ c ∷ p ∷ e ∷ x ∷ es)

  on_top_passes : (b : Bool) (span : Span) (j : Judgement) → Passes here test j.faults j.reached → Passes here test (only_on_top b span j).faults (only_on_top b span j).reached
  on_top_passes true span j p = p
  on_top_passes false span j p = before_more here test j.faults (breaks 28 span ∷ []) j.reached p

  effect_unnumbered : (span : Span) (as' : List ArgPair) (es : List ExprPair) (j : Judgement) → Passes here test j.faults j.reached → Passes here test (unnumbered_effect span context as' es j).faults (unnumbered_effect span context as' es j).reached
  effect_unnumbered span [] es j p = p
  effect_unnumbered span (a ∷ as') es j p = wrong_effect_passes span (given_parametric_args context (a ∷ as')) es

  any_effect : (on_top : Bool) (span : Span) (as' : List ArgPair) (es : List ExprPair) (j : Judgement) → Passes here test j.faults j.reached
      → Passes here test (only_on_top on_top span (unnumbered_effect span context as' es j)).faults (only_on_top on_top span (unnumbered_effect span context as' es j)).reached
  any_effect on_top span as' es j p = on_top_passes on_top span (unnumbered_effect span context as' es j) (effect_unnumbered span as' es j p)

  -- ---- functions

  module _ (env : Env) (h : IsWellTypedEnv context env) (callees : CalleesPass here test context.known) (span : Span) (name : Ident) (as' : List ArgPair) (ns : List ExprDen) (es : List ExprPair) (xs : List ExprDen)
      (kn : EachExprGives (map (λ (a : ArgPair). a.1) as') ns) (kx : EachExprGives es xs) (pn : EachPasses here test context (map (λ (a : ArgPair). a.1) as')) (px : EachPasses here test context es) where
    abbrev gs : List ParametricArgument
    gs = given_parametric_args context as'

    abbrev js : List Judgement
    js = all_alone context es

    abbrev cycle : List Fault
    cycle = breaks_if (context.known.is_cyclic context.owner name.name) 3 span

    abbrev seen : Function → List (Option DslxType) → ParametricArgsSeen
    seen f os = call_parametric_args context.known f gs os

    abbrev right : Function → List (Option DslxType) → Judgement
    right f os = right_call span context f gs es js cycle (seen f os)

    right_passes : (f : Function) → as_function (item_named name.name context.known.whole.items) ≡ Some f → Passes here test (right f (types_of js)).faults (right f (types_of js)).reached
    right_passes f is e r =
        let owner = f.name.name in
        let n = seen f (types_of js) in
        let w = right_well_typed (reaching context.known here) context span f gs es js cycle n (record { faults = e; reached = r }) in
        let operands = operands_typed context env h es xs kx w.operands_given (all_sound here context.known.is_sound callees.sound (reached_of_all js) w.operands_reach) in
        let well_typed : IsWellTypedPart context.known (right f (types_of js)) = record { faults = e; reached = all_sound here context.known.is_sound callees.sound (right f (types_of js)).reached r } in
        let c : CallFound context f gs operands.0 n = subst (λ os. CallFound context f gs operands.0 (seen f os)) (sym operands.1)
        (call_found span context env name.name f as' ns es cycle kn h is operands.0 (subst (λ os. IsWellTypedPart context.known (right f os)) operands.1 well_typed)) in
        let instance = and_true (here (record { name = owner; parametric_args = c.parametric_args })) true ((λ i. list_all here (reached_by (has_broken (sym w.no_cycle i) || sym w.right i) owner (sym c.all i))) ∙ w.found) in
        let k = callees.calls name.name f is (inferred_by f.arguments (types_of js)) (maybe_inferred f.arguments (types_of js)) gs c.parametric_args c.all c.fit instance.0 in
        let own : list_all test (reached_by (is_refused cycle n) owner n.values) ≡ true = (λ i. list_all test (reached_by (has_broken (w.no_cycle i) || w.right i) owner (c.all i))) ∙ (λ i. k.1 i && true) in
        let declared : list_all test (typing_there cycle n).reached ≡ true = ap (λ (j : JudgedThere). list_all test j.reached) (typing_right cycle n w.no_cycle w.right) ∙ k.0 in
        let parts = both_pass test (reached_of_all (given_judgements gs)) (reached_of_all js) (given_pass as' pn w.parametric_args_given w.parametric_args_reach) (operands_pass es px w.operands_given w.operands_reach) in
        both_pass test (call_parts_reached gs js ++ (typing_there cycle n).reached) (reached_by (is_refused cycle n) owner n.values) (both_pass test (call_parts_reached gs js) (typing_there cycle n).reached parts declared) own

    by_count : (f : Function) → as_function (item_named name.name context.known.whole.items) ≡ Some f → (b : Bool) → Passes here test (if b then right f (types_of js) else wrong_call span gs js cycle).faults (if b then right f (types_of js) else wrong_call span gs js cycle).reached
    by_count f is false = wrong_passes span gs js cycle
    by_count f is true = right_passes f is

    by_function : (o : Option Function) → as_function (item_named name.name context.known.whole.items) ≡ o → Passes here test (function_call span context name gs es js o).faults (function_call span context name gs es js o).reached
    by_function None q = λ e r.
        let s = settled_well_typed (reaching context.known here) span None (call_parts_faults gs js ++ breaks 1 name.span ∷ []) (call_parts_reached gs js) None (record { faults = e; reached = r }) in
        some_fault (breaks 1 name.span) [] (none_in (call_parts_faults gs js) (breaks 1 name.span ∷ []) s.faults).1
    by_function (Some f) q = by_count f q (has_right_count f gs es)

    function_passes : Passes here test (function_call span context name gs es js (as_function (item_named name.name context.known.whole.items))).faults (function_call span context name gs es js (as_function (item_named name.name context.known.whole.items))).reached
    function_passes = by_function (as_function (item_named name.name context.known.whole.items)) refl

    -- ---- any call

    pub call_passes : (kind : CallKind) (on_top : Bool) → Passes here test (call_typing kind span name as' es on_top context).faults (call_typing kind span name as' es on_top context).reached
    call_passes Calls on_top = function_passes
    call_passes Receives on_top = any_effect on_top span as' es (receiving span context es) (receiving_passes span es px)
    call_passes ReceivesIf on_top = any_effect on_top span as' es (receiving_if span context es) (receiving_if_passes span es px)
    call_passes Sends on_top = any_effect on_top span as' es (sending span context es) (sending_passes span es px)
    call_passes SendsIf on_top = any_effect on_top span as' es (sending_if span context es) (sending_if_passes span es px)
    call_passes Joins on_top = unnumbered span as' es (builtin_typing Joins span es context) (joining_passes span es px)
    call_passes CountsLeading on_top = unnumbered span as' es (builtin_typing CountsLeading span es context) (counting_passes span es (first_operand_type js) px)
    call_passes CountsTrailing on_top = unnumbered span as' es (builtin_typing CountsTrailing span es context) (counting_passes span es (first_operand_type js) px)
    call_passes Reverses on_top = unnumbered span as' es (builtin_typing Reverses span es context) (counting_passes span es (first_operand_type js) px)
    call_passes AllOnes on_top = unnumbered span as' es (builtin_typing AllOnes span es context) (counting_passes span es (Some bool_type) px)
    call_passes SomeOne on_top = unnumbered span as' es (builtin_typing SomeOne span es context) (counting_passes span es (Some bool_type) px)
    call_passes Parity on_top = unnumbered span as' es (builtin_typing Parity span es context) (counting_passes span es (Some bool_type) px)
    call_passes Updates on_top = unnumbered span as' es (builtin_typing Updates span es context) (updating_passes span es px)
