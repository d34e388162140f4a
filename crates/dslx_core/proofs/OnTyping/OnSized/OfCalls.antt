-- Calls that have a size: of functions, of which they reach an instance, of builtins, and effects.
use Rattle.std.proofs.Common.{◌≡◌, ◌||◌, ◌++◌, Bool, true, false, if◌then◌else◌, ℕ, List, [], ◌∷◌, map, Option, Some, None, refl, subst}
use mathlib.Core.Bool.{true≢false}
use Rattle.xb_span.specs.declared.span.Span.{Span}
use Rattle.xb_span.specs.declared.fault.Fault.{Fault}
use Rattle.dslx_tree.specs.declared.ident.Ident.{Ident}
use Rattle.dslx_tree.specs.declared.item.Function.{Function}
use Rattle.dslx_tree.specs.declared.item.Definition.TheVariants as d
use Rattle.dslx_tree.specs.declared.item.Parametric.{Parametric}
use Rattle.dslx_tree.specs.declared.process.Direction.{Direction}
use Rattle.dslx_tree.specs.declared.process.Direction.TheVariants.{In, Out}
use Rattle.dslx_meaning.specs.Callees.{AllOnes, CallKind, Calls, CountsLeading, CountsTrailing, Joins, Parity, Receives, ReceivesIf, Reverses, Sends, SendsIf, SomeOne, Updates, is_text_function}
use Rattle.dslx_meaning.specs.Inference.{Inferred}
use Rattle.dslx_meaning.specs.Items.{as_function, item_named}
use Rattle.dslx_meaning.specs.Lists.{all_some, and_then}
use Rattle.dslx_meaning.specs.declared.ty.DslxType.{DslxType}
use Rattle.dslx_meaning.specs.declared.value.DslxValue.{DslxValue}
use Rattle.dslx_meaning.specs.Rules.AggregateRules.{wanted_faults, when_all}
use Rattle.dslx_meaning.specs.Rules.OperatorRules.{is_bool, unless_type}
use Rattle.dslx_meaning.specs.Rules.CallRules.{Before, ParametricArgsSeen, ParametricArgument, and_parametric, builtin_typing, call_parametric_args, call_parts_faults, call_parts_reached, call_type, call_typing, callee_size, channel_end_at, channel_named, channel_seen, counting, effect_with, first_operand_type, function_call, given_judgements, given_parametric_args, has_right_count, held_typing, inferred_by, is_refused, known_before, maybe_inferred, of_type, only_on_top, operand_faults, parametric_args_seen, parametric_type, reached_by, receiving, receiving_if, resolved_value, right_call, sending, sending_if, signature_seen, site_faults, token_typing, typing_there, unnumbered_effect, updating, value_before, without_parametric_args, word_of, wrong_call, wrong_effect}
use Rattle.dslx_meaning.specs.Rules.ConstantRules.{constant_of}
use Rattle.dslx_meaning.specs.Rules.Mentions.{AsFunction, Mention, Mentions, all_mentions, mention}
use Rattle.dslx_meaning.specs.Rules.PatternRules.{is_there}
use Rattle.dslx_meaning.specs.Rules.TypeEnvs.{ChannelEnd, ExprPair, GlobalEnv, Instance, Judgement, TypeEnv, all_alone, alone, breaks_if, faults_of_all, name_of_expr, one_and, plus_size, reached_of_all, size_of_all, span_of, types_of, within}
use Rattle.dslx_meaning.specs.Rules.Typings.{ArgPair}
use Rattle.dslx_meaning.specs.Types.{bool_type, received}
use Rattle.dslx_meaning.specs.declared.ty.DslxType as ty
use Rattle.dslx_core.specs.Typing.TypingRelations.Called.{named}
use Rattle.dslx_core.specs.Typing.TypingRelations.Cycles.{AllUsed}
use Rattle.dslx_core.specs.Typing.TypingRelations.Reached.{AllNamed}
use Rattle.dslx_core.proofs.OnTyping.OnCycles.Parts.{front, join, join_three}
use Rattle.dslx_core.proofs.OnTyping.OnSized.Parts.{HasCalls, first_there, named_parts, nothing_there, one_less, rest_sized, second_there, sized_inside, three_named, three_sizes, two_sizes, two_there, typed_size, unmarked_sized}
use Rattle.dslx_core.proofs.OnTyping.OnTyped.TypingRelations.{rule_holds, unbroken_parts}
use Rattle.dslx_core.proofs.OnTyping.OnTyping.OfItems.{function_is, item_so_named}

-- ---- given parametrics

-- each has a value
abbrev pub AllValued : List ParametricArgument → Type 0
AllValued [] = Unit {0}
AllValued (g ∷ gs) = (is_there g.seen.value ≡ true) × AllValued gs

value_given : (o : Option DslxValue) (q : Option (List DslxValue)) → is_there (value_before (resolved_value o) q) ≡ true → (is_there o ≡ true) × (is_there q ≡ true)
value_given None q h = nothing_there h
value_given (Some v) None h = nothing_there h
value_given (Some v) (Some vs) h = (refl, refl)

pub values_given : (known : GlobalEnv) (owner : List ℕ) (inferred : List Inferred) (maybe : List (List ℕ)) (before : Before) (ps : List Parametric) (gs : List ParametricArgument)
    → is_there (parametric_args_seen known owner inferred maybe before ps gs).values ≡ true → AllValued gs
values_given known owner inferred maybe before [] [] h = tt
values_given known owner inferred maybe before [] (g ∷ gs) h = nothing_there h
values_given known owner inferred maybe before (p ∷ ps) [] h = tt
values_given known owner inferred maybe before (p ∷ ps) (g ∷ gs) h =
    let t = parametric_type known owner before in
    let o = of_type t g.seen.value in
    let rest = parametric_args_seen known owner inferred maybe (and_parametric before (resolved_value o)) ps gs in
    let r = value_given o rest.values h in
    ((two_there t g.seen.value _ r.0).1, values_given known owner inferred maybe (and_parametric before (resolved_value o)) ps gs r.1)

-- what a call with values that isn't refused reaches
pub callee_passes : (P : List ℕ → Bool) (b : Bool) (name : List ℕ) (o : Option (List DslxValue)) → b ≡ false → is_there o ≡ true → AllNamed P (reached_by b name o) → P name ≡ true
callee_passes P true name o e h k = absurd (true≢false e)
callee_passes P false name None e h k = nothing_there h
callee_passes P false name (Some vs) e h k = k.0

module _ (P U : List ℕ → Bool) (bound : List (List ℕ)) (context : TypeEnv) where
  -- ---- operands

  -- each operand that has a size mentions none but what passes, where all that it reaches does
  abbrev pub EachSized : List ExprPair → List Mentions → Type 0
  EachSized [] mss = AllUsed (named P U) (all_mentions mss bound)
  EachSized (e ∷ es) [] = Unit {0}
  EachSized (e ∷ es) (ms ∷ mss) = HasCalls P U (within context e) (ms bound) × EachSized es mss

  -- each that is a name mentions no function, and nothing unknown where it is a member's
  abbrev pub EachNamed : List ExprPair → List Mentions → Type 0
  EachNamed [] mss = Unit {0}
  EachNamed (e ∷ es) [] = Unit {0}
  EachNamed (e ∷ es) (ms ∷ mss) = ((name : List ℕ) → name_of_expr e ≡ Some name → is_there (channel_end_at context name) ≡ true → AllUsed (named P U) (ms bound)) × EachNamed es mss

  alone_sized : (es : List ExprPair) (mss : List Mentions) → EachSized es mss → is_there (size_of_all (all_alone context es)) ≡ true → AllNamed P (reached_of_all (all_alone context es)) → AllUsed (named P U) (all_mentions mss bound)
  alone_sized [] mss c h k = c
  alone_sized (e ∷ es) [] c h k = tt
  alone_sized (e ∷ es) (ms ∷ mss) c h k =
      let r = two_sizes (alone context e).size (size_of_all (all_alone context es)) h in
      let q = named_parts P (alone context e).reached (reached_of_all (all_alone context es)) k in
      join (named P U) (ms bound) (all_mentions mss bound) (unmarked_sized P U (ms bound) (span_of e) (within context e) c.0 r.0 q.0) (alone_sized es mss c.1 r.1 q.1)

  tokens_sized : (es : List ExprPair) (mss : List Mentions) → EachSized es mss → is_there (size_of_all (map (token_typing context) es)) ≡ true → AllNamed P (reached_of_all (map (token_typing context) es)) → AllUsed (named P U) (all_mentions mss bound)
  tokens_sized [] mss c h k = c
  tokens_sized (e ∷ es) [] c h k = tt
  tokens_sized (e ∷ es) (ms ∷ mss) c h k =
      let r = two_sizes (token_typing context e).size (size_of_all (map (token_typing context) es)) h in
      let q = named_parts P (token_typing context e).reached (reached_of_all (map (token_typing context) es)) k in
      join (named P U) (ms bound) (all_mentions mss bound) (c.0 r.0 q.0) (tokens_sized es mss c.1 r.1 q.1)

  -- each parametric argument that has a value
  abbrev pub EachValued : List ArgPair → List Mentions → Type 0
  EachValued [] mss = AllUsed (named P U) (all_mentions mss bound)
  EachValued (a ∷ as') [] = Unit {0}
  EachValued (a ∷ as') (ms ∷ mss) = (is_there (constant_of context a.1).value ≡ true → AllNamed P (constant_of context a.1).judgement.reached → AllUsed (named P U) (ms bound)) × EachValued as' mss

  given_valued : (as' : List ArgPair) (mss : List Mentions) → EachValued as' mss → AllValued (given_parametric_args context as') → AllNamed P (reached_of_all (given_judgements (given_parametric_args context as'))) → AllUsed (named P U) (all_mentions mss bound)
  given_valued [] mss c h k = c
  given_valued (a ∷ as') [] c h k = tt
  given_valued (a ∷ as') (ms ∷ mss) c h k =
      let q = named_parts P (constant_of context a.1).judgement.reached (reached_of_all (given_judgements (given_parametric_args context as'))) k in
      join (named P U) (ms bound) (all_mentions mss bound) (c.0 h.0 q.0) (given_valued as' mss c.1 h.1 q.1)

  -- ---- calls of functions

  -- another number of arguments
  wrong_sized : {X : Type 0} (span : Span) (gs : List ParametricArgument) (js : List Judgement) (more : List Fault) → is_there (wrong_call span gs js more).size ≡ true → X
  wrong_sized span gs js more h = nothing_there (typed_size (wrong_call span gs js more).ty None h).1

  -- what a call of a function passes
  record CalleePasses (name : Ident) (gs : List ParametricArgument) (js : List Judgement) : Type 0 where
    callee : P name.name ≡ true
    sizes : is_there (size_of_all js) ≡ true
    values : AllValued gs
    parts : AllNamed P (call_parts_reached gs js)

  function_sized : (span : Span) (name : Ident) (gs : List ParametricArgument) (es : List ExprPair) (js : List Judgement) (o : Option Function) → as_function (item_named name.name context.known.whole.items) ≡ o
      → is_there (function_call span context name gs es js o).size ≡ true → AllNamed P (function_call span context name gs es js o).reached → CalleePasses name gs js
  function_sized span name gs es js None q h k = nothing_there (typed_size (function_call span context name gs es js None).ty None h).1
  function_sized span name gs es js (Some f) q h k = by_count (has_right_count f gs es) h k
    where
      cyclic : List Fault
      cyclic = breaks_if (context.known.is_cyclic context.owner name.name) 3 span

      seen : ParametricArgsSeen
      seen = call_parametric_args context.known f gs (types_of js)

      so_named : f.name.name ≡ name.name
      so_named = item_so_named context.known.whole.items name.name (d.Function f) (function_is (item_named name.name context.known.whole.items) f q)

      by_count : (b : Bool) → is_there (if b then right_call span context f gs es js cyclic seen else wrong_call span gs js cyclic).size ≡ true
          → AllNamed P (if b then right_call span context f gs es js cyclic seen else wrong_call span gs js cyclic).reached → CalleePasses name gs js
      by_count false h k = wrong_sized span gs js cyclic h
      by_count true h k =
          let there = (typing_there cyclic seen).faults in
          let wrong = breaks_if seen.is_wrong 10 span in
          let operands = if◌then◌else◌ {A = List Fault} seen.is_wrong [] (operand_faults (signature_seen context.known f.name.name seen).arguments es js) in
          let upto = (((call_parts_faults gs js ++ cyclic) ++ seen.faults) ++ there) ++ wrong in
          let both = plus_size (size_of_all js) (callee_size context.known f.name.name seen.values) in
          let r = sized_inside (upto ++ operands) (call_type context.known f seen js) (one_and both) h in
          let sizes = two_sizes (size_of_all js) (callee_size context.known f.name.name seen.values) (one_less both r.2) in
          let valued = first_there seen.values (λ vs. when_all (types_of js) (signature_seen context.known f.name.name seen).result) r.1 in
          let five = unbroken_parts upto operands r.0 in
          let four = unbroken_parts (((call_parts_faults gs js ++ cyclic) ++ seen.faults) ++ there) wrong five.0 in
          let two = front (call_parts_faults gs js ++ cyclic) seen.faults (front ((call_parts_faults gs js ++ cyclic) ++ seen.faults) there four.0) in
          let one = unbroken_parts (call_parts_faults gs js) cyclic two in
          let reached = three_named P (call_parts_reached gs js) (typing_there cyclic seen).reached (reached_by (is_refused cyclic seen) f.name.name seen.values) k in
          record {
            callee = subst (λ (n : List ℕ). P n ≡ true) so_named (callee_passes P (is_refused cyclic seen) f.name.name seen.values (λ i. one.1 i || rule_holds seen.is_wrong 10 span four.1 i) valued reached.2);
            sizes = sizes.0;
            values = values_given context.known f.name.name (inferred_by f.arguments (types_of js)) (maybe_inferred f.arguments (types_of js)) (known_before []) f.parametrics gs valued;
            parts = reached.0;
          }

  -- ---- builtins

  counting_sized : (span : Span) (es : List ExprPair) (mss : List Mentions) (t : Option DslxType) → EachSized es mss → is_there (counting span es (all_alone context es) t).size ≡ true → AllNamed P (counting span es (all_alone context es) t).reached
      → AllUsed (named P U) (all_mentions mss bound)
  counting_sized span [] mss t c h k = c
  counting_sized span (e ∷ []) mss t c h k =
      let j = alone context e in
      alone_sized (e ∷ []) mss c (with_none j.size (rest_sized (counting span (e ∷ []) (j ∷ []) t).ty j.size h)) (with_nothing j.reached k)
    where
      with_none : (o : Option ℕ) → is_there o ≡ true → is_there (size_of_all (record { ty = None; faults = []; reached = []; size = o } ∷ [])) ≡ true
      with_none None h = nothing_there h
      with_none (Some n) h = refl

      with_nothing : (is : List Instance) → AllNamed P is → AllNamed P (is ++ [])
      with_nothing [] h = tt
      with_nothing (i ∷ is) h = (h.0, with_nothing is h.1)
  counting_sized span (e ∷ a ∷ es) mss t c h k = wrong_sized span [] (all_alone context (e ∷ a ∷ es)) [] h

  -- as many sizes as operands
  three_operands : (a b c : ExprPair) (mss : List Mentions) → EachSized (a ∷ b ∷ c ∷ []) mss → is_there (alone context a).size ≡ true → is_there (alone context b).size ≡ true → is_there (alone context c).size ≡ true
      → AllNamed P (((alone context a).reached ++ (alone context b).reached) ++ (alone context c).reached) → AllUsed (named P U) (all_mentions mss bound)
  three_operands a b c [] s x y z k = tt
  three_operands a b c (ma ∷ []) s x y z k =
      let q = three_named P (alone context a).reached (alone context b).reached (alone context c).reached k in
      join (named P U) (ma bound) [] (unmarked_sized P U (ma bound) (span_of a) (within context a) s.0 x q.0) tt
  three_operands a b c (ma ∷ mb ∷ []) s x y z k =
      let q = three_named P (alone context a).reached (alone context b).reached (alone context c).reached k in
      join (named P U) (ma bound) (mb bound ++ []) (unmarked_sized P U (ma bound) (span_of a) (within context a) s.0 x q.0)
      (join (named P U) (mb bound) [] (unmarked_sized P U (mb bound) (span_of b) (within context b) s.1.0 y q.1) tt)
  three_operands a b c (ma ∷ mb ∷ mc ∷ mss) s x y z k =
      let q = three_named P (alone context a).reached (alone context b).reached (alone context c).reached k in
      join (named P U) (ma bound) (mb bound ++ (mc bound ++ all_mentions mss bound)) (unmarked_sized P U (ma bound) (span_of a) (within context a) s.0 x q.0)
      (join (named P U) (mb bound) (mc bound ++ all_mentions mss bound) (unmarked_sized P U (mb bound) (span_of b) (within context b) s.1.0 y q.1)
      (join (named P U) (mc bound) (all_mentions mss bound) (unmarked_sized P U (mc bound) (span_of c) (within context c) s.1.1.0 z q.2) s.1.1.1))

  updating_sized : (span : Span) (es : List ExprPair) (mss : List Mentions) → EachSized es mss → is_there (updating span es (all_alone context es)).size ≡ true → AllNamed P (updating span es (all_alone context es)).reached → AllUsed (named P U) (all_mentions mss bound)
  updating_sized span [] mss c h k = c
  updating_sized span (a ∷ []) mss c h k = wrong_sized span [] (all_alone context (a ∷ [])) [] h
  updating_sized span (a ∷ b ∷ []) mss c h k = wrong_sized span [] (all_alone context (a ∷ b ∷ [])) [] h
  updating_sized span (a ∷ b ∷ w ∷ []) mss c h k =
      let all = plus_size (alone context a).size (plus_size (alone context b).size (alone context w).size) in
      let s = three_sizes (alone context a).size (alone context b).size (alone context w).size (rest_sized (updating span (a ∷ b ∷ w ∷ []) (all_alone context (a ∷ b ∷ w ∷ []))).ty all h) in
      three_operands a b w mss c s.0 s.1 s.2 k
  updating_sized span (a ∷ b ∷ w ∷ e ∷ es) mss c h k = wrong_sized span [] (all_alone context (a ∷ b ∷ w ∷ e ∷ es)) [] h

  joining_sized : (span : Span) (es : List ExprPair) (mss : List Mentions) → EachSized es mss → is_there (builtin_typing Joins span es context).size ≡ true → AllNamed P (builtin_typing Joins span es context).reached → AllUsed (named P U) (all_mentions mss bound)
  joining_sized span es mss c h k = tokens_sized es mss c (rest_sized (builtin_typing Joins span es context).ty (size_of_all (map (token_typing context) es)) h) k

  builtin_sized : (kind : CallKind) (span : Span) (es : List ExprPair) (mss : List Mentions) → EachSized es mss → is_there (builtin_typing kind span es context).size ≡ true → AllNamed P (builtin_typing kind span es context).reached
      → AllUsed (named P U) (all_mentions mss bound)
  builtin_sized Joins span es mss c h k = joining_sized span es mss c h k
  builtin_sized CountsLeading span es mss c h k = counting_sized span es mss (first_operand_type (all_alone context es)) c h k
  builtin_sized CountsTrailing span es mss c h k = counting_sized span es mss (first_operand_type (all_alone context es)) c h k
  builtin_sized Reverses span es mss c h k = counting_sized span es mss (first_operand_type (all_alone context es)) c h k
  builtin_sized Updates span es mss c h k = updating_sized span es mss c h k
  builtin_sized AllOnes span es mss c h k = counting_sized span es mss (Some bool_type) c h k
  builtin_sized SomeOne span es mss c h k = counting_sized span es mss (Some bool_type) c h k
  builtin_sized Parity span es mss c h k = counting_sized span es mss (Some bool_type) c h k
  builtin_sized Receives span es mss c h k = counting_sized span es mss (Some bool_type) c h k
  builtin_sized ReceivesIf span es mss c h k = counting_sized span es mss (Some bool_type) c h k
  builtin_sized Sends span es mss c h k = counting_sized span es mss (Some bool_type) c h k
  builtin_sized SendsIf span es mss c h k = counting_sized span es mss (Some bool_type) c h k
  builtin_sized Calls span es mss c h k = counting_sized span es mss (Some bool_type) c h k

  -- ---- effects

  -- the channel is a member's name: what stands alone is none
  channel_sized : (e : ExprPair) (ms : List Mention) → ((name : List ℕ) → name_of_expr e ≡ Some name → is_there (channel_end_at context name) ≡ true → AllUsed (named P U) ms) → is_there (channel_seen context e).channel_end ≡ true → AllUsed (named P U) ms
  channel_sized e ms names h = by_name (name_of_expr e) refl h
    where
      by_name : (o : Option (List ℕ)) → name_of_expr e ≡ o → is_there (channel_named context e o).channel_end ≡ true → AllUsed (named P U) ms
      by_name None q h = nothing_there h
      by_name (Some name) q h = names name q h

  -- another number of arguments
  wrong_effect_sized : {X : Type 0} (span : Span) (gs : List ParametricArgument) (es : List ExprPair) → is_there (wrong_effect span context gs es).size ≡ true → X
  wrong_effect_sized span gs [] h = wrong_sized span gs [] [] h
  wrong_effect_sized span gs (t ∷ []) h = wrong_sized span gs (held_typing context t ∷ []) [] h
  wrong_effect_sized span gs (t ∷ c ∷ es) h = wrong_sized span gs (held_typing context t ∷ (channel_seen context c).judgement ∷ all_alone context es) [] h

  -- its words have a type only where it is one
  end_there : (c : ExprPair) → is_there (word_of (channel_seen context c)) ≡ true → is_there (channel_seen context c).channel_end ≡ true
  end_there c h = first_there (channel_seen context c).channel_end (λ (o : ChannelEnd). o.word) h

  effect_sized : (span : Span) (direction : Direction) (t c : ExprPair) (es : List ExprPair) (more : List Fault) (given : Option DslxType) (mss : List Mentions) → EachSized (t ∷ c ∷ es) mss → EachNamed (t ∷ c ∷ es) mss
      → (is_there given ≡ true → is_there (channel_seen context c).channel_end ≡ true)
      → is_there (effect_with span context direction (token_typing context t) (channel_seen context c) (all_alone context es) more given).size ≡ true
      → AllNamed P (effect_with span context direction (token_typing context t) (channel_seen context c) (all_alone context es) more given).reached → AllUsed (named P U) (all_mentions mss bound)
  effect_sized span direction t c es more given [] s names ends h k = tt
  effect_sized span direction t c es more given (mt ∷ []) s names ends h k =
      let channel = channel_seen context c in
      let all = plus_size (token_typing context t).size (plus_size channel.judgement.size (size_of_all (all_alone context es))) in
      let own = (effect_with span context direction (token_typing context t) channel (all_alone context es) more given).ty in
      let sizes = three_sizes (token_typing context t).size channel.judgement.size (size_of_all (all_alone context es)) (rest_sized own all h) in
      let q = three_named P (token_typing context t).reached channel.judgement.reached (reached_of_all (all_alone context es)) k in
      join (named P U) (mt bound) [] (s.0 sizes.0 q.0) tt
  effect_sized span direction t c es more given (mt ∷ mc ∷ mss) s names ends h k =
      let channel = channel_seen context c in
      let all = plus_size (token_typing context t).size (plus_size channel.judgement.size (size_of_all (all_alone context es))) in
      let own = (effect_with span context direction (token_typing context t) channel (all_alone context es) more given).ty in
      let sizes = three_sizes (token_typing context t).size channel.judgement.size (size_of_all (all_alone context es)) (rest_sized own all h) in
      let q = three_named P (token_typing context t).reached channel.judgement.reached (reached_of_all (all_alone context es)) k in
      let others = all_alone context es in
      let faults = ((((token_typing context t).faults ++ channel.judgement.faults) ++ faults_of_all others) ++ more) ++ site_faults span context direction channel in
      let wanted = and_then (token_typing context t).ty (λ u. when_all (types_of others) given) in
      let typed = second_there (all_some (types_of others)) given (second_there (token_typing context t).ty (when_all (types_of others) given) (sized_inside faults wanted (one_and all) h).1) in
      join (named P U) (mt bound) (mc bound ++ all_mentions mss bound) (s.0 sizes.0 q.0)
      (join (named P U) (mc bound) (all_mentions mss bound) (channel_sized c (mc bound) names.1.0 (ends typed)) (alone_sized es mss s.1.1 sizes.2 q.2))

  receiving_sized : (span : Span) (es : List ExprPair) (mss : List Mentions) → EachSized es mss → EachNamed es mss → is_there (receiving span context es).size ≡ true → AllNamed P (receiving span context es).reached → AllUsed (named P U) (all_mentions mss bound)
  receiving_sized span [] mss s names h k = s
  receiving_sized span (t ∷ []) mss s names h k = wrong_effect_sized span [] (t ∷ []) h
  receiving_sized span (t ∷ c ∷ []) mss s names h k = effect_sized span In t c [] [] (and_then (word_of (channel_seen context c)) (λ w. Some (received w))) mss s names (λ g. end_there c (first_there (word_of (channel_seen context c)) (λ w. Some (received w)) g)) h k
  receiving_sized span (t ∷ c ∷ e ∷ es) mss s names h k = wrong_effect_sized span [] (t ∷ c ∷ e ∷ es) h

  sending_sized : (span : Span) (es : List ExprPair) (mss : List Mentions) → EachSized es mss → EachNamed es mss → is_there (sending span context es).size ≡ true → AllNamed P (sending span context es).reached → AllUsed (named P U) (all_mentions mss bound)
  sending_sized span [] mss s names h k = s
  sending_sized span (t ∷ []) mss s names h k = wrong_effect_sized span [] (t ∷ []) h
  sending_sized span (t ∷ c ∷ []) mss s names h k = wrong_effect_sized span [] (t ∷ c ∷ []) h
  sending_sized span (t ∷ c ∷ e ∷ []) mss s names h k = effect_sized span Out t c (e ∷ []) (wanted_faults (span_of e) (word_of (channel_seen context c)) (alone context e).ty) (and_then (word_of (channel_seen context c)) (λ w. Some ty.Token)) mss s names (λ g. end_there c (first_there (word_of (channel_seen context c)) (λ w. Some ty.Token) g)) h k
  sending_sized span (t ∷ c ∷ e ∷ a ∷ es) mss s names h k = wrong_effect_sized span [] (t ∷ c ∷ e ∷ a ∷ es) h

  receiving_if_sized : (span : Span) (es : List ExprPair) (mss : List Mentions) → EachSized es mss → EachNamed es mss → is_there (receiving_if span context es).size ≡ true → AllNamed P (receiving_if span context es).reached → AllUsed (named P U) (all_mentions mss bound)
  receiving_if_sized span [] mss s names h k = s
  receiving_if_sized span (t ∷ []) mss s names h k = wrong_effect_sized span [] (t ∷ []) h
  receiving_if_sized span (t ∷ c ∷ []) mss s names h k = wrong_effect_sized span [] (t ∷ c ∷ []) h
  receiving_if_sized span (t ∷ c ∷ e ∷ []) mss s names h k = wrong_effect_sized span [] (t ∷ c ∷ e ∷ []) h
  receiving_if_sized span (t ∷ c ∷ e ∷ a ∷ []) mss s names h k = effect_sized span In t c (e ∷ a ∷ []) (unless_type is_bool 15 (span_of e) (alone context e).ty ++ wanted_faults (span_of a) (word_of (channel_seen context c)) (alone context a).ty) (and_then (word_of (channel_seen context c)) (λ w. Some (received w))) mss s names (λ g. end_there c (first_there (word_of (channel_seen context c)) (λ w. Some (received w)) g)) h k
  receiving_if_sized span (t ∷ c ∷ e ∷ a ∷ b ∷ es) mss s names h k = wrong_effect_sized span [] (t ∷ c ∷ e ∷ a ∷ b ∷ es) h

  sending_if_sized : (span : Span) (es : List ExprPair) (mss : List Mentions) → EachSized es mss → EachNamed es mss → is_there (sending_if span context es).size ≡ true → AllNamed P (sending_if span context es).reached → AllUsed (named P U) (all_mentions mss bound)
  sending_if_sized span [] mss s names h k = s
  sending_if_sized span (t ∷ []) mss s names h k = wrong_effect_sized span [] (t ∷ []) h
  sending_if_sized span (t ∷ c ∷ []) mss s names h k = wrong_effect_sized span [] (t ∷ c ∷ []) h
  sending_if_sized span (t ∷ c ∷ e ∷ []) mss s names h k = wrong_effect_sized span [] (t ∷ c ∷ e ∷ []) h
  sending_if_sized span (t ∷ c ∷ e ∷ a ∷ []) mss s names h k = effect_sized span Out t c (e ∷ a ∷ []) (unless_type is_bool 15 (span_of e) (alone context e).ty ++ wanted_faults (span_of a) (word_of (channel_seen context c)) (alone context a).ty) (and_then (word_of (channel_seen context c)) (λ w. Some ty.Token)) mss s names (λ g. end_there c (first_there (word_of (channel_seen context c)) (λ w. Some ty.Token) g)) h k
  sending_if_sized span (t ∷ c ∷ e ∷ a ∷ b ∷ es) mss s names h k = wrong_effect_sized span [] (t ∷ c ∷ e ∷ a ∷ b ∷ es) h

  -- ---- any call

  -- what a call mentions, its number arguments and its operands
  abbrev pub CallUsed : CallKind → Ident → List Mentions → List Mentions → Type 0
  CallUsed kind name given mss = AllUsed (named P U) (((if is_text_function kind then mention AsFunction name.name else []) ++ all_mentions given bound) ++ all_mentions mss bound)

  -- an effect, at the top or not, has no parametric arguments
  top_sized : {X : Type 0} (b : Bool) (span : Span) (j : Judgement) → (is_there j.size ≡ true → AllNamed P j.reached → X) → is_there (only_on_top b span j).size ≡ true → AllNamed P (only_on_top b span j).reached → X
  top_sized true span j c h k = c h k
  top_sized false span j c h k = c h k

  effect_passes : (on_top : Bool) (span : Span) (as' : List ArgPair) (given : List Mentions) (es : List ExprPair) (mss : List Mentions) (j : Judgement) → EachValued as' given
      → (is_there j.size ≡ true → AllNamed P j.reached → AllUsed (named P U) (all_mentions mss bound)) → is_there (only_on_top on_top span (unnumbered_effect span context as' es j)).size ≡ true
      → AllNamed P (only_on_top on_top span (unnumbered_effect span context as' es j)).reached → AllUsed (named P U) (all_mentions given bound ++ all_mentions mss bound)
  effect_passes on_top span [] given es mss j g c h k = join (named P U) (all_mentions given bound) (all_mentions mss bound) g (top_sized on_top span j c h k)
  effect_passes on_top span (a ∷ as') given es mss j g c h k =
      let gs = given_parametric_args context (a ∷ as') in
      top_sized on_top span (wrong_effect span context gs es) (λ x y. wrong_effect_sized span gs es x) h k

  other_passes : (kind : CallKind) (span : Span) (as' : List ArgPair) (given : List Mentions) (es : List ExprPair) (mss : List Mentions) → EachValued as' given → EachSized es mss
      → is_there (without_parametric_args span context as' es (builtin_typing kind span es context)).size ≡ true → AllNamed P (without_parametric_args span context as' es (builtin_typing kind span es context)).reached
      → AllUsed (named P U) (all_mentions given bound ++ all_mentions mss bound)
  other_passes kind span [] given es mss g s h k = join (named P U) (all_mentions given bound) (all_mentions mss bound) g (builtin_sized kind span es mss s h k)
  other_passes kind span (a ∷ as') given es mss g s h k = wrong_sized span (given_parametric_args context (a ∷ as')) (all_alone context es) [] h

  pub call_sized : (kind : CallKind) (span : Span) (name : Ident) (as' : List ArgPair) (given : List Mentions) (es : List ExprPair) (mss : List Mentions) → EachValued as' given → EachSized es mss → EachNamed es mss → (on_top : Bool)
      → is_there (call_typing kind span name as' es on_top context).size ≡ true → AllNamed P (call_typing kind span name as' es on_top context).reached → CallUsed kind name given mss
  call_sized Calls span name as' given es mss g s names on_top h k =
      let gs = given_parametric_args context as' in
      let js = all_alone context es in
      let r = function_sized span name gs es js (as_function (item_named name.name context.known.whole.items)) refl h k in
      let q = named_parts P (reached_of_all (given_judgements gs)) (reached_of_all js) r.parts in
      join_three (named P U) (mention AsFunction name.name) (all_mentions given bound) (all_mentions mss bound) (r.callee, tt) (given_valued as' given g r.values q.0) (alone_sized es mss s r.sizes q.1)
  call_sized Receives span name as' given es mss g s names on_top h k = effect_passes on_top span as' given es mss (receiving span context es) g (receiving_sized span es mss s names) h k
  call_sized ReceivesIf span name as' given es mss g s names on_top h k = effect_passes on_top span as' given es mss (receiving_if span context es) g (receiving_if_sized span es mss s names) h k
  call_sized Sends span name as' given es mss g s names on_top h k = effect_passes on_top span as' given es mss (sending span context es) g (sending_sized span es mss s names) h k
  call_sized SendsIf span name as' given es mss g s names on_top h k = effect_passes on_top span as' given es mss (sending_if span context es) g (sending_if_sized span es mss s names) h k
  call_sized Joins span name as' given es mss g s names on_top h k = other_passes Joins span as' given es mss g s h k
  call_sized CountsLeading span name as' given es mss g s names on_top h k = other_passes CountsLeading span as' given es mss g s h k
  call_sized CountsTrailing span name as' given es mss g s names on_top h k = other_passes CountsTrailing span as' given es mss g s h k
  call_sized Reverses span name as' given es mss g s names on_top h k = other_passes Reverses span as' given es mss g s h k
  call_sized AllOnes span name as' given es mss g s names on_top h k = other_passes AllOnes span as' given es mss g s h k
  call_sized SomeOne span name as' given es mss g s names on_top h k = other_passes SomeOne span as' given es mss g s h k
  call_sized Parity span name as' given es mss g s names on_top h k = other_passes Parity span as' given es mss g s h k
  call_sized Updates span name as' given es mss g s names on_top h k = other_passes Updates span as' given es mss g s h k
