-- Calls that break no rule: of functions that rule 3 lets them call, and of builtins.
use Rattle.std.proofs.Common.{◌≡◌, ◌++◌, Bool, true, false, if◌then◌else◌, ℕ, List, [], ◌∷◌, map, Option, Some, None, refl}
use Rattle.xb_span.specs.declared.span.Span.{Span}
use Rattle.xb_span.specs.declared.fault.Fault.{Fault}
use Rattle.dslx_tree.specs.declared.ident.Ident.{Ident}
use Rattle.dslx_tree.specs.declared.item.Function.{Function}
use Rattle.dslx_meaning.specs.Callees.{AllOnes, CallKind, Calls, CountsLeading, CountsTrailing, Joins, Parity, Receives, ReceivesIf, Reverses, Sends, SendsIf, SomeOne, Updates, is_text_function}
use Rattle.dslx_meaning.specs.Items.{as_function, item_named}
use Rattle.dslx_meaning.specs.Types.{bool_type}
use Rattle.dslx_meaning.specs.declared.ty.DslxType.{DslxType}
use Rattle.dslx_meaning.specs.Lists.{and_then}
use Rattle.dslx_meaning.specs.Rules.AggregateRules.{array_in, element_type, is_array}
use Rattle.dslx_meaning.specs.Rules.ConstantRules.{constant_of, is_unsigned}
use Rattle.dslx_meaning.specs.Rules.OperatorRules.{is_bits, unless_type}
use Rattle.dslx_meaning.specs.Rules.CallRules.{operand_faults, signature_seen, typing_there, update_faults, ParametricArgument, ParametricArgsSeen, builtin_typing, call_parametric_args, call_parts_faults, call_typing, counting, first_operand_type, function_call, given_judgements, given_parametric_args, has_right_count, right_call, token_typing, unnumbered_effect, updating, wrong_call, receiving, receiving_if, sending, sending_if, without_parametric_args}
use Rattle.dslx_meaning.specs.Rules.TypeEnvs.{ExprPair, Judgement, TypeEnv, all_alone, alone, breaks, breaks_if, faults_of_all, has_broken, span_of, types_of, within}
use Rattle.dslx_meaning.specs.Rules.Typings.{ArgPair}
use Rattle.dslx_meaning.specs.Rules.Mentions.{Use, AsFunction, Mentions, all_mentions, mention}
use Rattle.dslx_core.specs.Typing.TypingRelations.Cycles.{AllUsed}
use Rattle.dslx_core.proofs.OnTyping.OnCycles.Parts.{Behind, both_whole, constant_inside, front, join, join_three, not_here, passes, unmarked}
use Rattle.dslx_core.proofs.OnTyping.OnTyped.TypingRelations.{three_unbroken, unbroken_parts}

module _ (Q : Use → List ℕ → Bool) (bound : List (List ℕ)) (context : TypeEnv) where
  -- ---- operands

  -- each operand mentions none but what passes, where it breaks no rule
  abbrev pub EachJudged : List ExprPair → List Mentions → Type 0
  EachJudged [] mss = AllUsed Q (all_mentions mss bound)
  EachJudged (e ∷ es) [] = Unit {0}
  EachJudged (e ∷ es) (ms ∷ mss) = (has_broken (within context e).faults ≡ false → AllUsed Q (ms bound)) × EachJudged es mss

  pub alone_passes : (es : List ExprPair) (mss : List Mentions) → EachJudged es mss → has_broken (faults_of_all (all_alone context es)) ≡ false → AllUsed Q (all_mentions mss bound)
  alone_passes [] mss h g = h
  alone_passes (e ∷ es) [] h g = tt
  alone_passes (e ∷ es) (ms ∷ mss) h g =
      let r = unbroken_parts (alone context e).faults (faults_of_all (all_alone context es)) g in
      join Q (ms bound) (all_mentions mss bound) (h.0 (unmarked (span_of e) (within context e) r.0)) (alone_passes es mss h.1 r.1)

  tokens_pass : (es : List ExprPair) (mss : List Mentions) → EachJudged es mss → has_broken (faults_of_all (map (token_typing context) es)) ≡ false → AllUsed Q (all_mentions mss bound)
  tokens_pass [] mss h g = h
  tokens_pass (e ∷ es) [] h g = tt
  tokens_pass (e ∷ es) (ms ∷ mss) h g =
      let r = unbroken_parts (token_typing context e).faults (faults_of_all (map (token_typing context) es)) g in
      join Q (ms bound) (all_mentions mss bound) (h.0 (front (within context e).faults _ r.0)) (tokens_pass es mss h.1 r.1)

  given_pass : (as' : List ArgPair) (mss : List Mentions) → EachJudged (map (λ (a : ArgPair). a.1) as') mss → has_broken (faults_of_all (given_judgements (given_parametric_args context as'))) ≡ false → AllUsed Q (all_mentions mss bound)
  given_pass [] mss h g = h
  given_pass (a ∷ as') [] h g = tt
  given_pass (a ∷ as') (ms ∷ mss) h g =
      let r = unbroken_parts (constant_of context a.1).judgement.faults (faults_of_all (given_judgements (given_parametric_args context as'))) g in
      join Q (ms bound) (all_mentions mss bound) (h.0 (unmarked (span_of a.1) (within context a.1) (constant_inside context a.1 r.0))) (given_pass as' mss h.1 r.1)

  -- ---- calls of functions

  -- the front of six lists
  front_of_six : (a b c d e f : List Fault) → has_broken (((((a ++ b) ++ c) ++ d) ++ e) ++ f) ≡ false → (has_broken a ≡ false) × (has_broken b ≡ false) × (has_broken c ≡ false)
  front_of_six a b c d e f h = three_unbroken a b c (front ((a ++ b) ++ c) d (front (((a ++ b) ++ c) ++ d) e (front ((((a ++ b) ++ c) ++ d) ++ e) f h)))

  -- another number of arguments
  wrong_count : {X : Type 0} (span : Span) (gs : List ParametricArgument) (js : List Judgement) (more : List Fault) → has_broken (wrong_call span gs js more).faults ≡ false → X
  wrong_count span gs js more g = not_here (call_parts_faults gs js) more 10 span (front (call_parts_faults gs js ++ breaks 10 span ∷ more) _ g)

  function_passes : (span : Span) (name : Ident) (gs : List ParametricArgument) (es : List ExprPair) (js : List Judgement) → Behind Q bound context → (o : Option Function)
      → has_broken (function_call span context name gs es js o).faults ≡ false → (has_broken (call_parts_faults gs js) ≡ false) × (Q AsFunction name.name ≡ true)
  function_passes span name gs es js s None h = not_here (call_parts_faults gs js) [] 1 name.span (front (call_parts_faults gs js ++ breaks 1 name.span ∷ []) _ h)
  function_passes span name gs es js s (Some f) h = by_count (has_right_count f gs es) h
    where
      cyclic : List Fault
      cyclic = breaks_if (context.known.is_cyclic context.owner name.name) 3 span

      seen : ParametricArgsSeen
      seen = call_parametric_args context.known f gs (types_of js)

      by_count : (b : Bool) → has_broken (if b then right_call span context f gs es js cyclic seen else wrong_call span gs js cyclic).faults ≡ false
          → (has_broken (call_parts_faults gs js) ≡ false) × (Q AsFunction name.name ≡ true)
      by_count false g = wrong_count span gs js cyclic g
      by_count true g =
          let there = (typing_there cyclic seen).faults in
          let wrong = breaks_if seen.is_wrong 10 span in
          let operands = if◌then◌else◌ {A = List Fault} seen.is_wrong [] (operand_faults (signature_seen context.known f.name.name seen).arguments es js) in
          let r = front_of_six (call_parts_faults gs js) cyclic seen.faults there wrong operands (front (((((call_parts_faults gs js ++ cyclic) ++ seen.faults) ++ there) ++ wrong) ++ operands) _ g) in
          (r.0, passes Q bound context s AsFunction name.name span r.1)

  -- ---- builtins

  counting_passes : (span : Span) (es : List ExprPair) (mss : List Mentions) (t : Option DslxType) → EachJudged es mss → has_broken (counting span es (all_alone context es) t).faults ≡ false → AllUsed Q (all_mentions mss bound)
  counting_passes span [] mss t h g = h
  counting_passes span (e ∷ []) mss t h g =
      let j = alone context e in
      let wrong = unless_type is_bits 27 (span_of e) j.ty in
      alone_passes (e ∷ []) mss h (both_whole j.faults [] (front j.faults wrong (front (j.faults ++ wrong) _ g)) refl)
  counting_passes span (e ∷ a ∷ es) mss t h g = wrong_count span [] (all_alone context (e ∷ a ∷ es)) [] g

  updating_passes : (span : Span) (es : List ExprPair) (mss : List Mentions) → EachJudged es mss → has_broken (updating span es (all_alone context es)).faults ≡ false → AllUsed Q (all_mentions mss bound)
  updating_passes span [] mss h g = h
  updating_passes span (a ∷ []) mss h g = wrong_count span [] (all_alone context (a ∷ [])) [] g
  updating_passes span (a ∷ k ∷ []) mss h g = wrong_count span [] (all_alone context (a ∷ k ∷ [])) [] g
  updating_passes span (a ∷ k ∷ w ∷ []) mss h g =
      let j = alone context a in
      let place = alone context k in
      let value = alone context w in
      let one = unless_type is_array 27 (span_of a) j.ty in
      let two = unless_type is_unsigned 27 (span_of k) place.ty in
      let three = update_faults (span_of w) (element_type (and_then j.ty array_in)) value.ty in
      let r = front_of_six j.faults place.faults value.faults one two three (front (((((j.faults ++ place.faults) ++ value.faults) ++ one) ++ two) ++ three) _ g) in
      alone_passes (a ∷ k ∷ w ∷ []) mss h (both_whole (alone context a).faults ((alone context k).faults ++ ((alone context w).faults ++ [])) r.0
      (both_whole (alone context k).faults ((alone context w).faults ++ []) r.1 (both_whole (alone context w).faults [] r.2 refl)))
  updating_passes span (a ∷ k ∷ w ∷ e ∷ es) mss h g = wrong_count span [] (all_alone context (a ∷ k ∷ w ∷ e ∷ es)) [] g

  builtin_passes : (kind : CallKind) (span : Span) (es : List ExprPair) (mss : List Mentions) → EachJudged es mss → has_broken (builtin_typing kind span es context).faults ≡ false → AllUsed Q (all_mentions mss bound)
  builtin_passes Joins span es mss h g = tokens_pass es mss h (front (faults_of_all (map (token_typing context) es)) _ g)
  builtin_passes CountsLeading span es mss h g = counting_passes span es mss (first_operand_type (all_alone context es)) h g
  builtin_passes CountsTrailing span es mss h g = counting_passes span es mss (first_operand_type (all_alone context es)) h g
  builtin_passes Reverses span es mss h g = counting_passes span es mss (first_operand_type (all_alone context es)) h g
  builtin_passes Updates span es mss h g = updating_passes span es mss h g
  builtin_passes AllOnes span es mss h g = counting_passes span es mss (Some bool_type) h g
  builtin_passes SomeOne span es mss h g = counting_passes span es mss (Some bool_type) h g
  builtin_passes Parity span es mss h g = counting_passes span es mss (Some bool_type) h g
  builtin_passes Receives span es mss h g = counting_passes span es mss (Some bool_type) h g
  builtin_passes ReceivesIf span es mss h g = counting_passes span es mss (Some bool_type) h g
  builtin_passes Sends span es mss h g = counting_passes span es mss (Some bool_type) h g
  builtin_passes SendsIf span es mss h g = counting_passes span es mss (Some bool_type) h g
  builtin_passes Calls span es mss h g = counting_passes span es mss (Some bool_type) h g

  -- ---- any call

  -- what a call mentions, its number arguments and its operands
  abbrev pub CallPasses : CallKind → Ident → List Mentions → List Mentions → Type 0
  CallPasses kind name given mss = AllUsed Q (((if is_text_function kind then mention AsFunction name.name else []) ++ all_mentions given bound) ++ all_mentions mss bound)

  other_passes : (kind : CallKind) (span : Span) (as' : List ArgPair) (given : List Mentions) (es : List ExprPair) (mss : List Mentions) → EachJudged (map (λ (a : ArgPair). a.1) as') given → EachJudged es mss
      → has_broken (without_parametric_args span context as' es (builtin_typing kind span es context)).faults ≡ false → AllUsed Q (all_mentions given bound ++ all_mentions mss bound)
  other_passes kind span [] given es mss h k g = join Q (all_mentions given bound) (all_mentions mss bound) h (builtin_passes kind span es mss k g)
  other_passes kind span (a ∷ as') given es mss h k g =
      wrong_count span (given_parametric_args context (a ∷ as')) (all_alone context es) [] g

  -- an effect stands where none may
  no_effect : {X : Type 0} (span : Span) (j : Judgement) → has_broken (j.faults ++ breaks 28 span ∷ []) ≡ false → X
  no_effect span j g = not_here j.faults [] 28 span g

  pub call_passes : (kind : CallKind) (span : Span) (name : Ident) (as' : List ArgPair) (given : List Mentions) (es : List ExprPair) (mss : List Mentions) → Behind Q bound context → EachJudged (map (λ (a : ArgPair). a.1) as') given → EachJudged es mss
      → has_broken (call_typing kind span name as' es false context).faults ≡ false → CallPasses kind name given mss
  call_passes Calls span name as' given es mss s h k g =
      let gs = given_parametric_args context as' in
      let js = all_alone context es in
      let r = function_passes span name gs es js s (as_function (item_named name.name context.known.whole.items)) g in
      let q = unbroken_parts (faults_of_all (given_judgements gs)) (faults_of_all js) r.0 in
      join_three Q (mention AsFunction name.name) (all_mentions given bound) (all_mentions mss bound) (r.1, tt) (given_pass as' given h q.0) (alone_passes es mss k q.1)
  call_passes Receives span name as' given es mss s h k g = no_effect span (unnumbered_effect span context as' es (receiving span context es)) g
  call_passes ReceivesIf span name as' given es mss s h k g = no_effect span (unnumbered_effect span context as' es (receiving_if span context es)) g
  call_passes Sends span name as' given es mss s h k g = no_effect span (unnumbered_effect span context as' es (sending span context es)) g
  call_passes SendsIf span name as' given es mss s h k g = no_effect span (unnumbered_effect span context as' es (sending_if span context es)) g
  call_passes Joins span name as' given es mss s h k g = other_passes Joins span as' given es mss h k g
  call_passes CountsLeading span name as' given es mss s h k g = other_passes CountsLeading span as' given es mss h k g
  call_passes CountsTrailing span name as' given es mss s h k g = other_passes CountsTrailing span as' given es mss h k g
  call_passes Reverses span name as' given es mss s h k g = other_passes Reverses span as' given es mss h k g
  call_passes AllOnes span name as' given es mss s h k g = other_passes AllOnes span as' given es mss h k g
  call_passes SomeOne span name as' given es mss s h k g = other_passes SomeOne span as' given es mss h k g
  call_passes Parity span name as' given es mss s h k g = other_passes Parity span as' given es mss h k g
  call_passes Updates span name as' given es mss s h k g = other_passes Updates span as' given es mss h k g
