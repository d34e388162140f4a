-- Calls of builtins, where nothing is wrong with them.
use Rattle.std.proofs.Common.{◌≡◌, ◌++◌, ℕ, suc, length, arith, true, List, [], ◌∷◌, map, Option, Some, None, refl, sym, ap, subst, ◌∙◌}
use Rattle.std.specs.List.{list_all}
use Rattle.xb_bits.specs.Word.{Word}
use Rattle.xb_bits.specs.Operations as op
use Rattle.xb_span.specs.declared.fault.Fault.{Fault}
use Rattle.xb_span.specs.declared.span.Span.{Span}
use Rattle.dslx_meaning.specs.Callees.{AllOnes, CallKind, Calls, CountsLeading, CountsTrailing, Joins, Parity, Receives, ReceivesIf, Reverses, Sends, SendsIf, SomeOne, Updates}
use Rattle.dslx_meaning.specs.Lists.{all_some, and_then, with_both}
use Rattle.dslx_meaning.specs.Types.{bool_type, same_type}
use Rattle.dslx_meaning.specs.Environment.{Env}
use Rattle.dslx_meaning.specs.Meaning.{ExprDen, call_den, values_of}
use Rattle.dslx_meaning.specs.Operators.{counted, reduced, updated}
use Rattle.dslx_meaning.specs.declared.ty.DslxType as ty
use Rattle.dslx_meaning.specs.declared.ty.DslxType.{DslxType}
use Rattle.dslx_meaning.specs.declared.ty.DslxType.TheFolds.{fold-roll-DslxType}
use Rattle.dslx_meaning.specs.declared.ty.DslxType.TheOpen.{DslxType-F}
use Rattle.dslx_meaning.specs.declared.ty.DslxType.TheVariants as rolls
use Rattle.dslx_meaning.specs.declared.value.DslxValue as value
use Rattle.dslx_meaning.specs.declared.value.DslxValue.{DslxValue, out-DslxValue}
use Rattle.dslx_meaning.specs.declared.value.DslxValue.TheViews as views
use Rattle.dslx_meaning.specs.Rules.AggregateRules.{array_in, element_type, is_array, when_all}
use Rattle.dslx_meaning.specs.Rules.CallRules.{ParametricArgument, builtin_typing, call_parts_faults, call_parts_reached, counting, first_operand_type, given_parametric_args, joining, token_faults, token_typing, update_faults, updating, without_parametric_args, wrong_call}
use Rattle.dslx_meaning.specs.Rules.ConstantRules.{is_unsigned}
use Rattle.dslx_meaning.specs.Rules.TypeEnvs.{ExprPair, Judgement, GlobalEnv, TypeEnv, all_alone, alone, breaks, faults_of_all, one_and, plus_size, reached_of_all, size_of_all, span_of, types_of, within}
use Rattle.dslx_meaning.specs.Rules.Typings.{ArgPair}
use Rattle.dslx_meaning.specs.Rules.OperatorRules.{is_bits, unless_type}
use Rattle.dslx_core.specs.Typing.Typed.Complete.{IsWellTypedPart}
use Rattle.dslx_core.specs.Typing.Typed.Declared.{Declarations, IsDeclared, as_declared, declared_step}
use Rattle.dslx_core.specs.Typing.Typed.Kinds.{is_some_token, lies_in}
use Rattle.dslx_core.specs.Typing.Typed.WellTyped.{IsWellTypedEnv, types_at}
use Rattle.dslx_core.proofs.Lemmas.Typing.Typed.{all_are, and_reduce_lies, clz_lies, counting_gives, ctz_lies, of_token, or_reduce_lies, reducing_gives, rev_lies, update_given, xor_reduce_lies}
use Rattle.dslx_core.specs.Typing.Sound.Sound.{EachExprGives, HasTypedValue, IsBuiltin}
use Rattle.dslx_core.proofs.OnTyping.OnSound.OfOperations.{unless_passed}
use Rattle.dslx_core.proofs.OnTyping.OnSound.WellTypedParts.{all_in, all_in_three, alone_has, given, none_in, none_in_three, one_sized, passed, plus_sized, settled_well_typed, sized_if, some_fault, whole}
use Rattle.dslx_core.specs.Typing.Typed.Given.{IsSized}

-- ---- another number of arguments

pub wrongly_called : {X : Type 0} (known : GlobalEnv) (span : Span) (gs : List ParametricArgument) (js : List Judgement) (more : List Fault) → IsWellTypedPart known (wrong_call span gs js more) → X
wrongly_called known span gs js more well_typed =
    let s = settled_well_typed known span None (call_parts_faults gs js ++ breaks 10 span ∷ more) (call_parts_reached gs js) None well_typed in
    some_fault (breaks 10 span) more (none_in (call_parts_faults gs js) (breaks 10 span ∷ more) s.faults).1

-- ---- operands

one_operand : (o : Option DslxValue) (f : List DslxValue → List DslxValue → Option DslxValue) → and_then o (λ v. f [] (v ∷ [])) ≡ with_both (Some []) (all_some (o ∷ [])) f
one_operand None f = refl
one_operand (Some v) f = refl

three_operands : (o p q : Option DslxValue) (f : List DslxValue → List DslxValue → Option DslxValue)
    → and_then o (λ v. and_then p (λ i. and_then q (λ w. f [] (v ∷ i ∷ w ∷ [])))) ≡ with_both (Some []) (all_some (o ∷ p ∷ q ∷ [])) f
three_operands None p q f = refl
three_operands (Some v) None q f = refl
three_operands (Some v) (Some i) None f = refl
three_operands (Some v) (Some i) (Some w) f = refl

-- the same of another option
pub moved_to : (types : Declarations) (j : Judgement) (o p : Option DslxValue) → o ≡ p → HasTypedValue types j o → HasTypedValue types j p
moved_to types j o p e g = subst (HasTypedValue types j) e g

-- ---- counts and reductions

counts : (span : Span) (context : TypeEnv) (env : Env) (f : Word → Word) → ((w : Word) → (f w).width ≡ w.width) → ((w : Word) → lies_in w ≡ true → lies_in (f w) ≡ true) → (es : List ExprPair) (xs : List ExprDen) → EachExprGives es xs → IsWellTypedEnv context env
    → IsWellTypedPart context.known (counting span es (all_alone context es) (first_operand_type (all_alone context es)))
    → HasTypedValue (types_at context) (counting span es (all_alone context es) (first_operand_type (all_alone context es))) (with_both (Some []) (values_of xs env) (λ (ns vs : List DslxValue). counted f vs))
counts span context env f width within [] xs k h well_typed = wrongly_called context.known span [] [] [] well_typed
counts span context env f width within (e ∷ d ∷ es) xs k h well_typed = wrongly_called context.known span [] (alone context e ∷ alone context d ∷ all_alone context es) [] well_typed
counts span context env f width within (e ∷ []) [] k h well_typed = absurd k
counts span context env f width within (e ∷ []) (x ∷ y ∷ xs) k h well_typed = absurd k.1
counts span context env f width within (e ∷ []) (x ∷ []) k h well_typed =
    let a = alone context e in
    let bits = unless_type is_bits 27 (span_of e) a.ty in
    let own = and_then a.ty (λ t. a.ty) in
    let s = settled_well_typed context.known span own (a.faults ++ bits) a.reached (one_and a.size) well_typed in
    let p = none_in a.faults bits s.faults in
    let g = alone_has context env e x k.0 h p.0 s.reached in
    moved_to (types_at context) (counting span (e ∷ []) (a ∷ []) a.ty) (and_then (x.value env) (λ v. counted f (v ∷ []))) (with_both (Some []) (values_of (x ∷ []) env) (λ (ns vs : List DslxValue). counted f vs)) (one_operand (x.value env) (λ (ns vs : List DslxValue). counted f vs))
    (whole (types_at context) context.known span own (a.faults ++ bits) a.reached (one_and a.size) g.0 (and_then (x.value env) (λ v. counted f (v ∷ []))) s (λ i. and_then (g.1 i) (λ t. g.1 i)) (one_sized a.size g.3)
    (counting_gives (types_at context) span context e (x.value env) f width within (given (types_at context) a (x.value env) g)))

reduces : (span : Span) (context : TypeEnv) (env : Env) (f : Word → Word) → ((w : Word) → (f w).width ≡ 1) → ((w : Word) → lies_in w ≡ true → lies_in (f w) ≡ true) → (es : List ExprPair) (xs : List ExprDen) → EachExprGives es xs → IsWellTypedEnv context env
    → IsWellTypedPart context.known (counting span es (all_alone context es) (Some bool_type))
    → HasTypedValue (types_at context) (counting span es (all_alone context es) (Some bool_type)) (with_both (Some []) (values_of xs env) (λ (ns vs : List DslxValue). reduced f vs))
reduces span context env f width within [] xs k h well_typed = wrongly_called context.known span [] [] [] well_typed
reduces span context env f width within (e ∷ d ∷ es) xs k h well_typed = wrongly_called context.known span [] (alone context e ∷ alone context d ∷ all_alone context es) [] well_typed
reduces span context env f width within (e ∷ []) [] k h well_typed = absurd k
reduces span context env f width within (e ∷ []) (x ∷ y ∷ xs) k h well_typed = absurd k.1
reduces span context env f width within (e ∷ []) (x ∷ []) k h well_typed =
    let a = alone context e in
    let bits = unless_type is_bits 27 (span_of e) a.ty in
    let own = and_then a.ty (λ t. Some bool_type) in
    let s = settled_well_typed context.known span own (a.faults ++ bits) a.reached (one_and a.size) well_typed in
    let p = none_in a.faults bits s.faults in
    let g = alone_has context env e x k.0 h p.0 s.reached in
    moved_to (types_at context) (counting span (e ∷ []) (a ∷ []) (Some bool_type)) (and_then (x.value env) (λ v. reduced f (v ∷ []))) (with_both (Some []) (values_of (x ∷ []) env) (λ (ns vs : List DslxValue). reduced f vs)) (one_operand (x.value env) (λ (ns vs : List DslxValue). reduced f vs))
    (whole (types_at context) context.known span own (a.faults ++ bits) a.reached (one_and a.size) bool_type (and_then (x.value env) (λ v. reduced f (v ∷ []))) s (ap (λ o. and_then o (λ t. Some bool_type)) g.1) (one_sized a.size g.3)
    (reducing_gives (types_at context) span context e (x.value env) f width within (given (types_at context) a (x.value env) g)))

-- ---- `update`

updates : (span : Span) (context : TypeEnv) (env : Env) (es : List ExprPair) (xs : List ExprDen) → EachExprGives es xs → IsWellTypedEnv context env → IsWellTypedPart context.known (updating span es (all_alone context es))
    → HasTypedValue (types_at context) (updating span es (all_alone context es)) (with_both (Some []) (values_of xs env) (λ (ns vs : List DslxValue). updated vs))
updates span context env [] xs k h well_typed = wrongly_called context.known span [] [] [] well_typed
updates span context env (e ∷ []) xs k h well_typed = wrongly_called context.known span [] (alone context e ∷ []) [] well_typed
updates span context env (e ∷ i ∷ []) xs k h well_typed = wrongly_called context.known span [] (alone context e ∷ alone context i ∷ []) [] well_typed
updates span context env (e ∷ i ∷ v ∷ u ∷ es) xs k h well_typed = wrongly_called context.known span [] (alone context e ∷ alone context i ∷ alone context v ∷ alone context u ∷ all_alone context es) [] well_typed
updates span context env (e ∷ i ∷ v ∷ []) [] k h well_typed = absurd k
updates span context env (e ∷ i ∷ v ∷ []) (x ∷ []) k h well_typed = absurd k.1
updates span context env (e ∷ i ∷ v ∷ []) (x ∷ y ∷ []) k h well_typed = absurd k.1.1
updates span context env (e ∷ i ∷ v ∷ []) (x ∷ y ∷ z ∷ w ∷ xs) k h well_typed = absurd k.1.1.1
updates span context env (e ∷ i ∷ v ∷ []) (x ∷ y ∷ z ∷ []) k h well_typed =
    let a = alone context e in
    let c = alone context i in
    let d = alone context v in
    let array = unless_type is_array 27 (span_of e) a.ty in
    let place = unless_type is_unsigned 27 (span_of i) c.ty in
    let same = update_faults (span_of v) (element_type (and_then a.ty array_in)) d.ty in
    let own = and_then c.ty (λ t. and_then d.ty (λ u. a.ty)) in
    let parts = (a.faults ++ c.faults) ++ d.faults in
    let reached = (a.reached ++ c.reached) ++ d.reached in
    let size = one_and (plus_size a.size (plus_size c.size d.size)) in
    let s = settled_well_typed context.known span own (((parts ++ array) ++ place) ++ same) reached size well_typed in
    let p = none_in_three (parts ++ array) place same s.faults in
    let q = none_in parts array p.0 in
    let r = none_in_three a.faults c.faults d.faults q.0 in
    let m = all_in_three context.known.is_sound a.reached c.reached d.reached s.reached in
    let ga = alone_has context env e x k.0 h r.0 m.0 in
    let gc = alone_has context env i y k.1.0 h r.1 m.1 in
    let gd = alone_has context env v z k.1.1.0 h r.2 m.2 in
    let is_there_array = unless_passed is_array 27 (span_of e) a.ty ga.0 ga.1 q.1 in
    let is_place = unless_passed is_unsigned 27 (span_of i) c.ty gc.0 gc.1 p.1 in
    let typed = s.ty ∙ (λ j. and_then (gc.1 j) (λ t. and_then (gd.1 j) (λ u. ga.1 j))) in
    moved_to (types_at context) (updating span (e ∷ i ∷ v ∷ []) (a ∷ c ∷ d ∷ [])) (and_then (x.value env) (λ v. and_then (y.value env) (λ i. and_then (z.value env) (λ new. updated (v ∷ i ∷ new ∷ [])))))
    (with_both (Some []) (values_of (x ∷ y ∷ z ∷ []) env) (λ (ns vs : List DslxValue). updated vs)) (three_operands (x.value env) (y.value env) (z.value env) (λ (ns vs : List DslxValue). updated vs)) (
      ga.0,
      typed,
      update_given (types_at context) ga.0 gc.0 gd.0 (x.value env) (y.value env) (z.value env) ga.2 gc.2 gd.2 is_there_array is_place
          (λ u of. passed (same_type u gd.0) 27 (span_of v) (sym (λ j. update_faults (span_of v) ((ap (λ o. element_type (and_then o array_in)) ga.1 ∙ of) j) (gd.1 j)) ∙ p.2)),
      sized_if _ ga.0 size typed (one_sized (plus_size a.size (plus_size c.size d.size)) (plus_sized a.size (plus_size c.size d.size) ga.3 (plus_sized c.size d.size gc.3 gd.3))),
    )

-- ---- `join`

pub token_declared : (types : Declarations) → IsDeclared types ty.Token
token_declared types = ap (as_declared types) (sym rolls.rolls-Token) ∙ fold-roll-DslxType DslxType (declared_step types) DslxType-F.Token

tokens_have : (context : TypeEnv) (env : Env) → IsWellTypedEnv context env → (es : List ExprPair) (xs : List ExprDen) → EachExprGives es xs → faults_of_all (map (token_typing context) es) ≡ []
    → list_all context.known.is_sound (reached_of_all (map (token_typing context) es)) ≡ true
    → (ts : List DslxType) × (vs : List DslxValue) × (types_of (map (token_typing context) es) ≡ map Some ts) × (map (λ (x : ExprDen). x.value env) xs ≡ map Some vs) × IsSized (size_of_all (map (token_typing context) es))
tokens_have context env h [] [] k f r = ([], [], refl, refl, (0, refl))
tokens_have context env h [] (x ∷ xs) k f r = absurd k
tokens_have context env h (e ∷ es) [] k f r = absurd k
tokens_have context env h (e ∷ es) (x ∷ xs) k f r =
    let a = within context e in
    let p = none_in (a.faults ++ token_faults (span_of e) a.ty) (faults_of_all (map (token_typing context) es)) f in
    let q = none_in a.faults (token_faults (span_of e) a.ty) p.0 in
    let s = all_in context.known.is_sound a.reached (reached_of_all (map (token_typing context) es)) r in
    let g = k.0.gives context env h (record { faults = q.0; reached = s.0 }) in
    let more = tokens_have context env h es xs k.1 p.1 s.1 in
    (g.0 ∷ more.0, g.2.value ∷ more.1, (λ i. g.1 i ∷ more.2 i), (λ i. g.2.is i ∷ more.3 i), plus_sized a.size (size_of_all (map (token_typing context) es)) g.3 more.4)

joins : (span : Span) (context : TypeEnv) (env : Env) (es : List ExprPair) (xs : List ExprDen) → EachExprGives es xs → IsWellTypedEnv context env → IsWellTypedPart context.known (joining span context es)
    → HasTypedValue (types_at context) (joining span context es) (with_both (Some []) (values_of xs env) (λ (ns vs : List DslxValue). Some value.Token))
joins span context env es xs k h well_typed =
    let js = map (token_typing context) es in
    let own = when_all (types_of js) (Some ty.Token) in
    let s = settled_well_typed context.known span own (faults_of_all js) (reached_of_all js) (one_and (size_of_all js)) well_typed in
    let g = tokens_have context env h es xs k s.faults s.reached in
    let typed = s.ty ∙ ap (λ os. when_all os (Some ty.Token)) g.2 ∙ ap (λ o. and_then o (λ ts. Some ty.Token)) (all_are g.0) in (
      ty.Token,
      typed,
      record {
        value = value.Token;
        is = ap (λ os. with_both (Some []) (all_some os) (λ (ns vs : List DslxValue). Some value.Token)) g.3 ∙ ap (λ o. with_both (Some []) o (λ (ns vs : List DslxValue). Some value.Token)) (all_are g.1);
        of = of_token value.Token ∙ ap is_some_token views.outs-Token;
        declared = token_declared (types_at context);
      },
      sized_if _ ty.Token (one_and (size_of_all js)) typed (one_sized (size_of_all js) g.4),
    )

-- ---- any builtin

operands_alone : (kind : CallKind) (span : Span) (context : TypeEnv) (env : Env) (name : List ℕ) (es : List ExprPair) (xs : List ExprDen) → IsBuiltin kind → EachExprGives es xs → IsWellTypedEnv context env
    → IsWellTypedPart context.known (builtin_typing kind span es context) → HasTypedValue (types_at context) (builtin_typing kind span es context) (with_both (Some []) (values_of xs env) (call_den kind name env))
operands_alone Joins span context env name es xs b k h well_typed = joins span context env es xs k h well_typed
operands_alone CountsLeading span context env name es xs b k h well_typed = counts span context env op.clz (λ w. refl) (λ w e. clz_lies w) es xs k h well_typed
operands_alone CountsTrailing span context env name es xs b k h well_typed = counts span context env op.ctz (λ w. refl) (λ w e. ctz_lies w) es xs k h well_typed
operands_alone Reverses span context env name es xs b k h well_typed = counts span context env op.rev (λ w. refl) (λ w e. rev_lies w) es xs k h well_typed
operands_alone AllOnes span context env name es xs b k h well_typed = reduces span context env op.and_reduce (λ w. refl) (λ w e. and_reduce_lies w) es xs k h well_typed
operands_alone SomeOne span context env name es xs b k h well_typed = reduces span context env op.or_reduce (λ w. refl) (λ w e. or_reduce_lies w) es xs k h well_typed
operands_alone Parity span context env name es xs b k h well_typed = reduces span context env op.xor_reduce (λ w. refl) (λ w e. xor_reduce_lies w) es xs k h well_typed
operands_alone Updates span context env name es xs b k h well_typed = updates span context env es xs k h well_typed
operands_alone Receives span context env name es xs b k h well_typed = absurd b
operands_alone ReceivesIf span context env name es xs b k h well_typed = absurd b
operands_alone Sends span context env name es xs b k h well_typed = absurd b
operands_alone SendsIf span context env name es xs b k h well_typed = absurd b
operands_alone Calls span context env name es xs b k h well_typed = absurd b

pub builtin_has : (kind : CallKind) (span : Span) (context : TypeEnv) (env : Env) (name : List ℕ) (as' : List ArgPair) (ns : List ExprDen) (es : List ExprPair) (xs : List ExprDen) → IsBuiltin kind → length as' ≡ length ns
    → EachExprGives es xs → IsWellTypedEnv context env → IsWellTypedPart context.known (without_parametric_args span context as' es (builtin_typing kind span es context))
    → HasTypedValue (types_at context) (without_parametric_args span context as' es (builtin_typing kind span es context)) (with_both (values_of ns env) (values_of xs env) (call_den kind name env))
builtin_has kind span context env name [] [] es xs b n k h well_typed = operands_alone kind span context env name es xs b k h well_typed
builtin_has kind span context env name [] (x ∷ ns) es xs b n k h well_typed = some_fault x ns (none_long n)
  where
    none_long : 0 ≡ suc (length ns) → (x ∷ ns) ≡ []
    none_long q = absurd (impossible q)
      where
        impossible : 0 ≡ suc (length ns) → ⊥
        impossible q = omega (arith, q)
builtin_has kind span context env name (a ∷ as') ns es xs b n k h well_typed = wrongly_called context.known span (given_parametric_args context (a ∷ as')) (all_alone context es) [] well_typed
