-- Calls of functions, where nothing is wrong with them.
use Rattle.std.proofs.Common.{◌≡◌, ◌==◌, ◌&&◌, ◌||◌, ◌++◌, ℕ, suc, length, arith, Bool, true, false, not, if◌then◌else◌, List, [], ◌∷◌, map, Option, Some, None, refl, sym, ap, subst, ◌∙◌}
use mathlib.Core.Bool.{true≢false}
use Rattle.std.specs.Prelude.{nat_lt}
use Rattle.std.specs.List.{list_all}
use Rattle.std.proofs.lemmas.Bool.Decides.{Decides-eqb}
use Rattle.xb_span.specs.declared.fault.Fault.{Fault}
use Rattle.xb_span.specs.declared.span.Span.{Span}
use Rattle.dslx_tree.specs.declared.ident.Ident.{Ident}
use Rattle.dslx_tree.specs.declared.item.Field.{Field}
use Rattle.dslx_tree.specs.declared.item.Function.{Function}
use Rattle.dslx_meaning.specs.Lists.{all_some, and_then, with_both}
use Rattle.dslx_meaning.specs.Types.{same_type}
use Rattle.dslx_meaning.specs.Values.{type_of_value}
use Rattle.dslx_meaning.specs.Environment.{Env}
use Rattle.dslx_meaning.specs.Inference.{Inferred}
use Rattle.dslx_meaning.specs.Items.{all_parametric_args, as_function, inferred_from, item_named}
use Rattle.dslx_meaning.specs.Meaning.{ExprDen, values_of}
use Rattle.dslx_meaning.specs.declared.ty.DslxType.{DslxType}
use Rattle.dslx_meaning.specs.declared.value.DslxValue.{DslxValue}
use Rattle.dslx_meaning.specs.Rules.AggregateRules.{wanted_faults, when_all}
use Rattle.dslx_meaning.specs.Rules.CallRules.{Before, ParametricArgument, JudgedThere, ParametricArgsSeen, call_parametric_args, call_parts_faults, call_parts_reached, call_type, callee_size, function_call, given_judgements, given_parametric_args, has_right_count, inferred_by, is_refused, typing_there, known_before, maybe_inferred, parametric_args_seen, operand_faults, reached_by, right_call, signature_seen, wrong_call}
use Rattle.dslx_meaning.specs.Rules.TypeEnvs.{ExprPair, Judgement, GlobalEnv, TypeEnv, all_alone, alone, breaks, breaks_if, faults_of_all, has_broken, one_and, plus_size, reached_of_all, size_of_all, span_of, types_of}
use Rattle.dslx_meaning.specs.Rules.Typings.{ArgPair}
use Rattle.dslx_core.specs.Typing.Typed.Complete.{EachArgumentDeclared, FitArguments, IsWellTypedPart, signature_at}
use Rattle.dslx_core.specs.Typing.Typed.Declared.{Declarations, IsDeclared}
use Rattle.dslx_core.specs.Typing.Typed.Given.{GivesOf, IsSized}
use Rattle.dslx_core.specs.Typing.Typed.Kinds.{is_of}
use Rattle.dslx_core.specs.Typing.Typed.Numbers.{AllOwn, FitParametricArgs, GivenMean, values_behind}
use Rattle.dslx_core.specs.Typing.Typed.WellTyped.{IsWellTypedEnv, types_at}
use Rattle.dslx_core.proofs.Lemmas.Typing.Typed.{all_are, inferred_alike, list_parts, parametric_args_found, one_of_text, one_type, same_some}
use Rattle.dslx_core.specs.Typing.Sound.Sound.{EachExprGives, HasTypedValue}
use Rattle.dslx_core.proofs.OnTyping.OnSound.OfBuiltins.{wrongly_called}
use Rattle.dslx_core.proofs.OnTyping.OnSound.OfParametricArgs.{EachGiven, NumbersWellTyped, typing_right, parametric_args_given, parametric_args_known}
use Rattle.dslx_core.proofs.OnTyping.OnSound.WellTypedParts.{all_in, all_in_three, alone_has, none_in, none_in_three, not_broken, passed, settled_well_typed, some_fault, one_sized, plus_sized, sized_if}

-- ---- operands

record AreOperands (context : TypeEnv) (env : Env) (es : List ExprPair) (xs : List ExprDen) : Type 0 where
  values : List DslxValue
  typed : types_of (all_alone context es) ≡ map Some (map type_of_value values)
  are : map (λ (x : ExprDen). x.value env) xs ≡ map Some values
  own : AllOwn (types_at context) values
  sized : IsSized (size_of_all (all_alone context es))

operands_have : (context : TypeEnv) (env : Env) → IsWellTypedEnv context env → (es : List ExprPair) (xs : List ExprDen) → EachExprGives es xs → faults_of_all (all_alone context es) ≡ []
    → list_all context.known.is_sound (reached_of_all (all_alone context es)) ≡ true → AreOperands context env es xs
operands_have context env h [] [] k f r = record { values = []; typed = refl; are = refl; own = tt; sized = (0, refl) }
operands_have context env h [] (x ∷ xs) k f r = absurd k
operands_have context env h (e ∷ es) [] k f r = absurd k
operands_have context env h (e ∷ es) (x ∷ xs) k f r =
    let a = alone context e in
    let p = none_in a.faults (faults_of_all (all_alone context es)) f in
    let s = all_in context.known.is_sound a.reached (reached_of_all (all_alone context es)) r in
    let g = alone_has context env e x k.0 h p.0 s.0 in
    let t = one_type g.0 g.2.value g.2.of in
    let more = operands_have context env h es xs k.1 p.1 s.1 in
    record {
      values = g.2.value ∷ more.values;
      typed = λ i. (g.1 ∙ ap Some (sym t)) i ∷ more.typed i;
      are = λ i. g.2.is i ∷ more.are i;
      own = (record { value = g.2.value; is = refl; of = ap (λ u. is_of u g.2.value) t ∙ g.2.of; declared = subst (IsDeclared (types_at context)) (sym t) g.2.declared }, more.own);
      sized = plus_sized a.size (size_of_all (all_alone context es)) g.3 more.sized;
    }

-- they are of the types of the arguments
fit : (context : TypeEnv) (ts : List (Option DslxType)) (fs : List Field) (es : List ExprPair) (vs : List DslxValue) → EachArgumentDeclared (types_at context) ts fs → length es ≡ length fs
    → types_of (all_alone context es) ≡ map Some (map type_of_value vs) → AllOwn (types_at context) vs → operand_faults ts es (all_alone context es) ≡ [] → FitArguments (types_at context) ts vs
fit context [] [] [] [] known n typed own f = tt
fit context [] [] [] (v ∷ vs) known n typed own f = some_fault (Some (type_of_value v)) (map Some (map type_of_value vs)) (sym typed)
fit context [] [] (e ∷ es) vs known n typed own f = absurd (none_long n)
  where
    none_long : suc (length es) ≡ 0 → ⊥
    none_long q = omega (arith, q)
fit context [] (g ∷ fs) es vs known n typed own f = absurd known
fit context (t ∷ ts) [] es vs known n typed own f = absurd known
fit context (t ∷ ts) (g ∷ fs) [] vs known n typed own f = absurd (none_long n)
  where
    none_long : 0 ≡ suc (length fs) → ⊥
    none_long q = omega (arith, q)
fit context (t ∷ ts) (g ∷ fs) (e ∷ es) [] known n typed own f = some_fault (alone context e).ty (types_of (all_alone context es)) typed
fit context (t ∷ ts) (g ∷ fs) (e ∷ es) (v ∷ vs) known n typed own f =
    let p = none_in (wanted_faults (span_of e) t (alone context e).ty) (operand_faults ts es (all_alone context es)) f in
    let q = list_parts (alone context e).ty (Some (type_of_value v)) (types_of (all_alone context es)) (map Some (map type_of_value vs)) typed in
    let fewer : length es ≡ length fs = omega (arith, n) in (
      (λ u d.
          let same = passed (same_type u (type_of_value v)) 9 (span_of e) ((λ i. wanted_faults (span_of e) (sym d i) (sym q.0 i)) ∙ p.0) in
          let one = one_of_text (types_at context) u (type_of_value v) same (known.0 u d) own.0.declared in
          subst (λ x. GivesOf (types_at context) x (Some v)) (sym one) own.0),
      fit context ts fs es vs known.1 fewer q.1 own.1 p.1,
    )

-- nothing that is unknown might be inferred
none_maybe : (fs : List Field) (ts : List DslxType) → maybe_inferred fs (map Some ts) ≡ []
none_maybe [] [] = refl
none_maybe [] (t ∷ ts) = refl
none_maybe (f ∷ fs) [] = refl
none_maybe (f ∷ fs) (t ∷ ts) = none_maybe fs ts

-- ---- calls

and_both : (p q : Bool) → (p && q) ≡ true → (p ≡ true) × (q ≡ true)
and_both true q e = (refl, e)
and_both false q e = absurd (true≢false (sym e))

-- a call with the right number of arguments with which nothing is wrong
pub record IsRight (known : GlobalEnv) (context : TypeEnv) (span : Span) (f : Function) (gs : List ParametricArgument) (es : List ExprPair) (js : List Judgement) (cyclic : List Fault) (n : ParametricArgsSeen) : Type 0 where
  pub parametric_args_given : faults_of_all (given_judgements gs) ≡ []
  pub operands_given : faults_of_all js ≡ []
  pub no_cycle : cyclic ≡ []
  pub right : n.is_wrong ≡ false
  pub operands : (if n.is_wrong then [] else operand_faults (signature_seen context.known f.name.name n).arguments es js) ≡ []
  pub parametric_args_reach : list_all known.is_sound (reached_of_all (given_judgements gs)) ≡ true
  pub operands_reach : list_all known.is_sound (reached_of_all js) ≡ true
  pub well_typed : NumbersWellTyped known n
  pub found : list_all known.is_sound (reached_by (is_refused cyclic n) f.name.name n.values) ≡ true
  pub own : (right_call span context f gs es js cyclic n).ty ≡ call_type context.known f n js

pub right_well_typed : (known : GlobalEnv) (context : TypeEnv) (span : Span) (f : Function) (gs : List ParametricArgument) (es : List ExprPair) (js : List Judgement) (cyclic : List Fault) (n : ParametricArgsSeen) → IsWellTypedPart known (right_call span context f gs es js cyclic n)
    → IsRight known context span f gs es js cyclic n
right_well_typed known context span f gs es js cyclic n well_typed =
    let parts = call_parts_faults gs js in
    let wrong = breaks_if n.is_wrong 10 span in
    let misfits : List Fault = if n.is_wrong then [] else operand_faults (signature_seen context.known f.name.name n).arguments es js in
    let declared = typing_there cyclic n in
    let faults = ((((parts ++ cyclic) ++ n.faults) ++ declared.faults) ++ wrong) ++ misfits in
    let reach = reached_by (is_refused cyclic n) f.name.name n.values in
    let reached = (call_parts_reached gs js ++ declared.reached) ++ reach in
    let size = one_and (plus_size (size_of_all js) (callee_size context.known f.name.name n.values)) in
    let s = settled_well_typed known span (call_type context.known f n js) faults reached size well_typed in
    let p = none_in_three (((parts ++ cyclic) ++ n.faults) ++ declared.faults) wrong misfits s.faults in
    let q = none_in_three (parts ++ cyclic) n.faults declared.faults p.0 in
    let c = none_in parts cyclic q.0 in
    let r = none_in (faults_of_all (given_judgements gs)) (faults_of_all js) c.0 in
    let k = all_in_three known.is_sound (call_parts_reached gs js) declared.reached reach s.reached in
    let l = all_in known.is_sound (reached_of_all (given_judgements gs)) (reached_of_all js) k.0 in
    let right = not_broken n.is_wrong 10 span p.1 in
    let there = typing_right cyclic n c.1 right in
    record {
      parametric_args_given = r.0;
      operands_given = r.1;
      no_cycle = c.1;
      right = right;
      operands = p.2;
      parametric_args_reach = l.0;
      operands_reach = l.1;
      well_typed = record { given = q.1; declared = ap (λ (j : JudgedThere). j.faults) (sym there) ∙ q.2; reached = ap (λ (j : JudgedThere). list_all known.is_sound j.reached) (sym there) ∙ k.1; right = right };
      found = k.2;
      own = s.ty;
    }

same_lists : (us vs : List DslxType) → map Some us ≡ map Some vs → us ≡ vs
same_lists [] [] e = refl
same_lists [] (v ∷ vs) e = some_fault (Some v) (map Some vs) (sym e)
same_lists (u ∷ us) [] e = some_fault (Some u) (map Some us) e
same_lists (u ∷ us) (v ∷ vs) e =
    let q = list_parts (Some u) (Some v) (map Some us) (map Some vs) e in
    λ i. same_some u v q.0 i ∷ same_lists us vs q.1 i

called : (span : Span) (context : TypeEnv) (env : Env) (name : List ℕ) (f : Function) (as' : List ArgPair) (ns : List ExprDen) (es : List ExprPair) (xs : List ExprDen) (cyclic : List Fault)
    → EachExprGives (map (λ (a : ArgPair). a.1) as') ns → EachExprGives es xs → IsWellTypedEnv context env → as_function (item_named name context.known.whole.items) ≡ Some f → length es ≡ length f.arguments
    → (ts : List DslxType) → types_of (all_alone context es) ≡ map Some ts
    → IsWellTypedPart context.known (right_call span context f (given_parametric_args context as') es (all_alone context es) cyclic (call_parametric_args context.known f (given_parametric_args context as') (map Some ts)))
    → HasTypedValue (types_at context) (right_call span context f (given_parametric_args context as') es (all_alone context es) cyclic (call_parametric_args context.known f (given_parametric_args context as') (map Some ts)))
    (with_both (values_of ns env) (values_of xs env) (env.items.call name))
called span context env name f as' ns es xs cyclic kn kx h is count ts typed well_typed = subst Right (sym (none_maybe f.arguments ts)) known well_typed
  where
    gs : List ParametricArgument
    gs = given_parametric_args context as'

    js : List Judgement
    js = all_alone context es

    owner : List ℕ
    owner = f.name.name

    inferred : List Inferred
    inferred = inferred_by f.arguments (map Some ts)

    call : List (List ℕ) → Judgement
    call maybe = right_call span context f gs es js cyclic (parametric_args_seen context.known owner inferred maybe (known_before []) f.parametrics gs)

    Right : List (List ℕ) → Type 0
    Right maybe = IsWellTypedPart context.known (call maybe) → HasTypedValue (types_at context) (call maybe) (with_both (values_of ns env) (values_of xs env) (env.items.call name))

    n : ParametricArgsSeen
    n = parametric_args_seen context.known owner inferred [] (known_before []) f.parametrics gs

    known : Right []
    known well_typed =
        let w = right_well_typed context.known context span f gs es js cyclic n well_typed in
        let g = parametric_args_given context env h as' ns kn w.parametric_args_given w.parametric_args_reach in
        let o = operands_have context env h es xs kx w.operands_given w.operands_reach in
        let k = h.known.functions name f is in
        let m = parametric_args_known context.known owner inferred [] f.parametrics gs k.parametrics g.each w.well_typed in
        let sound = and_both (context.known.is_sound (record { name = owner; parametric_args = m.parametric_args })) true
        ((λ i. list_all context.known.is_sound (reached_by (has_broken (sym w.no_cycle i) || sym w.right i) owner (sym m.all i))) ∙ w.found) in
        let c = k.calls m.parametric_args m.fit sound.0 in
        let own : ts ≡ map type_of_value o.values = same_lists ts (map type_of_value o.values) (sym typed ∙ o.typed) in
        let parametric_args = parametric_args_found context.known context.known.items owner inferred [] [] [] f.parametrics gs g.values m.parametric_args k.mean m.fit g.mean m.all in
        let same : inferred ≡ inferred_from f.arguments (map type_of_value o.values) = inferred_alike f.arguments ts ∙ ap (inferred_from f.arguments) own in
        let fits = fit context (signature_at context.known owner m.parametric_args).arguments f.arguments es o.values (k.arguments m.parametric_args m.fit) count o.typed o.own
        (ap (λ (b : Before). operand_faults (context.known.signature_in owner b.values).arguments es js) (sym m.shown)
        ∙ ap (λ b. if◌then◌else◌ {A = List Fault} b [] (operand_faults (signature_seen context.known owner n).arguments es js)) (sym w.right) ∙ w.operands) in
        let v = c.gives g.values o.values (ap (λ i. all_parametric_args context.known.items i [] f.parametrics g.values) (sym same) ∙ parametric_args) fits in
        let body = c.sized o.values fits in
        let callee = callee_size context.known owner n.values in
        let parts = one_sized (plus_size (size_of_all js) callee) (plus_sized (size_of_all js) callee o.sized (body.0, ap (callee_size context.known owner) m.all ∙ body.1)) in
        let ty : (call []).ty ≡ Some c.result = w.own ∙ (λ i. and_then (m.all i) (λ vs. when_all (o.typed i) (signature_seen context.known owner n).result))
        ∙ ap (λ a. and_then a (λ us. (signature_seen context.known owner n).result)) (all_are (map type_of_value o.values))
        ∙ ap (λ (b : Before). (context.known.signature_in owner b.values).result) m.shown ∙ c.typed in
        let denotation : with_both (values_of ns env) (values_of xs env) (env.items.call name) ≡ context.known.items.call name g.values o.values =
        (λ i. with_both (all_some (g.are i)) (all_some (o.are i)) ((h.items i).call name)) ∙ (λ i. with_both (all_are g.values i) (all_are o.values i) (context.known.items.call name)) in
        (c.result, ty, record { value = v.value; is = denotation ∙ v.is; of = v.of; declared = v.declared }, sized_if _ c.result (one_and (plus_size (size_of_all js) callee)) ty parts)

pub function_has : (span : Span) (context : TypeEnv) (env : Env) (name : Ident) (as' : List ArgPair) (ns : List ExprDen) (es : List ExprPair) (xs : List ExprDen) → EachExprGives (map (λ (a : ArgPair). a.1) as') ns → EachExprGives es xs
    → IsWellTypedEnv context env → IsWellTypedPart context.known (function_call span context name (given_parametric_args context as') es (all_alone context es) (as_function (item_named name.name context.known.whole.items)))
    → HasTypedValue (types_at context) (function_call span context name (given_parametric_args context as') es (all_alone context es) (as_function (item_named name.name context.known.whole.items)))
    (with_both (values_of ns env) (values_of xs env) (env.items.call name.name))
function_has span context env name as' ns es xs kn kx h well_typed = by_function (as_function (item_named name.name context.known.whole.items)) refl well_typed
  where
    gs : List ParametricArgument
    gs = given_parametric_args context as'

    js : List Judgement
    js = all_alone context es

    Has : Judgement → Type 0
    Has j = HasTypedValue (types_at context) j (with_both (values_of ns env) (values_of xs env) (env.items.call name.name))

    right : Function → List (Option DslxType) → Judgement
    right f ts = right_call span context f gs es js (breaks_if (context.known.is_cyclic context.owner name.name) 3 span) (call_parametric_args context.known f gs ts)

    wrong : Judgement
    wrong = wrong_call span gs js (breaks_if (context.known.is_cyclic context.owner name.name) 3 span)

    typed : (f : Function) → as_function (item_named name.name context.known.whole.items) ≡ Some f → length es ≡ length f.arguments → IsWellTypedPart context.known (right f (types_of js)) → Has (right f (types_of js))
    typed f is n g =
        let cycle = breaks_if (context.known.is_cyclic context.owner name.name) 3 span in
        let seen = call_parametric_args context.known f gs (types_of js) in
        let w = right_well_typed context.known context span f gs es js cycle seen g in
        let o = operands_have context env h es xs kx w.operands_given w.operands_reach in
        subst (λ ts. IsWellTypedPart context.known (right f ts) → Has (right f ts)) (sym o.typed) (called span context env name.name f as' ns es xs cycle kn kx h is n (map type_of_value o.values) o.typed) g

    by_count : (f : Function) → as_function (item_named name.name context.known.whole.items) ≡ Some f → (b : Bool) → has_right_count f gs es ≡ b → IsWellTypedPart context.known (if b then right f (types_of js) else wrong)
        → Has (if b then right f (types_of js) else wrong)
    by_count f is false q g = wrongly_called context.known span gs js (breaks_if (context.known.is_cyclic context.owner name.name) 3 span) g
    by_count f is true q g = typed f is ((Decides-eqb (length es) (length f.arguments)).0 (and_both (length es == length f.arguments) (not (nat_lt (length f.parametrics) (length gs))) q).0) g

    by_function : (o : Option Function) → as_function (item_named name.name context.known.whole.items) ≡ o → IsWellTypedPart context.known (function_call span context name gs es js o) → Has (function_call span context name gs es js o)
    by_function None q g =
        let s = settled_well_typed context.known span None (call_parts_faults gs js ++ breaks 1 name.span ∷ []) (call_parts_reached gs js) None g in
        some_fault (breaks 1 name.span) [] (none_in (call_parts_faults gs js) (breaks 1 name.span ∷ []) s.faults).1
    by_function (Some f) q g = by_count f q (has_right_count f gs es) refl g

-- ---- what a call comes to

-- the parametric arguments that are written, and with them all numbers of the instance
pub record CallFound (context : TypeEnv) (f : Function) (gs : List ParametricArgument) (ts : List DslxType) (n : ParametricArgsSeen) : Type 0 where
  pub given : List DslxValue
  pub written : map (λ (g : ParametricArgument). g.seen.value) gs ≡ map Some given
  pub parametric_args : List DslxValue
  pub all : n.values ≡ Some parametric_args
  pub shown : n.bound ≡ known_before (values_behind [] parametric_args)
  pub fit : FitParametricArgs context.known f.name.name [] f.parametrics parametric_args
  pub arguments : EachArgumentDeclared context.known.items.type_named (signature_at context.known f.name.name parametric_args).arguments f.arguments
  pub found : all_parametric_args context.known.items (inferred_from f.arguments ts) [] f.parametrics given ≡ Some parametric_args

values_written : (types : Declarations) (gs : List ParametricArgument) (vs : List DslxValue) → EachGiven types gs → GivenMean gs vs → map (λ (g : ParametricArgument). g.seen.value) gs ≡ map Some vs
values_written types [] [] k m = refl
values_written types [] (v ∷ vs) k m = absurd m
values_written types (g ∷ gs) [] k m = absurd m
values_written types (g ∷ gs) (v ∷ vs) k m = λ i. (k.0.is ∙ ap Some (sym (m.0 k.0.value k.0.is))) i ∷ values_written types gs vs k.1 m.1 i

pub call_found : (span : Span) (context : TypeEnv) (env : Env) (name : List ℕ) (f : Function) (as' : List ArgPair) (ns : List ExprDen) (es : List ExprPair) (cyclic : List Fault) → EachExprGives (map (λ (a : ArgPair). a.1) as') ns
    → IsWellTypedEnv context env → as_function (item_named name context.known.whole.items) ≡ Some f → (ts : List DslxType)
    → IsWellTypedPart context.known (right_call span context f (given_parametric_args context as') es (all_alone context es) cyclic (call_parametric_args context.known f (given_parametric_args context as') (map Some ts)))
    → CallFound context f (given_parametric_args context as') ts (call_parametric_args context.known f (given_parametric_args context as') (map Some ts))
call_found span context env name f as' ns es cyclic kn h is ts well_typed = subst Found (sym (none_maybe f.arguments ts)) known well_typed
  where
    gs : List ParametricArgument
    gs = given_parametric_args context as'

    seen : List (List ℕ) → ParametricArgsSeen
    seen maybe = parametric_args_seen context.known f.name.name (inferred_by f.arguments (map Some ts)) maybe (known_before []) f.parametrics gs

    Found : List (List ℕ) → Type 0
    Found maybe = IsWellTypedPart context.known (right_call span context f gs es (all_alone context es) cyclic (seen maybe)) → CallFound context f gs ts (seen maybe)

    known : Found []
    known well_typed =
        let w = right_well_typed context.known context span f gs es (all_alone context es) cyclic (seen []) well_typed in
        let g = parametric_args_given context env h as' ns kn w.parametric_args_given w.parametric_args_reach in
        let k = h.known.functions name f is in
        let inferred = inferred_by f.arguments (map Some ts) in
        let m = parametric_args_known context.known f.name.name inferred [] f.parametrics gs k.parametrics g.each w.well_typed in
        record {
          given = g.values;
          written = values_written (types_at context) gs g.values g.each g.mean;
          parametric_args = m.parametric_args;
          all = m.all;
          shown = m.shown;
          fit = m.fit;
          arguments = k.arguments m.parametric_args m.fit;
          found = ap (λ i. all_parametric_args context.known.items i [] f.parametrics g.values) (sym (inferred_alike f.arguments ts))
              ∙ parametric_args_found context.known context.known.items f.name.name inferred [] [] [] f.parametrics gs g.values m.parametric_args k.mean m.fit g.mean m.all;
        }
