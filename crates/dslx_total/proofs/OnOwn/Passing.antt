-- Instances that parts reach with which nothing is wrong: they pass a test where those of the parts' parts do.
use Rattle.std.proofs.Common.{◌≡◌, ◌&&◌, ◌++◌, Bool, true, false, if◌then◌else◌, List, [], ◌∷◌, Option, Some, None, refl, ℕ, zero, suc}
use Rattle.std.specs.List.{list_all}
use Rattle.xb_span.specs.declared.fault.Fault.{Fault}
use Rattle.xb_span.specs.declared.span.Span.{Span}
use Rattle.dslx_tree.specs.declared.ident.Ident.{Ident}
use Rattle.dslx_tree.specs.declared.item.Enum.{Enum}
use Rattle.dslx_tree.specs.declared.item.Function.{Function}
use Rattle.dslx_meaning.specs.Environment.{Env, given_in}
use Rattle.dslx_meaning.specs.Inference.{Inferred}
use Rattle.dslx_meaning.specs.Items.{as_enum, as_function, item_named}
use Rattle.dslx_meaning.specs.Lists.{is_in}
use Rattle.dslx_meaning.specs.Types.{holds_token}
use Rattle.dslx_meaning.specs.declared.ty.DslxType.{DslxType, out-DslxType}
use Rattle.dslx_meaning.specs.declared.value.DslxValue.{DslxValue}
use Rattle.dslx_meaning.specs.declared.value.UntypedLiteral.{UntypedLiteral}
use Rattle.dslx_meaning.specs.Rules.AggregateRules.{element_in, field_typing, is_some_tuple, pair_alone, pair_or_alone, range_faults, wanted_faults}
use Rattle.dslx_meaning.specs.Rules.CallRules.{ParametricArgument, known_before, parametric_args_seen}
use Rattle.dslx_meaning.specs.Rules.ConstantRules.{ConstantSeen, constant_of, constant_or_untyped, count_faults, count_number, count_of, count_type_faults, names_a_local, size_faults, untyped_typing}
use Rattle.dslx_meaning.specs.Rules.NameRules.{end_or_other, item_value, local_or_other, member_of, member_typing, name_typing, parametric_or_item}
use Rattle.dslx_meaning.specs.Rules.TypeEnvs.{ExprPair, ExprTyping, Instance, Judgement, GlobalEnv, TypeEnv, Typed, alone, breaks, breaks_if, no_token, settled, span_of, typed_in, untyped_of, within}
use Rattle.dslx_meaning.specs.Rules.Typings.{FieldSeen, PatternTyping, StatementTyping, TypeExprTyping}
use Rattle.dslx_core.proofs.Lemmas.Typing.Laws.{and_true}
use Rattle.dslx_core.proofs.Lemmas.Typing.Sound.{all_in, none_in}
use Rattle.dslx_core.specs.Typing.Typed.Numbers.{FitParametricArgs}
use Rattle.dslx_core.specs.Typing.Typed.WellTyped.{IsWellTypedEnv}

-- ---- lists

-- where nothing is wrong, and all that is reached passes the first test, all passes the second one
abbrev pub Passes : (Instance → Bool) → (Instance → Bool) → List Fault → List Instance → Type 0
Passes here test faults reached = faults ≡ [] → list_all here reached ≡ true → list_all test reached ≡ true

pub both_pass : (f : Instance → Bool) (xs ys : List Instance) → list_all f xs ≡ true → list_all f ys ≡ true → list_all f (xs ++ ys) ≡ true
both_pass f [] ys a b = b
both_pass f (x ∷ xs) ys a b = let q = and_true (f x) (list_all f xs) a in λ i. q.0 i && both_pass f xs ys q.1 b i

pub join : (here test : Instance → Bool) (f g : List Fault) (r s : List Instance) → Passes here test f r → Passes here test g s → Passes here test (f ++ g) (r ++ s)
join here test f g r s p q e h =
    let a = none_in f g e in
    let b = all_in here r s h in
    both_pass test r s (p a.0 b.0) (q a.1 b.1)

pub join_three : (here test : Instance → Bool) (f g k : List Fault) (r s t : List Instance) → Passes here test f r → Passes here test g s → Passes here test k t → Passes here test ((f ++ g) ++ k) ((r ++ s) ++ t)
join_three here test f g k r s t p q u = join here test (f ++ g) k (r ++ s) t (join here test f g r s p q) u

-- more faults, behind or before
pub before_more : (here test : Instance → Bool) (f g : List Fault) (r : List Instance) → Passes here test f r → Passes here test (f ++ g) r
before_more here test f g r p e h = p (none_in f g e).0 h

pub behind_more : (here test : Instance → Bool) (f g : List Fault) (r : List Instance) → Passes here test g r → Passes here test (f ++ g) r
behind_more here test f g r p e h = p (none_in f g e).1 h

-- ---- calls

-- instances that pass the first test are sound; and where one of a function is called with parametric arguments that fit, it passes the
-- second one, as do those that the types and the defaults of its parametrics reach there
pub record CalleesPass (here test : Instance → Bool) (known : GlobalEnv) : Type 0 where
  pub sound : (i : Instance) → here i ≡ true → known.is_sound i ≡ true
  pub calls : (name : List ℕ) (f : Function) → as_function (item_named name known.whole.items) ≡ Some f → (inferred : List Inferred) (maybe : List (List ℕ)) (gs : List ParametricArgument) (parametric_args : List DslxValue)
      → (parametric_args_seen known f.name.name inferred maybe (known_before []) f.parametrics gs).values ≡ Some parametric_args → FitParametricArgs known f.name.name [] f.parametrics parametric_args
      → here (record { name = f.name.name; parametric_args = parametric_args }) ≡ true
      → (list_all test (parametric_args_seen known f.name.name inferred maybe (known_before []) f.parametrics gs).declared.reached ≡ true) × (test (record { name = f.name.name; parametric_args = parametric_args }) ≡ true)

-- ---- what is to hold of each sort

-- an expression or a block, at the top of `next` or elsewhere
abbrev pub ExprPasses : (Instance → Bool) → (Instance → Bool) → ExprTyping → Type 0
ExprPasses here test j = (on_top : Bool) (context : TypeEnv) (env : Env) → IsWellTypedEnv context env → CalleesPass here test context.known → Passes here test (j on_top context).faults (j on_top context).reached

abbrev pub TypePasses : (Instance → Bool) → (Instance → Bool) → TypeExprTyping → Type 0
TypePasses here test j = (context : TypeEnv) (env : Env) → IsWellTypedEnv context env → CalleesPass here test context.known → Passes here test (j context).faults (j context).reached

abbrev pub PatternPasses : (Instance → Bool) → (Instance → Bool) → PatternTyping → Type 0
PatternPasses here test p = (may_fail : Bool) (context : TypeEnv) (t : Option DslxType) (names : List (List ℕ)) (locals : List Typed) (env : Env) → IsWellTypedEnv context env → CalleesPass here test context.known
    → Passes here test (p may_fail context t names locals).faults (p may_fail context t names locals).reached

abbrev pub FieldPasses : (Instance → Bool) → (Instance → Bool) → FieldSeen → Type 0
FieldPasses here test f = (context : TypeEnv) (struct : Option DslxType) (env : Env) → IsWellTypedEnv context env → CalleesPass here test context.known → Passes here test (field_typing context struct f).faults (field_typing context struct f).reached

pub record StatementPasses (here test : Instance → Bool) (s : StatementTyping) : Type 0 where
  pub known : (on_top : Bool) (context : TypeEnv) → (s on_top context).context.known ≡ context.known
  pub passes : (on_top : Bool) (context : TypeEnv) (env : Env) → IsWellTypedEnv context env → CalleesPass here test context.known → Passes here test (s on_top context).faults (s on_top context).reached

-- ---- expressions as what is around them sees them

module _ (here test : Instance → Bool) where
  pub unmarked : (span : Span) (j : Judgement) → Passes here test j.faults j.reached → Passes here test (no_token span j).faults (no_token span j).reached
  unmarked span j p = by_type j.ty j.faults j.reached j.size p
    where
      by_test : (u : DslxType) (faults : List Fault) (reached : List Instance) (size : Option ℕ) (b : Bool) → Passes here test faults reached
          → Passes here test
          (if◌then◌else◌ {A = Judgement} b (record { ty = None; faults = faults ++ breaks 28 span ∷ []; reached = reached; size = size }) (record { ty = Some u; faults = faults; reached = reached; size = size })).faults
          (if◌then◌else◌ {A = Judgement} b (record { ty = None; faults = faults ++ breaks 28 span ∷ []; reached = reached; size = size }) (record { ty = Some u; faults = faults; reached = reached; size = size })).reached
      by_test u faults reached size true k = before_more here test faults (breaks 28 span ∷ []) reached k
      by_test u faults reached size false k = k

      by_type : (ty : Option DslxType) (faults : List Fault) (reached : List Instance) (size : Option ℕ) → Passes here test faults reached
          → Passes here test (no_token span (record { ty = ty; faults = faults; reached = reached; size = size })).faults (no_token span (record { ty = ty; faults = faults; reached = reached; size = size })).reached
      by_type None faults reached size k = k
      by_type (Some u) faults reached size k = by_test u faults reached size (holds_token u) k

  abbrev pub AlonePasses : TypeEnv → ExprPair → Type 0
  AlonePasses context e = Passes here test (alone context e).faults (alone context e).reached

  abbrev pub WithinPasses : TypeEnv → ExprPair → Type 0
  WithinPasses context e = Passes here test (within context e).faults (within context e).reached

  pub alone_passes : (context : TypeEnv) (e : ExprPair) → WithinPasses context e → AlonePasses context e
  alone_passes context e p = unmarked (span_of e) (within context e) p

  pair_passes : (context : TypeEnv) (e : ExprPair) → WithinPasses context e → Passes here test (pair_alone context e).faults (pair_alone context e).reached
  pair_passes context e h = by_type (e.1 false context).ty (e.1 false context) h
    where
      if_pair : Judgement → Option DslxType → Judgement
      if_pair j None = j
      if_pair j (Some t) = if is_some_tuple (out-DslxType t) then j else no_token (span_of e) j

      by_test : (b : Bool) (j : Judgement) → Passes here test j.faults j.reached → Passes here test (if b then j else no_token (span_of e) j).faults (if b then j else no_token (span_of e) j).reached
      by_test true j k = k
      by_test false j k = unmarked (span_of e) j k

      by_type : (o : Option DslxType) (j : Judgement) → Passes here test j.faults j.reached → Passes here test (if_pair j o).faults (if_pair j o).reached
      by_type None j k = k
      by_type (Some t) j k = by_test (is_some_tuple (out-DslxType t)) j k

  pub taken_passes : (k : ℕ) (context : TypeEnv) (e : ExprPair) → WithinPasses context e → Passes here test (pair_or_alone k context e).faults (pair_or_alone k context e).reached
  taken_passes zero context e h = pair_passes context e h
  taken_passes (suc zero) context e h = pair_passes context e h
  taken_passes (suc (suc k)) context e h = alone_passes context e h

  -- an element of a literal, which may be a number without a type
  abbrev element_by : TypeEnv → Option DslxType → ExprPair → Option UntypedLiteral → Judgement
  element_by context wanted e None = let j = alone context e in record j { faults = j.faults ++ wanted_faults (span_of e) wanted j.ty }
  element_by context wanted e (Some number) = record untyped_typing { ty = wanted; faults = range_faults (span_of e) wanted number }

  pub element_passes : (context : TypeEnv) (wanted : Option DslxType) (e : ExprPair) → AlonePasses context e → Passes here test (element_in context wanted e).faults (element_in context wanted e).reached
  element_passes context wanted e h = by_untyped (untyped_of e)
    where
      by_untyped : (o : Option UntypedLiteral) → Passes here test (element_by context wanted e o).faults (element_by context wanted e o).reached
      by_untyped None = before_more here test (alone context e).faults (wanted_faults (span_of e) wanted (alone context e).ty) (alone context e).reached h
      by_untyped (Some number) = λ f r. refl

  -- ---- constants

  pub constant_passes : (context : TypeEnv) (e : ExprPair) → AlonePasses context e → Passes here test (constant_of context e).judgement.faults (constant_of context e).judgement.reached
  constant_passes context e h =
      let a = alone context e in
      let local = breaks_if (names_a_local context e) 5 (span_of e) in
      before_more here test (a.faults ++ local) (size_faults context.known (span_of e).to (record a { faults = a.faults ++ local })) a.reached (before_more here test a.faults local a.reached h)

  abbrev seen_by : TypeEnv → ExprPair → Option UntypedLiteral → ConstantSeen
  seen_by context e None = constant_of context e
  seen_by context e (Some number) = record { judgement = untyped_typing; bare = Some number; value = None }

  pub bare_passes : (context : TypeEnv) (e : ExprPair) → AlonePasses context e → Passes here test (constant_or_untyped context e).judgement.faults (constant_or_untyped context e).judgement.reached
  bare_passes context e h = by_untyped (untyped_of e)
    where
      by_untyped : (o : Option UntypedLiteral) → Passes here test (seen_by context e o).judgement.faults (seen_by context e o).judgement.reached
      by_untyped None = constant_passes context e h
      by_untyped (Some number) = λ f r. refl

  pub count_passes : (context : TypeEnv) (e : ExprPair) → AlonePasses context e → Passes here test (count_of context e).judgement.faults (count_of context e).judgement.reached
  count_passes context e h =
      let c = constant_or_untyped context e in
      let types = count_type_faults (span_of e) c.judgement.ty in
      before_more here test (c.judgement.faults ++ types) (count_faults (span_of e) (count_number c)) c.judgement.reached (before_more here test c.judgement.faults types c.judgement.reached (bare_passes context e h))

  -- ---- names

  pub name_passes : (span : Span) (context : TypeEnv) (name : List ℕ) → Passes here test (name_typing span context name).faults (name_typing span context name).reached
  name_passes span context name = by_local (typed_in name context.locals)
    where
      by_item : (b : Bool) → Passes here test (item_value span context name b).faults (item_value span context name b).reached
      by_item true = λ f r. refl
      by_item false = λ f r. refl

      by_unknown : (b : Bool) → Passes here test (if b then settled span None [] [] (Some 1) else item_value span context name (context.known.items.is_constant name)).faults (if b then settled span None [] [] (Some 1) else item_value span context name (context.known.items.is_constant name)).reached
      by_unknown true = λ f r. refl
      by_unknown false = by_item (context.known.items.is_constant name)

      by_number : (o : Option DslxValue) → Passes here test (parametric_or_item span context name o).faults (parametric_or_item span context name o).reached
      by_number None = by_unknown (is_in name context.unknown)
      by_number (Some v) = λ f r. refl

      by_end : (b : Bool) → Passes here test (end_or_other span context name b).faults (end_or_other span context name b).reached
      by_end true = λ f r. refl
      by_end false = by_number (given_in name context.parametric_args)

      by_local : (o : Option (Option DslxType)) → Passes here test (local_or_other span context name o).faults (local_or_other span context name o).reached
      by_local None = by_end (is_in name context.ends)
      by_local (Some ty) = λ f r. refl

  pub member_passes : (context : TypeEnv) (e a : Ident) → Passes here test (member_typing context e a).faults (member_typing context e a).reached
  member_passes context e a = by_enum (as_enum (item_named e.name context.known.whole.items))
    where
      by_enum : (o : Option Enum) → Passes here test (member_of context e a o).faults (member_of context e a o).reached
      by_enum None = λ f r. refl
      by_enum (Some declared) = λ f r. refl

  -- ---- lists of expressions

  abbrev pub EachPasses : TypeEnv → List ExprPair → Type 0
  EachPasses context [] = Unit {0}
  EachPasses context (e ∷ es) = WithinPasses context e × EachPasses context es
