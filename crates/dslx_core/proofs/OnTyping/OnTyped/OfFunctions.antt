-- What the turns of a loop give by its patterns and its body, and what a function gives by its body.
use Rattle.std.proofs.Common.{◌≡◌, ◌++◌, suc, length, Bool, true, false, if◌then◌else◌, List, [], ◌∷◌, Option, Some, None, refl, sym, ap, subst, ◌∙◌}
use mathlib.Core.Bool.{true≢false}
use Rattle.std.proofs.lemmas.Bool.Decides.{Decides-eqb}
use Rattle.xb_span.specs.declared.span.Span.{Span}
use Rattle.dslx_tree.specs.declared.block.Block.{Block, out-Block}
use Rattle.dslx_tree.specs.declared.item.Field.{Field}
use Rattle.dslx_tree.specs.declared.item.Function.{Function}
use Rattle.dslx_meaning.specs.Lists.{and_then, with_both, where_true}
use Rattle.dslx_meaning.specs.Values.{bits_of}
use Rattle.dslx_meaning.specs.Types.{same_type}
use Rattle.dslx_meaning.specs.Environment.{Meanings, Given, Env}
use Rattle.dslx_meaning.specs.Meaning.{ValueDen, PatternDen, fits_in_scope, loop_over, value_of_block}
use Rattle.dslx_meaning.specs.Items.{operands_bound, parametric_args_bound, function_value}
use Rattle.dslx_meaning.specs.declared.ty.DslxType.{DslxType}
use Rattle.dslx_meaning.specs.declared.value.DslxValue.{DslxValue}
use Rattle.dslx_meaning.specs.Rules.TypeEnvs.{GlobalEnv, TypeEnv, Typed, Judgement, has_broken, with_typed}
use Rattle.dslx_meaning.specs.Rules.Typings.{PatternPair, PatternSeen}
use Rattle.dslx_meaning.specs.Rules.ConstantRules.{size_faults}
use Rattle.dslx_meaning.specs.Rules.ControlRules.{LoopSeen, annotated_type, index_type, loop_annotation, loop_faults, loop_parts_faults, loop_type, loop_with, same_ends, turn_limit, turns_of}
use Rattle.dslx_meaning.specs.Rules.OperatorRules.{one_bit_type, unless_types}
use Rattle.dslx_meaning.specs.Rules.PatternRules.{pattern_alone}
use Rattle.dslx_meaning.specs.Rules.AggregateRules.{wanted_faults}
use Rattle.dslx_meaning.specs.Rules.NodeRules.{block_pair}
use Rattle.dslx_meaning.specs.Rules.ItemRules.{typing_of_inner, arguments_typed, body_typing, function_type_env}
use Rattle.dslx_core.specs.Typing.Typed.Kinds.{is_of}
use Rattle.dslx_core.specs.Typing.Typed.Declared.{Declarations, IsDeclared}
use Rattle.dslx_core.specs.Typing.Typed.Given.{GivesOf, GivesItsType, TurnGives}
use Rattle.dslx_core.specs.Typing.Typed.WellTyped.{types_at, IsWellTypedEnv, FitsOrFails, Fits, Fails, PatternKeeps, turn_seen, AreOperandsOf, NameNoConstant}
use Rattle.dslx_core.proofs.OnTyping.OnTyped.TypingRelations.{none_some, same_some, unbroken_parts, three_unbroken, test_holds, settled_type}
use Rattle.dslx_core.proofs.OnTyping.OnTyped.OfAggregates.{and_then_type}
use Rattle.dslx_core.proofs.OnTyping.OnTyped.OfControl.{loop_gives}
use Rattle.dslx_core.proofs.OnTyping.OnTyped.OneName.{one_of_text}
use Rattle.dslx_core.proofs.OnTyping.OnTyped.OfPatterns.{bound_keeps}

-- ---- turns

-- a pattern that may not fail fits
fits_surely : (context : TypeEnv) (seen : PatternSeen) (o : Option Env) → FitsOrFails false context seen o → (inner : Env) × (o ≡ Some inner) × IsWellTypedEnv (with_typed context seen.locals) inner
fits_surely context seen o (Fits inner is typed) = (inner, is, typed)
fits_surely context seen o (Fails is may sure) = absurd (true≢false (sym may))

pub turn_gives : (context : TypeEnv) (k t u : DslxType) (index acc : PatternPair) (im am : PatternDen) (j : Judgement) (body : ValueDen) (env : Env)
    → PatternKeeps index.1 im.fits → PatternKeeps acc.1 am.fits → IsDeclared (types_at context) k → IsDeclared (types_at context) t
    → has_broken (pattern_alone false context (Some k) index).faults ≡ false → has_broken (turn_seen context k t index acc).faults ≡ false
    → j.ty ≡ Some u → same_type t u ≡ true
    → ((inner : Env) → IsWellTypedEnv (with_typed context (turn_seen context k t index acc).locals) inner → GivesItsType (types_at context) j (body inner))
    → IsWellTypedEnv context env → TurnGives k t (λ i a. and_then (fits_in_scope im i env) (λ inner. and_then (fits_in_scope am a inner) body))
turn_gives context k t u index acc im am j body env ik ak dk dt fi fa own same gives h i a ki ta =
    let first = fits_surely context (pattern_alone false context (Some k) index) (fits_in_scope im i env)
    (ik false context k [] context.locals env env i h h (record { value = i; is = refl; of = ki; declared = dk }) fi) in
    let second = fits_surely (with_typed context (pattern_alone false context (Some k) index).locals) (turn_seen context k t index acc) (fits_in_scope am a first.0)
    (ak false (with_typed context (pattern_alone false context (Some k) index).locals) t [] (pattern_alone false context (Some k) index).locals first.0 first.0 a first.2 first.2
    (record { value = a; is = refl; of = ta; declared = dt }) fa) in
    let g = gives second.0 second.2 u own in (
      g.value,
      ap (λ o. and_then o (λ inner. and_then (fits_in_scope am a inner) body)) first.1 ∙ ap (λ o. and_then o body) second.1 ∙ g.is,
      ap (λ x. is_of x g.value) (one_of_text (types_at context) t u same dt g.declared) ∙ g.of,
    )

-- a loop that breaks no rule, where its turns give what is accumulated its type
pub for_gives : (types : Declarations) (span body_span : Span) (l : LoopSeen) (x y z : Option DslxValue) (turn : DslxValue → DslxValue → Option DslxValue)
    → GivesItsType types l.from.judgement x → GivesItsType types l.to.judgement y → GivesItsType types l.start z
    → ((k t u : DslxType) → l.from.judgement.ty ≡ Some k → l.start.ty ≡ Some t → l.body.ty ≡ Some u → same_type t u ≡ true → has_broken l.index.faults ≡ false → has_broken l.acc.faults ≡ false
    → IsDeclared types k → IsDeclared types t → TurnGives k t turn)
    → GivesItsType types (loop_with span body_span l) (and_then z (λ s. with_both (and_then x bits_of) (and_then y bits_of) (loop_over turn s)))
for_gives types span body_span l x y z turn gx gy gz turns t e =
    let ends = (l.from.judgement.faults ++ l.to.judgement.faults) ++ l.start.faults in
    let patterns = (ends ++ l.index.faults) ++ l.acc.faults in
    let range = unless_types one_bit_type 26 span l.from.judgement.ty l.to.judgement.ty in
    let annotation = loop_annotation span l.written (index_type l) l.start.ty in
    let wanted = wanted_faults body_span l.start.ty l.body.ty in
    let limit = turn_limit span.to (turns_of l.from.value l.to.value) in
    let s = settled_type (loop_type l) (loop_parts_faults l ++ loop_faults span body_span l) t e in
    let g = unbroken_parts (loop_parts_faults l) (loop_faults span body_span l) s.0 in
    let f = three_unbroken (range ++ annotation) wanted limit g.1 in
    let h = unbroken_parts patterns l.body.faults g.0 in
    let p = three_unbroken ends l.index.faults l.acc.faults h.0 in
    let i = and_then_type (index_type l) (λ i. and_then l.body.ty (λ t. and_then (annotated_type l.written l.start.ty) (λ u. l.start.ty))) t s.1 in
    let u = and_then_type l.body.ty (λ t. and_then (annotated_type l.written l.start.ty) (λ u. l.start.ty)) t i.2 in
    let own = (and_then_type (annotated_type l.written l.start.ty) (λ u. l.start.ty) t u.2).2 in
    let k = ends_alike l.from.judgement.ty l.to.judgement.ty i.0 i.1 in
    let first = gx i.0 k.1 in
    let begin = gz t own in
    loop_gives types i.0 k.0 t x y z turn first (gy k.0 k.2) k.3 begin
    (turns i.0 t u.0 k.1 own u.1 (test_holds (same_type t u.0) 9 body_span ((λ j. has_broken (wanted_faults body_span (sym own j) (sym u.1 j))) ∙ f.1)) p.1 p.2 first.declared begin.declared)
  where
    ends_alike : (m n : Option DslxType) (i : DslxType) → same_ends m n ≡ Some i → (l : DslxType) × (m ≡ Some i) × (n ≡ Some l) × (one_bit_type i l ≡ true)
    ends_alike None n i q = none_some i q
    ends_alike (Some a) None i q = none_some i q
    ends_alike (Some a) (Some b) i q = by_test (one_bit_type a b) refl q
      where
        by_test : (c : Bool) → one_bit_type a b ≡ c → (if c then Some a else None) ≡ Some i → (l : DslxType) × (Some a ≡ Some i) × (Some b ≡ Some l) × (one_bit_type i l ≡ true)
        by_test false r h = none_some i h
        by_test true r h = (b, h, refl, sym (ap (λ z. one_bit_type z b) (same_some a i h)) ∙ r)

-- ---- functions

-- operands of the types of the arguments, bound one after the other
operands_keep : (context : TypeEnv) (items : Meanings) (fs : List Field) (vs : List DslxValue) (locals : List Typed) (bound : List Given) → AreOperandsOf context fs vs → NameNoConstant context fs
    → IsWellTypedEnv (with_typed context locals) (record { items = items; bound = bound })
    → IsWellTypedEnv (with_typed context (arguments_typed context locals fs)) (record { items = items; bound = operands_bound bound fs vs })
operands_keep context items [] [] locals bound k c h = h
operands_keep context items [] (v ∷ vs) locals bound k c h = absurd k
operands_keep context items (f ∷ fs) [] locals bound k c h = absurd k
operands_keep context items (f ∷ fs) (v ∷ vs) locals bound k c h =
    operands_keep context items fs vs (record { name = f.name.name; ty = (typing_of_inner context f.ty).ty } ∷ locals) (record { name = f.name.name; value = v } ∷ bound) k.1 c.1
    (subst (λ o. IsWellTypedEnv (with_typed context (record { name = f.name.name; ty = o } ∷ locals)) (record { items = items; bound = record { name = f.name.name; value = v } ∷ bound })) (sym k.0.1)
    (bound_keeps context locals (record { items = items; bound = bound }) f.name.name k.0.0 v h k.0.2 c.0))

as_many : (context : TypeEnv) (fs : List Field) (vs : List DslxValue) → AreOperandsOf context fs vs → length vs ≡ length fs
as_many context [] [] k = refl
as_many context [] (v ∷ vs) k = absurd k
as_many context (f ∷ fs) [] k = absurd k
as_many context (f ∷ fs) (v ∷ vs) k = ap suc (as_many context fs vs k.1)

-- the type of a body is the one that is wanted
body_fits : (context : TypeEnv) (wanted u : DslxType) (body : Block) → ((block_pair body).1 false context).ty ≡ Some u → has_broken (body_typing false context (Some wanted) body).faults ≡ false → same_type wanted u ≡ true
body_fits context wanted u body own f =
    let j = (block_pair body).1 false context in
    let wrong = wanted_faults (out-Block body).span (Some wanted) j.ty in
    let q = unbroken_parts (j.faults ++ wrong) (size_faults context.known (out-Block body).span.to (record j { faults = j.faults ++ wrong })) f in
    let r = unbroken_parts j.faults wrong q.0 in
    test_holds (same_type wanted u) 9 (out-Block body).span (ap (λ o. has_broken (wanted_faults (out-Block body).span (Some wanted) o)) (sym own) ∙ r.1)

pub function_gives : (known : GlobalEnv) (items : Meanings) (f : Function) (parametric_args operands : List DslxValue) (result u : DslxType)
    → IsWellTypedEnv (function_type_env known f parametric_args) (record { items = items; bound = parametric_args_bound [] f.parametrics parametric_args })
    → AreOperandsOf (function_type_env known f parametric_args) f.arguments operands → NameNoConstant (function_type_env known f parametric_args) f.arguments → IsDeclared known.items.type_named result
    → ((block_pair f.body).1 false (with_typed (function_type_env known f parametric_args) (arguments_typed (function_type_env known f parametric_args) [] f.arguments))).ty ≡ Some u
    → has_broken (body_typing false (with_typed (function_type_env known f parametric_args) (arguments_typed (function_type_env known f parametric_args) [] f.arguments)) (Some result) f.body).faults ≡ false
    → ((env : Env) → IsWellTypedEnv (with_typed (function_type_env known f parametric_args) (arguments_typed (function_type_env known f parametric_args) [] f.arguments)) env
    → GivesItsType known.items.type_named ((block_pair f.body).1 false (with_typed (function_type_env known f parametric_args) (arguments_typed (function_type_env known f parametric_args) [] f.arguments))) (value_of_block f.body env))
    → GivesOf known.items.type_named result (function_value items f parametric_args operands)
function_gives known items f parametric_args operands result u h k plain declared own faults gives =
    let context = function_type_env known f parametric_args in
    let inner = with_typed context (arguments_typed context [] f.arguments) in
    let env : Env = record { items = items; bound = operands_bound (parametric_args_bound [] f.parametrics parametric_args) f.arguments operands } in
    let g = gives env (operands_keep context items f.arguments operands [] (parametric_args_bound [] f.parametrics parametric_args) k plain h) u own in
    let same = one_of_text known.items.type_named result u (body_fits inner result u f.body own faults) declared g.declared in
    record {
      value = g.value;
      is = ap (λ b. where_true b (value_of_block f.body env)) ((Decides-eqb (length operands) (length f.arguments)).1 (as_many context f.arguments operands k)) ∙ g.is;
      of = ap (λ x. is_of x g.value) same ∙ g.of;
      declared = declared;
    }
