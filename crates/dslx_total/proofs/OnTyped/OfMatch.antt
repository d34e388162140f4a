-- `match` has a type.
use Rattle.std.proofs.Common.{◌≡◌, ◌&&◌, ◌||◌, ◌==◌, ◌++◌, ◌^◌, ℕ, zero, suc, Bool, true, false, not, if◌then◌else◌, List, [], ◌∷◌, map, length, Option, Some, None, refl, sym, ap, subst, ◌∙◌}
use mathlib.Core.Bool.{true≢false}
use Rattle.std.specs.Prelude.{nat_le}
use Rattle.std.specs.List.{list_all, list_any}
use Rattle.xb_span.specs.declared.fault.Fault.{Fault}
use Rattle.xb_span.specs.declared.span.Span.{Span}
use Rattle.xb_value.specs.declared.ty.Ty.{Ty}
use Rattle.dslx_meaning.specs.Environment.{Env, Meanings}
use Rattle.dslx_meaning.specs.Lists.{all_some, and_then, last_of, or_else, where_true, with_both}
use Rattle.dslx_meaning.specs.Meaning.{PatternDen, fitted, pattern_denotation}
use Rattle.dslx_meaning.specs.Types.{flat_bits, plain_type}
use Rattle.dslx_meaning.specs.declared.ty.DslxType.{DslxType, out-DslxType}
use Rattle.dslx_meaning.specs.declared.ty.DslxType.TheOpen.{DslxType-F}
use Rattle.dslx_meaning.specs.declared.value.DslxValue.{DslxValue}
use Rattle.dslx_meaning.specs.Rules.ConstantRules.{is_empty}
use Rattle.dslx_meaning.specs.Rules.ControlRules.{AlternativesSeen, ArmTyping, all_known, all_words_match, alternatives_seen, arm_typing, arm_values, arms_faults, arms_reached, arms_size, differ, first_of_types, has_several, is_exhaustive, is_exhaustive_in, is_matched, last_is_sure, match_faults, match_typing, not_exhaustive, some_binds}
use Rattle.dslx_meaning.specs.Rules.TypeEnvs.{ExprPair, Instance, Judgement, TypeEnv, alone, constant_env, has_broken, one_and, plus_size, span_of, types_of, with_typed, within}
use Rattle.dslx_meaning.specs.Rules.Typings.{ArmSeen, PatternPair}
use Rattle.dslx_core.proofs.Lemmas.Lowering.{from_both, from_then}
use Rattle.dslx_core.proofs.Lemmas.Typing.Laws.{and_true}
use Rattle.dslx_core.proofs.Lemmas.Typing.Sound.{IsSettled, all_in, all_in_three, alone_well_typed, none_in_three, not_broken, settled_well_typed, some_fault}
use Rattle.dslx_core.proofs.Lemmas.Typing.Typed.{all_there, list_parts, none_some, not_false, or_false, same_some}
use Rattle.dslx_core.specs.declared.expr.Arm.{roll-Arm}
use Rattle.dslx_core.specs.declared.expr.CoreExpr.{CoreExpr}
use Rattle.dslx_core.specs.declared.expr.CoreExpr as core
use Rattle.dslx_core.specs.declared.expr.Shape.{Shape}
use Rattle.dslx_core.specs.Lowering.CoreScopes.{CoreScope}
use Rattle.dslx_core.specs.Lowering.EqualTypes.{equal_type}
use Rattle.dslx_core.specs.Lowering.Lowering.{LoweredExpr, lowered}
use Rattle.dslx_core.specs.Lowering.Patterns.{ArmLowering, ExprLowering, LoweredArm, LoweredShape, PatternLowering, alternatives_shaped, arm_of, arms_of, binding_arm, lower_arm, lower_in_scope, lower_match, names_of_all}
use Rattle.dslx_core.specs.Typing.Sound.Sound.{EachPatternGives}
use Rattle.dslx_core.specs.Typing.Typed.Given.{GivesOf}
use Rattle.dslx_core.specs.Typing.Typed.WellTyped.{IsWellTypedEnv, types_at}
use Rattle.dslx_core.specs.Types.Typing.{CoreArmTyping, FunctionTypes, Typing, all_fit, arm_binds, arms_type, binds_types, core_type, each_binds_none, each_fits, if_alike, is_certain, is_fit, is_some, last_binds, none_bound, shapes_of, some_fits}
use Rattle.dslx_meaning.specs.Rules.PatternRules.{is_there}
use Rattle.dslx_meaning.specs.Values.{from_word, plain_value}
use Rattle.dslx_core.specs.CoreValues.{Bindings, first_apart, taken_apart}
use Rattle.dslx_core.specs.Typing.Typed.Kinds.{is_of}
use Rattle.xb_bits.specs.Word.{word}
use Rattle.dslx_total.proofs.OnTyped.OnFits.{FitsBeside, OwnItems}
use Rattle.dslx_total.proofs.OnTyped.OnSmall.{as_many_bits, held_of}
use Rattle.dslx_core.proofs.Lemmas.Types.{alike_itself, arm_of_core, type_arm, type_select, where_so}
use Rattle.dslx_total.proofs.Lemmas.Expressions.{EachPatternLowers, alternatives_known, none_binds, one_clean, plain_locals}
use Rattle.dslx_total.specs.Expressions.Beside.{ScopeMatchesEnv}
use Rattle.dslx_total.specs.Expressions.ExprLowering.{reaching}
use Rattle.dslx_total.specs.Typed.Scopes.{TypedIfThere, TypedScope, is_sound_type}
use Rattle.dslx_total.specs.Typed.Claims.{PartIsTyped, is_tuple_level}
use Rattle.dslx_total.proofs.OnTyped.OnOneType.{one_by_test}
use Rattle.dslx_total.proofs.OnTyped.OnOptions.{then_typed, typed_as, typed_there, where_typed}
use Rattle.dslx_total.proofs.OnTyped.OnParts.{ExprTyped, TypedTo, alone_typed_to}
use Rattle.dslx_total.proofs.OnTyped.OnPatterns.{EachPatternTyped, same_length}

-- ---- tests

or_right : (a b : Bool) → b ≡ true → (a || b) ≡ true
or_right true b e = refl
or_right false b e = e

or_left : (a b : Bool) → a ≡ true → (a || b) ≡ true
or_left true b e = refl
or_left false b e = absurd (true≢false (sym e))

or_none : (a : Bool) → (a || false) ≡ a
or_none true = refl
or_none false = refl

-- ---- arms

-- a value that fits a pattern fits what the pattern is lowered to
abbrev pub EachBeside : List PatternPair → List PatternLowering → Type 0
EachBeside [] [] = Unit {0}
EachBeside (p ∷ ps) (l ∷ ls) = FitsBeside l (pattern_denotation p.0) × EachBeside ps ls
EachBeside [] (l ∷ ls) = ⊥
EachBeside (p ∷ ps) [] = ⊥

pub record ArmTyped (a : ArmSeen) (l : ArmLowering) : Type 0 where
  pub patterns : EachPatternLowers a.patterns l.patterns
  pub shapes : EachPatternTyped a.patterns l.patterns
  pub meanings : List PatternDen
  pub give : EachPatternGives a.patterns meanings
  pub beside : EachBeside a.patterns l.patterns
  pub value : ExprTyped a.value l.value

abbrev pub EachArmTyped : List ArmSeen → List ArmLowering → Type 0
EachArmTyped [] [] = Unit {0}
EachArmTyped (a ∷ as') (l ∷ ls) = ArmTyped a l × EachArmTyped as' ls
EachArmTyped [] (l ∷ ls) = ⊥
EachArmTyped (a ∷ as') [] = ⊥

-- an arm against values of a type, which is sure to fit or not
pub record ArmFits (fs : FunctionTypes) (ts : List Ty) (t : DslxType) (sure : Bool) (c : LoweredArm) : Type 0 where
  pub shapes : List Shape
  pub body : CoreExpr
  pub is : c.arm ≡ roll-Arm (record { shapes = shapes; value = body })
  pub more : List Ty
  pub binds : arm_binds shapes (plain_type t) ts ≡ Some more
  pub typed : core_type body fs more ≡ Some (plain_type c.ty)
  pub sound : is_sound_type c.ty ≡ true
  pub flat : is_tuple_level (out-DslxType t) ≡ false → (is_certain shapes (plain_type t) ts || length more == length ts) ≡ true
  pub certain : sure ≡ true → (is_certain shapes (plain_type t) ts || length more == length ts) ≡ true

-- ---- alternatives that bind nothing

abbrev EachBinds : List Ty → Ty → List Shape → Type 0
EachBinds ts t [] = Unit {0}
EachBinds ts t (s ∷ ss) = (binds_types false s t ts ≡ Some ts) × EachBinds ts t ss

each_none : (ts : List Ty) (t : Ty) (ss : List Shape) → EachBinds ts t ss → each_binds_none ss t ts ≡ true
each_none ts t [] h = refl
each_none ts t (s ∷ ss) h = λ i. (ap (none_bound (length ts)) h.0 ∙ same_length (length ts)) i && each_none ts t ss h.1 i

none_bind : (ts : List Ty) (t : Ty) (ss : List Shape) → EachBinds ts t ss → arm_binds ss t ts ≡ Some ts
none_bind ts t [] h = refl
none_bind ts t (s ∷ []) h = h.0
none_bind ts t (s ∷ r ∷ ss) h = where_so (each_binds_none (s ∷ r ∷ ss) t ts) (Some ts) (each_none ts t (s ∷ r ∷ ss) h)

alternatives_bind : (context : TypeEnv) (scope : CoreScope) (fs : FunctionTypes) (ts : List Ty) (t : DslxType) → scope.known.items ≡ context.known.items → TypedScope fs ts scope → is_sound_type t ≡ true
    → (ps : List PatternPair) (ls : List PatternLowering) → EachPatternTyped ps ls → list_all scope.known.items.is_constant (names_of_all ls) ≡ true → (ss : List Shape) → alternatives_shaped ls scope t ≡ Some ss → EachBinds ts (plain_type t) ss
alternatives_bind context scope fs ts t items scoped sound [] [] k plain ss e = subst (EachBinds ts (plain_type t)) (same_some [] ss e) tt
alternatives_bind context scope fs ts t items scoped sound [] (l ∷ ls) k plain ss e = absurd k
alternatives_bind context scope fs ts t items scoped sound (p ∷ ps) [] k plain ss e = absurd k
alternatives_bind context scope fs ts t items scoped sound (p ∷ ps) (l ∷ ls) k plain ss e =
    let a = from_both (lower_in_scope l scope t) (alternatives_shaped ls scope t) (λ s ss. Some (s.shape ∷ ss)) ss e in
    let n = all_in scope.known.items.is_constant l.names (names_of_all ls) plain in
    let one = k.0.typed context fs ts ts scope scope t a.0 items scoped scoped sound a.2 in
    subst (EachBinds ts (plain_type t)) (same_some (a.0.shape ∷ a.1) ss a.4)
    (one.may ∙ ap Some (one.bare n.0), alternatives_bind context scope fs ts t items scoped sound ps ls k.1 n.1 a.1 a.3)

-- ---- one arm

module _ (here : Instance → Bool) (context : TypeEnv) (env : Env) (scope : CoreScope) (fs : FunctionTypes) (ts : List Ty) (h : IsWellTypedEnv context env) (at : ScopeMatchesEnv here context scope) (scoped : TypedScope fs ts scope)
    (t : DslxType) (v : DslxValue) (g : GivesOf (types_at context) t (Some v)) (sound : is_sound_type t ≡ true) where
  binding_fits : (ps : List PatternPair) (ls : List PatternLowering) (ms : List PatternDen) (e : ExprPair) (value : ExprLowering) → EachPatternLowers ps ls → EachPatternTyped ps ls → EachPatternGives ps ms → ExprTyped e value
      → (alternatives_seen context (Some t) ps).faults ≡ [] → list_all here (alternatives_seen context (Some t) ps).reached ≡ true
      → (alone (with_typed context (alternatives_seen context (Some t) ps).locals) e).faults ≡ [] → list_all here (alone (with_typed context (alternatives_seen context (Some t) ps).locals) e).reached ≡ true
      → (has_several ps && (alternatives_seen context (Some t) ps).binds) ≡ false → list_all context.known.items.is_constant (names_of_all ls) ≡ false
      → (c : LoweredArm) → binding_arm ls value scope t ≡ Some c → ArmFits fs ts t (alternatives_seen context (Some t) ps).is_sure c
  binding_fits [] [] ms e value k z m s clean reach faults reached binds some c is = absurd (true≢false some)
  binding_fits [] (l ∷ ls) ms e value k z m s clean reach faults reached binds some c is = absurd k
  binding_fits (p ∷ ps) [] ms e value k z m s clean reach faults reached binds some c is = absurd k
  binding_fits (p ∷ ps) (l ∷ ls) [] e value k z m s clean reach faults reached binds some c is = absurd m
  binding_fits (p ∷ []) (l ∷ []) (x ∷ ms) e value k z m s clean reach faults reached binds some c is =
      let q = (one_clean here context (Some t) p [] (record { faults = clean; reached = reach })).0 in
      let one = k.0.lowers here true context t [] context.locals env scope scope h at at g.declared q in
      let inner = m.0.behind true context t [] context.locals env v h g (ap has_broken q.faults) in
      let shape = z.0.typed context fs ts ts scope scope t one.shape at.items scoped scoped sound one.is in
      let there = ap (λ o. and_then o (λ s. and_then (value s.scope) (arm_of (s.shape ∷ [])))) (sym one.is) ∙ is in
      let a = from_then (value one.shape.scope) (arm_of (one.shape.shape ∷ [])) c there in
      let inside = with_typed context (alternatives_seen context (Some t) (p ∷ [])).locals in
      let body = typed_there fs shape.more (value one.shape.scope) a.0
      (s.typed here inside inner.0 one.shape.scope fs shape.more inner.1 one.behind shape.behind (alone_well_typed (reaching inside.known here) (span_of e) (within inside e) (record { faults = faults; reached = reached })).well_typed) a.1 in
      let first = p.1 true context (Some t) [] context.locals in
      subst (ArmFits fs ts t (first.is_sure || false)) (same_some (record { arm = roll-Arm (record { shapes = one.shape.shape ∷ []; value = a.0.core }); ty = a.0.ty }) c a.2)
      (record {
        shapes = one.shape.shape ∷ [];
        body = a.0.core;
        is = refl;
        more = shape.more;
        binds = shape.may;
        typed = body.core;
        sound = body.sound;
        flat = λ n. ap (λ b. b || length shape.more == length ts) (or_none (is_some (binds_types true one.shape.shape (plain_type t) ts))) ∙ shape.flat n;
        certain = λ n.
            or_left (is_certain (one.shape.shape ∷ []) (plain_type t) ts) (length shape.more == length ts)
            (ap (λ o. is_some o || false) (shape.must true (Some t) [] context.locals q.faults (sym (or_none first.is_sure) ∙ n)));
      })
  binding_fits (p ∷ []) (l ∷ k' ∷ ls) (x ∷ ms) e value k z m s clean reach faults reached binds some c is = absurd k.1
  binding_fits (p ∷ p' ∷ ps) (l ∷ ls) (x ∷ ms) e value k z m s clean reach faults reached binds some c is =
      absurd (true≢false (sym (none_binds context (Some t) (p ∷ p' ∷ ps) (l ∷ ls) k binds) ∙ some))

  arm_fits : (a : ArmSeen) (l : ArmLowering) → ArmTyped a l → (arm_typing context (Some t) a).seen.faults ≡ [] → (arm_typing context (Some t) a).value.faults ≡ []
      → list_all here (arm_typing context (Some t) a).seen.reached ≡ true → list_all here (arm_typing context (Some t) a).value.reached ≡ true
      → (has_several a.patterns && (arm_typing context (Some t) a).seen.binds) ≡ false
      → (c : LoweredArm) → lower_arm l scope t ≡ Some c → ArmFits fs ts t (arm_typing context (Some t) a).seen.is_sure c
  arm_fits a l k seen_faults faults seen_reached reached binds c is =
      by_names (list_all scope.known.items.is_constant (names_of_all l.patterns)) (ap (λ (items : Meanings). list_all items.is_constant (names_of_all l.patterns)) at.items) refl
    where
      seen : AlternativesSeen
      seen = alternatives_seen context (Some t) a.patterns

      by_names : (b : Bool) → list_all scope.known.items.is_constant (names_of_all l.patterns) ≡ list_all context.known.items.is_constant (names_of_all l.patterns)
          → list_all scope.known.items.is_constant (names_of_all l.patterns) ≡ b → ArmFits fs ts t seen.is_sure c
      by_names true q r =
          let plain = plain_locals context (Some t) a.patterns l.patterns k.patterns (sym q ∙ r) in
          let inner = subst (λ ls. ScopeMatchesEnv here (with_typed context ls) scope) (sym plain) at in
          let typed = subst (λ ls. IsWellTypedEnv (with_typed context ls) env) (sym plain) h in
          let inside = with_typed context seen.locals in
          let there = ap (λ c. if c then with_both (alternatives_shaped l.patterns scope t) (l.value scope) arm_of else binding_arm l.patterns l.value scope t) (sym r) ∙ is in
          let x = from_both (alternatives_shaped l.patterns scope t) (l.value scope) arm_of c there in
          let each = alternatives_bind context scope fs ts t at.items scoped sound a.patterns l.patterns k.shapes r x.0 x.2 in
          let body = typed_there fs ts (l.value scope) x.1
          (k.value.typed here inside env scope fs ts typed inner scoped (alone_well_typed (reaching inside.known here) (span_of a.value) (within inside a.value) (record { faults = faults; reached = reached })).well_typed) x.3 in
          subst (ArmFits fs ts t seen.is_sure) (same_some (record { arm = roll-Arm (record { shapes = x.0; value = x.1.core }); ty = x.1.ty }) c x.4)
          (record {
            shapes = x.0;
            body = x.1.core;
            is = refl;
            more = ts;
            binds = none_bind ts (plain_type t) x.0 each;
            typed = body.core;
            sound = body.sound;
            flat = λ n. or_right (is_certain x.0 (plain_type t) ts) (length ts == length ts) (same_length (length ts));
            certain = λ n. or_right (is_certain x.0 (plain_type t) ts) (length ts == length ts) (same_length (length ts));
          })
      by_names false q r =
          binding_fits a.patterns l.patterns k.meanings a.value l.value k.patterns k.shapes k.give k.value seen_faults seen_reached faults reached binds (sym q ∙ r) c
          (ap (λ c. if c then with_both (alternatives_shaped l.patterns scope t) (l.value scope) arm_of else binding_arm l.patterns l.value scope t) (sym r) ∙ is)

-- ---- all arms

abbrev pub EachArmFits : TypeEnv → FunctionTypes → List Ty → DslxType → List ArmSeen → List LoweredArm → Type 0
EachArmFits context fs ts t [] [] = Unit {0}
EachArmFits context fs ts t (a ∷ as') (c ∷ cs) = ArmFits fs ts t (arm_typing context (Some t) a).seen.is_sure c × EachArmFits context fs ts t as' cs
EachArmFits context fs ts t [] (c ∷ cs) = ⊥
EachArmFits context fs ts t (a ∷ as') [] = ⊥

abbrev pub arms_at : CoreScope → DslxType → List ArmLowering → List (Option LoweredArm)
arms_at scope t ls = map (λ (a : ArmLowering). lower_arm a scope t) ls

arms_fit : (here : Instance → Bool) (context : TypeEnv) (env : Env) (scope : CoreScope) (fs : FunctionTypes) (ts : List Ty) → IsWellTypedEnv context env → ScopeMatchesEnv here context scope → TypedScope fs ts scope
    → (t : DslxType) (v : DslxValue) → GivesOf (types_at context) t (Some v) → is_sound_type t ≡ true → (arms : List ArmSeen) (ls : List ArmLowering) → EachArmTyped arms ls
    → arms_faults (map (arm_typing context (Some t)) arms) ≡ [] → list_all here (arms_reached (map (arm_typing context (Some t)) arms)) ≡ true → some_binds (map (arm_typing context (Some t)) arms) ≡ false
    → (cs : List LoweredArm) → arms_at scope t ls ≡ map Some cs → EachArmFits context fs ts t arms cs
arms_fit here context env scope fs ts h at scoped t v g sound [] [] k f r b [] is = tt
arms_fit here context env scope fs ts h at scoped t v g sound [] [] k f r b (c ∷ cs) is = some_fault (Some c) (map Some cs) (sym is)
arms_fit here context env scope fs ts h at scoped t v g sound [] (l ∷ ls) k f r b cs is = absurd k
arms_fit here context env scope fs ts h at scoped t v g sound (a ∷ arms) [] k f r b cs is = absurd k
arms_fit here context env scope fs ts h at scoped t v g sound (a ∷ arms) (l ∷ ls) k f r b [] is = some_fault (lower_arm l scope t) (arms_at scope t ls) is
arms_fit here context env scope fs ts h at scoped t v g sound (a ∷ arms) (l ∷ ls) k f r b (c ∷ cs) is =
    let j = arm_typing context (Some t) a in
    let js = map (arm_typing context (Some t)) arms in
    let p = none_in_three j.seen.faults j.value.faults (arms_faults js) f in
    let q = all_in_three here j.seen.reached j.value.reached (arms_reached js) r in
    let s = or_false (has_several a.patterns && j.seen.binds) (some_binds js) b in
    let e = list_parts (lower_arm l scope t) (Some c) (arms_at scope t ls) (map Some cs) is in (
      arm_fits here context env scope fs ts h at scoped t v g sound a l k.0 p.0 p.1 q.0 q.1 s.0 c e.0,
      arms_fit here context env scope fs ts h at scoped t v g sound arms ls k.1 p.2 q.2 s.1 cs e.1,
    )

-- what the last arm has to meet
abbrev LastFits : (context : TypeEnv) (fs : FunctionTypes) (ts : List Ty) (t : DslxType) → Bool → (arms : List ArmSeen) (cs : List LoweredArm) → EachArmFits context fs ts t arms cs → Type 0
LastFits context fs ts t whole [] [] k = Unit {0}
LastFits context fs ts t whole (a ∷ []) (c ∷ []) k = (whole || (is_certain k.0.shapes (plain_type t) ts || length k.0.more == length ts)) ≡ true
LastFits context fs ts t whole (a ∷ b ∷ as') (c ∷ d ∷ cs) k = LastFits context fs ts t whole (b ∷ as') (d ∷ cs) k.1
LastFits context fs ts t whole (a ∷ b ∷ as') (c ∷ []) k = Unit {0}
LastFits context fs ts t whole (a ∷ []) (c ∷ d ∷ cs) k = Unit {0}
LastFits context fs ts t whole [] (c ∷ cs) k = Unit {0}
LastFits context fs ts t whole (a ∷ as') [] k = Unit {0}

module _ (context : TypeEnv) (fs : FunctionTypes) (ts : List Ty) (t : DslxType) where
  last_flat : (whole : Bool) → is_tuple_level (out-DslxType t) ≡ false → (arms : List ArmSeen) (cs : List LoweredArm) (k : EachArmFits context fs ts t arms cs) → LastFits context fs ts t whole arms cs k
  last_flat whole flat [] [] k = tt
  last_flat whole flat (a ∷ []) (c ∷ []) k = or_right whole (is_certain k.0.shapes (plain_type t) ts || length k.0.more == length ts) (k.0.flat flat)
  last_flat whole flat (a ∷ b ∷ as') (c ∷ d ∷ cs) k = last_flat whole flat (b ∷ as') (d ∷ cs) k.1
  last_flat whole flat (a ∷ b ∷ as') (c ∷ []) k = tt
  last_flat whole flat (a ∷ []) (c ∷ d ∷ cs) k = tt
  last_flat whole flat [] (c ∷ cs) k = tt
  last_flat whole flat (a ∷ as') [] k = tt

  last_sure : (whole : Bool) → (arms : List ArmSeen) (cs : List LoweredArm) (k : EachArmFits context fs ts t arms cs) → last_is_sure (last_of (map (arm_typing context (Some t)) arms)) ≡ true → LastFits context fs ts t whole arms cs k
  last_sure whole [] [] k sure = tt
  last_sure whole (a ∷ []) (c ∷ []) k sure = or_right whole (is_certain k.0.shapes (plain_type t) ts || length k.0.more == length ts) (k.0.certain sure)
  last_sure whole (a ∷ b ∷ as') (c ∷ d ∷ cs) k sure = last_sure whole (b ∷ as') (d ∷ cs) k.1 sure
  last_sure whole (a ∷ b ∷ as') (c ∷ []) k sure = tt
  last_sure whole (a ∷ []) (c ∷ d ∷ cs) k sure = tt
  last_sure whole [] (c ∷ cs) k sure = tt
  last_sure whole (a ∷ as') [] k sure = tt

  last_whole : (whole : Bool) → whole ≡ true → (arms : List ArmSeen) (cs : List LoweredArm) (k : EachArmFits context fs ts t arms cs) → LastFits context fs ts t whole arms cs k
  last_whole whole e [] [] k = tt
  last_whole whole e (a ∷ []) (c ∷ []) k = or_left whole (is_certain k.0.shapes (plain_type t) ts || length k.0.more == length ts) e
  last_whole whole e (a ∷ b ∷ as') (c ∷ d ∷ cs) k = last_whole whole e (b ∷ as') (d ∷ cs) k.1
  last_whole whole e (a ∷ b ∷ as') (c ∷ []) k = tt
  last_whole whole e (a ∷ []) (c ∷ d ∷ cs) k = tt
  last_whole whole e [] (c ∷ cs) k = tt
  last_whole whole e (a ∷ as') [] k = tt

-- ---- the type of all arms

abbrev pub core_arms : List LoweredArm → List CoreArmTyping
core_arms cs = map arm_of_core (map (λ (c : LoweredArm). c.arm) cs)

-- arms of one type
abbrev AllOfType : DslxType → List LoweredArm → Type 0
AllOfType u [] = Unit {0}
AllOfType u (c ∷ cs) = (c.ty ≡ u) × AllOfType u cs

all_of_type : (u : DslxType) (cs : List LoweredArm) → list_all (λ (c : LoweredArm). equal_type u c.ty) cs ≡ true → AllOfType u cs
all_of_type u [] e = tt
all_of_type u (c ∷ cs) e =
    let q = and_true (equal_type u c.ty) (list_all (λ (c : LoweredArm). equal_type u c.ty) cs) e in
    (sym (one_by_test u c.ty q.0), all_of_type u cs q.1)

arm_is : (fs : FunctionTypes) (ts : List Ty) (t : DslxType) (sure : Bool) (c : LoweredArm) (k : ArmFits fs ts t sure c) → arm_of_core c.arm ≡ record { shapes = k.shapes; value = core_type k.body }
arm_is fs ts t sure c k = ap arm_of_core k.is ∙ type_arm k.shapes k.body

arms_have_type : (context : TypeEnv) (fs : FunctionTypes) (ts : List Ty) (t u : DslxType) (whole : Bool) (arms : List ArmSeen) (c : LoweredArm) (cs : List LoweredArm) (k : EachArmFits context fs ts t arms (c ∷ cs))
    → LastFits context fs ts t whole arms (c ∷ cs) k → AllOfType u (c ∷ cs) → arms_type whole fs ts (plain_type t) (core_arms (c ∷ cs)) ≡ Some (plain_type u)
arms_have_type context fs ts t u whole [] c cs k last same = absurd k
arms_have_type context fs ts t u whole (a ∷ []) c [] k last same =
    ap (λ (q : CoreArmTyping). and_then (last_binds whole q.shapes (plain_type t) ts) (q.value fs)) (arm_is fs ts t (arm_typing context (Some t) a).seen.is_sure c k.0)
    ∙ ap (λ o. and_then (and_then o (λ more. where_true (whole || (is_certain k.0.shapes (plain_type t) ts || length more == length ts)) (Some more))) (core_type k.0.body fs)) k.0.binds
    ∙ ap (λ o. and_then o (core_type k.0.body fs)) (where_so (whole || (is_certain k.0.shapes (plain_type t) ts || length k.0.more == length ts)) (Some k.0.more) last)
    ∙ k.0.typed ∙ ap (λ x. Some (plain_type x)) same.0
arms_have_type context fs ts t u whole (a ∷ b ∷ arms) c [] k last same = absurd k.1
arms_have_type context fs ts t u whole (a ∷ []) c (d ∷ cs) k last same = absurd k.1
arms_have_type context fs ts t u whole (a ∷ b ∷ arms) c (d ∷ cs) k last same =
    ap (λ (q : CoreArmTyping). and_then (and_then (arm_binds q.shapes (plain_type t) ts) (q.value fs)) (λ s. if_alike s (arms_type whole fs ts (plain_type t) (core_arms (d ∷ cs))))) (arm_is fs ts t (arm_typing context (Some t) a).seen.is_sure c k.0)
    ∙ ap (λ o. and_then (and_then o (core_type k.0.body fs)) (λ s. if_alike s (arms_type whole fs ts (plain_type t) (core_arms (d ∷ cs))))) k.0.binds
    ∙ ap (λ o. and_then o (λ s. if_alike s (arms_type whole fs ts (plain_type t) (core_arms (d ∷ cs))))) (k.0.typed ∙ ap (λ x. Some (plain_type x)) same.0)
    ∙ ap (if_alike (plain_type u)) (arms_have_type context fs ts t u whole (b ∷ arms) d cs k.1 last same.1)
    ∙ alike_itself (plain_type u)

-- ---- `match`

-- ---- values of at most 8 bits

or_else_fits : (o p : Option Bindings) → is_fit p ≡ true → is_fit (or_else o p) ≡ true
or_else_fits None p e = e
or_else_fits (Some b) p e = refl

shapes_are : (shapes : List Shape) (e : LoweredExpr) (c : LoweredArm) → arm_of shapes e ≡ Some c → (arm_of_core c.arm).shapes ≡ shapes
shapes_are shapes e c q =
    ap (λ (c : LoweredArm). (arm_of_core c.arm).shapes) (sym (same_some (record { arm = roll-Arm (record { shapes = shapes; value = e.core }); ty = e.ty }) c q)) ∙ ap (λ (a : CoreArmTyping). a.shapes) (type_arm shapes e.core)

module _ (items : Meanings) (own : OwnItems items) (scope : CoreScope) (at : scope.known.items ≡ items) (t : DslxType) (v : DslxValue) (of : is_of t v ≡ true) (env : Env) (there : env.items ≡ items) where
  first_or_others : (p : PatternPair) (ps : List PatternPair) (l : PatternLowering) → FitsBeside l (pattern_denotation p.0) → (s : LoweredShape) (ss : List Shape) → lower_in_scope l scope t ≡ Some s
      → (list_any (λ (p : PatternPair). is_there (fitted p.0 v env)) ps ≡ true → is_fit (first_apart ss (plain_value v) []) ≡ true)
      → (o : Option Env) → fitted p.0 v env ≡ o → (is_there o || list_any (λ (p : PatternPair). is_there (fitted p.0 v env)) ps) ≡ true → is_fit (or_else (taken_apart s.shape (plain_value v) []) (first_apart ss (plain_value v) [])) ≡ true
  first_or_others p ps l h s ss is others None q e = or_else_fits (taken_apart s.shape (plain_value v) []) (first_apart ss (plain_value v) []) (others e)
  first_or_others p ps l h s ss is others (Some inner) q e =
      let x = (h.fits items own scope scope t s at is env env inner there v of q).apart [] in
      ap (λ o. is_fit (or_else o (first_apart ss (plain_value v) []))) x.1

  any_apart : (ps : List PatternPair) (ls : List PatternLowering) → EachBeside ps ls → (ss : List Shape) → alternatives_shaped ls scope t ≡ Some ss → list_any (λ (p : PatternPair). is_there (fitted p.0 v env)) ps ≡ true
      → is_fit (first_apart ss (plain_value v) []) ≡ true
  any_apart [] ls h ss is e = absurd (true≢false (sym e))
  any_apart (p ∷ ps) [] h ss is e = absurd h
  any_apart (p ∷ ps) (l ∷ ls) h ss is e =
      let a = from_both (lower_in_scope l scope t) (alternatives_shaped ls scope t) (λ s ss. Some (s.shape ∷ ss)) ss is in
      subst (λ ss. is_fit (first_apart ss (plain_value v) []) ≡ true) (same_some (a.0.shape ∷ a.1) ss a.4)
      (first_or_others p ps l h.0 a.0 a.1 a.2 (any_apart ps ls h.1 a.1 a.3) (fitted p.0 v env) refl e)

  binding_apart : (ps : List PatternPair) (ls : List PatternLowering) → EachBeside ps ls → (value : ExprLowering) (c : LoweredArm) → binding_arm ls value scope t ≡ Some c → list_any (λ (p : PatternPair). is_there (fitted p.0 v env)) ps ≡ true
      → is_fit (first_apart (arm_of_core c.arm).shapes (plain_value v) []) ≡ true
  binding_apart ps [] h value c is e = none_some c is
  binding_apart ps (l ∷ []) h value c is e =
      let a = from_then (lower_in_scope l scope t) (λ s. and_then (value s.scope) (arm_of (s.shape ∷ []))) c is in
      let b = from_then (value a.0.scope) (arm_of (a.0.shape ∷ [])) c a.2 in
      ap (λ ss. is_fit (first_apart ss (plain_value v) [])) (shapes_are (a.0.shape ∷ []) b.0 c b.2)
      ∙ any_apart ps (l ∷ []) h (a.0.shape ∷ []) (ap (λ o. with_both o (Some []) (λ (s : LoweredShape) ss. Some (s.shape ∷ ss))) a.1) e
  binding_apart ps (l ∷ k ∷ ls) h value c is e = none_some c is

  arm_apart : (a : ArmSeen) (l : ArmLowering) → EachBeside a.patterns l.patterns → (c : LoweredArm) → lower_arm l scope t ≡ Some c → list_any (λ (p : PatternPair). is_there (fitted p.0 v env)) a.patterns ≡ true
      → is_fit (first_apart (arm_of_core c.arm).shapes (plain_value v) []) ≡ true
  arm_apart a l h c is e = by_names (list_all scope.known.items.is_constant (names_of_all l.patterns)) is
    where
      by_names : (b : Bool) → (if b then with_both (alternatives_shaped l.patterns scope t) (l.value scope) arm_of else binding_arm l.patterns l.value scope t) ≡ Some c → is_fit (first_apart (arm_of_core c.arm).shapes (plain_value v) []) ≡ true
      by_names true q =
          let x = from_both (alternatives_shaped l.patterns scope t) (l.value scope) arm_of c q in
          ap (λ ss. is_fit (first_apart ss (plain_value v) [])) (shapes_are x.0 x.1 c x.4) ∙ any_apart a.patterns l.patterns h x.0 x.2 e
      by_names false q = binding_apart a.patterns l.patterns h l.value c q e

  some_apart : (context : TypeEnv) (arms : List ArmSeen) (ls : List ArmLowering) → EachArmTyped arms ls → (cs : List LoweredArm) → arms_at scope t ls ≡ map Some cs
      → list_any (λ (a : ArmTyping). list_any (λ (p : PatternPair). is_there (fitted p.0 v env)) a.patterns) (map (arm_typing context (Some t)) arms) ≡ true → some_fits (shapes_of (core_arms cs)) (plain_value v) ≡ true
  some_apart context [] ls k cs is e = absurd (true≢false (sym e))
  some_apart context (a ∷ arms) [] k cs is e = absurd k
  some_apart context (a ∷ arms) (l ∷ ls) k [] is e = some_fault (lower_arm l scope t) (arms_at scope t ls) is
  some_apart context (a ∷ arms) (l ∷ ls) k (c ∷ cs) is e =
      let q = list_parts (lower_arm l scope t) (Some c) (arms_at scope t ls) (map Some cs) is in
      by_first (list_any (λ (p : PatternPair). is_there (fitted p.0 v env)) a.patterns) e (arm_apart a l k.0.beside c q.0) (some_apart context arms ls k.1 cs q.1)
    where
      by_first : (b : Bool) → (b || list_any (λ (a : ArmTyping). list_any (λ (p : PatternPair). is_there (fitted p.0 v env)) a.patterns) (map (arm_typing context (Some t)) arms)) ≡ true
          → (b ≡ true → is_fit (first_apart (arm_of_core c.arm).shapes (plain_value v) []) ≡ true)
          → (list_any (λ (a : ArmTyping). list_any (λ (p : PatternPair). is_there (fitted p.0 v env)) a.patterns) (map (arm_typing context (Some t)) arms) ≡ true → some_fits (shapes_of (core_arms cs)) (plain_value v) ≡ true)
          → (is_fit (first_apart (arm_of_core c.arm).shapes (plain_value v) []) || some_fits (shapes_of (core_arms cs)) (plain_value v)) ≡ true
      by_first true f own others = or_left (is_fit (first_apart (arm_of_core c.arm).shapes (plain_value v) [])) (some_fits (shapes_of (core_arms cs)) (plain_value v)) (own refl)
      by_first false f own others = or_right (is_fit (first_apart (arm_of_core c.arm).shapes (plain_value v) [])) (some_fits (shapes_of (core_arms cs)) (plain_value v)) (others f)

-- where each word of the type is matched, its value fits some arm
each_apart : (context : TypeEnv) (scope : CoreScope) (t : DslxType) → OwnItems context.known.items → scope.known.items ≡ context.known.items → is_sound_type t ≡ true → (arms : List ArmSeen) (ls : List ArmLowering) → EachArmTyped arms ls
    → (cs : List LoweredArm) → arms_at scope t ls ≡ map Some cs → (w count : ℕ) → all_words_match context (map (arm_typing context (Some t)) arms) t w count ≡ true → each_fits (shapes_of (core_arms cs)) (plain_type t) count ≡ true
each_apart context scope t own at sound arms ls k cs is w zero e = refl
each_apart context scope t own at sound arms ls k cs is w (suc n) e =
    let q = and_true (is_matched context (map (arm_typing context (Some t)) arms) (from_word t (word w n))) (all_words_match context (map (arm_typing context (Some t)) arms) t w n) e in
    let held = held_of t sound w n in
    let one = some_apart context.known.items own scope at t (from_word t (word w n)) held.0 (constant_env context) refl context arms ls k cs is q.0 in
    λ i. (sym (ap (some_fits (shapes_of (core_arms cs))) held.1) ∙ one) i && each_apart context scope t own at sound arms ls k cs is w n q.1 i

-- the arms fit all values
small_fits : (context : TypeEnv) (scope : CoreScope) (t : DslxType) → OwnItems context.known.items → scope.known.items ≡ context.known.items → is_sound_type t ≡ true → (arms : List ArmSeen) (ls : List ArmLowering) → EachArmTyped arms ls
    → (cs : List LoweredArm) → arms_at scope t ls ≡ map Some cs → nat_le (flat_bits t) 8 ≡ true → all_words_match context (map (arm_typing context (Some t)) arms) t (flat_bits t) (2 ^ flat_bits t) ≡ true
    → all_fit (shapes_of (core_arms cs)) (plain_type t) ≡ true
small_fits context scope t own at sound arms ls k cs is few e =
    let bits = as_many_bits t in
    let each = each_apart context scope t own at sound arms ls k cs is (flat_bits t) (2 ^ flat_bits t) e in
    λ i. (ap (λ w. nat_le w 8) bits ∙ few) i && (ap (λ w. each_fits (shapes_of (core_arms cs)) (plain_type t) (2 ^ w)) bits ∙ each) i

-- ---- the last arm

-- nothing is missing that arms are compared with
arms_known : (here : Instance → Bool) (context : TypeEnv) (env : Env) (scope : CoreScope) → IsWellTypedEnv context env → ScopeMatchesEnv here context scope → (t : DslxType) (arms : List ArmSeen) (ls : List ArmLowering) → EachArmTyped arms ls
    → arms_faults (map (arm_typing context (Some t)) arms) ≡ [] → list_all here (arms_reached (map (arm_typing context (Some t)) arms)) ≡ true
    → list_all (λ (a : ArmTyping). a.seen.is_known && is_empty a.seen.faults) (map (arm_typing context (Some t)) arms) ≡ true
arms_known here context env scope h at t [] [] k f r = refl
arms_known here context env scope h at t [] (l ∷ ls) k f r = absurd k
arms_known here context env scope h at t (a ∷ arms) [] k f r = absurd k
arms_known here context env scope h at t (a ∷ arms) (l ∷ ls) k f r =
    let j = arm_typing context (Some t) a in
    let js = map (arm_typing context (Some t)) arms in
    let p = none_in_three j.seen.faults j.value.faults (arms_faults js) f in
    let q = all_in_three here j.seen.reached j.value.reached (arms_reached js) r in
    λ i. (alternatives_known here context env scope h at (Some t) a.patterns k.0.meanings k.0.give (record { faults = p.0; reached = q.0 }) i && is_empty (p.0 i)) && arms_known here context env scope h at t arms ls k.1 p.2 q.2 i

last_of_exhaustive : (here : Instance → Bool) (context : TypeEnv) (env : Env) (scope : CoreScope) (fs : FunctionTypes) (ts : List Ty) → IsWellTypedEnv context env → ScopeMatchesEnv here context scope → (t : DslxType) → is_sound_type t ≡ true
    → OwnItems context.known.items → (arms : List ArmSeen) (ls : List ArmLowering) → EachArmTyped arms ls → arms_faults (map (arm_typing context (Some t)) arms) ≡ [] → list_all here (arms_reached (map (arm_typing context (Some t)) arms)) ≡ true
    → is_exhaustive context (map (arm_typing context (Some t)) arms) t ≡ true → (cs : List LoweredArm) → arms_at scope t ls ≡ map Some cs → (k : EachArmFits context fs ts t arms cs)
    → LastFits context fs ts t (all_fit (shapes_of (core_arms cs)) (plain_type t)) arms cs k
last_of_exhaustive here context env scope fs ts h at t sound own arms ls typed f r exhaustive cs is k = by_level (out-DslxType t) refl exhaustive
  where
    whole : Bool
    whole = all_fit (shapes_of (core_arms cs)) (plain_type t)

    flat : is_tuple_level (out-DslxType t) ≡ false → LastFits context fs ts t whole arms cs k
    flat n = last_flat context fs ts t whole n arms cs k

    by_bits : (b : Bool) → nat_le (flat_bits t) 8 ≡ b
        → (if b then all_words_match context (map (arm_typing context (Some t)) arms) t (flat_bits t) (2 ^ flat_bits t) else last_is_sure (last_of (map (arm_typing context (Some t)) arms))) ≡ true → LastFits context fs ts t whole arms cs k
    by_bits true q e = last_whole context fs ts t whole (small_fits context scope t own at.items sound arms ls typed cs is q e) arms cs k
    by_bits false q e = last_sure context fs ts t whole arms cs k e

    by_level : (l : DslxType-F DslxType) → out-DslxType t ≡ l → is_exhaustive_in context (map (arm_typing context (Some t)) arms) t l ≡ true → LastFits context fs ts t whole arms cs k
    by_level (DslxType-F.Tuple us) q e = by_bits (nat_le (flat_bits t) 8) refl e
    by_level (DslxType-F.Bits s w) q e = flat (ap is_tuple_level q)
    by_level (DslxType-F.Array v n) q e = flat (ap is_tuple_level q)
    by_level (DslxType-F.Struct name fields us) q e = flat (ap is_tuple_level q)
    by_level (DslxType-F.Enum name s w) q e = flat (ap is_tuple_level q)
    by_level DslxType-F.Token q e = flat (ap is_tuple_level q)

first_sound : (context : TypeEnv) (fs : FunctionTypes) (ts : List Ty) (t : DslxType) (arms : List ArmSeen) (c : LoweredArm) (cs : List LoweredArm) → EachArmFits context fs ts t arms (c ∷ cs) → is_sound_type c.ty ≡ true
first_sound context fs ts t [] c cs k = absurd k
first_sound context fs ts t (a ∷ arms) c cs k = k.0.sound

pub typed_match : (span : Span) (e : ExprPair) (arms : List ArmSeen) (x : ExprLowering) (ls : List ArmLowering) → ExprTyped e x → EachArmTyped arms ls
    → PartIsTyped (λ context. match_typing span context e arms) (λ scope. lower_match (x scope) ls scope)
typed_match span e arms x ls se k here context env scope fs ts h at scoped well_typed =
    typed_as fs ts (lower_match (x scope) ls scope) (and_then (all_some (arms_at scope g.expr.ty ls)) (arms_of g.expr)) (ap (λ o. lower_match o ls scope) g.is)
    (then_typed fs ts (all_some (arms_at scope g.expr.ty ls)) (arms_of g.expr) by_arms)
  where
    value : Judgement
    value = alone context e

    typing : Option DslxType → List ArmTyping
    typing o = map (arm_typing context o) arms

    faults : Option DslxType → List Fault
    faults o = (value.faults ++ arms_faults (typing o)) ++ match_faults span context o (typing o)

    typed : Option DslxType → Option DslxType
    typed o = and_then o (λ t. where_true (all_known (typing o)) (first_of_types (all_some (types_of (arm_values (typing o))))))

    s : IsSettled (reaching context.known here) span (typed value.ty) (faults value.ty) (value.reached ++ arms_reached (typing value.ty)) (one_and (plus_size value.size (arms_size (typing value.ty))))
    s = settled_well_typed (reaching context.known here) span (typed value.ty) (faults value.ty) (value.reached ++ arms_reached (typing value.ty)) (one_and (plus_size value.size (arms_size (typing value.ty)))) well_typed

    p : (value.faults ≡ []) × (arms_faults (typing value.ty) ≡ []) × (match_faults span context value.ty (typing value.ty) ≡ [])
    p = none_in_three value.faults (arms_faults (typing value.ty)) (match_faults span context value.ty (typing value.ty)) s.faults

    r : (list_all here value.reached ≡ true) × (list_all here (arms_reached (typing value.ty)) ≡ true)
    r = all_in here value.reached (arms_reached (typing value.ty)) s.reached

    g : TypedTo fs ts (types_at context) value (x scope)
    g = alone_typed_to here context env scope fs ts h at scoped e x se p.0 r.0

    at_type : List ArmTyping
    at_type = typing (Some g.expr.ty)

    clean : arms_faults at_type ≡ []
    clean = ap (λ o. arms_faults (typing o)) (sym g.typed) ∙ p.1

    reach : list_all here (arms_reached at_type) ≡ true
    reach = ap (λ o. list_all here (arms_reached (typing o))) (sym g.typed) ∙ r.1

    -- the rule of `match`
    rule : (some_binds at_type ≡ false) × (not_exhaustive context at_type (Some g.expr.ty) ≡ false)
    rule =
        let wrong = ((is_empty at_type || some_binds at_type) || differ (all_some (types_of (arm_values at_type)))) || not_exhaustive context at_type (Some g.expr.ty) in
        let none = not_broken wrong 24 span (ap (λ o. match_faults span context o (typing o)) (sym g.typed) ∙ p.2) in
        let a = or_false ((is_empty at_type || some_binds at_type) || differ (all_some (types_of (arm_values at_type)))) (not_exhaustive context at_type (Some g.expr.ty)) none in
        let b = or_false (is_empty at_type || some_binds at_type) (differ (all_some (types_of (arm_values at_type)))) a.0 in
        ((or_false (is_empty at_type) (some_binds at_type) b.0).1, a.1)

    own : OwnItems context.known.items
    own = subst OwnItems at.items (record { constants = λ name v q. (scoped.known.constants name v q).own; members = λ name member v q. (scoped.known.members name member v q).own })

    exhaustive : is_exhaustive context at_type g.expr.ty ≡ true
    exhaustive = not_false (is_exhaustive context at_type g.expr.ty) (sym (ap (λ b. b && not (is_exhaustive context at_type g.expr.ty)) (arms_known here context env scope h at g.expr.ty arms ls k clean reach)) ∙ rule.1)

    by_arms : (cs : List LoweredArm) → all_some (arms_at scope g.expr.ty ls) ≡ Some cs → TypedIfThere fs ts (arms_of g.expr cs)
    by_arms [] is = tt
    by_arms (c ∷ cs) is =
        where_typed fs ts (list_all (λ (d : LoweredArm). equal_type c.ty d.ty) cs) (lowered (core.Select g.expr.core (map (λ (c : LoweredArm). c.arm) (c ∷ cs))) c.ty)
        (λ same.
        let there = all_there (arms_at scope g.expr.ty ls) (c ∷ cs) is in
        let fits = arms_fit here context env scope fs ts h at scoped g.expr.ty g.value g.given g.core.sound arms ls k clean reach rule.0 (c ∷ cs) there in
        let last = last_of_exhaustive here context env scope fs ts h at g.expr.ty g.core.sound own arms ls k clean reach exhaustive (c ∷ cs) there fits in
        record {
          core = ap (λ (q : Typing). q fs ts) (type_select g.expr.core (map (λ (c : LoweredArm). c.arm) (c ∷ cs)))
              ∙ ap (λ o. and_then o (λ t. arms_type (all_fit (shapes_of (core_arms (c ∷ cs))) t) fs ts t (core_arms (c ∷ cs)))) g.core.core
              ∙ arms_have_type context fs ts g.expr.ty c.ty (all_fit (shapes_of (core_arms (c ∷ cs))) (plain_type g.expr.ty)) arms c cs fits last (refl, all_of_type c.ty cs same);
          sound = first_sound context fs ts g.expr.ty arms c cs fits;
        })
