-- `match` becomes something.
use Rattle.std.proofs.Common.{◌≡◌, ◌&&◌, ◌||◌, ◌++◌, Bool, true, false, not, if◌then◌else◌, List, [], ◌∷◌, map, Option, Some, refl, sym, ap, subst, ◌∙◌}
use mathlib.Core.Bool.{true≢false}
use Rattle.std.specs.List.{list_all}
use Rattle.xb_span.specs.declared.span.Span.{Span}
use Rattle.xb_span.specs.declared.fault.Fault.{Fault}
use Rattle.dslx_meaning.specs.Lists.{all_some, and_then, where_true, with_both}
use Rattle.dslx_meaning.specs.Types.{same_type}
use Rattle.dslx_meaning.specs.Environment.{Env, Meanings}
use Rattle.dslx_meaning.specs.Meaning.{PatternDen}
use Rattle.dslx_meaning.specs.declared.ty.DslxType.{DslxType}
use Rattle.dslx_meaning.specs.declared.value.DslxValue.{DslxValue}
use Rattle.dslx_meaning.specs.Rules.ConstantRules.{is_empty}
use Rattle.dslx_meaning.specs.Rules.ControlRules.{AlternativesSeen, ArmTyping, all_known, all_like, alternatives_seen, arm_typing, arm_values, arms_faults, arms_reached, arms_size, differ, first_of_types, has_several, match_faults, match_typing, not_exhaustive, some_binds, one_alternative}
use Rattle.dslx_meaning.specs.Rules.TypeEnvs.{ExprPair, Instance, Judgement, TypeEnv, alone, has_broken, one_and, plus_size, types_of, with_typed}
use Rattle.dslx_meaning.specs.Rules.Typings.{ArmSeen, PatternPair}
use Rattle.dslx_core.proofs.Lemmas.Typing.Laws.{and_true}
use Rattle.dslx_core.specs.Typing.Typed.Declared.{AllDeclared, Declarations, IsDeclared}
use Rattle.dslx_core.specs.Typing.Typed.Given.{GivesOf}
use Rattle.dslx_core.specs.Typing.Typed.WellTyped.{IsWellTypedEnv, types_at}
use Rattle.dslx_core.proofs.Lemmas.Typing.Typed.{all_are, not_false, or_false}
use Rattle.dslx_core.specs.Typing.Sound.Scopes.{IsWellTypedPattern}
use Rattle.dslx_core.specs.Typing.Sound.Sound.{EachPatternGives}
use Rattle.dslx_core.proofs.Lemmas.Typing.Sound.{IsSettled, all_in, all_in_three, none_in, none_in_three, not_broken, settled_well_typed, some_fault}
use Rattle.dslx_core.specs.declared.expr.CoreExpr as core
use Rattle.dslx_core.specs.declared.expr.Shape.{Shape}
use Rattle.dslx_core.specs.declared.expr.Arm.{roll-Arm}
use Rattle.dslx_core.specs.Lowering.CoreScopes.{CoreScope}
use Rattle.dslx_core.specs.Lowering.EqualTypes.{equal_type}
use Rattle.dslx_core.specs.Lowering.Lowering.{lowered}
use Rattle.dslx_core.specs.Lowering.Patterns.{LoweredArm, ExprLowering, ArmLowering, PatternLowering, alternatives_shaped, lower_arm, arm_of, arms_of, binding_arm, lower_match, names_of_all}
use Rattle.dslx_total.specs.Expressions.Beside.{ScopeMatchesEnv}
use Rattle.dslx_total.specs.Expressions.ExprLowering.{ExprLowers, IsClean, PartLowers, reaching, type_of_lowered}
use Rattle.dslx_total.proofs.OnExpressions.Equal.{equal_of_text}
use Rattle.dslx_total.proofs.OnExpressions.OfPatterns.{EachPatternLowers, list_of}
use Rattle.dslx_total.proofs.OnExpressions.Parts.{LowersTo, all_sound, alone_lowers_to}

-- ---- arms

-- an arm: its patterns become shapes, and its value something of its type
pub record ArmLowers (a : ArmSeen) (l : ArmLowering) : Type 0 where
  pub patterns : EachPatternLowers a.patterns l.patterns
  pub meanings : List PatternDen
  pub give : EachPatternGives a.patterns meanings
  pub value : ExprLowers a.value l.value

abbrev pub EachArmLowers : List ArmSeen → List ArmLowering → Type 0
EachArmLowers [] [] = Unit {0}
EachArmLowers (a ∷ as') (l ∷ ls) = ArmLowers a l × EachArmLowers as' ls
EachArmLowers [] (l ∷ ls) = ⊥
EachArmLowers (a ∷ as') [] = ⊥

-- ---- alternatives

pub one_clean : (here : Instance → Bool) (context : TypeEnv) (t : Option DslxType) (p : PatternPair) (ps : List PatternPair)
    → IsClean here (alternatives_seen context t (p ∷ ps)).faults (alternatives_seen context t (p ∷ ps)).reached
    → IsClean here (one_alternative context t p (alternatives_seen context t ps)).faults (one_alternative context t p (alternatives_seen context t ps)).reached × IsClean here (alternatives_seen context t ps).faults (alternatives_seen context t ps).reached
one_clean here context t p ps clean =
    let rest = alternatives_seen context t ps in
    let first = one_alternative context t p rest in
    let q = none_in first.faults rest.faults clean.faults in
    let r = all_in here first.reached rest.reached clean.reached in
    (record { faults = q.0; reached = r.0 }, record { faults = q.1; reached = r.1 })

pub alternatives_known : (here : Instance → Bool) (context : TypeEnv) (env : Env) (scope : CoreScope) → IsWellTypedEnv context env → ScopeMatchesEnv here context scope → (t : Option DslxType) (ps : List PatternPair) (ms : List PatternDen)
    → EachPatternGives ps ms → IsClean here (alternatives_seen context t ps).faults (alternatives_seen context t ps).reached → (alternatives_seen context t ps).is_known ≡ true
alternatives_known here context env scope h at t [] ms k clean = refl
alternatives_known here context env scope h at t (p ∷ ps) [] k clean = absurd k
alternatives_known here context env scope h at t (p ∷ ps) (m ∷ ms) k clean =
    let q = one_clean here context t p ps clean in
    let first = one_alternative context t p (alternatives_seen context t ps) in
    let well_typed : IsWellTypedPattern context first = record { faults = q.0.faults; reached = all_sound here context.known.is_sound at.sound first.reached q.0.reached } in
    λ i. k.0.known true context t [] (alternatives_seen context t ps).locals env h well_typed i && alternatives_known here context env scope h at t ps ms k.1 q.1 i

-- none of them binds a name
pub none_binds : (context : TypeEnv) (t : Option DslxType) (ps : List PatternPair) (ls : List PatternLowering) → EachPatternLowers ps ls → (alternatives_seen context t ps).binds ≡ false
    → list_all context.known.items.is_constant (names_of_all ls) ≡ true
none_binds context t [] [] k e = refl
none_binds context t [] (l ∷ ls) k e = absurd k
none_binds context t (p ∷ ps) [] k e = absurd k
none_binds context t (p ∷ ps) (l ∷ ls) k e =
    let rest = alternatives_seen context t ps in
    let first = one_alternative context t p rest in
    let q = or_false (not (is_empty first.names)) rest.binds e in
    list_of context.known.items.is_constant l.names (names_of_all ls) (k.0.unbound true context t [] rest.locals (not_false (is_empty first.names) q.0)).0 (none_binds context t ps ls k.1 q.1)

pub plain_locals : (context : TypeEnv) (t : Option DslxType) (ps : List PatternPair) (ls : List PatternLowering) → EachPatternLowers ps ls → list_all context.known.items.is_constant (names_of_all ls) ≡ true
    → (alternatives_seen context t ps).locals ≡ context.locals
plain_locals context t [] ls k e = refl
plain_locals context t (p ∷ ps) [] k e = absurd k
plain_locals context t (p ∷ ps) (l ∷ ls) k e =
    let q = all_in context.known.items.is_constant l.names (names_of_all ls) e in
    k.0.plain true context t [] (alternatives_seen context t ps).locals q.0 ∙ plain_locals context t ps ls k.1 q.1

-- where none of them does, each becomes a shape
alternatives_there : (here : Instance → Bool) (context : TypeEnv) (env : Env) (scope : CoreScope) → IsWellTypedEnv context env → ScopeMatchesEnv here context scope → (t : DslxType) → IsDeclared (types_at context) t
    → (ps : List PatternPair) (ls : List PatternLowering) → EachPatternLowers ps ls → IsClean here (alternatives_seen context (Some t) ps).faults (alternatives_seen context (Some t) ps).reached
    → list_all context.known.items.is_constant (names_of_all ls) ≡ true → (ss : List Shape) × (alternatives_shaped ls scope t ≡ Some ss)
alternatives_there here context env scope h at t d [] [] k clean plain = ([], refl)
alternatives_there here context env scope h at t d [] (l ∷ ls) k clean plain = absurd k
alternatives_there here context env scope h at t d (p ∷ ps) [] k clean plain = absurd k
alternatives_there here context env scope h at t d (p ∷ ps) (l ∷ ls) k clean plain =
    let q = one_clean here context (Some t) p ps clean in
    let rest = (all_in context.known.items.is_constant l.names (names_of_all ls) plain).1 in
    let locals = (alternatives_seen context (Some t) ps).locals in
    let inner = subst (λ xs. ScopeMatchesEnv here (with_typed context xs) scope) (sym (plain_locals context (Some t) ps ls k.1 rest)) at in
    let one = k.0.lowers here true context t [] locals env scope scope h at inner d q.0 in
    let more = alternatives_there here context env scope h at t d ps ls k.1 q.1 rest in
    (one.shape.shape ∷ more.0, λ i. with_both (one.is i) (more.1 i) (λ s ss. Some (s.shape ∷ ss)))

-- ---- an arm

record ArmLowersTo (types : Declarations) (j : Judgement) (o : Option LoweredArm) : Type 0 where
  arm : LoweredArm
  is : o ≡ Some arm
  typed : j.ty ≡ Some arm.ty
  declared : IsDeclared types arm.ty

-- one pattern that binds names
binding : (here : Instance → Bool) (context : TypeEnv) (env : Env) (scope : CoreScope) → IsWellTypedEnv context env → ScopeMatchesEnv here context scope → (t : DslxType) (v : DslxValue) → GivesOf (types_at context) t (Some v)
    → (ps : List PatternPair) (ls : List PatternLowering) (ms : List PatternDen) (e : ExprPair) (value : ExprLowering) → EachPatternLowers ps ls → EachPatternGives ps ms → ExprLowers e value
    → IsClean here (alternatives_seen context (Some t) ps).faults (alternatives_seen context (Some t) ps).reached
    → (alone (with_typed context (alternatives_seen context (Some t) ps).locals) e).faults ≡ [] → list_all here (alone (with_typed context (alternatives_seen context (Some t) ps).locals) e).reached ≡ true
    → (has_several ps && (alternatives_seen context (Some t) ps).binds) ≡ false → list_all context.known.items.is_constant (names_of_all ls) ≡ false
    → ArmLowersTo (types_at context) (alone (with_typed context (alternatives_seen context (Some t) ps).locals) e) (binding_arm ls value scope t)
binding here context env scope h at t v g [] [] ms e value k m s clean faults reached binds some = absurd (true≢false some)
binding here context env scope h at t v g [] (l ∷ ls) ms e value k m s clean faults reached binds some = absurd k
binding here context env scope h at t v g (p ∷ ps) [] ms e value k m s clean faults reached binds some = absurd k
binding here context env scope h at t v g (p ∷ ps) (l ∷ ls) [] e value k m s clean faults reached binds some = absurd m
binding here context env scope h at t v g (p ∷ []) (l ∷ []) (x ∷ ms) e value k m s clean faults reached binds some =
    let q = (one_clean here context (Some t) p [] clean).0 in
    let one = k.0.lowers here true context t [] context.locals env scope scope h at at g.declared q in
    let inner = m.0.behind true context t [] context.locals env v h g (ap has_broken q.faults) in
    let b = alone_lowers_to here (with_typed context (alternatives_seen context (Some t) (p ∷ [])).locals) inner.0 one.shape.scope e value s inner.1 one.behind faults reached in
    record {
      arm = record { arm = roll-Arm (record { shapes = one.shape.shape ∷ []; value = b.expr.core }); ty = b.expr.ty };
      is = ap (λ o. and_then o (λ s. and_then (value s.scope) (arm_of (s.shape ∷ [])))) one.is ∙ ap (λ o. and_then o (arm_of (one.shape.shape ∷ []))) b.is;
      typed = b.typed;
      declared = b.declared;
    }
binding here context env scope h at t v g (p ∷ []) (l ∷ k' ∷ ls) (x ∷ ms) e value k m s clean faults reached binds some = absurd k.1
binding here context env scope h at t v g (p ∷ p' ∷ ps) (l ∷ ls) (x ∷ ms) e value k m s clean faults reached binds some =
    absurd (true≢false (sym (none_binds context (Some t) (p ∷ p' ∷ ps) (l ∷ ls) k binds) ∙ some))

arm_lowers_to : (here : Instance → Bool) (context : TypeEnv) (env : Env) (scope : CoreScope) → IsWellTypedEnv context env → ScopeMatchesEnv here context scope → (t : DslxType) (v : DslxValue) → GivesOf (types_at context) t (Some v)
    → (a : ArmSeen) (l : ArmLowering) → ArmLowers a l → (arm_typing context (Some t) a).seen.faults ≡ [] → (arm_typing context (Some t) a).value.faults ≡ []
    → list_all here (arm_typing context (Some t) a).seen.reached ≡ true → list_all here (arm_typing context (Some t) a).value.reached ≡ true
    → (has_several a.patterns && (arm_typing context (Some t) a).seen.binds) ≡ false
    → ArmLowersTo (types_at context) (arm_typing context (Some t) a).value (lower_arm l scope t)
arm_lowers_to here context env scope h at t v g a l k seen_faults faults seen_reached reached binds =
    by_names (list_all scope.known.items.is_constant (names_of_all l.patterns)) (ap (λ (items : Meanings). list_all items.is_constant (names_of_all l.patterns)) at.items) refl
  where
    seen : AlternativesSeen
    seen = alternatives_seen context (Some t) a.patterns

    by_names : (b : Bool) → list_all scope.known.items.is_constant (names_of_all l.patterns) ≡ list_all context.known.items.is_constant (names_of_all l.patterns)
        → list_all scope.known.items.is_constant (names_of_all l.patterns) ≡ b → ArmLowersTo (types_at context) (arm_typing context (Some t) a).value (lower_arm l scope t)
    by_names true q r =
        let plain = plain_locals context (Some t) a.patterns l.patterns k.patterns (sym q ∙ r) in
        let inner = subst (λ ls. ScopeMatchesEnv here (with_typed context ls) scope) (sym plain) at in
        let typed = subst (λ ls. IsWellTypedEnv (with_typed context ls) env) (sym plain) h in
        let ss = alternatives_there here context env scope h at t g.declared a.patterns l.patterns k.patterns (record { faults = seen_faults; reached = seen_reached }) (sym q ∙ r) in
        let b = alone_lowers_to here (with_typed context seen.locals) env scope a.value l.value k.value typed inner faults reached in
        record {
          arm = record { arm = roll-Arm (record { shapes = ss.0; value = b.expr.core }); ty = b.expr.ty };
          is = ap (λ c. if c then with_both (alternatives_shaped l.patterns scope t) (l.value scope) arm_of else binding_arm l.patterns l.value scope t) r ∙ (λ i. with_both (ss.1 i) (b.is i) arm_of);
          typed = b.typed;
          declared = b.declared;
        }
    by_names false q r =
        let b = binding here context env scope h at t v g a.patterns l.patterns k.meanings a.value l.value k.patterns k.give k.value (record { faults = seen_faults; reached = seen_reached }) faults reached binds (sym q ∙ r) in
        record {
          arm = b.arm;
          is = ap (λ c. if c then with_both (alternatives_shaped l.patterns scope t) (l.value scope) arm_of else binding_arm l.patterns l.value scope t) r ∙ b.is;
          typed = b.typed;
          declared = b.declared;
        }

-- ---- all arms

abbrev types_of_arms : List LoweredArm → List DslxType
types_of_arms cs = map (λ (c : LoweredArm). c.ty) cs

record ArmsBecome (context : TypeEnv) (t : DslxType) (arms : List ArmSeen) (os : List (Option LoweredArm)) : Type 0 where
  all : List LoweredArm
  are : os ≡ map Some all
  typed : types_of (arm_values (map (arm_typing context (Some t)) arms)) ≡ map Some (types_of_arms all)
  declared : AllDeclared (types_at context) (types_of_arms all)
  known : all_known (map (arm_typing context (Some t)) arms) ≡ true

abbrev arms_at : CoreScope → DslxType → List ArmLowering → List (Option LoweredArm)
arms_at scope t ls = map (λ (a : ArmLowering). lower_arm a scope t) ls

arms_become : (here : Instance → Bool) (context : TypeEnv) (env : Env) (scope : CoreScope) → IsWellTypedEnv context env → ScopeMatchesEnv here context scope → (t : DslxType) (v : DslxValue) → GivesOf (types_at context) t (Some v)
    → (arms : List ArmSeen) (ls : List ArmLowering) → EachArmLowers arms ls → arms_faults (map (arm_typing context (Some t)) arms) ≡ [] → list_all here (arms_reached (map (arm_typing context (Some t)) arms)) ≡ true
    → some_binds (map (arm_typing context (Some t)) arms) ≡ false → ArmsBecome context t arms (arms_at scope t ls)
arms_become here context env scope h at t v g [] [] k f r b = record { all = []; are = refl; typed = refl; declared = tt; known = refl }
arms_become here context env scope h at t v g [] (l ∷ ls) k f r b = absurd k
arms_become here context env scope h at t v g (a ∷ arms) [] k f r b = absurd k
arms_become here context env scope h at t v g (a ∷ arms) (l ∷ ls) k f r b =
    let j = arm_typing context (Some t) a in
    let js = map (arm_typing context (Some t)) arms in
    let p = none_in_three j.seen.faults j.value.faults (arms_faults js) f in
    let q = all_in_three here j.seen.reached j.value.reached (arms_reached js) r in
    let s = or_false (has_several a.patterns && j.seen.binds) (some_binds js) b in
    let one = arm_lowers_to here context env scope h at t v g a l k.0 p.0 p.1 q.0 q.1 s.0 in
    let more = arms_become here context env scope h at t v g arms ls k.1 p.2 q.2 s.1 in
    record {
      all = one.arm ∷ more.all;
      are = λ i. one.is i ∷ more.are i;
      typed = λ i. one.typed i ∷ more.typed i;
      declared = (one.declared, more.declared);
      known = λ i. alternatives_known here context env scope h at (Some t) a.patterns k.0.meanings k.0.give (record { faults = p.0; reached = q.0 }) i && more.known i;
    }

-- arms of one type
one_typed : (types : Declarations) (t : DslxType) → IsDeclared types t → (cs : List LoweredArm) → AllDeclared types (types_of_arms cs) → all_like t (types_of_arms cs) ≡ true
    → list_all (λ (c : LoweredArm). equal_type t c.ty) cs ≡ true
one_typed types t d [] ds e = refl
one_typed types t d (c ∷ cs) ds e =
    let q = and_true (same_type t c.ty) (all_like t (types_of_arms cs)) e in
    λ i. equal_of_text types t c.ty q.0 d ds.0 i && one_typed types t d cs ds.1 q.1 i

-- ---- `match`

pub lower_total_match : (span : Span) (e : ExprPair) (arms : List ArmSeen) (x : ExprLowering) (ls : List ArmLowering) → ExprLowers e x → EachArmLowers arms ls
    → PartLowers (λ context. match_typing span context e arms) (λ scope. lower_match (x scope) ls scope)
lower_total_match span e arms x ls se k here context env scope h at well_typed =
    ap (λ o. type_of_lowered (lower_match o ls scope)) g.is
    ∙ ap (λ o. type_of_lowered (and_then o (arms_of g.expr))) (ap all_some all.are ∙ all_are all.all)
    ∙ by_arms all.all all.typed all.declared
    ∙ sym (s.ty ∙ ap typed g.typed ∙ ap (λ b. where_true b (first_of_types (all_some (types_of (arm_values (typing (Some g.expr.ty))))))) all.known)
  where
    value : Judgement
    value = alone context e

    typing : Option DslxType → List ArmTyping
    typing o = map (arm_typing context o) arms

    faults : Option DslxType → List Fault
    faults o = (value.faults ++ arms_faults (typing o)) ++ match_faults span context o (typing o)

    typed : Option DslxType → Option DslxType
    typed o = and_then o (λ t. where_true (all_known (typing o)) (first_of_types (all_some (types_of (arm_values (typing o))))))

    s : IsSettled (reaching context.known here) span (typed value.ty) (faults value.ty) (value.reached ++ arms_reached (typing value.ty)) (one_and (plus_size value.size (arms_size (typing value.ty))))
    s = settled_well_typed (reaching context.known here) span (typed value.ty) (faults value.ty) (value.reached ++ arms_reached (typing value.ty)) (one_and (plus_size value.size (arms_size (typing value.ty)))) well_typed

    p : (value.faults ≡ []) × (arms_faults (typing value.ty) ≡ []) × (match_faults span context value.ty (typing value.ty) ≡ [])
    p = none_in_three value.faults (arms_faults (typing value.ty)) (match_faults span context value.ty (typing value.ty)) s.faults

    r : (list_all here value.reached ≡ true) × (list_all here (arms_reached (typing value.ty)) ≡ true)
    r = all_in here value.reached (arms_reached (typing value.ty)) s.reached

    g : LowersTo (types_at context) value (x scope)
    g = alone_lowers_to here context env scope e x se h at p.0 r.0

    at_type : List ArmTyping
    at_type = typing (Some g.expr.ty)

    -- the rule of `match`
    rule : (is_empty at_type ≡ false) × (some_binds at_type ≡ false) × (differ (all_some (types_of (arm_values at_type))) ≡ false)
    rule =
        let wrong = ((is_empty at_type || some_binds at_type) || differ (all_some (types_of (arm_values at_type)))) || not_exhaustive context at_type (Some g.expr.ty) in
        let none = not_broken wrong 24 span (ap (λ o. match_faults span context o (typing o)) (sym g.typed) ∙ p.2) in
        let a = or_false ((is_empty at_type || some_binds at_type) || differ (all_some (types_of (arm_values at_type)))) (not_exhaustive context at_type (Some g.expr.ty)) none in
        let b = or_false (is_empty at_type || some_binds at_type) (differ (all_some (types_of (arm_values at_type)))) a.0 in
        let c = or_false (is_empty at_type) (some_binds at_type) b.0 in
        (c.0, c.1, b.1)

    all : ArmsBecome context g.expr.ty arms (arms_at scope g.expr.ty ls)
    all = arms_become here context env scope h at g.expr.ty g.value g.given arms ls k (ap (λ o. arms_faults (typing o)) (sym g.typed) ∙ p.1) (ap (λ o. list_all here (arms_reached (typing o))) (sym g.typed) ∙ r.1) rule.1

    some_arm : {X : Type 0} (arms : List ArmSeen) → types_of (arm_values (map (arm_typing context (Some g.expr.ty)) arms)) ≡ [] → is_empty (map (arm_typing context (Some g.expr.ty)) arms) ≡ false → X
    some_arm [] e f = absurd (true≢false f)
    some_arm (a ∷ as') e f = some_fault (arm_typing context (Some g.expr.ty) a).value.ty (types_of (arm_values (map (arm_typing context (Some g.expr.ty)) as'))) e

    by_arms : (cs : List LoweredArm) → types_of (arm_values at_type) ≡ map Some (types_of_arms cs) → AllDeclared (types_at context) (types_of_arms cs)
        → type_of_lowered (arms_of g.expr cs) ≡ first_of_types (all_some (types_of (arm_values at_type)))
    by_arms [] is ds = some_arm arms is rule.0
    by_arms (c ∷ cs) is ds =
        let there = ap all_some is ∙ all_are (types_of_arms (c ∷ cs)) in
        let like = not_false (all_like c.ty (types_of_arms cs)) (ap differ (sym there) ∙ rule.2) in
        ap (λ b. type_of_lowered (where_true b (lowered (core.Select g.expr.core (map (λ (c : LoweredArm). c.arm) (c ∷ cs))) c.ty))) (one_typed (types_at context) c.ty ds.0 cs ds.1 like)
        ∙ sym (ap first_of_types there)
