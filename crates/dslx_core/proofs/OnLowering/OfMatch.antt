-- A match means the same as what stands for it.
use Rattle.std.proofs.Common.{◌≡◌, Bool, true, false, if◌then◌else◌, List, [], ◌∷◌, map, Option, Some, None, refl, sym, ap, subst, ◌∙◌}
use Rattle.std.specs.List.{list_all}
use Rattle.xb_value.specs.declared.value.Value.{Value}
use Rattle.dslx_meaning.specs.Lists.{all_some, and_then, or_else, with_both}
use Rattle.dslx_meaning.specs.Values.{plain_value}
use Rattle.dslx_meaning.specs.Environment.{Given, Env}
use Rattle.dslx_meaning.specs.Meaning.{ArmDen, PatternDen, all_names, first_fit, fits_in_scope, match_arms, take_arm, value_without}
use Rattle.dslx_meaning.specs.declared.ty.DslxType.{DslxType}
use Rattle.dslx_meaning.specs.declared.value.DslxValue.{DslxValue}
use Rattle.dslx_core.proofs.Lemmas.Typing.Laws.{and_true}
use Rattle.dslx_core.specs.Typing.Typed.Kinds.{is_of}
use Rattle.dslx_core.proofs.Lemmas.Typing.Typed.{none_some, same_some}
use Rattle.dslx_core.specs.CoreValues.{CoreArmDen, Bindings, Functions, arm_or, core_value, first_apart, select, taken_apart}
use Rattle.dslx_core.specs.declared.expr.Arm.{roll-Arm}
use Rattle.dslx_core.specs.declared.expr.CoreExpr.{CoreExpr}
use Rattle.dslx_core.specs.declared.expr.CoreExpr as core
use Rattle.dslx_core.specs.declared.expr.Shape.{Shape}
use Rattle.dslx_core.specs.Lowering.CoreScopes.{CoreScope}
use Rattle.dslx_core.specs.Lowering.EqualTypes.{equal_type}
use Rattle.dslx_core.specs.Lowering.Lowering.{LoweredExpr, lowered}
use Rattle.dslx_core.specs.Lowering.Patterns.{LoweredArm, LoweredShape, ArmLowering, PatternLowering, alternatives_shaped, lower_arm, arm_of, arms_of, binding_arm, lower_in_scope, lower_match, names_of_all}
use Rattle.dslx_core.specs.Lowering.Correspondence.{BothFit, FitLowerPreserves, HasPlainValue, KeepsValue, LowerPreserves, NeitherFits, SimulatesInScope, env_at}
use Rattle.dslx_core.proofs.OnLowering.Kept.{from_both, from_then, from_where, kept_as}
use Rattle.dslx_core.proofs.OnLowering.Lists.{EachThere, each_there}
use Rattle.dslx_core.proofs.OnLowering.OneType.{one_by_test}
use Rattle.dslx_core.proofs.OnLowering.Openings.{core_arm_den, core_arm, core_select}
use Rattle.dslx_core.proofs.OnLowering.OfControl.{behind}
use Rattle.dslx_core.proofs.OnLowering.OfPatterns.{EachPatternMeans, all_in_both, each_name, fits_there}

-- an arm, and what it means
pub record ArmLowerPreserves (a : ArmLowering) (m : ArmDen) : Type 0 where
  pub patterns : EachPatternMeans a.patterns m.patterns
  pub value : LowerPreserves a.value m.value

abbrev pub EachArmMeans : List ArmLowering → List ArmDen → Type 0
EachArmMeans [] [] = Unit {0}
EachArmMeans (a ∷ as') (m ∷ ms) = ArmLowerPreserves a m × EachArmMeans as' ms
EachArmMeans [] (m ∷ ms) = ⊥
EachArmMeans (a ∷ as') [] = ⊥

-- ---- alternatives

or_first : {A : Type 0} (o p : Option A) (a : A) → o ≡ Some a → or_else o p ≡ Some a
or_first o p a e = ap (λ x. or_else x p) e

or_second : {A : Type 0} (o p q : Option A) → o ≡ None → p ≡ q → or_else o p ≡ q
or_second o p q e h = (λ i. or_else (e i) (h i))

-- alternatives that bind nothing
alternatives_fit : (ps : List PatternLowering) (ms : List PatternDen) → EachPatternMeans ps ms → (scope : CoreScope) (t : DslxType) (ss : List Shape) → alternatives_shaped ps scope t ≡ Some ss
    → list_all scope.known.items.is_constant (names_of_all ps) ≡ true → (calls : Functions) (given : List Given) (bound : Bindings) → SimulatesInScope scope calls given bound
    → (v : DslxValue) → is_of t v ≡ true → FitLowerPreserves scope calls (first_fit ms v (env_at scope given)) (first_apart ss (plain_value v) bound)
alternatives_fit [] (m ∷ ms) h scope t ss e all calls given bound at v of = absurd h
alternatives_fit (p ∷ ps) [] h scope t ss e all calls given bound at v of = absurd h
alternatives_fit [] [] h scope t ss e all calls given bound at v of = NeitherFits refl (ap (λ ss. first_apart ss (plain_value v) bound) (sym (same_some [] ss e)))
alternatives_fit (p ∷ ps) (m ∷ ms) h scope t ss e all calls given bound at v of =
    let q = from_both (lower_in_scope p scope t) (alternatives_shaped ps scope t) (λ s ss. Some (s.shape ∷ ss)) ss e in
    let r = all_in_both scope.known.items.is_constant p.names (names_of_all ps) all in
    subst (λ x. FitLowerPreserves scope calls (first_fit (m ∷ ms) v (env_at scope given)) (first_apart x (plain_value v) bound)) (same_some (q.0.shape ∷ q.1) ss q.4)
    (joined q.0 q.1
    (subst (λ x. FitLowerPreserves x calls (fits_in_scope m v (env_at scope given)) (taken_apart q.0.shape (plain_value v) bound)) (h.0.bare scope scope t q.0 q.2 r.0)
    (fits_there p m h.0 scope t q.0 q.2 calls given bound at v of))
    (alternatives_fit ps ms h.1 scope t q.1 q.3 r.1 calls given bound at v of))
  where
    joined : (s : LoweredShape) (ss : List Shape) → FitLowerPreserves scope calls (fits_in_scope m v (env_at scope given)) (taken_apart s.shape (plain_value v) bound)
        → FitLowerPreserves scope calls (first_fit ms v (env_at scope given)) (first_apart ss (plain_value v) bound)
        → FitLowerPreserves scope calls (or_else (fits_in_scope m v (env_at scope given)) (first_fit ms v (env_at scope given))) (or_else (taken_apart s.shape (plain_value v) bound) (first_apart ss (plain_value v) bound))
    joined s ss (BothFit more others x y z) rest = BothFit more others (or_first _ _ _ x) (or_first _ _ _ y) z
    joined s ss (NeitherFits x y) (BothFit more others a b c) = BothFit more others (or_second _ _ _ x a) (or_second _ _ _ y b) c
    joined s ss (NeitherFits x y) (NeitherFits a b) = NeitherFits (or_second _ _ _ x a) (or_second _ _ _ y b)

-- ---- arms

abbrev value_with : LoweredArm → CoreExpr → LoweredExpr
value_with c e = record { core = e; ty = c.ty }

-- an arm that was lowered
pub record ArmKeeps (c : LoweredArm) (m : ArmDen) (v : DslxValue) (env : Env) (calls : Functions) (bound : Bindings) : Type 0 where
  pub shapes : List Shape
  pub core : CoreExpr
  pub is : core_arm_den c.arm ≡ record { shapes = shapes; value = core_value core }
  -- a value that fits goes on behind the arm's pattern
  pub fits : (inner : Env) → first_fit m.patterns v env ≡ Some inner → (r : DslxValue) → m.value inner ≡ Some r
      → (others : Bindings) × (first_apart shapes (plain_value v) bound ≡ Some others) × HasPlainValue (value_with c core) calls others r
  -- one that doesn't fit neither fits the shapes, and the last arm is taken where it binds nothing
  pub fails : first_fit m.patterns v env ≡ None → first_apart shapes (plain_value v) bound ≡ None
  pub last : (r : DslxValue) → value_without m env ≡ Some r → HasPlainValue (value_with c core) calls bound r

arm_keeps : (a : ArmLowering) (m : ArmDen) → ArmLowerPreserves a m → (scope : CoreScope) (t : DslxType) (c : LoweredArm) → lower_arm a scope t ≡ Some c
    → (calls : Functions) (given : List Given) (bound : Bindings) → SimulatesInScope scope calls given bound → (v : DslxValue) → is_of t v ≡ true → ArmKeeps c m v (env_at scope given) calls bound
arm_keeps a m h scope t c e calls given bound at v of = by_names (list_all scope.known.items.is_constant (names_of_all a.patterns)) refl e
  where
    made : (shapes : List Shape) (e : LoweredExpr) (outer : CoreScope) → arm_of shapes e ≡ Some c → a.value outer ≡ Some e
        → FitLowerPreserves outer calls (first_fit m.patterns v (env_at scope given)) (first_apart shapes (plain_value v) bound)
        → ((r : DslxValue) → value_without m (env_at scope given) ≡ Some r → HasPlainValue e calls bound r) → ArmKeeps c m v (env_at scope given) calls bound
    made shapes e outer k low fit here =
        let is : record { arm = roll-Arm (record { shapes = shapes; value = e.core }); ty = e.ty } ≡ c = same_some (record { arm = roll-Arm (record { shapes = shapes; value = e.core }); ty = e.ty }) c k in
        subst (λ x. ArmKeeps x m v (env_at scope given) calls bound) is
        (record {
          shapes = shapes;
          core = e.core;
          is = core_arm shapes e.core;
          fits = λ inner f r k.
              let b = behind outer calls (first_fit m.patterns v (env_at scope given)) (first_apart shapes (plain_value v) bound) inner f fit in
              (b.others, b.apart, h.value outer calls b.given b.others b.stands e low r (ap m.value (sym b.env) ∙ k));
          fails = λ f. failed fit f;
          last = here;
        })
      where
        failed : FitLowerPreserves outer calls (first_fit m.patterns v (env_at scope given)) (first_apart shapes (plain_value v) bound) → first_fit m.patterns v (env_at scope given) ≡ None
            → first_apart shapes (plain_value v) bound ≡ None
        failed (NeitherFits x y) f = y
        failed (BothFit more others x y z) f = none_some (env_at outer more) (sym f ∙ x)

    -- of one pattern alone
    one_pattern : (ps : List PatternLowering) (ms : List PatternDen) → EachPatternMeans ps ms → binding_arm ps a.value scope t ≡ Some c
        → (s : LoweredShape) × (e : LoweredExpr) × (arm_of (s.shape ∷ []) e ≡ Some c) × (a.value s.scope ≡ Some e)
        × FitLowerPreserves s.scope calls (first_fit ms v (env_at scope given)) (first_apart (s.shape ∷ []) (plain_value v) bound)
    one_pattern [] ms h k = none_some c k
    one_pattern (p ∷ q ∷ ps) ms h k = none_some c k
    one_pattern (p ∷ []) [] h k = absurd h
    one_pattern (p ∷ []) (n ∷ o ∷ ms) h k = absurd h.1
    one_pattern (p ∷ []) (n ∷ []) h k =
        let s = from_then (lower_in_scope p scope t) (λ s. and_then (a.value s.scope) (arm_of (s.shape ∷ []))) c k in
        let e = from_then (a.value s.0.scope) (arm_of (s.0.shape ∷ [])) c s.2 in
        (s.0, e.0, e.2, e.1, alone s.0 (fits_there p n h.0 scope t s.0 s.1 calls given bound at v of))
      where
        alone : (s : LoweredShape) → FitLowerPreserves s.scope calls (fits_in_scope n v (env_at scope given)) (taken_apart s.shape (plain_value v) bound)
            → FitLowerPreserves s.scope calls (or_else (fits_in_scope n v (env_at scope given)) None) (or_else (taken_apart s.shape (plain_value v) bound) None)
        alone s (BothFit more others x y z) = BothFit more others (or_first _ _ _ x) (or_first _ _ _ y) z
        alone s (NeitherFits x y) = NeitherFits (or_second _ _ _ x refl) (or_second _ _ _ y refl)

    same_test : (b : Bool) → list_all scope.known.items.is_constant (names_of_all a.patterns) ≡ b → list_all scope.known.items.is_constant (all_names m.patterns) ≡ b
    same_test b q = ap (list_all scope.known.items.is_constant) (sym (each_name a.patterns m.patterns h.patterns)) ∙ q

    by_names : (b : Bool) → list_all scope.known.items.is_constant (names_of_all a.patterns) ≡ b
        → (if b then with_both (alternatives_shaped a.patterns scope t) (a.value scope) arm_of else binding_arm a.patterns a.value scope t) ≡ Some c → ArmKeeps c m v (env_at scope given) calls bound
    by_names true q k =
        let r = from_both (alternatives_shaped a.patterns scope t) (a.value scope) arm_of c k in
        made r.0 r.1 scope r.4 r.3 (alternatives_fit a.patterns m.patterns h.patterns scope t r.0 r.2 q calls given bound at v of)
        (λ u f. h.value scope calls given bound at r.1 r.3 u (sym (ap (λ b. if b then m.value (env_at scope given) else None) (same_test true q)) ∙ f))
    by_names false q k =
        let r = one_pattern a.patterns m.patterns h.patterns k in
        made (r.0.shape ∷ []) r.1 r.0.scope r.2 r.3 r.4 (λ u f. none_some u (sym (ap (λ b. if b then m.value (env_at scope given) else None) (same_test false q)) ∙ f))

-- ---- the first arm that fits

abbrev AllOfType : DslxType → List LoweredArm → Type 0
AllOfType u [] = Unit {0}
AllOfType u (c ∷ cs) = (u ≡ c.ty) × AllOfType u cs

each_type : (u : DslxType) (cs : List LoweredArm) → list_all (λ (c : LoweredArm). equal_type u c.ty) cs ≡ true → AllOfType u cs
each_type u [] e = tt
each_type u (c ∷ cs) e = let q = and_true (equal_type u c.ty) (list_all (λ (c : LoweredArm). equal_type u c.ty) cs) e in (one_by_test u c.ty q.0, each_type u cs q.1)

abbrev Taken : DslxType → Option Value → DslxValue → Type 0
Taken u o r = (is_of u r ≡ true) × (o ≡ Some (plain_value r))

-- the value of an arm, or of the rest
taken : (u : DslxType) (c : LoweredArm) (m : ArmDen) (v : DslxValue) (env : Env) (calls : Functions) (bound : Bindings) → u ≡ c.ty → ArmKeeps c m v env calls bound → (rest : Option DslxValue) (other : Option Value)
    → ((r : DslxValue) → rest ≡ Some r → Taken u other r) → (r : DslxValue) → take_arm m (first_fit m.patterns v env) rest ≡ Some r
    → Taken u (arm_or calls (core_arm_den c.arm).value (first_apart (core_arm_den c.arm).shapes (plain_value v) bound) other) r
taken u c m v env calls bound one keeps rest other others r e = by_fit (first_fit m.patterns v env) refl e
  where
    opened : arm_or calls (core_arm_den c.arm).value (first_apart (core_arm_den c.arm).shapes (plain_value v) bound) other ≡ arm_or calls (core_value keeps.core) (first_apart keeps.shapes (plain_value v) bound) other
    opened = ap (λ (x : CoreArmDen). arm_or calls x.value (first_apart x.shapes (plain_value v) bound) other) keeps.is

    by_fit : (o : Option Env) → first_fit m.patterns v env ≡ o → take_arm m o rest ≡ Some r
        → Taken u (arm_or calls (core_arm_den c.arm).value (first_apart (core_arm_den c.arm).shapes (plain_value v) bound) other) r
    by_fit None q k = let g = others r k in (g.0, opened ∙ ap (λ o. arm_or calls (core_value keeps.core) o other) (keeps.fails q) ∙ g.1)
    by_fit (Some inner) q k =
        let g = keeps.fits inner q r k in
        (ap (λ t. is_of t r) one ∙ g.2.of, opened ∙ ap (λ o. arm_or calls (core_value keeps.core) o other) g.1 ∙ g.2.core)

arms_keep : (u : DslxType) (as' : List ArmLowering) (ms : List ArmDen) → EachArmMeans as' ms → (scope : CoreScope) (t : DslxType) (cs : List LoweredArm)
    → EachThere (map (λ (a : ArmLowering). lower_arm a scope t) as') cs → AllOfType u cs
    → (calls : Functions) (given : List Given) (bound : Bindings) → SimulatesInScope scope calls given bound → (v : DslxValue) → is_of t v ≡ true → (r : DslxValue) → match_arms ms v (env_at scope given) ≡ Some r
    → Taken u (select (map core_arm_den (map (λ (c : LoweredArm). c.arm) cs)) (plain_value v) calls bound) r
arms_keep u [] (m ∷ ms) h scope t cs e one calls given bound at v of r k = absurd h
arms_keep u (a ∷ as') [] h scope t cs e one calls given bound at v of r k = absurd h
arms_keep u [] [] h scope t cs e one calls given bound at v of r k = none_some r k
arms_keep u (a ∷ as') (m ∷ ms) h scope t [] e one calls given bound at v of r k = absurd e
arms_keep u (a ∷ []) (m ∷ n ∷ ms) h scope t cs e one calls given bound at v of r k = absurd h.1
arms_keep u (a ∷ b ∷ as') (m ∷ []) h scope t cs e one calls given bound at v of r k = absurd h.1
arms_keep u (a ∷ []) (m ∷ []) h scope t (c ∷ d ∷ cs) e one calls given bound at v of r k = absurd e.1
arms_keep u (a ∷ b ∷ as') (m ∷ n ∷ ms) h scope t (c ∷ []) e one calls given bound at v of r k = absurd e.1
arms_keep u (a ∷ []) (m ∷ []) h scope t (c ∷ []) e one calls given bound at v of r k =
    let keeps = arm_keeps a m h.0 scope t c e.0 calls given bound at v of in
    taken u c m v (env_at scope given) calls bound one.0 keeps (value_without m (env_at scope given)) ((core_arm_den c.arm).value calls bound)
    (λ w f. let g = keeps.last w f in (ap (λ t. is_of t w) one.0 ∙ g.of, ap (λ (x : CoreArmDen). x.value calls bound) keeps.is ∙ g.core)) r k
arms_keep u (a ∷ b ∷ as') (m ∷ n ∷ ms) h scope t (c ∷ d ∷ cs) e one calls given bound at v of r k =
    taken u c m v (env_at scope given) calls bound one.0 (arm_keeps a m h.0 scope t c e.0 calls given bound at v of) (match_arms (n ∷ ms) v (env_at scope given))
    (select (map core_arm_den (map (λ (c : LoweredArm). c.arm) (d ∷ cs))) (plain_value v) calls bound)
    (arms_keep u (b ∷ as') (n ∷ ms) h.1 scope t (d ∷ cs) e.1 one.1 calls given bound at v of) r k

pub match_keeps : (scope : CoreScope) (calls : Functions) (given : List Given) (bound : Bindings) → SimulatesInScope scope calls given bound → (l : Option LoweredExpr) (o : Option DslxValue) → KeepsValue calls bound l o
    → (as' : List ArmLowering) (ms : List ArmDen) → EachArmMeans as' ms → KeepsValue calls bound (lower_match l as' scope) (and_then o (λ v. match_arms ms v (env_at scope given)))
match_keeps scope calls given bound at l o keeps as' ms h e k r f =
    let a = from_then l (λ e. and_then (all_some (map (λ (a : ArmLowering). lower_arm a scope e.ty) as')) (arms_of e)) e k in
    let cs = from_then (all_some (map (λ (c : ArmLowering). lower_arm c scope a.0.ty) as')) (arms_of a.0) e a.2 in
    let v = from_then o (λ v. match_arms ms v (env_at scope given)) r f in
    let has = keeps a.0 a.1 v.0 v.1 in
    by_arms a.0 v.0 has cs.0 (each_there (map (λ (c : ArmLowering). lower_arm c scope a.0.ty) as') cs.0 cs.1) cs.2 v.2
  where
    by_arms : (a : LoweredExpr) (v : DslxValue) → HasPlainValue a calls bound v → (cs : List LoweredArm) → EachThere (map (λ (c : ArmLowering). lower_arm c scope a.ty) as') cs → arms_of a cs ≡ Some e
        → match_arms ms v (env_at scope given) ≡ Some r → HasPlainValue e calls bound r
    by_arms a v has [] there low source = none_some e low
    by_arms a v has (c ∷ cs) there low source =
        let q = from_where (list_all (λ (d : LoweredArm). equal_type c.ty d.ty) cs) (lowered (core.Select a.core (map (λ (d : LoweredArm). d.arm) (c ∷ cs))) c.ty) e low in
        let g = arms_keep c.ty as' ms h scope a.ty (c ∷ cs) there (refl, each_type c.ty cs q.0) calls given bound at v has.of r source in
        kept_as calls bound r (record { core = core.Select a.core (map (λ (d : LoweredArm). d.arm) (c ∷ cs)); ty = c.ty }) e q.1
        (record {
          of = g.0;
          core =
              ap (λ f. f calls bound) (core_select a.core (map (λ (d : LoweredArm). d.arm) (c ∷ cs)))
              ∙ ap (λ o. and_then o (λ v. select (map core_arm_den (map (λ (d : LoweredArm). d.arm) (c ∷ cs))) v calls bound)) has.core ∙ g.1;
        })
