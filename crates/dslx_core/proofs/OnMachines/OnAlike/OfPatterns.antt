-- What patterns bind, and what is lowered behind them.
use Rattle.std.proofs.Common.{◌≡◌, ◌&&◌, ◌^◌, Bool, true, false, if◌then◌else◌, List, [], ◌∷◌, map, Option, Some, None, refl, sym, ap, subst, ◌∙◌}
use Rattle.std.specs.Prelude.{nat_lt}
use Rattle.std.specs.List.{list_all}
use Rattle.dslx_meaning.specs.Lists.{and_then, with_both}
use Rattle.dslx_meaning.specs.Meaning.{turn_count}
use Rattle.dslx_meaning.specs.declared.ty.DslxType.{DslxType}
use Rattle.dslx_meaning.specs.declared.value.SignedWord.{SignedWord}
use Rattle.dslx_core.specs.declared.expr.Shape.{Shape}
use Rattle.dslx_core.specs.Lowering.CoreScopes.{CoreScope}
use Rattle.dslx_core.specs.Lowering.EqualTypes.{equal_type}
use Rattle.dslx_core.specs.Lowering.Lowering.{LoweredExpr}
use Rattle.dslx_core.specs.Lowering.Patterns.{LoweredArm, LoweredShape, ExprLowering, ArmLowering, PatternLowering, alternatives_shaped, lower_arm, arm_of, arms_of, binding_arm, lower_let, lower_loop, lower_in_scope, lower_match, names_of_all}
use Rattle.dslx_core.specs.Machines.Machine.Callees.{CalleesByName, moved, with_callee}
use Rattle.dslx_core.proofs.Lemmas.Machines.Machine.Steady.{PatternIsSteady}
use Rattle.dslx_core.proofs.OnMachines.OnAlike.OfOperators.{ExprsAlike, OneType}
use Rattle.dslx_core.proofs.OnMachines.OnAlike.Relation.{Alike, Each, EachAlike, all_alike, alike_itself, both_alike, both_same, both_there, none_alike, then_alike, there_under}

-- the same shape, with calls that come to this behind it
abbrev shape_with : CalleesByName → LoweredShape → LoweredShape
shape_with c s = record { shape = s.shape; scope = with_callee c s.scope }

abbrev pub EachIsSteady : List PatternLowering → Type 0
EachIsSteady [] = Unit {0}
EachIsSteady (p ∷ ps) = PatternIsSteady p × EachIsSteady ps

-- alternatives become the same shapes whatever calls come to
alternatives_move : (ps : List PatternLowering) → EachIsSteady ps → (scope : CoreScope) (t : DslxType) (c : CalleesByName) → alternatives_shaped ps (with_callee c scope) t ≡ alternatives_shaped ps scope t
alternatives_move [] h scope t c = refl
alternatives_move (p ∷ ps) h scope t c =
    (λ i. with_both (h.0.moves scope scope t c i) (alternatives_move ps h.1 scope t c i) (λ s ss. Some (s.shape ∷ ss))) ∙ by (lower_in_scope p scope t) (alternatives_shaped ps scope t)
  where
    by : (o : Option LoweredShape) (q : Option (List Shape)) → with_both (moved c o) q (λ s ss. Some (s.shape ∷ ss)) ≡ with_both o q (λ s ss. Some (s.shape ∷ ss))
    by None q = refl
    by (Some s) None = refl
    by (Some s) (Some ss) = refl

-- ---- arms of one type

abbrev OneArmType : LoweredArm → LoweredArm → Type 0
OneArmType a b = a.ty ≡ b.ty

all_arms_of : (t u : DslxType) (as' bs : List LoweredArm) → t ≡ u → Each OneArmType as' bs → list_all (λ (a : LoweredArm). equal_type t a.ty) as' ≡ list_all (λ (a : LoweredArm). equal_type u a.ty) bs
all_arms_of t u [] [] q h = refl
all_arms_of t u [] (b ∷ bs) q h = absurd h
all_arms_of t u (a ∷ as') [] q h = absurd h
all_arms_of t u (a ∷ as') (b ∷ bs) q h = λ i. equal_type (q i) (h.0 i) && all_arms_of t u as' bs q h.1 i

arms_alike : (more : Bool) (e f : LoweredExpr) (as' bs : List LoweredArm) → Each OneArmType as' bs → ExprsAlike more (arms_of e as') (arms_of f bs)
arms_alike more e f [] bs h = none_alike more OneType _
arms_alike more e f (a ∷ as') [] h = absurd h
arms_alike more e f (a ∷ as') (b ∷ bs) h = there_under more OneType _ _ _ _ (all_arms_of a.ty b.ty as' bs h.0 h.1) h.0

-- ---- in two scopes

module _ (more : Bool) (c d : CalleesByName) where
  -- what is lowered in each scope is alike in the two
  abbrev pub IsAlike : ExprLowering → Type 0
  IsAlike l = (scope : CoreScope) → ExprsAlike more (l (with_callee c scope)) (l (with_callee d scope))

  -- what stands behind a pattern
  behind_pattern : {A B : Type 0} (R : A → B → Type 0) (p : PatternLowering) → PatternIsSteady p → (scope : CoreScope) (t u : DslxType) → t ≡ u → (f : LoweredShape → Option A) (g : LoweredShape → Option B)
      → ((s : LoweredShape) → Alike more R (f (shape_with c s)) (g (shape_with d s)))
      → Alike more R (and_then (lower_in_scope p (with_callee c scope) t) f) (and_then (lower_in_scope p (with_callee d scope) u) g)
  behind_pattern R p steady scope t u q f g h =
      subst (λ v. Alike more R (and_then (lower_in_scope p (with_callee c scope) t) f) (and_then (lower_in_scope p (with_callee d scope) v) g)) q
      (subst (λ o. Alike more R (and_then o f) (and_then (lower_in_scope p (with_callee d scope) t) g)) (sym (steady.moves scope scope t c))
      (subst (λ o. Alike more R (and_then (moved c (lower_in_scope p scope t)) f) (and_then o g)) (sym (steady.moves scope scope t d)) (by (lower_in_scope p scope t))))
    where
      by : (o : Option LoweredShape) → Alike more R (and_then (moved c o) f) (and_then (moved d o) g)
      by None = none_alike more R _
      by (Some s) = h s

  -- ---- blocks and loops

  pub let_alike : (value : ExprLowering) (p : PatternLowering) (rest : ExprLowering) → IsAlike value → PatternIsSteady p → IsAlike rest → IsAlike (lower_let value p rest)
  let_alike value p rest h steady k scope =
      then_alike more OneType OneType _ _ _ _ (h scope)
      (λ e f q. behind_pattern OneType p steady scope e.ty f.ty q _ _ (λ s. then_alike more OneType OneType _ _ _ _ (k s.scope) (λ r x i. both_there more OneType _ _ i)))

  pub loop_alike : (start index : ExprLowering) (first end : Option SignedWord) (i acc : PatternLowering) (body : ExprLowering) (scope : CoreScope) → IsAlike start → IsAlike index → PatternIsSteady i → PatternIsSteady acc → IsAlike body
      → ExprsAlike more (lower_loop (start (with_callee c scope)) (index (with_callee c scope)) first end i acc body (with_callee c scope))
      (lower_loop (start (with_callee d scope)) (index (with_callee d scope)) first end i acc body (with_callee d scope))
  loop_alike start index first end i acc body scope h k steady_index steady_acc m =
      both_alike more OneType OneType OneType _ _ _ _ _ _ (h scope) (k scope)
      (λ s t x y p q. both_same more OneType first end _ _ (λ a b.
      behind_pattern OneType i steady_index scope x.ty y.ty q _ _ (λ index.
      behind_pattern OneType acc steady_acc index.scope s.ty t.ty p _ _ (λ acc.
      then_alike more OneType OneType _ _ _ _ (m acc.scope) (λ r u j. there_under more OneType _ _ _ _ (λ n. equal_type (p n) (j n) && nat_lt (turn_count a b) (2 ^ 64)) p)))))

  -- ---- matches

  pub record ArmIsAlike (a : ArmLowering) : Type 0 where
    pub patterns : EachIsSteady a.patterns
    pub value : IsAlike a.value

  abbrev pub EachArmIsAlike : List ArmLowering → Type 0
  EachArmIsAlike [] = Unit {0}
  EachArmIsAlike (a ∷ as') = ArmIsAlike a × EachArmIsAlike as'

  abbrev ArmsAlike : Option LoweredArm → Option LoweredArm → Type 0
  ArmsAlike o q = Alike more OneArmType o q

  alternatives_alike : (a : ArmLowering) → ArmIsAlike a → (scope : CoreScope) (t u : DslxType) → t ≡ u
      → ArmsAlike (with_both (alternatives_shaped a.patterns (with_callee c scope) t) (a.value (with_callee c scope)) arm_of) (with_both (alternatives_shaped a.patterns (with_callee d scope) u) (a.value (with_callee d scope)) arm_of)
  alternatives_alike a h scope t u q =
      both_alike more (λ (s x : List Shape). s ≡ x) OneType OneArmType _ _ _ _ arm_of arm_of
      (subst (λ o. Alike more (λ (s x : List Shape). s ≡ x) (alternatives_shaped a.patterns (with_callee c scope) t) o) same (alike_itself more _ _ (λ s. refl))) (h.value scope)
      (λ s x e f i j. both_there more OneArmType _ _ j)
    where
      same : alternatives_shaped a.patterns (with_callee c scope) t ≡ alternatives_shaped a.patterns (with_callee d scope) u
      same = alternatives_move a.patterns h.patterns scope t c ∙ sym (alternatives_move a.patterns h.patterns scope t d) ∙ ap (alternatives_shaped a.patterns (with_callee d scope)) q

  binding_alike : (ps : List PatternLowering) (value : ExprLowering) → EachIsSteady ps → IsAlike value → (scope : CoreScope) (t u : DslxType) → t ≡ u
      → ArmsAlike (binding_arm ps value (with_callee c scope) t) (binding_arm ps value (with_callee d scope) u)
  binding_alike [] value steady h scope t u q = none_alike more OneArmType _
  binding_alike (p ∷ x ∷ ps) value steady h scope t u q = none_alike more OneArmType _
  binding_alike (p ∷ []) value steady h scope t u q =
      behind_pattern OneArmType p steady.0 scope t u q _ _ (λ s. then_alike more OneType OneArmType _ _ _ _ (h s.scope) (λ e f i. both_there more OneArmType _ _ i))

  arm_alike : (a : ArmLowering) → ArmIsAlike a → (scope : CoreScope) (t u : DslxType) → t ≡ u → ArmsAlike (lower_arm a (with_callee c scope) t) (lower_arm a (with_callee d scope) u)
  arm_alike a h scope t u q = by (list_all scope.known.items.is_constant (names_of_all a.patterns))
    where
      by : (b : Bool)
          → ArmsAlike (if b then with_both (alternatives_shaped a.patterns (with_callee c scope) t) (a.value (with_callee c scope)) arm_of else binding_arm a.patterns a.value (with_callee c scope) t)
          (if b then with_both (alternatives_shaped a.patterns (with_callee d scope) u) (a.value (with_callee d scope)) arm_of else binding_arm a.patterns a.value (with_callee d scope) u)
      by true = alternatives_alike a h scope t u q
      by false = binding_alike a.patterns a.value h.patterns h.value scope t u q

  each_arm_alike : (as' : List ArmLowering) → EachArmIsAlike as' → (scope : CoreScope) (t u : DslxType) → t ≡ u
      → EachAlike more OneArmType (map (λ (a : ArmLowering). lower_arm a (with_callee c scope) t) as') (map (λ (a : ArmLowering). lower_arm a (with_callee d scope) u) as')
  each_arm_alike [] h scope t u q = tt
  each_arm_alike (a ∷ as') h scope t u q = (arm_alike a h.0 scope t u q, each_arm_alike as' h.1 scope t u q)

  pub match_alike : (value : ExprLowering) (as' : List ArmLowering) → IsAlike value → EachArmIsAlike as' → (scope : CoreScope)
      → ExprsAlike more (lower_match (value (with_callee c scope)) as' (with_callee c scope)) (lower_match (value (with_callee d scope)) as' (with_callee d scope))
  match_alike value as' h k scope =
      then_alike more OneType OneType _ _ _ _ (h scope)
      (λ e f q. then_alike more (Each OneArmType) OneType _ _ _ _ (all_alike more OneArmType _ _ (each_arm_alike as' k scope e.ty f.ty q)) (λ x y i. arms_alike more e f x y i))
