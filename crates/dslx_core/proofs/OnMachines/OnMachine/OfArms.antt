-- What comes of steps on values that are bound, arms and loops.
use Rattle.dslx_core.proofs.Lemmas.Typing.Typed.{same_some}
use Rattle.std.proofs.Common.{◌≡◌, Bool, true, false, if◌then◌else◌, List, [], ◌∷◌, ◌++◌, map, Option, Some, None, refl, sym, ap, ◌∙◌, subst}
use Rattle.std.proofs.lemmas.List.{append_assoc, append-nil}
use Rattle.dslx_tree.specs.declared.block.Stmt.{Stmt}
use Rattle.dslx_tree.specs.declared.expr.Arm.{Arm, out-Arm}
use Rattle.dslx_tree.specs.declared.expr.Expr.{Expr}
use Rattle.dslx_tree.specs.declared.expr.For.{For, out-For}
use Rattle.dslx_tree.specs.declared.pattern.Pattern.{Pattern}
use Rattle.dslx_meaning.specs.Lists.{all_some, and_then, with_both}
use Rattle.dslx_meaning.specs.Values.{bits_of}
use Rattle.dslx_meaning.specs.declared.ty.DslxType.{DslxType}
use Rattle.dslx_meaning.specs.declared.value.SignedWord.{SignedWord}
use Rattle.dslx_core.specs.declared.expr.Arm.{roll-Arm}
use Rattle.dslx_core.specs.declared.expr.Shape.{Shape}
use Rattle.dslx_core.specs.Lowering.CoreScopes.{CoreScope, constant_at}
use Rattle.dslx_core.specs.Lowering.Functions.{CoreInstance}
use Rattle.dslx_core.specs.Lowering.Lowering.{LoweredExpr}
use Rattle.dslx_core.specs.Lowering.Patterns.{LoweredArm, LoweredShape, alternatives_shaped, lower_arm, arm_of, arms_of, binding_arm}
use Rattle.dslx_core.specs.Lowering.Steps.{lower_pattern_of_text}
use Rattle.dslx_core.specs.Lowering.Trees.{lower_block_of_text, lower_expression}
use Rattle.dslx_core.specs.Machines.Machine.Tasks.{MatchWork, LowersExpr, LowersBlock, LowersStatements, MakesBind, TakesArm, MakesLoop, OpenBody, InstanceEnv}
use Rattle.dslx_core.specs.Machines.Machine.Arms as s
use Rattle.dslx_core.specs.Machines.Machine.Arms.{binds_nothing_new, shaped_at}
use Rattle.dslx_core.specs.Machines.Machine.Bodies.{bound_as, doing, scope_in, restores}
use Rattle.dslx_core.specs.Machines.Machine.Reached.{at_table}
use Rattle.dslx_core.specs.Machines.Machine.Steps.{bind_made, loop_begins, loop_made, turn_shaped, value_bound}
use Rattle.dslx_core.proofs.OnMachines.OnMachine.LowersTo.{arm_lowers_to, statements_become}
use Rattle.dslx_core.proofs.Lemmas.Machines.Machine.Options.{first_of_all, from_then}
use Rattle.dslx_core.proofs.Lemmas.Machines.Machine.Scopes.{arm_then, arms_in, does_all, end_of_next, let_in, loop_in, makes, spot_of}
use Rattle.dslx_core.proofs.OnMachines.OnMachine.Sequels.{behind_pattern, calls, gives_keep, goes_back, taken_next}
use Rattle.dslx_core.specs.Machines.Machine.Callees.{CalleesByName, moved, with_callee}
use Rattle.dslx_core.proofs.Lemmas.Machines.Machine.Steady.{Grows, alternatives_anywhere, grows_on, shaped_anywhere, shaped_grows}

module _ (context : InstanceEnv) (table : List CoreInstance) where
  abbrev at : InstanceEnv
  at = at_table context table

  -- what comes of a step, by what is made
  abbrev TableResult : Option OpenBody → Option LoweredExpr → OpenBody → Type 0
  TableResult next o body = end_of_next at next ≡ and_then (makes o (spot_of at body)) (does_all at body.todo)

  abbrev scope : OpenBody → CoreScope
  scope body = scope_in at body

  abbrev before : OpenBody → CoreScope
  before body = scope_in context body

  abbrev called : CalleesByName
  called = calls context table

  -- ---- values that are bound

  pub bound_keeps : (e : LoweredExpr) (p : Pattern) (ss : List Stmt) (last : Option Expr) (body : OpenBody) → TableResult (value_bound context e p ss last body) (let_in (scope body) e p ss last) body
  bound_keeps e p ss last body =
      by (shaped_at p (before body) e.ty) refl
      ∙ ap (λ o. and_then (makes (and_then o (λ s. and_then (statements_become ss last s.scope) (λ r. bind_made e s.shape r))) (spot_of at body)) (does_all at body.todo)) (sym (shaped_anywhere p (before body) e.ty called))
    where
      by_rest : (x : LoweredShape) (o : Option LoweredExpr) → Grows (before body) x.scope
          → and_then (makes o (spot_of at (bound_as x.scope body))) (does_all at (MakesBind e x.shape ∷ restores body ∷ body.todo))
          ≡ and_then (makes (and_then o (λ r. bind_made e x.shape r)) (spot_of at body)) (does_all at body.todo)
      by_rest x None g = refl
      by_rest x (Some r) g = goes_back context table body x.scope _ g

      by : (o : Option LoweredShape) → shaped_at p (before body) e.ty ≡ o
          → end_of_next at (and_then o (λ s. Some (bound_as s.scope (doing (LowersStatements ss last ∷ MakesBind e s.shape ∷ restores body ∷ []) body))))
          ≡ and_then (makes (and_then (moved called o) (λ s. and_then (statements_become ss last s.scope) (λ r. bind_made e s.shape r))) (spot_of at body)) (does_all at body.todo)
      by None h = refl
      by (Some x) h =
          let g = shaped_grows p (before body) e.ty x h in
          by_rest x (statements_become ss last (scope (bound_as x.scope body))) g
          ∙ ap (λ here. and_then (makes (and_then (statements_become ss last here) (λ r. bind_made e x.shape r)) (spot_of at body)) (does_all at body.todo)) (sym (behind_pattern context table body x.scope g))

  -- ---- arms

  alternatives_keep : (work : MatchWork) (ps : List Pattern) (body : OpenBody)
      → TableResult (s.alternatives_begin context work ps body)
      (and_then (with_both (alternatives_shaped (map lower_pattern_of_text ps) (scope body) work.value.ty) (lower_expression (out-Arm work.arm).value (scope body)) arm_of) (arm_then (scope body) work)) body
  alternatives_keep work ps body =
      by (alternatives_shaped (map lower_pattern_of_text ps) (before body) work.value.ty)
      ∙ ap (λ o. and_then (makes (and_then (with_both o (lower_expression (out-Arm work.arm).value (scope body)) arm_of) (arm_then (scope body) work)) (spot_of at body)) (does_all at body.todo))
      (sym (alternatives_anywhere ps (before body) work.value.ty called))
    where
      value : Option LoweredExpr
      value = lower_expression (out-Arm work.arm).value (scope body)

      by_value : (shapes : List Shape) (o : Option LoweredExpr)
          → and_then (makes (and_then o (λ v. and_then (arm_of shapes v) (arm_then (scope body) work))) (spot_of at body)) (does_all at body.todo)
          ≡ and_then (makes (and_then (with_both (Some shapes) o arm_of) (arm_then (scope body) work)) (spot_of at body)) (does_all at body.todo)
      by_value shapes None = refl
      by_value shapes (Some v) = refl

      by : (o : Option (List Shape))
          → TableResult (and_then o (λ shapes. Some (doing (LowersExpr (out-Arm work.arm).value ∷ TakesArm work shapes ∷ []) body))) (and_then (with_both o value arm_of) (arm_then (scope body) work)) body
      by None = refl
      by (Some shapes) = taken_next (λ here v. and_then (arm_of shapes v) (arm_then here work)) value (spot_of at body) (does_all at body.todo) ∙ by_value shapes value

  binding_keeps : (work : MatchWork) (ps : List Pattern) (body : OpenBody)
      → TableResult (s.binding_begins context work ps body)
      (and_then (binding_arm (map lower_pattern_of_text ps) (lower_expression (out-Arm work.arm).value) (scope body) work.value.ty) (arm_then (scope body) work)) body
  binding_keeps work [] body = refl
  binding_keeps work (p ∷ q ∷ ps) body = refl
  binding_keeps work (p ∷ []) body =
      by (shaped_at p (before body) work.value.ty) refl
      ∙ ap (λ o. and_then (makes (and_then (and_then o (λ x. and_then (lower_expression (out-Arm work.arm).value x.scope) (arm_of (x.shape ∷ [])))) (arm_then (scope body) work)) (spot_of at body)) (does_all at body.todo))
      (sym (shaped_anywhere p (before body) work.value.ty called))
    where
      by_value : (x : LoweredShape) (o : Option LoweredExpr) → Grows (before body) x.scope
          → and_then (makes o (spot_of at (bound_as x.scope body))) (does_all at (restores body ∷ TakesArm work (x.shape ∷ []) ∷ body.todo))
          ≡ and_then (makes (and_then (and_then o (arm_of (x.shape ∷ []))) (arm_then (scope body) work)) (spot_of at body)) (does_all at body.todo)
      by_value x None g = refl
      by_value x (Some v) g = goes_back context table (doing (TakesArm work (x.shape ∷ []) ∷ []) body) x.scope (v ∷ body.made) g

      by : (o : Option LoweredShape) → shaped_at p (before body) work.value.ty ≡ o
          → end_of_next at (and_then o (λ s. Some (bound_as s.scope (doing (LowersExpr (out-Arm work.arm).value ∷ restores body ∷ TakesArm work (s.shape ∷ []) ∷ []) body))))
          ≡ and_then (makes (and_then (and_then (moved called o) (λ x. and_then (lower_expression (out-Arm work.arm).value x.scope) (arm_of (x.shape ∷ [])))) (arm_then (scope body) work)) (spot_of at body)) (does_all at body.todo)
      by None h = refl
      by (Some x) h =
          let g = shaped_grows p (before body) work.value.ty x h in
          by_value x (lower_expression (out-Arm work.arm).value (scope (bound_as x.scope body))) g
          ∙ ap (λ here. and_then (makes (and_then (and_then (lower_expression (out-Arm work.arm).value here) (arm_of (x.shape ∷ []))) (arm_then (scope body) work)) (spot_of at body)) (does_all at body.todo))
          (sym (behind_pattern context table body x.scope g))

  arm_keeps : (work : MatchWork) (body : OpenBody)
      → TableResult (s.arm_begins context work body) (and_then (lower_arm (arm_lowers_to work.arm) (scope body) work.value.ty) (arm_then (scope body) work)) body
  arm_keeps work body = by (binds_nothing_new context (out-Arm work.arm).patterns)
    where
      by : (b : Bool)
          → TableResult (if b then s.alternatives_begin context work (out-Arm work.arm).patterns body else s.binding_begins context work (out-Arm work.arm).patterns body)
          (and_then (if b then with_both (alternatives_shaped (arm_lowers_to work.arm).patterns (scope body) work.value.ty) ((arm_lowers_to work.arm).value (scope body)) arm_of
          else binding_arm (arm_lowers_to work.arm).patterns (arm_lowers_to work.arm).value (scope body) work.value.ty) (arm_then (scope body) work)) body
      by true = alternatives_keep work (out-Arm work.arm).patterns body
      by false = binding_keeps work (out-Arm work.arm).patterns body

  pub arms_keep : (e : LoweredExpr) (front : List LoweredArm) (arms : List Arm) (body : OpenBody) → TableResult (s.arms_on context e front arms body) (arms_in (scope body) e front arms) body
  arms_keep e front [] body =
      gives_keep context table (arms_of e front) body ∙ ap (λ arms. and_then (makes (arms_of e arms) (spot_of at body)) (does_all at body.todo)) (sym (append-nil front))
  arms_keep e front (a ∷ rest) body =
      arm_keeps (record { value = e; before = front; arm = a; behind = rest }) body
      ∙ ap (λ o. and_then (makes o (spot_of at body)) (does_all at body.todo))
      ((λ i. and_then (lower_arm (arm_lowers_to a) (scope body) e.ty) (λ arm. and_then (all_some (map (λ c. lower_arm c (scope body) e.ty) (map arm_lowers_to rest))) (λ more. arms_of e (append_assoc front (arm ∷ []) more i))))
      ∙ sym (first_of_all (lower_arm (arm_lowers_to a) (scope body) e.ty) (map (λ c. lower_arm c (scope body) e.ty) (map arm_lowers_to rest)) (λ more. arms_of e (front ++ more))))

  pub taken_keeps : (work : MatchWork) (shapes : List Shape) (v : LoweredExpr) (body : OpenBody)
      → TableResult (s.arm_taken context work shapes v body) (and_then (arm_of shapes v) (arm_then (scope body) work)) body
  taken_keeps work shapes v body = arms_keep work.value (work.before ++ record { arm = roll-Arm (record { shapes = shapes; value = v.core }); ty = v.ty } ∷ []) work.behind body

  -- ---- loops

  abbrev turn_moved : Option (Shape × LoweredShape) → Option (Shape × LoweredShape)
  turn_moved o = and_then o (λ t. Some (t.0, record { shape = t.1.shape; scope = with_callee called t.1.scope }))

  turn_anywhere : (f : For) (here : CoreScope) (index acc : DslxType) → turn_shaped (with_callee called here) f index acc ≡ turn_moved (turn_shaped here f index acc)
  turn_anywhere f here index acc =
      ap (λ o. and_then o (λ i. and_then (shaped_at (out-For f).accumulator i.scope acc) (λ acc. Some (i.shape, acc)))) (shaped_anywhere (out-For f).index here index called)
      ∙ by (shaped_at (out-For f).index here index)
    where
      by_acc : (i : LoweredShape) (o : Option LoweredShape) → and_then (moved called o) (λ acc. Some (i.shape, acc)) ≡ turn_moved (and_then o (λ acc. Some (i.shape, acc)))
      by_acc i None = refl
      by_acc i (Some x) = refl

      by : (o : Option LoweredShape)
          → and_then (moved called o) (λ i. and_then (shaped_at (out-For f).accumulator i.scope acc) (λ acc. Some (i.shape, acc)))
          ≡ turn_moved (and_then o (λ i. and_then (shaped_at (out-For f).accumulator i.scope acc) (λ acc. Some (i.shape, acc))))
      by None = refl
      by (Some i) = ap (λ o. and_then o (λ acc. Some (i.shape, acc))) (shaped_anywhere (out-For f).accumulator i.scope acc called) ∙ by_acc i (shaped_at (out-For f).accumulator i.scope acc)

  turn_grows : (f : For) (here : CoreScope) (index acc : DslxType) (t : Shape × LoweredShape) → turn_shaped here f index acc ≡ Some t → Grows here t.1.scope
  turn_grows f here index acc t e =
      let i = from_then (shaped_at (out-For f).index here index) (λ i. and_then (shaped_at (out-For f).accumulator i.scope acc) (λ acc. Some (i.shape, acc))) t e in
      let a = from_then (shaped_at (out-For f).accumulator i.0.scope acc) (λ acc. Some (i.0.shape, acc)) t i.2 in
      subst (λ (q : Shape × LoweredShape). Grows here q.1.scope) (same_some (i.0.shape, a.0) t a.2)
      (grows_on here i.0.scope a.0.scope (shaped_grows (out-For f).index here index i.0 i.1) (shaped_grows (out-For f).accumulator i.0.scope acc a.0 a.1))

  pub loop_keeps : (f : For) (start index : LoweredExpr) (body : OpenBody) → TableResult (loop_begins f start index context body) (loop_in (scope body) f start index) body
  loop_keeps f start index body =
      by (and_then (constant_at (scope body) (out-For f).from) bits_of) (and_then (constant_at (scope body) (out-For f).to) bits_of)
      ∙ ap (λ o. and_then (makes (with_both (and_then (constant_at (scope body) (out-For f).from) bits_of) (and_then (constant_at (scope body) (out-For f).to) bits_of)
      (λ a b. and_then o (λ t. and_then (lower_block_of_text (out-For f).body t.1.scope) (λ r. loop_made start a b t.0 t.1.shape r)))) (spot_of at body)) (does_all at body.todo))
      (sym (turn_anywhere f (before body) index.ty start.ty))
    where
      by_made : (q : CoreScope) (o : Option LoweredExpr) → Grows (before body) q
          → and_then (makes o (spot_of at (bound_as q body))) (does_all at (restores body ∷ body.todo)) ≡ and_then (makes o (spot_of at body)) (does_all at body.todo)
      by_made q None g = refl
      by_made q (Some e) g = goes_back context table body q (e ∷ body.made) g

      by_body : (a b : SignedWord) (t : Shape × LoweredShape) (o : Option LoweredExpr) → Grows (before body) t.1.scope
          → and_then (makes o (spot_of at (bound_as t.1.scope body))) (does_all at (MakesLoop start a b t.0 t.1.shape ∷ restores body ∷ body.todo))
          ≡ and_then (makes (and_then o (λ r. loop_made start a b t.0 t.1.shape r)) (spot_of at body)) (does_all at body.todo)
      by_body a b t None g = refl
      by_body a b t (Some r) g = by_made t.1.scope (loop_made start a b t.0 t.1.shape r) g

      by_turn : (a b : SignedWord) (o : Option (Shape × LoweredShape)) → turn_shaped (before body) f index.ty start.ty ≡ o
          → end_of_next at (and_then o (λ t. Some (bound_as t.1.scope (doing (LowersBlock (out-For f).body ∷ MakesLoop start a b t.0 t.1.shape ∷ restores body ∷ []) body))))
          ≡ and_then (makes (and_then (turn_moved o) (λ t. and_then (lower_block_of_text (out-For f).body t.1.scope) (λ r. loop_made start a b t.0 t.1.shape r))) (spot_of at body)) (does_all at body.todo)
      by_turn a b None h = refl
      by_turn a b (Some t) h =
          let g = turn_grows f (before body) index.ty start.ty t h in
          by_body a b t (lower_block_of_text (out-For f).body (scope (bound_as t.1.scope body))) g
          ∙ ap (λ here. and_then (makes (and_then (lower_block_of_text (out-For f).body here) (λ r. loop_made start a b t.0 t.1.shape r)) (spot_of at body)) (does_all at body.todo))
          (sym (behind_pattern context table body t.1.scope g))

      by : (first end : Option SignedWord)
          → end_of_next at (with_both first end (λ a b. and_then (turn_shaped (before body) f index.ty start.ty) (λ t.
          Some (bound_as t.1.scope (doing (LowersBlock (out-For f).body ∷ MakesLoop start a b t.0 t.1.shape ∷ restores body ∷ []) body)))))
          ≡ and_then (makes (with_both first end (λ a b. and_then (turn_moved (turn_shaped (before body) f index.ty start.ty)) (λ t.
          and_then (lower_block_of_text (out-For f).body t.1.scope) (λ r. loop_made start a b t.0 t.1.shape r)))) (spot_of at body)) (does_all at body.todo)
      by None end = refl
      by (Some a) None = refl
      by (Some a) (Some b) = by_turn a b (turn_shaped (before body) f index.ty start.ty) refl
