-- Statements, one after another.
use Rattle.std.proofs.Common.{◌≡◌, ◌∙◌, ◌∷◌, ◌<◌, ◌≤◌, ◌+◌, [], ℕ, suc, List, drop, length, get_or, arith, Option, Some, None, map, reverse, refl, ap, sym, subst}
use Rattle.std.proofs.Math.ListN.{drop_of_length-le}
use Rattle.std.proofs.Math.Seq.{drop-cons}
use Rattle.dslx_tree.specs.declared.block.Let.{Let, out-Let}
use Rattle.dslx_tree.specs.declared.block.Stmt.{Stmt, out-Stmt}
use Rattle.dslx_tree.specs.declared.block.Stmt.TheOpen.{Stmt-F}
use Rattle.dslx_tree.specs.declared.expr.Expr.{Expr}
use Rattle.dslx_meaning.specs.Activation.{StmtLayer, act_of}
use Rattle.dslx_meaning.specs.Items.{meanings_of}
use Rattle.dslx_meaning.specs.Lists.{and_then}
use Rattle.dslx_core.proofs.Lemmas.Typing.Typed.{none_some, same_some}
use Rattle.dslx_core.specs.declared.step.Step.{Step}
use Rattle.dslx_meaning.specs.Names.Bound.{given}
use Rattle.dslx_core.specs.Lowering.Functions.{CoreInstance, callee_in, outer_scope}
use Rattle.dslx_core.specs.Lowering.Patterns.{LoweredShape}
use Rattle.dslx_core.proofs.Lemmas.Lowering.{from_then}
use Rattle.dslx_core.specs.Lowering.Steps.{BindsInScope, LoweredSteps, StepsLowering, binds_nothing, statement_steps, step_then}
use Rattle.dslx_core.specs.Machines.Machine.Arms.{shaped_at}
use Rattle.dslx_core.specs.Machines.Machine.Reached.{ExtendsTable}
use Rattle.dslx_core.proofs.Lemmas.Machines.Machine.Instances.{begins_further, begins_itself}
use Rattle.dslx_instance.specs.declared.tasks.work.BodyWork.{BodyWork}
use Rattle.dslx_core.specs.Machines.Extension.Results.{TableExtends}
use Rattle.dslx_next.specs.Opening.Opened.{binds_then, with_shape}
use Rattle.dslx_next.specs.Opening.Works.{HasTable, BodyMakes, opened_at, outer_at, scope_at}
use Rattle.dslx_next.specs.Steps.Passing.{HasState, IsBound, StepBinds, IsPassed, BodyPasses, act_at, behind_steps, statement_at, statements_at, statements_then}
use Rattle.dslx_next.specs.declared.opening.opened.OpenStep.{OpenStep}
use Rattle.dslx_next.specs.declared.opening.work.NextScope.{NextScope}
use Rattle.dslx_core.proofs.Lemmas.Machines.Extension.Coming.{never_as, never_behind}
use Rattle.dslx_core.proofs.Lemmas.Machines.Extension.Growing.{grows_itself, grows_on}
use Rattle.dslx_param.specs.Needed.{AddsNeeded, AreOfTable}
use Rattle.dslx_param.proofs.Lemmas.Growing.{adds_for, adds_nothing, adds_then}
use Rattle.dslx_param.proofs.Lemmas.OneType.{ExprsAreMono, are_all}
use Rattle.dslx_next.proofs.OnSteps.Opens.{act_opens, pushed_behind}
use Rattle.dslx_next.proofs.OnOpening.Sequels.{same_scope}
use Rattle.dslx_next.proofs.OnOpening.Types.{opens_one_type}

-- what an expression that stands as a statement leads to, by the step that it becomes
act_by : (k : NextScope) (w : BodyWork) (e : Expr) (binds : BindsInScope) (t : List CoreInstance) (rest : StepsLowering) (o : Option OpenStep) → opened_at k w (act_of e) e t ≡ o
    → act_at k w e binds t rest ≡ binds_then o binds rest (scope_at k w t)
act_by k w e binds t rest o is = act_opens (outer_at k w t) k.ends.now (act_of e) e binds rest (scope_at k w t) ∙ ap (λ p. binds_then p binds rest (scope_at k w t)) is

-- ---- states

pub same_state : (o : Option LoweredSteps) → HasState o o
same_state o r e = (r, e, refl)

pub state_on : (a b c : Option LoweredSteps) → HasState a b → HasState b c → HasState a c
state_on a b c first second r e =
    let x = first r e in
    let y = second x.0 x.1 in
    (y.0, y.1, x.2 ∙ y.2)

-- with none behind there is none
pub no_state : (all behind : Option LoweredSteps) → HasState all behind → behind ≡ None → all ≡ None
no_state None behind has none = refl
no_state (Some r) behind has none =
    let x = has r refl in
    none_some x.0 (sym none ∙ x.1)

-- ---- one statement

pub never_passed : (k : NextScope) (w : BodyWork) (e : Expr) (binds : BindsInScope) (steps new_steps : List Step) → BodyMakes k w (opened_at k w (act_of e) e) None
    → BodyPasses k (act_at k w e binds) steps w new_steps None
never_passed k w e binds steps new_steps never rest t is small = act_by k w e binds t (rest t) None (never t is small)

module _ (k : NextScope) (w w' : BodyWork) (e : Expr) (binds : BindsInScope) (o : OpenStep) (made : BodyMakes k w (opened_at k w (act_of e) e) (Some (o, w'))) (mono : ExprsAreMono) where
  -- by each table what is bound is of the type of this step
  binds_type : (t : List CoreInstance) → AreOfTable k.text.now t → (q : OpenStep) → opened_at k w (act_of e) e t ≡ Some q → binds (scope_at k w t) q.ty ≡ binds (scope_at k w' t) o.ty
  binds_type t is q by_table =
      ap (binds (scope_at k w t)) (opens_one_type k w mono t w'.table is (are_all k.text.now w'.table made.0.grows.is_table) (act_of e) e q o by_table (made.0.some w'.table (begins_itself w'.table)))
      ∙ ap (λ p. binds p o.ty) (sym (same_scope k w w' t made.1))

  -- a step by any table, and the rest behind it
  abbrev binds_rest : (t : List CoreInstance) → StepsLowering → OpenStep → Option LoweredShape → Option LoweredSteps
  binds_rest t rest q shape = and_then shape (λ s. step_then (with_shape q.step s.shape) (rest s.scope))

  pub unbound_passed : (steps new_steps : List Step) → ((t : List CoreInstance) → binds (scope_at k w' t) o.ty ≡ None) → BodyPasses k (act_at k w e binds) steps w new_steps None
  unbound_passed steps new_steps none rest =
      never_as k.text.now k.limit (λ t. binds_then (opened_at k w (act_of e) e t) binds (rest t) (scope_at k w t)) (λ t. act_at k w e binds t (rest t))
      (λ t. act_by k w e binds t (rest t) (opened_at k w (act_of e) e t) refl)
      (never_behind k.text.now k.limit (opened_at k w (act_of e) e) (λ q t. binds_rest t (rest t) q (binds (scope_at k w t) q.ty))
      (λ t is small q by_table. ap (binds_rest t (rest t) q) (binds_type t (are_all k.text.now t is) q by_table ∙ none t)))

  -- what comes of the rest behind the step
  state_behind : (steps new_steps : List Step) (after : BodyWork) → IsBound k binds o steps w' new_steps after → (t : List CoreInstance) → AreOfTable k.text.now t
      → (rest : StepsLowering) → HasState (act_at k w e binds t rest) (rest (scope_at k after t))
  state_behind steps new_steps after bound t is rest r comes =
      let q = from_then (opened_at k w (act_of e) e t) (λ (q : OpenStep). binds_rest t rest q (binds (scope_at k w t) q.ty)) r (sym (act_by k w e binds t rest (opened_at k w (act_of e) e t) refl) ∙ comes) in
      let s = from_then (binds (scope_at k w t) q.0.ty) (λ s. step_then (with_shape q.0.step s.shape) (rest s.scope)) r q.2 in
      let scope : s.0.scope ≡ scope_at k after t = ap (λ (x : LoweredShape). x.scope) (same_some s.0 (record { shape = bound.shape; scope = scope_at k after t }) (sym s.1 ∙ binds_type t is q.0 q.1 ∙ bound.bound t)) in
      let x = from_then (rest s.0.scope) (λ (x : LoweredSteps). Some (record { steps = with_shape q.0.step s.0.shape ∷ x.steps; next = x.next })) r s.2 in
      (x.0, ap rest (sym scope) ∙ x.1, ap (λ (l : LoweredSteps). l.next) (sym (same_some (record { steps = with_shape q.0.step s.0.shape ∷ x.0.steps; next = x.0.next }) r x.2)))

  pub shape_passed : (steps new_steps : List Step) (after : BodyWork) → IsBound k binds o steps w' new_steps after → IsPassed k (act_at k w e binds) steps w new_steps after
  shape_passed steps new_steps after bound = record {
    grows = subst (λ t. TableExtends k.text.now w.table t) (sym bound.table) made.0.grows;
    parametric_args = bound.parametric_args ∙ made.1.parametric_args;
    passed = λ t from rest.
        ap (behind_steps steps) (act_by k w e binds t rest (Some o) (made.0.some t (subst (λ b. ExtendsTable t b) bound.table from))
        ∙ ap (binds_rest t rest o) (ap (λ p. binds p o.ty) (sym (same_scope k w w' t made.1)) ∙ bound.bound t))
        ∙ pushed_behind steps (with_shape o.step bound.shape) (rest (scope_at k after t))
        ∙ ap (λ l. behind_steps l (rest (scope_at k after t))) (sym bound.pushed);
    state = state_behind steps new_steps after bound;
    adds = λ rest.
        subst (λ (l : List CoreInstance). AddsNeeded k.text.now k.limit w.table l (λ t. act_at k w e binds t (rest t))) (sym bound.table)
        (adds_for k.text.now k.limit w.table w'.table (opened_at k w (act_of e) e) (λ t. act_at k w e binds t (rest t)) (λ t is none. act_by k w e binds t (rest t) None none) made.2);
  }

pub bound_passed : (k : NextScope) (w w' : BodyWork) (e : Expr) (binds : BindsInScope) (o : OpenStep) (steps new_steps : List Step) (r : Option BodyWork)
    → BodyMakes k w (opened_at k w (act_of e) e) (Some (o, w')) → ExprsAreMono → StepBinds k binds o steps w' new_steps r → BodyPasses k (act_at k w e binds) steps w new_steps r
bound_passed k w w' e binds o steps new_steps None made mono none = unbound_passed k w w' e binds o made mono steps new_steps none
bound_passed k w w' e binds o steps new_steps (Some after) made mono bound = shape_passed k w w' e binds o made mono steps new_steps after bound

-- ---- several

-- behind some of the statements, these are left
pub record IsPassedTo (k : NextScope) (w : BodyWork) (ss : List Stmt) (steps : List Step) (left : List Stmt) (new_steps : List Step) (after : BodyWork) : Type 0 where
  pub grows : TableExtends k.text.now w.table after.table
  pub parametric_args : map given after.given.items ≡ map given w.given.items
  pub passed : (t : List CoreInstance) → ExtendsTable t after.table → (rest : StepsLowering)
      → behind_steps steps (statements_at k w ss t rest) ≡ behind_steps new_steps (statements_then (outer_at k w t) k left rest (scope_at k after t))
  pub state : (t : List CoreInstance) → AreOfTable k.text.now t → (rest : StepsLowering) → HasState (statements_at k w ss t rest) (statements_then (outer_at k w t) k left rest (scope_at k after t))
  pub adds : (rest : List CoreInstance → StepsLowering) → AddsNeeded k.text.now k.limit w.table after.table (λ t. statements_at k w ss t (rest t))

pub begun : (k : NextScope) (w : BodyWork) (ss : List Stmt) (steps : List Step) → HasTable k w → IsPassedTo k w ss steps ss steps w
begun k w ss steps has = record {
  grows = grows_itself k.text.now w.table has;
  parametric_args = refl;
  passed = λ t from rest. refl;
  state = λ t is rest. same_state (statements_at k w ss t rest);
  adds = λ rest. adds_nothing k.text.now k.limit w.table (λ t. statements_at k w ss t (rest t));
}

same_outer : (k : NextScope) (w after : BodyWork) (t : List CoreInstance) → map given after.given.items ≡ map given w.given.items → outer_at k after t ≡ outer_at k w t
same_outer k w after t e = λ i. outer_scope (record { items = meanings_of k.text.now; parametric_args = reverse (e i); callee = callee_in k.text.now (meanings_of k.text.now) t })

module _ (k : NextScope) (w : BodyWork) (ss : List Stmt) (steps : List Step) (s : Stmt) (left : List Stmt) (new_steps : List Step) (behind : BodyWork) (so_far : IsPassedTo k w ss steps (s ∷ left) new_steps behind) where
  -- the statements that are left behind this one
  abbrev rest_left : (t : List CoreInstance) → StepsLowering → StepsLowering
  rest_left t rest = statements_then (outer_at k w t) k left rest

  -- this one and the others, seen from where it begins
  from_here : (t : List CoreInstance) (rest : StepsLowering) → statement_steps (outer_at k w t) k.ends.now (out-Stmt s) (rest_left t rest) (scope_at k behind t) ≡ statement_at k behind s t (rest_left t rest)
  from_here t rest = ap (λ outer. statement_steps outer k.ends.now (out-Stmt s) (rest_left t rest) (scope_at k behind t)) (sym (same_outer k w behind t so_far.parametric_args))

  state_here : (t : List CoreInstance) → AreOfTable k.text.now t → (rest : StepsLowering) → HasState (statements_at k w ss t rest) (statement_at k behind s t (rest_left t rest))
  state_here t is rest = subst (HasState (statements_at k w ss t rest)) (from_here t rest) (so_far.state t is rest)

  pub advanced : (more_steps : List Step) (after : BodyWork) → IsPassed k (statement_at k behind s) new_steps behind more_steps after → IsPassedTo k w ss steps left more_steps after
  advanced more_steps after one = record {
    grows = grows_on k.text.now w.table behind.table after.table so_far.grows one.grows;
    parametric_args = one.parametric_args ∙ so_far.parametric_args;
    passed = λ t from rest. so_far.passed t (begins_further behind.table after.table t one.grows.begins from) rest ∙ ap (behind_steps new_steps) (from_here t rest) ∙ one.passed t from (rest_left t rest);
    state = λ t is rest. state_on (statements_at k w ss t rest) (statement_at k behind s t (rest_left t rest)) (rest_left t rest (scope_at k after t)) (state_here t is rest) (one.state t is (rest_left t rest));
    adds = λ rest.
        adds_then k.text.now k.limit w.table behind.table after.table (λ t. statements_at k w ss t (rest t)) (λ t. statement_at k behind s t (rest_left t (rest t))) (λ t. statements_at k w ss t (rest t))
        (λ t is none. none) (λ t is none. no_state (statements_at k w ss t (rest t)) (statement_at k behind s t (rest_left t (rest t))) (state_here t is (rest t)) none)
        (so_far.adds rest) (one.adds (λ t. rest_left t (rest t)));
  }

  pub stopped : (more_steps last_steps : List Step) → BodyPasses k (statement_at k behind s) new_steps behind more_steps None → BodyPasses k (statements_at k w ss) steps w last_steps None
  stopped more_steps last_steps never rest t is small =
      no_state (statements_at k w ss t (rest t)) (statement_at k behind s t (rest_left t (rest t))) (state_here t (are_all k.text.now t is) (rest t)) (never (λ t. rest_left t (rest t)) t is small)

pub all_passed : (k : NextScope) (w : BodyWork) (ss : List Stmt) (steps new_steps : List Step) (after : BodyWork) → IsPassedTo k w ss steps [] new_steps after → IsPassed k (statements_at k w ss) steps w new_steps after
all_passed k w ss steps new_steps after so_far = record { grows = so_far.grows; parametric_args = so_far.parametric_args; passed = so_far.passed; state = so_far.state; adds = so_far.adds }

-- ---- the two kinds of statements

pub let_passed : (k : NextScope) (w : BodyWork) (s : Stmt) (l : Let) (steps new_steps : List Step) (r : Option BodyWork) → out-Stmt s ≡ Stmt-F.Let l
    → BodyPasses k (act_at k w (out-Let l).value (shaped_at (out-Let l).pattern)) steps w new_steps r → BodyPasses k (statement_at k w s) steps w new_steps r
let_passed k w s l steps new_steps r e = subst (λ (x : StmtLayer). BodyPasses k (λ t rest. statement_steps (outer_at k w t) k.ends.now x rest (scope_at k w t)) steps w new_steps r) (sym e)

pub bare_passed : (k : NextScope) (w : BodyWork) (s : Stmt) (e : Expr) (steps new_steps : List Step) (r : Option BodyWork) → out-Stmt s ≡ Stmt-F.Bare e
    → BodyPasses k (act_at k w e binds_nothing) steps w new_steps r → BodyPasses k (statement_at k w s) steps w new_steps r
bare_passed k w s e steps new_steps r is = subst (λ (x : StmtLayer). BodyPasses k (λ t rest. statement_steps (outer_at k w t) k.ends.now x rest (scope_at k w t)) steps w new_steps r) (sym is)

-- ---- by their numbers

pub left_from : (ss : List Stmt) (i : ℕ) (s : Stmt) → i < length ss → s ≡ get_or ss i s → drop i ss ≡ s ∷ drop (i + 1) ss
left_from ss i s within at = drop-cons ss i s within ∙ (λ j. sym at j ∷ drop (next j) ss)
  where
    next : suc i ≡ i + 1
    next = omega arith

pub none_left : (ss : List Stmt) (i : ℕ) → length ss ≤ i → drop i ss ≡ []
none_left ss i past = drop_of_length-le ss past
