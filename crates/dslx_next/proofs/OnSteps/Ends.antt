-- A whole `next`.
use Rattle.std.proofs.Common.{◌≡◌, ◌∙◌, ◌&&◌, [], ◌∷◌, ℕ, Bool, true, false, not, List, Option, Some, None, map, reverse, refl, ap, subst, sym}
use Rattle.std.proofs.lemmas.List.{append-nil}
use Rattle.dslx_tree.specs.declared.block.Block.{Block, out-Block}
use Rattle.dslx_tree.specs.declared.block.Stmt.{Stmt, out-Stmt}
use Rattle.dslx_tree.specs.declared.expr.Expr.{Expr}
use Rattle.dslx_tree.specs.declared.item.Module.{Module}
use Rattle.dslx_tree.specs.declared.process.Proc.{Proc}
use Rattle.dslx_meaning.specs.Names.Bound.{given}
use Rattle.dslx_meaning.specs.declared.names.scope.Binding.{Binding}
use Rattle.dslx_meaning.specs.Items.{meanings_of}
use Rattle.dslx_meaning.specs.Lists.{and_then, where_true}
use Rattle.dslx_meaning.specs.declared.ty.DslxType.{DslxType}
use Rattle.dslx_core.specs.declared.step.Step.{Step}
use Rattle.dslx_core.proofs.Lemmas.Typing.Typed.{same_some}
use Rattle.dslx_core.specs.Lowering.CoreScopes.{CoreScope, with_local}
use Rattle.dslx_core.specs.Lowering.EqualTypes.{equal_type}
use Rattle.dslx_core.specs.Lowering.Functions.{CoreInstance, parametric_args_are_well_typed, outer_scope}
use Rattle.dslx_core.specs.Lowering.Lowering.{LoweredExpr}
use Rattle.dslx_core.specs.Lowering.Steps.{LoweredNext, LoweredSteps, StepsLowering, is_sized, last_of_steps, lower_next, statement_steps, statements_steps, steps_from}
use Rattle.dslx_core.specs.Lowering.Trees.{lower_type_of_text}
use Rattle.dslx_core.proofs.Lemmas.Lowering.{from_then}
use Rattle.dslx_core.specs.Machines.Machine.Reached.{IsTable}
use Rattle.dslx_core.proofs.Lemmas.Machines.Machine.Instances.{begins_further, begins_itself}
use Rattle.dslx_instance.specs.declared.tasks.work.BodyWork.{BodyWork}
use Rattle.dslx_param.specs.Needed.{TableMakes}
use Rattle.dslx_next.specs.Opening.Works.{BodyMakes, parametric_args_known, outer_at, scope_at}
use Rattle.dslx_next.specs.Steps.Passing.{HasOneState, HasState, IsPassed, BodyPasses, behind_steps, body_at, last_at, statements_at, statements_then}
use Rattle.dslx_next.specs.declared.opening.work.NextScope.{NextScope}
use Rattle.dslx_core.proofs.Lemmas.Machines.Extension.Coming.{never_as, never_behind, never_then}
use Rattle.dslx_param.specs.Needed.{AreOfTable}
use Rattle.dslx_param.proofs.Lemmas.Growing.{adds_then, makes_as, value_makes}
use Rattle.dslx_param.proofs.Lemmas.OneType.{are_all}
use Rattle.dslx_core.proofs.Lemmas.Machines.Extension.Growing.{grows_on}
use Rattle.dslx_next.proofs.OnOpening.Sequels.{lowered_types}
use Rattle.dslx_next.proofs.OnSteps.Passed.{no_state}

-- ---- bodies

-- no steps, and the state
abbrev state_alone : LoweredExpr → Option LoweredSteps
state_alone e = Some (record { steps = []; next = e })

abbrev ended : Option Expr → StepsLowering
ended last scope = and_then (last_of_steps last scope) state_alone

in_order : (outer : CoreScope) (k : NextScope) (ss : List Stmt) (last : Option Expr) (scope : CoreScope) → statements_steps outer k.ends.now ss last scope ≡ statements_then outer k ss (ended last) scope
in_order outer k [] last scope = refl
in_order outer k (s ∷ ss) last scope = λ i. statement_steps outer k.ends.now (out-Stmt s) (λ p. in_order outer k ss last p i) scope

behind_none : (o : Option LoweredSteps) → behind_steps [] o ≡ o
behind_none None = refl
behind_none (Some r) = refl

-- a body by its statements
by_statements : (k : NextScope) (w : BodyWork) (b : Block) (t : List CoreInstance) → body_at k w b t ≡ behind_steps [] (statements_at k w (out-Block b).statements t (ended (out-Block b).value))
by_statements k w b t = in_order (outer_at k w t) k (out-Block b).statements (out-Block b).value (scope_at k w t) ∙ sym (behind_none (statements_at k w (out-Block b).statements t (ended (out-Block b).value)))

-- a body, and what comes behind all its statements
state_of_last : (k : NextScope) (w after : BodyWork) (b : Block) (steps : List Step) → IsPassed k (statements_at k w (out-Block b).statements) [] w steps after → (t : List CoreInstance) → AreOfTable k.text.now t
    → HasState (body_at k w b t) (and_then (last_at k after (out-Block b).value t) state_alone)
state_of_last k w after b steps passed t is =
    subst (λ (o : Option LoweredSteps). HasState o (and_then (last_at k after (out-Block b).value t) state_alone)) (sym (in_order (outer_at k w t) k (out-Block b).statements (out-Block b).value (scope_at k w t)))
    (passed.state t is (ended (out-Block b).value))

pub body_stopped : (k : NextScope) (w : BodyWork) (b : Block) (steps : List Step) → BodyPasses k (statements_at k w (out-Block b).statements) [] w steps None → TableMakes k.text.now k.limit w.table (body_at k w b) None
body_stopped k w b steps never t is small = in_order (outer_at k w t) k (out-Block b).statements (out-Block b).value (scope_at k w t) ∙ never (λ t. ended (out-Block b).value) t is small

pub body_endless : (k : NextScope) (w after : BodyWork) (b : Block) (steps : List Step) → IsPassed k (statements_at k w (out-Block b).statements) [] w steps after
    → BodyMakes k after (last_at k after (out-Block b).value) None → TableMakes k.text.now k.limit w.table (body_at k w b) None
body_endless k w after b steps passed never t is small =
    no_state (body_at k w b t) (and_then (last_at k after (out-Block b).value t) state_alone) (state_of_last k w after b steps passed t (are_all k.text.now t is)) (ap (λ o. and_then o state_alone) (never t is small))

pub body_ended : (k : NextScope) (w after last : BodyWork) (b : Block) (steps : List Step) (next : LoweredExpr) → IsPassed k (statements_at k w (out-Block b).statements) [] w steps after
    → BodyMakes k after (last_at k after (out-Block b).value) (Some (next, last)) → TableMakes k.text.now k.limit w.table (body_at k w b) (Some (record { steps = steps; next = next }, last.table))
body_ended k w after last b steps next passed made = (
  record {
    grows = grows_on k.text.now w.table after.table last.table passed.grows made.0.grows;
    some = λ t from. by_statements k w b t ∙ passed.passed t (begins_further after.table last.table t made.0.grows.begins from) (ended (out-Block b).value)
        ∙ ap (λ o. behind_steps steps (and_then o state_alone)) (made.0.some t from)
        ∙ ap (λ (l : List Step). Some (record { steps = l; next = next })) (append-nil steps);
  },
  adds_then k.text.now k.limit w.table after.table last.table (λ t. statements_at k w (out-Block b).statements t (ended (out-Block b).value)) (last_at k after (out-Block b).value) (body_at k w b)
      (λ t is none. in_order (outer_at k w t) k (out-Block b).statements (out-Block b).value (scope_at k w t) ∙ none)
      (λ t is none. no_state (body_at k w b t) (and_then (last_at k after (out-Block b).value t) state_alone) (state_of_last k w after b steps passed t is) (ap (λ o. and_then o state_alone) none))
      (passed.adds (λ t. ended (out-Block b).value)) made.2,
)

-- the last expression has one type by all tables
last_types : (k : NextScope) (w last : BodyWork) (o : Option Expr) (r s : LoweredExpr) (t : List CoreInstance) → BodyMakes k w (last_at k w o) (Some (r, last)) → IsTable k.text.now (meanings_of k.text.now) t
    → last_at k w o t ≡ Some s → s.ty ≡ r.ty
last_types k w last None r s t made is e = ap (λ (x : LoweredExpr). x.ty) (same_some s r (sym e ∙ made.0.some last.table (begins_itself last.table)))
last_types k w last (Some e) r s t made is by_table = lowered_types k w last e r s t made is by_table

pub body_of_one_type : (k : NextScope) (w after last : BodyWork) (b : Block) (steps : List Step) (next : LoweredExpr) → IsPassed k (statements_at k w (out-Block b).statements) [] w steps after
    → BodyMakes k after (last_at k after (out-Block b).value) (Some (next, last)) → HasOneState k w b (Some (record { steps = steps; next = next }, last.table))
body_of_one_type k w after last b steps next passed made t is r e =
    let x = state_of_last k w after b steps passed t (are_all k.text.now t is) r e in
    let y = from_then (last_at k after (out-Block b).value t) state_alone x.0 x.1 in
    ap (λ (l : LoweredExpr). l.ty) x.2 ∙ ap (λ (l : LoweredSteps). l.next.ty) (sym (same_some (record { steps = []; next = y.0 }) x.0 y.2)) ∙ last_types k after last (out-Block b).value next y.0 t made is y.1

-- all statements, behind no steps
pub passes_all : (k : NextScope) (w : BodyWork) (ss all : List Stmt) (steps new_steps : List Step) (o : Option BodyWork) → ss ≡ all → steps ≡ [] → BodyPasses k (statements_at k w ss) steps w new_steps o
    → BodyPasses k (statements_at k w all) [] w new_steps o
passes_all k w ss all steps new_steps o e none passes =
    subst (λ (l : List Step). BodyPasses k (statements_at k w all) l w new_steps o) none (subst (λ (l : List Stmt). BodyPasses k (statements_at k w l) steps w new_steps o) e passes)

-- ---- the type of the state

-- what comes of a type that has elements
by_sized : {A : Type 0} (o : Option DslxType) (f : DslxType → Option A) → and_then o (λ t. where_true (is_sized t) (f t)) ≡ and_then (and_then o (λ t. where_true (is_sized t) (Some t))) f
by_sized None f = refl
by_sized (Some t) f = by (is_sized t)
  where
    by : (b : Bool) → where_true b (f t) ≡ and_then (where_true b (Some t)) f
    by true = refl
    by false = refl

module _ (m : Module) (limit : ℕ) (before : List CoreInstance) (parametric_args : List Binding) (p : Proc) where
  abbrev outer : List CoreInstance → CoreScope
  outer t = outer_scope (parametric_args_known m parametric_args t)

  -- the type that is declared, if it has elements
  abbrev declared : List CoreInstance → Option DslxType
  declared t = and_then (lower_type_of_text p.next.ty (outer t)) (λ t. where_true (is_sized t) (Some t))

  abbrev stand : Bool
  stand = parametric_args_are_well_typed (meanings_of m) (reverse (map given parametric_args)) && not ((meanings_of m).is_constant p.next.state.name)

  by_state : (t : List CoreInstance) (state : Option DslxType) → stand ≡ true → state ≡ declared t → lower_next (parametric_args_known m parametric_args t) p ≡ and_then state (steps_from (outer t) p)
  by_state t state stands is =
      ap (λ b. where_true b (and_then (lower_type_of_text p.next.ty (outer t)) (λ ty. where_true (is_sized ty) (steps_from (outer t) p ty)))) stands
      ∙ by_sized (lower_type_of_text p.next.ty (outer t)) (steps_from (outer t) p) ∙ ap (λ o. and_then o (steps_from (outer t) p)) (sym is)

  pub without_names : stand ≡ false → TableMakes m limit before (λ t. lower_next (parametric_args_known m parametric_args t) p) None
  without_names none t is small = ap (λ b. where_true b (and_then (lower_type_of_text p.next.ty (outer t)) (λ ty. where_true (is_sized ty) (steps_from (outer t) p ty)))) none

  pub without_state : stand ≡ true → ((t : List CoreInstance) → None ≡ declared t) → TableMakes m limit before (λ t. lower_next (parametric_args_known m parametric_args t) p) None
  without_state stands none t is small = by_state t None stands (none t)

  pub with_state : (state : DslxType) (o : Option (LoweredNext × List CoreInstance)) → stand ≡ true → ((t : List CoreInstance) → Some state ≡ declared t)
      → TableMakes m limit before (λ t. steps_from (outer t) p state) o → TableMakes m limit before (λ t. lower_next (parametric_args_known m parametric_args t) p) o
  with_state state o stands is comes = makes_as m limit before (λ t. steps_from (outer t) p state) (λ t. lower_next (parametric_args_known m parametric_args t) p) o (λ t. by_state t (Some state) stands (is t)) comes

-- ---- the steps behind the state

module _ (k : NextScope) (w : BodyWork) (p : Proc) (state : DslxType) (ends : k.ends.now ≡ p.members) (locals : w.locals ≡ record { name = p.next.state.name; slot = 0; ty = state } ∷ []) (count : w.count ≡ 1) where
  -- the whole, if the state behind has the type of the state
  abbrev whole : LoweredSteps → Option LoweredNext
  whole s = where_true (equal_type state s.next.ty) (Some (record { state = state; steps = s.steps; next = s.next.core }))

  abbrev from_state : List CoreInstance → Option LoweredNext
  from_state t = steps_from (outer_at k w t) p state

  state_scope : (t : List CoreInstance) → scope_at k w t ≡ with_local p.next.state.name state (outer_at k w t)
  state_scope t = λ i. record { known = (outer_at k w t).known; locals = locals i; count = count i }

  by_body : (t : List CoreInstance) → from_state t ≡ and_then (body_at k w p.next.body t) whole
  by_body t = λ i. and_then (statements_steps (outer_at k w t) (sym ends i) (out-Block p.next.body).statements (out-Block p.next.body).value (sym (state_scope t) i)) whole

  pub without_body : (limit : ℕ) → TableMakes k.text.now limit w.table (body_at k w p.next.body) None → TableMakes k.text.now limit w.table from_state None
  without_body limit never = never_as k.text.now limit (λ t. and_then (body_at k w p.next.body t) whole) from_state by_body (never_then k.text.now limit (body_at k w p.next.body) (λ s t. whole s) never)

  pub with_body : (limit : ℕ) (s : LoweredSteps) (after : List CoreInstance) → TableMakes k.text.now limit w.table (body_at k w p.next.body) (Some (s, after)) → equal_type state s.next.ty ≡ true
      → TableMakes k.text.now limit w.table from_state (Some (record { state = state; steps = s.steps; next = s.next.core }, after))
  with_body limit s after comes same =
      makes_as k.text.now limit w.table (λ t. and_then (body_at k w p.next.body t) whole) from_state (Some (record { state = state; steps = s.steps; next = s.next.core }, after)) by_body
      (value_makes k.text.now limit w.table after (body_at k w p.next.body) whole s (record { state = state; steps = s.steps; next = s.next.core }) comes
      (ap (λ b. where_true b (Some (record { state = state; steps = s.steps; next = s.next.core }))) same))

  pub with_other : (limit : ℕ) (s : LoweredSteps) (after : List CoreInstance) → HasOneState k w p.next.body (Some (s, after)) → equal_type state s.next.ty ≡ false → TableMakes k.text.now limit w.table from_state None
  with_other limit s after one other =
      never_as k.text.now limit (λ t. and_then (body_at k w p.next.body t) whole) from_state by_body
      (never_behind k.text.now limit (body_at k w p.next.body) (λ s t. whole s)
      (λ t is small r e. ap (λ b. where_true b (Some (record { state = state; steps = r.steps; next = r.next.core }))) (ap (equal_type state) (one t is r e) ∙ other)))
