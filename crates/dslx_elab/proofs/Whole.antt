-- An instance of a proc by what its `next` becomes.
use Rattle.std.proofs.Common.{◌≡◌, ◌∙◌, ◌&&◌, [], ℕ, Bool, true, false, not, List, Option, Some, None, map, reverse, refl, ap, sym}
use mathlib.Core.Bool.{true≢false}
use Rattle.dslx_tree.specs.declared.block.Block.{out-Block}
use Rattle.dslx_tree.specs.declared.item.Module.{Module}
use Rattle.dslx_tree.specs.declared.process.Proc.{Proc}
use Rattle.dslx_meaning.specs.Activation.{opening_state}
use Rattle.dslx_meaning.specs.Environment.{Given}
use Rattle.dslx_meaning.specs.Items.{meanings_of, parametric_args_bound}
use Rattle.dslx_meaning.specs.Lists.{and_then, where_true, with_both}
use Rattle.dslx_meaning.specs.declared.value.DslxValue.{DslxValue}
use Rattle.dslx_core.specs.Typing.Typed.Kinds.{is_of}
use Rattle.dslx_core.proofs.Lemmas.Typing.Typed.{none_some, same_some}
use Rattle.dslx_core.specs.declared.design.Instance.{Instance}
use Rattle.dslx_meaning.specs.Names.Bound.{given}
use Rattle.dslx_meaning.specs.declared.names.scope.Binding.{Binding}
use Rattle.dslx_core.specs.Lowering.CoreScopes.{BodyEnv, with_local}
use Rattle.dslx_core.specs.Lowering.EqualTypes.{equal_type}
use Rattle.dslx_core.specs.Lowering.Functions.{CoreInstance, callee_in, parametric_args_are_well_typed, outer_scope}
use Rattle.dslx_core.specs.Lowering.Steps.{LoweredNext, LoweredSteps, is_sized, lower_next, proc_globals, statements_steps, steps_from}
use Rattle.dslx_core.specs.Lowering.Trees.{lower_type_of_text}
use Rattle.dslx_core.proofs.Lemmas.Lowering.{from_then, from_where}
use Rattle.dslx_core.proofs.Lemmas.Machines.Machine.Instances.{begins_itself}
use Rattle.dslx_core.proofs.Lemmas.Machines.Machine.Steady.{type_anywhere}
use Rattle.dslx_core.specs.Networks.Configs.{LoweredConfig, ProcInstance, lower_config}
use Rattle.dslx_core.specs.Networks.Procs.{instance_of, lower_proc}
use Rattle.dslx_param.specs.Needed.{TableMakes}
use Rattle.dslx_next.specs.Steps.BodyEnvs.{parametric_args_known}
use Rattle.dslx_core.proofs.Lemmas.Machines.Extension.Coming.{never_as, never_behind, never_then}
use Rattle.dslx_param.proofs.Lemmas.Growing.{makes_as, value_makes}
use Rattle.dslx_elab.specs.Behind.{behind_next}

-- two parts, one after the other
in_turn : {A B C : Type 0} (o : Option A) (p : Option B) (f : A → B → Option C) → with_both o p f ≡ and_then o (λ a. and_then p (f a))
in_turn None p f = refl
in_turn (Some a) None f = refl
in_turn (Some a) (Some b) f = refl

module _ (m : Module) (limit : ℕ) (table : List CoreInstance) (procs : List ProcInstance) (p : Proc) (parametric_args : List DslxValue) (bound : List Binding) (is_bound : reverse (map given bound) ≡ parametric_args_bound [] p.parametrics parametric_args) where
  abbrev pub next_with : List CoreInstance → Option LoweredNext
  next_with t = lower_next (parametric_args_known m bound t) p

  -- by its `next`
  by_next : (t : List CoreInstance) → lower_proc m (meanings_of m) t procs p parametric_args ≡ and_then (next_with t) (behind_next m procs p parametric_args)
  by_next t =
      in_turn (lower_next (proc_globals m (meanings_of m) t p parametric_args) p) (lower_config m (meanings_of m) procs p parametric_args)
      (λ next config. and_then (opening_state (meanings_of m) p parametric_args) (λ v. where_true (is_of next.state v) (Some (instance_of p next config v))))
      ∙ ap (λ (n : List Given). and_then (lower_next (record { items = meanings_of m; parametric_args = n; callee = callee_in m (meanings_of m) t }) p) (behind_next m procs p parametric_args)) (sym is_bound)

  pub nothing_of_next : TableMakes m limit table next_with None → TableMakes m limit table (λ t. lower_proc m (meanings_of m) t procs p parametric_args) None
  nothing_of_next never =
      never_as m limit (λ t. and_then (next_with t) (behind_next m procs p parametric_args)) (λ t. lower_proc m (meanings_of m) t procs p parametric_args) by_next
      (never_then m limit next_with (λ n t. behind_next m procs p parametric_args n) never)

  pub whole_comes : (next : LoweredNext) (after : List CoreInstance) (i : Instance) → TableMakes m limit table next_with (Some (next, after)) → Some i ≡ behind_next m procs p parametric_args next
      → TableMakes m limit table (λ t. lower_proc m (meanings_of m) t procs p parametric_args) (Some (i, after))
  whole_comes next after i comes is =
      makes_as m limit table (λ t. and_then (next_with t) (behind_next m procs p parametric_args)) (λ t. lower_proc m (meanings_of m) t procs p parametric_args) (Some (i, after)) by_next
      (value_makes m limit table after next_with (behind_next m procs p parametric_args) next i comes (sym is))

  -- the state has the type that is written, which is the same by all tables
  state_type : (t : List CoreInstance) (n : LoweredNext) → next_with t ≡ Some n → lower_type_of_text p.next.ty (outer_scope (parametric_args_known m bound t)) ≡ Some n.state
  state_type t n e =
      let known : BodyEnv = parametric_args_known m bound t in
      let x = from_where (parametric_args_are_well_typed known.items known.parametric_args && not (known.items.is_constant p.next.state.name)) _ n e in
      let ty = from_then (lower_type_of_text p.next.ty (outer_scope known)) (λ t. where_true (is_sized t) (steps_from (outer_scope known) p t)) n x.1 in
      let y = from_where (is_sized ty.0) (steps_from (outer_scope known) p ty.0) n ty.2 in
      let s = from_then (statements_steps (outer_scope known) p.members (out-Block p.next.body).statements (out-Block p.next.body).value (with_local p.next.state.name ty.0 (outer_scope known)))
      (λ (s : LoweredSteps). where_true (equal_type ty.0 s.next.ty) (Some (record { state = ty.0; steps = s.steps; next = s.next.core }))) n y.1 in
      let z = from_where (equal_type ty.0 s.0.next.ty) (Some (record { state = ty.0; steps = s.0.steps; next = s.0.next.core })) n s.2 in
      ty.1 ∙ ap (λ (l : LoweredNext). Some l.state) (same_some (record { state = ty.0; steps = s.0.steps; next = s.0.next.core }) n z.1)

  one_state : (t u : List CoreInstance) (a b : LoweredNext) → next_with t ≡ Some a → next_with u ≡ Some b → a.state ≡ b.state
  one_state t u a b at_t at_u =
      same_some a.state b.state
      (sym (state_type t a at_t) ∙ type_anywhere p.next.ty (outer_scope (parametric_args_known m bound u)) (callee_in m (meanings_of m) t) ∙ state_type u b at_u)

  -- what nothing comes of behind one, nothing comes of behind another with a state of the same type
  none_behind : (a b : LoweredNext) → a.state ≡ b.state → behind_next m procs p parametric_args b ≡ None → behind_next m procs p parametric_args a ≡ None
  none_behind a b same e = by (lower_config m (meanings_of m) procs p parametric_args) (opening_state (meanings_of m) p parametric_args) e
    where
      left : Bool → LoweredNext → LoweredConfig → DslxValue → Option Instance
      left is n c v = where_true is (Some (instance_of p n c v))

      by_is : (x y : Bool) (c : LoweredConfig) (v : DslxValue) → x ≡ y → left y b c v ≡ None → left x a c v ≡ None
      by_is false y c v q h = refl
      by_is true true c v q h = none_some (instance_of p b c v) (sym h)
      by_is true false c v q h = absurd (true≢false q)

      by : (c : Option LoweredConfig) (o : Option DslxValue) → and_then c (λ c. and_then o (λ v. left (is_of b.state v) b c v)) ≡ None → and_then c (λ c. and_then o (λ v. left (is_of a.state v) a c v)) ≡ None
      by None o h = refl
      by (Some c) None h = refl
      by (Some c) (Some v) h = by_is (is_of a.state v) (is_of b.state v) c v (ap (λ t. is_of t v) same) h

  pub nothing_behind : (next : LoweredNext) (after : List CoreInstance) → TableMakes m limit table next_with (Some (next, after)) → None ≡ behind_next m procs p parametric_args next
      → TableMakes m limit table (λ t. lower_proc m (meanings_of m) t procs p parametric_args) None
  nothing_behind next after comes is =
      never_as m limit (λ t. and_then (next_with t) (behind_next m procs p parametric_args)) (λ t. lower_proc m (meanings_of m) t procs p parametric_args) by_next
      (never_behind m limit next_with (λ n t. behind_next m procs p parametric_args n)
      (λ t is_table small a e. none_behind a next (one_state t after a next e (comes.0.some after (begins_itself after))) (sym is)))
