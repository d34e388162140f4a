-- The steps of `next` over the instances of functions.
use Rattle.std.proofs.Common.{◌≡◌, ◌&&◌, not, List, [], Some, refl}
use Rattle.dslx_tree.specs.declared.item.Module.{Module}
use Rattle.dslx_tree.specs.declared.process.Proc.{Proc}
use Rattle.dslx_meaning.specs.Activation.{state_type_of}
use Rattle.dslx_meaning.specs.Environment.{Meanings}
use Rattle.dslx_meaning.specs.Lists.{and_then, where_true}
use Rattle.dslx_meaning.specs.declared.value.DslxValue.{DslxValue}
use Rattle.dslx_core.proofs.Lemmas.Typing.Laws.{and_true}
use Rattle.dslx_core.specs.Lowering.Activities.{NextSimulates}
use Rattle.dslx_core.specs.Lowering.Correspondence.{BodyEnvSimulates}
use Rattle.dslx_core.specs.Lowering.Functions.{CoreInstance, Instantiated, instances_from, parametric_args_are_well_typed, outer_scope}
use Rattle.dslx_core.specs.Lowering.Instances.{CallsSettle, ItemsAreOwn, functions_of_instances}
use Rattle.dslx_core.specs.Lowering.Steps.{LoweredNext, is_sized, lower_next, proc_globals, steps_from}
use Rattle.dslx_core.specs.Lowering.Trees.{lower_type_of_text}
use Rattle.dslx_core.proofs.OnLowering.Kept.{from_where}
use Rattle.dslx_core.proofs.OnLowering.OfSteps.{next_simulates, state_simulates}
use Rattle.dslx_core.proofs.OnLowering.Tables.{calls_simulate, instances_stand, parametric_args_hide, parametric_args_own}

-- what is known in an instance of a proc stands
globals_of_proc : (m : Module) (items : Meanings) → ItemsAreOwn items → (is : List Instantiated) (instances : List CoreInstance) → CallsSettle m items is → instances_from m items [] is ≡ Some instances
    → (p : Proc) (parametric_args : List DslxValue) (l : LoweredNext) → lower_next (proc_globals m items instances p parametric_args) p ≡ Some l → BodyEnvSimulates (proc_globals m items instances p parametric_args) (functions_of_instances instances)
globals_of_proc m items own is instances settled e p parametric_args l low =
    let known = proc_globals m items instances p parametric_args in
    let w = from_where (parametric_args_are_well_typed items known.parametric_args && not (items.is_constant p.next.state.name))
    (and_then (lower_type_of_text p.next.ty (outer_scope known)) (λ t. where_true (is_sized t) (steps_from (outer_scope known) p t))) l low in
    let test = (and_true (parametric_args_are_well_typed items known.parametric_args) (not (items.is_constant p.next.state.name)) w.0).0 in
    record {
      parametric_args = parametric_args_own items known.parametric_args test;
      constants = own.constants;
      members = own.members;
      hides = parametric_args_hide items known.parametric_args test;
      callees = calls_simulate m items instances (functions_of_instances instances) (instances_stand m items own is instances settled e) known.parametric_args;
    }

pub next_of_instances : (m : Module) (items : Meanings) → ItemsAreOwn items → (is : List Instantiated) (instances : List CoreInstance) → CallsSettle m items is → instances_from m items [] is ≡ Some instances
    → (p : Proc) (parametric_args : List DslxValue) (l : LoweredNext) → lower_next (proc_globals m items instances p parametric_args) p ≡ Some l → NextSimulates (proc_globals m items instances p parametric_args) (functions_of_instances instances) p parametric_args l
next_of_instances m items own is instances settled e p parametric_args l low =
    next_simulates (proc_globals m items instances p parametric_args) (functions_of_instances instances) p parametric_args l (globals_of_proc m items own is instances settled e p parametric_args l low) refl low

pub state_of_instances : (m : Module) (items : Meanings) → ItemsAreOwn items → (is : List Instantiated) (instances : List CoreInstance) → CallsSettle m items is → instances_from m items [] is ≡ Some instances
    → (p : Proc) (parametric_args : List DslxValue) (l : LoweredNext) → lower_next (proc_globals m items instances p parametric_args) p ≡ Some l → state_type_of items p parametric_args ≡ Some l.state
state_of_instances m items own is instances settled e p parametric_args l low =
    state_simulates (proc_globals m items instances p parametric_args) (functions_of_instances instances) p parametric_args l (globals_of_proc m items own is instances settled e p parametric_args l low) refl low
