-- Which instance of a checked text an instance of a proc is lowered to.
use Rattle.std.specs.Prelude.{List, [], ◌∷◌, ◌++◌, Option, Some, length}
use Rattle.dslx_tree.specs.declared.item.Module.{Module}
use Rattle.dslx_tree.specs.declared.process.Proc.{Proc}
use Rattle.dslx_meaning.specs.Activation.{opening_state}
use Rattle.dslx_meaning.specs.Environment.{Meanings}
use Rattle.dslx_meaning.specs.Items.{item_named}
use Rattle.dslx_meaning.specs.Lists.{and_then, where_true, with_both}
use Rattle.dslx_meaning.specs.Network.{as_proc}
use Rattle.dslx_meaning.specs.Types.{plain_type}
use Rattle.dslx_meaning.specs.Values.{plain_value}
use Rattle.dslx_meaning.specs.declared.value.DslxValue.{DslxValue}
use Rattle.dslx_core.specs.Typing.Typed.Kinds.{is_of}
use Rattle.dslx_core.specs.declared.design.Instance.{Instance}
use Rattle.dslx_core.specs.Lowering.Functions.{CoreInstance, Instantiated}
use Rattle.dslx_core.specs.Lowering.Steps.{LoweredNext, lower_next, proc_globals}
use Rattle.dslx_core.specs.Networks.Configs.{LoweredConfig, ProcInstance, lower_config}

abbrev pub instance_of : Proc → LoweredNext → LoweredConfig → DslxValue → Instance
instance_of p next config opening = record {
  made = config.made;
  children = config.children;
  members = config.members;
  ends = length p.config.ends;
  state = plain_type next.state;
  opening = plain_value opening;
  steps = next.steps;
  next = next.next;
}

-- a proc with these parametric arguments, where these instances of functions are there to be called, and these of procs to be spawned
abbrev pub lower_proc : Module → Meanings → List CoreInstance → List ProcInstance → Proc → List DslxValue → Option Instance
lower_proc m items functions procs p parametric_args =
    with_both (lower_next (proc_globals m items functions p parametric_args) p) (lower_config m items procs p parametric_args) (λ next config.
    and_then (opening_state items p parametric_args) (λ v. where_true (is_of next.state v) (Some (instance_of p next config v))))

abbrev pub next_proc : Module → Meanings → List CoreInstance → List ProcInstance → Instantiated → Option ProcInstance
next_proc m items functions before i =
    and_then (as_proc (item_named i.name m.items)) (λ p.
    and_then (lower_proc m items functions before p i.parametric_args) (λ l. Some (record { name = i.name; parametric_args = i.parametric_args; instance = l })))

-- instances in order, each of which spawns those before it
abbrev pub procs_from : Module → Meanings → List CoreInstance → List ProcInstance → List Instantiated → Option (List ProcInstance)
procs_from m items functions before [] = Some before
procs_from m items functions before (i ∷ is) = and_then (next_proc m items functions before i) (λ c. procs_from m items functions (before ++ c ∷ []) is)
