-- What an instance of a proc is lowered to, where parts of it are made.
use Rattle.std.specs.Prelude.{List, Option, Some}
use Rattle.dslx_tree.specs.declared.item.Module.{Module}
use Rattle.dslx_tree.specs.declared.process.Proc.{Proc}
use Rattle.dslx_meaning.specs.Activation.{opening_state}
use Rattle.dslx_meaning.specs.Items.{meanings_of}
use Rattle.dslx_meaning.specs.Lists.{and_then, where_true}
use Rattle.dslx_meaning.specs.declared.value.DslxValue.{DslxValue}
use Rattle.dslx_core.specs.Typing.Typed.Kinds.{is_of}
use Rattle.dslx_core.specs.declared.design.Instance.{Instance}
use Rattle.dslx_core.specs.Lowering.Steps.{LoweredNext}
use Rattle.dslx_core.specs.Networks.Configs.{LoweredConfig, ProcInstance, lower_config}
use Rattle.dslx_core.specs.Networks.Procs.{instance_of}

-- its `next` and its `config`
abbrev pub behind_config : Module → Proc → List DslxValue → LoweredNext → LoweredConfig → Option Instance
behind_config m p parametric_args next config = and_then (opening_state (meanings_of m) p parametric_args) (λ v. where_true (is_of next.state v) (Some (instance_of p next config v)))

-- its `next`
abbrev pub behind_next : Module → List ProcInstance → Proc → List DslxValue → LoweredNext → Option Instance
behind_next m procs p parametric_args next = and_then (lower_config m (meanings_of m) procs p parametric_args) (behind_config m p parametric_args next)
