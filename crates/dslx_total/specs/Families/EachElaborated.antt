-- What is so of each proc of a network, and what the `next` of a proc is lowered to.
use Rattle.std.specs.Prelude.{◌≡◌, List, [], ◌∷◌, Some, true}
use Rattle.dslx_tree.specs.declared.item.Module.{Module}
use Rattle.dslx_tree.specs.declared.process.Proc.{Proc}
use Rattle.dslx_meaning.specs.Activation.{opening_state}
use Rattle.dslx_meaning.specs.Items.{meanings_of}
use Rattle.dslx_meaning.specs.Network.{Elaborated}
use Rattle.dslx_meaning.specs.declared.value.DslxValue.{DslxValue}
use Rattle.dslx_core.specs.Typing.Typed.Kinds.{is_of}
use Rattle.dslx_core.specs.Lowering.Functions.{CoreInstance}
use Rattle.dslx_core.specs.Lowering.Steps.{LoweredNext, lower_next, proc_globals}

-- so it is with each proc and its parametric arguments
abbrev pub EachElaborated : (Proc → List DslxValue → Type 0) → List Elaborated → Type 0
EachElaborated Q [] = Unit {0}
EachElaborated Q (a ∷ as') = Q a.proc a.parametric_args × EachElaborated Q as'

-- its `next` is lowered to steps and a next state, where these functions are there to be called, and its `init` has a value of the type of
-- its state
pub record NextLowers (m : Module) (functions : List CoreInstance) (p : Proc) (parametric_args : List DslxValue) : Type 0 where
  pub next : LoweredNext
  pub is : lower_next (proc_globals m (meanings_of m) functions p parametric_args) p ≡ Some next
  pub opening : DslxValue
  pub opens : opening_state (meanings_of m) p parametric_args ≡ Some opening
  pub of : is_of next.state opening ≡ true
