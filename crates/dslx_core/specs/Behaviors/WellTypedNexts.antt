-- Networks of procs whose `next` is well-typed.
use Rattle.std.specs.Prelude.{◌≡◌, ℕ, List, [], ◌∷◌, Option, Some}
use Rattle.xb_bits.specs.Word.{Word}
use Rattle.xb_value.specs.declared.value.Value.{Value}
use Rattle.dslx_tree.specs.declared.item.Module.{Module}
use Rattle.dslx_tree.specs.declared.process.Proc.{Proc}
use Rattle.dslx_meaning.specs.Activation.{activation_of, state_type_of}
use Rattle.dslx_meaning.specs.Items.{meanings_of}
use Rattle.dslx_meaning.specs.Network.{Elaborated, family_of, top_proc}
use Rattle.dslx_meaning.specs.declared.ty.DslxType.{DslxType}
use Rattle.dslx_meaning.specs.Rules.TypeEnvs.{GlobalEnv}
use Rattle.dslx_core.specs.Typing.Activities.Members.{IsWellTypedNext}

-- the `next` of a proc is well-typed, and it does by the global environment what it does by what the items denote
pub record NextIsWellTyped (m : Module) (known : GlobalEnv) (a : Elaborated) : Type 0 where
  pub well_typed : (t : DslxType) → state_type_of known.items a.proc a.parametric_args ≡ Some t → IsWellTypedNext known a.proc a.parametric_args t
  pub state : state_type_of known.items a.proc a.parametric_args ≡ state_type_of (meanings_of m) a.proc a.parametric_args
  pub means : (state : Value) (words : List Word) → activation_of known.items a.proc a.parametric_args state words ≡ activation_of (meanings_of m) a.proc a.parametric_args state words

abbrev pub EachNextIsWellTyped : Module → GlobalEnv → List Elaborated → Type 0
EachNextIsWellTyped m known [] = Unit {0}
EachNextIsWellTyped m known (a ∷ as') = NextIsWellTyped m known a × EachNextIsWellTyped m known as'

-- so it is with each proc of the text's network
pub record HasWellTypedNexts (m : Module) (top : Option (List ℕ)) : Type 0 where
  pub known : GlobalEnv
  pub nexts : (p : Proc) → top_proc m top ≡ Some p → EachNextIsWellTyped m known (family_of m p).procs
