-- Texts with which nothing is wrong, as far as their networks go.
use Rattle.std.specs.Prelude.{◌≡◌, ℕ, List, [], ◌∷◌, Option, Some}
use Rattle.dslx_tree.specs.declared.item.Module.{Module}
use Rattle.dslx_tree.specs.declared.process.Proc.{Proc}
use Rattle.dslx_meaning.specs.Items.{meanings_of}
use Rattle.dslx_meaning.specs.Network.{Elaborated, family_of, top_proc}
use Rattle.dslx_meaning.specs.declared.value.DslxValue.{DslxValue}
use Rattle.dslx_meaning.specs.Rules.TypeEnvs.{GlobalEnv}
use Rattle.dslx_meaning.specs.Rules.ProcRules.{proc_type_env}
use Rattle.dslx_core.specs.Lowering.Instances.{ItemsAreOwn}
use Rattle.dslx_core.specs.Typing.Typed.Complete.{IsComplete}
use Rattle.dslx_core.specs.Typing.Typed.Numbers.{AllOwn}
use Rattle.dslx_core.specs.Typing.Complete.HasValue.{AreTyped, IsWellTypedFound}
use Rattle.dslx_core.specs.Typing.Complete.Acts.{acts_found}
use Rattle.dslx_core.specs.Typing.Procs.WordsOfEnds.{WordsAreValues}

-- nothing is wrong with the text of an instance of a proc outside its `config`, its parametrics have values of their own types, and each word of its
-- channels is a value
pub record IsWellTypedProc (known : GlobalEnv) (p : Proc) (parametric_args : List DslxValue) : Type 0 where
  pub own : AllOwn known.items.type_named parametric_args
  pub found : IsWellTypedFound known (acts_found known p parametric_args)
  pub words : WordsAreValues (proc_type_env known p parametric_args) p.members

abbrev pub EachProcIsWellTyped : GlobalEnv → List Elaborated → Type 0
EachProcIsWellTyped known [] = Unit {0}
EachProcIsWellTyped known (a ∷ as') = IsWellTypedProc known a.proc a.parametric_args × EachProcIsWellTyped known as'

-- what the items denote is known, and nothing is wrong with the procs of the network
pub record IsWellTypedText (m : Module) (top : Option (List ℕ)) : Type 0 where
  pub known : GlobalEnv
  pub denoted : known.items ≡ meanings_of m
  pub complete : IsComplete known
  pub typed : AreTyped known
  pub own : ItemsAreOwn (meanings_of m)
  pub procs : (p : Proc) → top_proc m top ≡ Some p → EachProcIsWellTyped known (family_of m p).procs
