-- Instances in an order in which each reaches those before it alone, and what they are lowered to.
use Rattle.std.specs.Prelude.{◌≡◌, ◌&&◌, ◌++◌, List, [], ◌∷◌, Bool, true, Some, length}
use Rattle.std.specs.List.{list_any}
use Rattle.std.specs.Str.{bytes_eq}
use Rattle.dslx_tree.specs.declared.item.Definition.TheVariants as d
use Rattle.dslx_tree.specs.declared.item.Function.{Function}
use Rattle.dslx_meaning.specs.Environment.{Given}
use Rattle.dslx_meaning.specs.Items.{as_function, item_named}
use Rattle.dslx_meaning.specs.Lists.{pairwise}
use Rattle.dslx_meaning.specs.declared.value.DslxValue.{DslxValue}
use Rattle.dslx_meaning.specs.Rules.ItemRules.{function_seen, function_type_env}
use Rattle.dslx_meaning.specs.Rules.ModuleRules.{signature_of}
use Rattle.dslx_meaning.specs.Rules.TypeEnvs.{Instance, GlobalEnv}
use Rattle.dslx_core.specs.Typing.Typed.Complete.{IsComplete, signature_at}
use Rattle.dslx_core.specs.Typing.Typed.Numbers.{AllOwn}
use Rattle.dslx_core.specs.Typing.Complete.HasValue.{AreTyped}
use Rattle.dslx_meaning.specs.Rules.EqualValues.{equal_value}
use Rattle.dslx_core.specs.Lowering.Functions.{CoreInstance, Instantiated, callee_in, instances_from}
use Rattle.dslx_total.specs.Expressions.Beside.{CallsAreKnown, NamesHaveWidths}
use Rattle.dslx_total.specs.Expressions.ExprLowering.{IsClean}

-- the instance is one of these
abbrev pub is_among : List Instantiated → Instance → Bool
is_among is i = list_any (λ (j : Instantiated). bytes_eq i.name j.name && pairwise equal_value i.parametric_args j.parametric_args) is

-- the signatures of a function's instances are what its types are typed to in its text
abbrev pub IsAsTyped : GlobalEnv → Function → Type 0
IsAsTyped known f = (parametric_args : List DslxValue) → length parametric_args ≡ length f.parametrics → signature_at known f.name.name parametric_args ≡ signature_of (function_type_env known f parametric_args) (Some (d.Function f))

-- what must hold of the global environment, for what is lowered
pub record CanLower (known : GlobalEnv) : Type 0 where
  pub complete : IsComplete known
  pub typed : AreTyped known
  pub widths : NamesHaveWidths known

-- instances that stand in a list, where they are of functions, and their parametrics have values of their own types
abbrev pub AreThere : (Instance → Bool) → GlobalEnv → List Instantiated → Type 0
AreThere here known is = (i : Instance) (f : Function) → as_function (item_named i.name known.whole.items) ≡ Some f → AllOwn known.items.type_named i.parametric_args → here i ≡ true → is_among is i ≡ true

-- a well-typed instance of a function, with the types that are judged, and what it reaches: sound instances, which stand before it
pub record ReachesThese (known : GlobalEnv) (before : List Instantiated) (i : Instantiated) : Type 0 where
  pub function : Function
  pub is : as_function (item_named i.name known.whole.items) ≡ Some function
  pub types : IsAsTyped known function
  pub own : AllOwn known.items.type_named i.parametric_args
  pub here : Instance → Bool
  pub clean : IsClean here (function_seen known function i.parametric_args).found.faults (function_seen known function i.parametric_args).found.reached
  pub sound : (j : Instance) → here j ≡ true → known.is_sound j ≡ true
  pub there : AreThere here known before

abbrev pub EachReachesThoseBefore : GlobalEnv → List Instantiated → List Instantiated → Type 0
EachReachesThoseBefore known before [] = Unit {0}
EachReachesThoseBefore known before (i ∷ is) = ReachesThese known before i × EachReachesThoseBefore known (before ++ i ∷ []) is

-- what instances are lowered to: a table, one for each, and where it is at hand, calls of those that stand in the list have a callee
pub record HaveTable (known : GlobalEnv) (is : List Instantiated) : Type 0 where
  pub table : List CoreInstance
  pub lowered : instances_from known.whole known.items [] is ≡ Some table
  pub many : length table ≡ length is
  pub calls : (here : Instance → Bool) → AreThere here known is → (parametric_args : List Given)
      → CallsAreKnown here known (record { items = known.items; parametric_args = parametric_args; callee = callee_in known.whole known.items table })
