-- Instances of procs that are checked.
use Rattle.std.specs.Prelude.{◌≡◌, ℕ, List, Option, Some, true}
use Rattle.dslx_tree.specs.declared.item.Definition.TheVariants as d
use Rattle.dslx_tree.specs.declared.item.Module.{Module}
use Rattle.dslx_tree.specs.declared.process.Proc.{Proc}
use Rattle.dslx_meaning.specs.Items.{item_named}
use Rattle.dslx_meaning.specs.declared.value.DslxValue.{DslxValue}
use Rattle.dslx_meaning.specs.Rules.ModuleRules.{instances_of, is_reached}

-- a proc of the text with parametric arguments whose instance is checked
pub record IsReachedProc (m : Module) (top : Option (List ℕ)) (p : Proc) (parametric_args : List DslxValue) : Type 0 where
  pub named : item_named p.name.name m.items ≡ Some (d.Proc p)
  pub checked : is_reached (record { name = p.name.name; parametric_args = parametric_args }) (instances_of m top) ≡ true
