-- A checked text that is made of instances of a text's functions and procs.
use Rattle.std.specs.Prelude.{◌≡◌, ℕ, List, [], map, true, length, Option, Some, slice_get}
use Rattle.dslx_tree.specs.declared.item.Module.{Module}
use Rattle.dslx_tree.specs.declared.process.End.{End}
use Rattle.dslx_tree.specs.declared.process.Proc.{Proc}
use Rattle.dslx_meaning.specs.Environment.{Meanings}
use Rattle.dslx_meaning.specs.Items.{item_named, meanings_of}
use Rattle.dslx_meaning.specs.Lists.{all_some, and_then}
use Rattle.dslx_meaning.specs.Network.{as_proc, kind_of_end, top_parametric_args, top_proc}
use Rattle.dslx_meaning.specs.Types.{plain_type}
use Rattle.dslx_core.specs.Typing.TypingRelations.Closed.{ends_within}
use Rattle.dslx_core.specs.Designs.{last_index}
use Rattle.dslx_core.specs.declared.design.Design.{Design}
use Rattle.dslx_core.specs.declared.design.Instance.{Instance}
use Rattle.dslx_core.specs.declared.design.Outer.{Outer}
use Rattle.dslx_core.specs.Lowering.CoreScopes.{CoreScope}
use Rattle.dslx_core.specs.Lowering.Functions.{CoreInstance, Instantiated, core_function, instances_from}
use Rattle.dslx_core.specs.Lowering.Instances.{CallsSettle}
use Rattle.dslx_core.specs.Lowering.Trees.{lower_type_of_text}
use Rattle.dslx_core.specs.Networks.Configs.{ProcInstance, config_scope}
use Rattle.dslx_core.specs.Networks.Procs.{procs_from}

abbrev pub lower_outer : CoreScope → End → Option Outer
lower_outer scope e = and_then (lower_type_of_text e.word scope) (λ t. Some (record { name = e.name.name; ty = plain_type t; kind = kind_of_end e.direction }))

abbrev pub lower_outers : Meanings → Proc → Option (List Outer)
lower_outers items top = all_some (map (lower_outer (config_scope items top (top_parametric_args items top))) top.config.ends)

abbrev pub instances_alone : List ProcInstance → List Instance
instances_alone procs = map (λ (i : ProcInstance). i.instance) procs

-- the top proc's instance is the last one
pub record IsDesignFrom (m : Module) (top : Option (List ℕ)) (design : Design) : Type 0 where
  pub proc : Proc
  pub is_top : top_proc m top ≡ Some proc
  pub is_item : as_proc (item_named proc.name.name m.items) ≡ Some proc
  pub outer : List Outer
  pub functions : List CoreInstance
  pub procs : List ProcInstance
  pub last : ProcInstance
  pub named_functions : List Instantiated
  pub named_procs : List Instantiated
  pub outers : lower_outers (meanings_of m) proc ≡ Some outer
  pub each_function : instances_from m (meanings_of m) [] named_functions ≡ Some functions
  pub each_proc : procs_from m (meanings_of m) functions [] named_procs ≡ Some procs
  pub is_last : slice_get procs (last_index (instances_alone procs)) ≡ Some last
  pub of_name : last.name ≡ proc.name.name
  pub of_parametric_args : last.parametric_args ≡ top_parametric_args (meanings_of m) proc
  pub design_is : design ≡ record { name = proc.name.name; outer = outer; functions = map core_function functions; procs = instances_alone procs }

-- chains of mentions from the top proc end, and of each function of its instances the meanings have what its text gives
pub record DesignEnds (m : Module) (top : Option (List ℕ)) (design : Design) (h : IsDesignFrom m top design) : Type 0 where
  pub proc : ends_within m (length m.items) h.proc.name.name ≡ true
  pub functions : CallsSettle m (meanings_of m) h.named_functions
