-- Instances of procs that are added to others.
use Rattle.std.proofs.Common.{◌≡◌, ℕ, List, Option, Some, None, refl, ap, sym}
use Rattle.dslx_tree.specs.declared.item.Module.{Module}
use Rattle.dslx_tree.specs.declared.process.Proc.{Proc}
use Rattle.dslx_meaning.specs.Items.{item_named, meanings_of}
use Rattle.dslx_meaning.specs.Lists.{and_then}
use Rattle.dslx_meaning.specs.Network.{as_proc}
use Rattle.dslx_core.specs.declared.design.Instance.{Instance}
use Rattle.dslx_core.specs.Lowering.Functions.{CoreInstance, Instantiated}
use Rattle.dslx_core.specs.Networks.Configs.{ProcInstance}
use Rattle.dslx_core.specs.Networks.Procs.{next_proc, lower_proc}
use Rattle.dslx_param.specs.Needed.{TableMakes}
use Rattle.dslx_elab.specs.Adding.{AddsMissing, KeepsTable}
use Rattle.dslx_elab.specs.declared.adding.MadeInstances.{MadeInstances}
use Rattle.dslx_core.proofs.Lemmas.Machines.Extension.Coming.{never_as, never_at_once, never_then}
use Rattle.dslx_param.proofs.Lemmas.Growing.{makes_as, value_makes}

module _ (m : Module) (limit : ℕ) (table : List CoreInstance) (procs : List ProcInstance) (i : Instantiated) where
  abbrev pub next : List CoreInstance → Option ProcInstance
  next t = next_proc m (meanings_of m) t procs i

  pub not_found : None ≡ as_proc (item_named i.name m.items) → TableMakes m limit table next None
  not_found none = never_at_once m limit next (λ t. ap (λ o. and_then o (λ p. and_then (lower_proc m (meanings_of m) t procs p i.parametric_args) named)) (sym none))
    where
      named : Instance → Option ProcInstance
      named l = Some (record { name = i.name; parametric_args = i.parametric_args; instance = l })

  module _ (p : Proc) (found : Some p ≡ as_proc (item_named i.name m.items)) where
    abbrev named : Instance → Option ProcInstance
    named l = Some (record { name = i.name; parametric_args = i.parametric_args; instance = l })

    by_proc : (t : List CoreInstance) → next t ≡ and_then (lower_proc m (meanings_of m) t procs p i.parametric_args) named
    by_proc t = ap (λ o. and_then o (λ p. and_then (lower_proc m (meanings_of m) t procs p i.parametric_args) named)) (sym found)

    pub found_comes : (l : Instance) (after : List CoreInstance) → TableMakes m limit table (λ t. lower_proc m (meanings_of m) t procs p i.parametric_args) (Some (l, after))
        → TableMakes m limit table next (Some (record { name = i.name; parametric_args = i.parametric_args; instance = l }, after))
    found_comes l after comes =
        makes_as m limit table (λ t. and_then (lower_proc m (meanings_of m) t procs p i.parametric_args) named) next (Some (record { name = i.name; parametric_args = i.parametric_args; instance = l }, after)) by_proc
        (value_makes m limit table after (λ t. lower_proc m (meanings_of m) t procs p i.parametric_args) named l (record { name = i.name; parametric_args = i.parametric_args; instance = l }) comes refl)

    pub found_nothing : TableMakes m limit table (λ t. lower_proc m (meanings_of m) t procs p i.parametric_args) None → TableMakes m limit table next None
    found_nothing never =
        never_as m limit (λ t. and_then (lower_proc m (meanings_of m) t procs p i.parametric_args) named) next by_proc
        (never_then m limit (λ t. lower_proc m (meanings_of m) t procs p i.parametric_args) (λ l t. named l) never)

pub keeps_table : (m : Module) (limit : ℕ) (before : MadeInstances) (i : Instantiated) (o : Option MadeInstances) → AddsMissing m limit before i o → KeepsTable m o
keeps_table m limit before i None added = tt
keeps_table m limit before i (Some after) added = added.comes.grows.is_table
