-- Instances of procs that are reached in a text without faults are checked.
use Rattle.std.proofs.Common.{◌≡◌, ℕ, true, List, [], Option}
use Rattle.dslx_tree.specs.declared.item.Module.{Module}
use Rattle.dslx_tree.specs.declared.process.Proc.{Proc}
use Rattle.dslx_meaning.specs.declared.value.DslxValue.{DslxValue}
use Rattle.dslx_meaning.specs.Rules.TypeEnvs.{GlobalEnv, Instance}
use Rattle.dslx_meaning.specs.Rules.ModuleRules.{faults_of, instances_of, is_reached, globals_of, outside_instances}
use Rattle.dslx_core.specs.Typing.TypingRelations.Closed.{IsOneOf, ReachOneAnother}
use Rattle.dslx_core.specs.Typing.Typed.Numbers.{AllOwn}
use Rattle.dslx_core.proofs.Lemmas.Typing.Accepted.{IsAccepted, one_of_these}
use Rattle.dslx_total.proofs.OnFamilies.Reached.{all}
use Rattle.dslx_total.proofs.OnFamilies.There.{IsThere}
use Rattle.dslx_total.specs.Configs.ReachedProcs.{IsReachedProc}

-- a text without faults, by what is known of all texts
pub accepted : (m : Module) (top : Option (List ℕ)) → faults_of m top ≡ [] → ReachOneAnother (globals_of m) (instances_of m top)
    → ((i : Instance) → IsOneOf i (outside_instances m top).reached → is_reached i (instances_of m top) ≡ true) → IsAccepted m top
accepted m top faults among outside = record { faults = faults; among = among; outside = outside }

pub is_there : (m : Module) (top : Option (List ℕ)) (s : IsAccepted m top) (known : GlobalEnv) → ((i : Instance) → IsOneOf i (all m top s) → AllOwn known.items.type_named i.parametric_args) → (p : Proc) (parametric_args : List DslxValue) → IsReachedProc m top p parametric_args → IsThere m top s known p parametric_args
is_there m top s known owns p parametric_args h =
    let i : Instance = record { name = p.name.name; parametric_args = parametric_args } in
    let among = one_of_these i (all m top s) h.checked in
    record { checked = record { named = h.named; among = among }; own = owns i among }
