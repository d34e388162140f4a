-- Instances that an accepted text reaches stand in the table of its functions.
use Rattle.std.proofs.Common.{◌*◌, ◌≡◌, ◌≤◌, ℕ, List, [], Option, Some, length, sym, ap, ◌∙◌, arith}
use Rattle.dslx_tree.specs.declared.item.Module.{Module}
use Rattle.dslx_meaning.specs.Items.{as_function, item_named, meanings_of}
use Rattle.dslx_meaning.specs.Rules.TypeEnvs.{Instance}
use Rattle.dslx_meaning.specs.Rules.ModuleRules.{instances_of, globals_of}
use Rattle.dslx_core.proofs.Lemmas.Typing.TypingRelations.{whole_is}
use Rattle.dslx_core.specs.Typing.Typed.Numbers.{AllOwn}
use Rattle.dslx_core.specs.Typing.TypingRelations.Closed.{IsOneOf}
use Rattle.dslx_core.proofs.Lemmas.Typing.Accepted.{one_of_these}
use Rattle.dslx_core.proofs.Lemmas.Typing.Typed.{none_some}
use Rattle.dslx_core.specs.Lowering.Functions.{CoreInstance, Instantiated}
use Rattle.dslx_total.specs.Tables.Tables.{FunctionsHaveTable}
use Rattle.dslx_core.specs.Machines.Progress.Missing.{InNoTable}
use Rattle.dslx_total.specs.Instances.Reached.{IsReachedInstance, ExistsInTable}
use Rattle.dslx_total.proofs.OnInstances.Found.{found_among}

pub stands_there : (m : Module) (top : Option (List ℕ)) → ((i : Instance) → IsOneOf i (instances_of m top) → AllOwn (globals_of m).items.type_named i.parametric_args) → FunctionsHaveTable m top → (i : Instantiated) → IsReachedInstance m top i
    → (limit : ℕ) → length (instances_of m top) ≤ limit → ExistsInTable m limit i
stands_there m top owns have i is limit enough =
    let j : Instance = record { name = i.name; parametric_args = i.parametric_args } in
    let of : as_function (item_named i.name (globals_of m).whole.items) ≡ Some is.function = ap (λ (x : Module). as_function (item_named i.name x.items)) (whole_is m (2 * length m.items)) ∙ is.is in
    let found = found_among m (meanings_of m) j [] have.instances have.known.table have.lowered (have.reached j is.function of (owns j (one_of_these j (instances_of m top) is.reached)) is.reached) in
    let few = have.few in
    record {
      table = have.known.table;
      is_table = (have.instances, have.lowered);
      few = omega (arith, few, enough);
      found = found.0;
      has = found.1;
    }

pub never_missing : (m : Module) (limit : ℕ) (i : Instantiated) (before : List CoreInstance) → ExistsInTable m limit i → InNoTable (record { text = m; items = meanings_of m; table = before }) limit i → ⊥
never_missing m limit i before stands missing = none_some stands.found (sym (missing stands.table stands.is_table stands.few) ∙ stands.has)
