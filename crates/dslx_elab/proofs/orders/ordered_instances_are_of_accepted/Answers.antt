use Rattle.std.proofs.Common.{◌≡◌, ◌≤◌, ℕ, List, Option, Some, length, [], arith, sym}
use mathlib.Core.Bool.{true≢false}
use Rattle.dslx_tree.specs.declared.item.Module.{Module}
use Rattle.dslx_tree.specs.declared.process.Proc.{Proc}
use Rattle.dslx_meaning.specs.Network.{top_proc}
use Rattle.dslx_meaning.specs.Rules.ModuleRules.{instances_of}
use Rattle.dslx_core.specs.Lowering.Functions.{Instantiated}
use Rattle.dslx_core.specs.declared.design.Design.{Design}
use Rattle.dslx_total.specs.Tables.Tables.{FunctionsHaveTable}
use Rattle.dslx_elab.specs.Assembling.{Assembles}
use Rattle.dslx_elab.specs.Orders.{IsSpawnOrder}
use Rattle.dslx_elab.specs.Runs.{IsAcceptedText, IsMadeOfChecked}
use Rattle.dslx_elab.proofs.OnChecked.{made_of_checked, table_checked}
use Rattle.dslx_elab.proofs.orders.ordered_instances_are_of_accepted.Goals as goal

pub returns : goal.returns
returns c = record {
  accepted = λ m top p limit wanted design a is enough order assembles. let it = whole m top p limit wanted design a is enough order assembles in record { text = m; top = top; accepted = a; made = it.made; checked = it.checked };
  made = whole;
}
  where
    whole : (m : Module) (top : Option (List ℕ)) (p : Proc) (limit : ℕ) (wanted : List Instantiated) (design : Design) → IsAcceptedText m top → top_proc m top ≡ Some p → length (instances_of m top) ≤ limit
        → IsSpawnOrder m top [] wanted → Assembles m p limit wanted (Some design) → IsMadeOfChecked m top design
    whole m top p limit wanted design a is enough order assembles =
        let faults = c.networks_keep_the_limits.ensures.accepted m top a.none in
        let functions : FunctionsHaveTable m top = c.accepted_functions_have_a_table.ensures m top faults in
        let fit = functions.few in
        let few : length functions.known.table ≤ limit = omega (arith, fit, enough) in
        let checked = table_checked m top [] functions.instances functions.known.table functions.lowered (λ i has. absurd (true≢false (sym has))) functions.checked in
        let made = made_of_checked m top limit functions.known.table (functions.instances, functions.lowered) few (c.lower_total_reached_nexts.ensures m top faults functions) (c.lower_total_configs.ensures.configs m top faults) checked p wanted design assembles
        is order in
        record { made = made.0; checked = made.1 }
