use Rattle.std.proofs.Common.{◌≤◌, length, arith}
use Rattle.dslx_total.specs.Tables.Tables.{FunctionsHaveTable}
use Rattle.dslx_elab.proofs.OnOrders.{not_given_up}
use Rattle.dslx_elab.proofs.orders.ordered_instances_are_assembled.Goals as goal

pub returns : goal.returns
returns c = λ m top p limit wanted a is enough order ends.
    let faults = c.networks_keep_the_limits.ensures.accepted m top a.none in
    let functions : FunctionsHaveTable m top = c.accepted_functions_have_a_table.ensures m top faults in
    let fit = functions.few in
    let few : length functions.known.table ≤ limit = omega (arith, fit, enough) in
    not_given_up m top limit functions.known.table (functions.instances, functions.lowered) few (c.lower_total_reached_nexts.ensures m top faults functions)
    (c.lower_total_configs.ensures.configs m top faults) p wanted order ends (c.lower_total_configs.ensures.tops m top faults p is)
