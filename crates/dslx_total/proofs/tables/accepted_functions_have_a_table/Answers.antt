use Rattle.std.proofs.Common.{◌*◌, ◌≤◌, length, [], sym, ◌∙◌, arith}
use Rattle.dslx_core.specs.Lowering.Functions.{instances_from}
use Rattle.dslx_total.specs.Expressions.InstanceLists.{CanLower}
use Rattle.dslx_total.specs.Instances.Denoted.{checked_globals}
use Rattle.dslx_total.proofs.OnClosed.Knowing.{checked_knows}
use Rattle.dslx_total.proofs.OnConfigs.There.{accepted}
use Rattle.dslx_total.proofs.OnTables.Ordered.{all_checked, each_reaches, few_in_order, functions_stand, in_order}
use Rattle.dslx_total.proofs.OnTables.Widths.{names_have_widths}
use Rattle.dslx_total.proofs.tables.accepted_functions_have_a_table.Goals as goal

pub returns : goal.returns
returns c m top faults =
    let n = length m.items in
    let same : n ≤ n = omega arith in
    let w = c.what_is_checked_is_known.ensures.known m top faults in
    let known = checked_globals m top in
    let s = accepted m top faults (c.instances_reach_one_another.ensures.text m top) (c.instances_reach_one_another.ensures.outside m top) in
    let knows = checked_knows m top s w in
    let can : CanLower known = record { complete = w.complete; typed = w.typed; widths = names_have_widths c.lower_total_expression.ensures.wide m (2 * n) } in
    let order = in_order m top s known knows w.functions n in
    let have = c.lower_total_instances.ensures known can order (each_reaches m top s known knows w.functions n same) in
    let few = few_in_order m top s known knows w.functions in
    let many = have.many in
    record {
      instances = order;
      known = have;
      lowered = (λ t. instances_from (sym w.text t) (sym w.denoted t) [] order) ∙ have.lowered;
      reached = functions_stand m top s known knows w.functions;
      checked = all_checked m top s known knows w.functions n;
      few = omega (arith, few, many);
    }
