use Rattle.std.proofs.Common.{◌*◌, length}
use Rattle.dslx_total.specs.Instances.Denoted.{checked_globals}
use Rattle.dslx_total.proofs.Lemmas.Configs.{accepted, is_there}
use Rattle.dslx_total.proofs.Lemmas.Tables.{names_have_widths}
use Rattle.dslx_total.proofs.OnClosed.Knowing.{checked_knows}
use Rattle.dslx_total.proofs.OnFamilies.Nexts.{next_lowers_to}
use Rattle.dslx_total.proofs.OnNets.Full.{names_are_full}
use Rattle.dslx_total.proofs.designs.lower_total_reached_nexts.Goals as goal

pub returns : goal.returns
returns c m top faults functions p parametric_args checked =
    let w = c.what_is_checked_is_known.ensures.known m top faults in
    let known = checked_globals m top in
    let wide = names_have_widths c.lower_total_expression.ensures.wide m in
    let n = 2 * length m.items in
    let s = accepted m top faults (c.instances_reach_one_another.ensures.text m top) (c.instances_reach_one_another.ensures.outside m top) in
    next_lowers_to m top s known (checked_knows m top s w) w.complete w.typed (wide n) (names_are_full m wide n) c.words_of_ends_have_widths.ensures.widths c.members_stand.ensures c.lower_total_next.ensures w.denoted functions.instances functions.known functions.reached
    p parametric_args (is_there m top s known (c.checked_instances_are_own.ensures m top faults) p parametric_args checked)
