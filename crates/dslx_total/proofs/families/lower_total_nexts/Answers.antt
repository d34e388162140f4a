use Rattle.std.proofs.Common.{◌*◌, length, subst}
use Rattle.dslx_meaning.specs.Environment.{Meanings}
use Rattle.dslx_meaning.specs.Network.{outer_ends, elaborate_within, top_parametric_args}
use Rattle.dslx_core.proofs.Lemmas.Typing.Accepted.{one_of_these}
use Rattle.dslx_total.specs.Families.EachElaborated.{EachElaborated, NextLowers}
use Rattle.dslx_total.specs.Instances.Denoted.{checked_globals}
use Rattle.dslx_total.proofs.Lemmas.Tables.{names_have_widths}
use Rattle.dslx_total.proofs.OnClosed.Knowing.{checked_knows}
use Rattle.dslx_total.proofs.OnConfigs.There.{accepted}
use Rattle.dslx_total.proofs.OnFamilies.Families.{all_elaborated}
use Rattle.dslx_total.proofs.OnFamilies.Nexts.{next_lowers_to}
use Rattle.dslx_total.proofs.OnFamilies.Reached.{all}
use Rattle.dslx_total.proofs.OnFamilies.Tops.{top_there}
use Rattle.dslx_total.proofs.OnNets.Full.{names_are_full}
use Rattle.dslx_total.proofs.families.lower_total_nexts.Goals as goal

pub returns : goal.returns
returns c m top faults functions p e =
    let w = c.what_is_checked_is_known.ensures.known m top faults in
    let known = checked_globals m top in
    let wide = names_have_widths c.lower_total_expression.ensures.wide m in
    let n = 2 * length m.items in
    let s = accepted m top faults (c.instances_reach_one_another.ensures.text m top) (c.instances_reach_one_another.ensures.outside m top) in
    let knows = checked_knows m top s w in
    let t = top_there m top s known knows w.complete w.typed p e in
    let parametric_args = top_parametric_args known.items p in
    let words = c.words_of_ends_have_widths.ensures in
    let Q = NextLowers m functions.known.table in
    subst (λ (x : Meanings). EachElaborated Q (elaborate_within m x (length m.items) p.name.name p (top_parametric_args x p) (outer_ends 0 p.config.ends) (length p.config.ends)).procs) w.denoted
    (all_elaborated m top s known knows w.complete w.typed (wide n) words.values Q
    (next_lowers_to m top s known knows w.complete w.typed (wide n) (names_are_full m wide n) words.widths c.members_stand.ensures c.lower_total_next.ensures w.denoted functions.instances functions.known functions.reached)
    (length m.items) p.name.name p parametric_args (outer_ends 0 p.config.ends) (length p.config.ends)
    (record { checked = record { named = t.named; among = one_of_these (record { name = p.name.name; parametric_args = parametric_args }) (all m top s) t.among }; own = t.own }))
