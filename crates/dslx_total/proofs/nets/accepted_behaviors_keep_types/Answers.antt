use Rattle.std.proofs.Common.{◌*◌, length, subst, sym, ap}
use Rattle.net_core.specs.WellFormed.{EachKeepsTypes}
use Rattle.dslx_meaning.specs.Environment.{Meanings}
use Rattle.dslx_meaning.specs.Network.{behaviors_if}
use Rattle.dslx_total.specs.Instances.Denoted.{checked_globals}
use Rattle.dslx_total.proofs.Lemmas.Tables.{names_have_widths}
use Rattle.dslx_total.proofs.OnClosed.Knowing.{checked_knows}
use Rattle.dslx_total.proofs.OnConfigs.There.{accepted}
use Rattle.dslx_total.proofs.OnDesigns.Tops.{top_there}
use Rattle.dslx_total.proofs.OnExpressions.Joined.{type_is_wide}
use Rattle.dslx_total.proofs.OnFamilies.Families.{well_typed_proc}
use Rattle.dslx_total.proofs.OnNets.Full.{names_are_full}
use Rattle.dslx_total.proofs.OnNets.Texts.{behaviors_over, keep_types}
use Rattle.dslx_total.proofs.nets.accepted_behaviors_keep_types.Goals as goal

pub returns : goal.returns
returns c m top faults =
    let w = c.what_is_checked_is_known.ensures.known m top faults in
    let known = checked_globals m top in
    let wide = names_have_widths type_is_wide m in
    let n = 2 * length m.items in
    let s = accepted m top faults (c.instances_reach_one_another.ensures.text m top) (c.instances_reach_one_another.ensures.outside m top) in
    let knows = checked_knows m top s w in
    let t = top_there m top faults in
    let p = t.0 in
    let keep = keep_types m top s known knows w.complete w.typed (wide n) (names_are_full m wide n) (λ q args there u is.
    let k = well_typed_proc m top s known knows w.complete w.typed (wide n) c.words_of_ends_have_widths.ensures.values q args there in
    c.well_typed_procs_have_well_typed_nexts.ensures known w.complete w.typed q args k.own k.found k.words u is) p t.1 in
    subst EachKeepsTypes (sym (ap (behaviors_if m) t.1)) (subst (λ (x : Meanings). EachKeepsTypes (behaviors_over m x p)) w.denoted keep)
