use Rattle.std.proofs.Common.{◌*◌, ◌≡◌, List, length, Some, subst, sym, ap}
use Rattle.net_core.specs.WellFormed.{IsNet}
use Rattle.net_core.specs.declared.net.Net.{Net}
use Rattle.dslx_tree.specs.declared.process.Proc.{Proc}
use Rattle.dslx_meaning.specs.Activation.{state_type_of}
use Rattle.dslx_meaning.specs.Items.{meanings_of}
use Rattle.dslx_meaning.specs.Network.{net_if}
use Rattle.dslx_meaning.specs.declared.ty.DslxType.{DslxType}
use Rattle.dslx_meaning.specs.declared.value.DslxValue.{DslxValue}
use Rattle.dslx_core.specs.Typing.Activities.Members.{IsWellTypedNext}
use Rattle.dslx_total.specs.Instances.Denoted.{checked_globals}
use Rattle.dslx_total.specs.Nets.Numbered.{numbered}
use Rattle.dslx_total.proofs.Lemmas.Tables.{names_have_widths}
use Rattle.dslx_total.proofs.OnClosed.Knowing.{checked_knows}
use Rattle.dslx_total.proofs.OnConfigs.There.{accepted}
use Rattle.dslx_total.proofs.OnDesigns.Tops.{top_there}
use Rattle.dslx_total.proofs.OnExpressions.Joined.{type_is_wide}
use Rattle.dslx_total.proofs.OnFamilies.Families.{well_typed_proc}
use Rattle.dslx_total.proofs.OnFamilies.There.{IsThere}
use Rattle.dslx_total.proofs.OnNets.Full.{names_are_full}
use Rattle.dslx_total.proofs.OnNets.Numbered.{numbered_is_net, with_names}
use Rattle.dslx_total.proofs.OnNets.Texts.{net_over, whole_fits}
use Rattle.dslx_total.proofs.nets.accepted_networks_are_nets.Goals as goal

pub returns-clause-numbered : goal.returns-clause-numbered
returns-clause-numbered c = λ m top kept.
    let faults = c.networks_keep_the_limits.ensures.accepted m top kept in
    let w = c.what_is_checked_is_known.ensures.known m top faults in
    let known = checked_globals m top in
    let wide = names_have_widths type_is_wide m in
    let n = 2 * length m.items in
    let s = accepted m top faults (c.instances_reach_one_another.ensures.text m top) (c.instances_reach_one_another.ensures.outside m top) in
    let knows = checked_knows m top s w in
    let nexts : (q : Proc) (args : List DslxValue) → IsThere m top s known q args → (u : DslxType) → state_type_of known.items q args ≡ Some u → IsWellTypedNext known q args u = λ q args there u is.
    let k = well_typed_proc m top s known knows w.complete w.typed (wide n) c.words_of_ends_have_widths.ensures.values q args there in
    c.well_typed_procs_have_well_typed_nexts.ensures known w.complete w.typed q args k.own k.found k.words u is in
    let t = top_there m top faults in
    let fit = whole_fits m top s known knows w.complete w.typed (wide n) (names_are_full m wide n) nexts t.0 t.1 w.denoted (c.networks_keep_the_limits.ensures.procs m top kept) (c.networks_keep_the_limits.ensures.channels m top kept) in
    subst (λ (net : Net). IsNet (numbered net)) (sym (ap (net_if m) t.1)) (numbered_is_net (net_over m (meanings_of m) t.0) fit.0)

pub returns-clause-named : goal.returns-clause-named
returns-clause-named c = λ m top slashes kept.
    let faults = c.networks_keep_the_limits.ensures.accepted m top kept in
    let w = c.what_is_checked_is_known.ensures.known m top faults in
    let known = checked_globals m top in
    let wide = names_have_widths type_is_wide m in
    let n = 2 * length m.items in
    let s = accepted m top faults (c.instances_reach_one_another.ensures.text m top) (c.instances_reach_one_another.ensures.outside m top) in
    let knows = checked_knows m top s w in
    let nexts : (q : Proc) (args : List DslxValue) → IsThere m top s known q args → (u : DslxType) → state_type_of known.items q args ≡ Some u → IsWellTypedNext known q args u = λ q args there u is.
    let k = well_typed_proc m top s known knows w.complete w.typed (wide n) c.words_of_ends_have_widths.ensures.values q args there in
    c.well_typed_procs_have_well_typed_nexts.ensures known w.complete w.typed q args k.own k.found k.words u is in
    let t = top_there m top faults in
    let fit = whole_fits m top s known knows w.complete w.typed (wide n) (names_are_full m wide n) nexts t.0 t.1 w.denoted (c.networks_keep_the_limits.ensures.procs m top kept) (c.networks_keep_the_limits.ensures.channels m top kept) in
    subst IsNet (sym (ap (net_if m) t.1)) (with_names (net_over m (meanings_of m) t.0) fit.0 (fit.1 (slashes t.0 t.1)).own)
