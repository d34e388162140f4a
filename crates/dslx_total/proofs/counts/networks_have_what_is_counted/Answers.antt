use Rattle.std.proofs.Common.{◌≡◌, ◌+◌, ℕ, length, List, map, Option, sym, ap, subst, ◌∙◌, arith}
use Rattle.std.proofs.lemmas.List.{length-append, length-map}
use Rattle.dslx_tree.specs.declared.item.Module.{Module}
use Rattle.dslx_tree.specs.declared.process.Proc.{Proc}
use Rattle.dslx_meaning.specs.Environment.{Meanings}
use Rattle.dslx_meaning.specs.Items.{instance_env, meanings_of}
use Rattle.dslx_meaning.specs.Network.{family_of, head_at, net_if, outer_chan, outer_ends, elaborate_within, top_parametric_args}
use Rattle.dslx_meaning.specs.Rules.ModuleRules.{instances_of}
use Rattle.dslx_meaning.specs.Rules.NetworkLimits.{count_in, counted_within}
use Rattle.dslx_core.proofs.Lemmas.Typing.Accepted.{one_of_these}
use Rattle.dslx_total.specs.Instances.Denoted.{checked_globals}
use Rattle.dslx_total.proofs.OnClosed.Knowing.{checked_knows}
use Rattle.dslx_total.proofs.OnConfigs.There.{accepted}
use Rattle.dslx_total.proofs.OnFamilies.Counts.{all_counted, size_of_family}
use Rattle.dslx_total.proofs.OnFamilies.Reached.{all}
use Rattle.dslx_total.proofs.OnFamilies.Tops.{top_there}
use Rattle.dslx_total.proofs.counts.networks_have_what_is_counted.Goals as goal

-- the count of the top proc's instance is the size of its family
abbrev IsCountedBy : Module → Option (List ℕ) → Proc → Meanings → Type 0
IsCountedBy m top p items =
    size_of_family (elaborate_within m items (length m.items) p.name.name p (top_parametric_args items p) (outer_ends 0 p.config.ends) (length p.config.ends))
    ≡ count_in (counted_within m items (instances_of m top) (length m.items)) (record { name = p.name.name; parametric_args = top_parametric_args items p })

pub returns : goal.returns
returns c m top faults p e =
    let w = c.what_is_checked_is_known.ensures.known m top faults in
    let known = checked_globals m top in
    let s = accepted m top faults (c.instances_reach_one_another.ensures.text m top) (c.instances_reach_one_another.ensures.outside m top) in
    let knows = checked_knows m top s w in
    let t = top_there m top s known knows w.complete w.typed p e in
    let parametric_args = top_parametric_args known.items p in
    let counted : IsCountedBy m top p (meanings_of m) = subst (IsCountedBy m top p) w.denoted
    (all_counted m top s known knows w.complete w.typed (length m.items) p.name.name p parametric_args (outer_ends 0 p.config.ends) (length p.config.ends)
    (record { checked = record { named = t.named; among = one_of_these (record { name = p.name.name; parametric_args = parametric_args }) (all m top s) t.among }; own = t.own })) in
    let top_count = count_in (counted_within m (meanings_of m) (instances_of m top) (length m.items)) (record { name = p.name.name; parametric_args = top_parametric_args (meanings_of m) p }) in
    let none : 0 + top_count.procs ≡ top_count.procs = omega arith in
    let family = family_of m p in
    let outer = outer_chan (instance_env (meanings_of m) p.parametrics (top_parametric_args (meanings_of m) p)) in
    let heads = sym (length-map family.procs (head_at (meanings_of m))) in
    let chans = sym (length-append (map outer p.config.ends) family.chans ∙ ap (λ k. k + length family.chans) (length-map p.config.ends outer)) in
    (λ i. record { procs = none i; channels = length p.config.ends + top_count.channels })
    ∙ (λ i. record { procs = (sym counted i).procs; channels = length p.config.ends + (sym counted i).channels })
    ∙ (λ i. record { procs = heads i; channels = chans i })
    ∙ (λ i. record { procs = length (net_if m (sym e i)).procs; channels = length (net_if m (sym e i)).chans })
