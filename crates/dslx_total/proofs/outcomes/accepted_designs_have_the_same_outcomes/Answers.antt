use Rattle.std.proofs.Common.{List, sym, ap, ◌∙◌}
use Rattle.net_core.specs.Behavior.{Behavior}
use Rattle.net_core.specs.Cuts.{final_cut}
use Rattle.net_core.specs.Outcomes.{outcome_of}
use Rattle.net_core.specs.WellFormed.{procs_of, run_of}
use Rattle.net_core.specs.declared.net.Net.{Net}
use Rattle.dslx_meaning.specs.Network.{behaviors_of, network_of}
use Rattle.dslx_core.specs.Designs.{core_behaviors}
use Rattle.dslx_total.specs.Nets.Numbered.{numbered, numbered_from}
use Rattle.dslx_total.proofs.OnNets.Numbered.{numbered_behaviors, numbered_inputs}
use Rattle.dslx_total.proofs.OnOutcomes.Alike.{all_do_the_same_back}
use Rattle.dslx_total.proofs.OnOutcomes.Renamed.{numbered_kinds, outcome_same}
use Rattle.dslx_total.proofs.outcomes.accepted_designs_have_the_same_outcomes.Goals as goal

pub returns : goal.returns
returns c m top design inputs n depths kept made checked given small =
    let faults = c.networks_keep_the_limits.ensures.accepted m top kept in
    let core = c.accepted_texts_are_well_typed.ensures.stands m top design faults made checked in
    let net = network_of m top in
    let fits = c.accepted_networks_are_nets.ensures.numbered m top kept in
    let are = c.behaviors_are_of_their_networks.ensures.texts m top in
    let keep = c.accepted_behaviors_keep_types.ensures m top faults in
    let xs = behaviors_of m top in
    let ys = core_behaviors design in
    let renamed = λ (bs : List Behavior). outcome_same (procs_of net.procs bs) net.chans (numbered_from 0 net.chans) (numbered_kinds 0 net.chans) inputs n depths in
    let same = c.same_behavior_has_the_same_outcomes.ensures.behaviors (numbered net) xs ys inputs n depths (all_do_the_same_back ys xs core.behaviors) fits (numbered_behaviors net xs are) keep (numbered_inputs net inputs given) small in
    renamed xs ∙ same ∙ sym (renamed ys) ∙ ap (λ (x : Net). outcome_of (run_of x ys inputs n depths) (final_cut (run_of x ys inputs n depths))) (sym core.network)
