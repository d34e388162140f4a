use Rattle.std.proofs.Common.{length, ap, subst, ◌∙◌, ◌≡◌, arith}
use Rattle.net_core.specs.WellFormed.{IsInputs}
use Rattle.net_core.specs.declared.net.Net.{Net}
use Rattle.std.proofs.lemmas.List.{length-map}
use Rattle.dslx_meaning.specs.Network.{network_of}
use Rattle.dslx_core.specs.Designs.{core_family, core_head, core_network}
use Rattle.dslx_interp.specs.Network.Limits.{network_limit}
use Rattle.dslx_elab.proofs.OnRuns.{within_limits}
use Rattle.dslx_elab.proofs.runs.accepted_texts_run.Goals as goal

pub returns-clause-runs : goal.returns-clause-runs
returns-clause-runs c = λ m top design a made checked.
    let faults = c.networks_keep_the_limits.ensures.accepted m top a.none in
    let core = c.accepted_texts_are_well_typed.ensures.stands m top design faults made checked in
    record {
      network = core.network;
      alike = core.behaviors;
      fits = c.made_networks_are_nets.ensures.named m top design a.slashes a.none made checked;
      of_net = c.behaviors_are_of_their_networks.ensures.designs design;
      keep = c.made_networks_are_nets.ensures.keep m top design faults made checked;
      outcomes = λ inputs n depths fit few.
          c.accepted_designs_have_the_same_outcomes.ensures m top design inputs n depths a.none made checked (subst (λ (net : Net). IsInputs net inputs) core.network fit) few;
    }

pub returns-clause-linked : goal.returns-clause-linked
returns-clause-linked c = c.made_designs_are_linked.ensures

pub returns-clause-words : goal.returns-clause-words
returns-clause-words c = c.made_designs_receive_words.ensures

pub returns-clause-limits : goal.returns-clause-limits
returns-clause-limits c = λ m top design a made checked.
    let faults = c.networks_keep_the_limits.ensures.accepted m top a.none in
    let core = c.accepted_texts_are_well_typed.ensures.stands m top design faults made checked in
    ap network_limit core.network
    ∙ within_limits (network_of m top) (c.networks_keep_the_limits.ensures.procs m top a.none) (c.networks_keep_the_limits.ensures.channels m top a.none)

pub returns-clause-few : goal.returns-clause-few
returns-clause-few c = λ m top design a made checked.
    let faults = c.networks_keep_the_limits.ensures.accepted m top a.none in
    let core = c.accepted_texts_are_well_typed.ensures.stands m top design faults made checked in
    let heads = length-map (core_family design).procs core_head in
    let same : length (core_network design).procs ≡ length (network_of m top).procs = ap (λ (net : Net). length net.procs) core.network in
    let few = c.networks_keep_the_limits.ensures.procs m top a.none in
    omega (arith, heads, same, few)
