use Rattle.std.proofs.Common.{sym, subst}
use Rattle.net_core.specs.WellFormed.{IsNet}
use Rattle.net_core.specs.declared.net.Net.{Net}
use Rattle.dslx_meaning.specs.Network.{behaviors_of}
use Rattle.dslx_total.specs.Nets.Numbered.{numbered}
use Rattle.dslx_total.proofs.OnNets.Cores.{designs_keep_types}
use Rattle.dslx_total.proofs.nets.made_networks_are_nets.Goals as goal

pub returns-clause-numbered : goal.returns-clause-numbered
returns-clause-numbered c = λ m top design kept made checked.
    let core = c.accepted_texts_are_well_typed.ensures.stands m top design (c.networks_keep_the_limits.ensures.accepted m top kept) made checked in
    subst (λ (net : Net). IsNet (numbered net)) (sym core.network) (c.accepted_networks_are_nets.ensures.numbered m top kept)

pub returns-clause-named : goal.returns-clause-named
returns-clause-named c = λ m top design slashes kept made checked.
    let core = c.accepted_texts_are_well_typed.ensures.stands m top design (c.networks_keep_the_limits.ensures.accepted m top kept) made checked in
    subst IsNet (sym core.network) (c.accepted_networks_are_nets.ensures.named m top slashes kept)

pub returns-clause-keep : goal.returns-clause-keep
returns-clause-keep c = λ m top design faults made checked.
    let core = c.accepted_texts_are_well_typed.ensures.stands m top design faults made checked in
    designs_keep_types design (behaviors_of m top) core.behaviors (c.accepted_behaviors_keep_types.ensures m top faults)
