use Rattle.std.proofs.Common.{subst}
use Rattle.dslx_meaning.specs.Environment.{Meanings}
use Rattle.dslx_total.specs.Configs.LowersTotally.{ConfigLowers, TopLowers}
use Rattle.dslx_total.specs.Instances.Denoted.{checked_globals}
use Rattle.dslx_total.proofs.OnClosed.Knowing.{checked_knows}
use Rattle.dslx_total.proofs.OnConfigs.Configs.{config_lowers_to}
use Rattle.dslx_total.proofs.OnConfigs.Outers.{top_lowers_to}
use Rattle.dslx_total.proofs.OnConfigs.There.{accepted, is_there}
use Rattle.dslx_total.proofs.configs.lower_total_configs.Goals as goal

pub returns-clause-configs : goal.returns-clause-configs
returns-clause-configs c = λ m top faults p parametric_args checked.
    let w = c.what_is_checked_is_known.ensures.known m top faults in
    let known = checked_globals m top in
    let s = accepted m top faults (c.instances_reach_one_another.ensures.text m top) (c.instances_reach_one_another.ensures.outside m top) in
    let there = is_there m top s known (c.checked_instances_are_own.ensures m top faults) p parametric_args checked in
    subst (λ (x : Meanings). ConfigLowers m x top p parametric_args) w.denoted (config_lowers_to m top s known (checked_knows m top s w) w.complete w.typed c.lower_total_written_types.ensures p parametric_args there)

pub returns-clause-tops : goal.returns-clause-tops
returns-clause-tops c = λ m top faults p e.
    let w = c.what_is_checked_is_known.ensures.known m top faults in
    let s = accepted m top faults (c.instances_reach_one_another.ensures.text m top) (c.instances_reach_one_another.ensures.outside m top) in
    subst (λ (x : Meanings). TopLowers m x top p) w.denoted (top_lowers_to m top s (checked_globals m top) (checked_knows m top s w) w.complete w.typed c.lower_total_written_types.ensures p e)
