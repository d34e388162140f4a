use Rattle.std.proofs.Common.{sym, ap, ◌∙◌}
use Rattle.net_core.specs.Cuts.{final_cut}
use Rattle.net_core.specs.Outcomes.{outcome_of}
use Rattle.net_core.specs.WellFormed.{run_of}
use Rattle.net_core.specs.declared.net.Net.{Net}
use Rattle.dslx_meaning.specs.Network.{behaviors_of}
use Rattle.dslx_core.specs.Designs.{core_behaviors, core_network}
use Rattle.dslx_total.proofs.OnOutcomes.Alike.{all_do_the_same}
use Rattle.dslx_total.proofs.outcomes.made_designs_have_the_same_outcomes.Goals as goal

pub returns : goal.returns
returns c m top design inputs n depths of net fit keep given small =
    let xs = core_behaviors design in
    let ys = behaviors_of m top in
    let same = c.same_behavior_has_the_same_outcomes.ensures.behaviors (core_network design) xs ys inputs n depths (all_do_the_same xs ys of.behaviors) net fit keep given small in
    sym (same ∙ ap (λ (x : Net). outcome_of (run_of x ys inputs n depths) (final_cut (run_of x ys inputs n depths))) of.network)
