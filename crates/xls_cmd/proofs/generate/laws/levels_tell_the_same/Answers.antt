use Rattle.xls_cmd.proofs.OnGen.Levels.{levels_agree}
use Rattle.xls_cmd.proofs.generate.laws.levels_tell_the_same.Goals as goal

pub returns : goal.returns
returns c = levels_agree (record {
  faultless = c.networks_keep_the_limits.ensures.accepted;
  keep_types = c.accepted_behaviors_keep_types.ensures;
  of_nets = c.behaviors_are_of_their_networks.ensures.texts;
  network = c.same_behavior_has_the_same_outcomes.ensures.network;
  packages = c.same_behavior_has_the_same_outcomes.ensures.packages;
})
