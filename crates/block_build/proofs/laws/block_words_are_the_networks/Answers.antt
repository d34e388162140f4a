use Rattle.block_build.proofs.Prefixes.{outputs_are_the_networks, inputs_are_the_networks}
use Rattle.block_build.proofs.laws.block_words_are_the_networks.Goals as goal

pub returns-clause-outputs : goal.returns-clause-outputs
returns-clause-outputs c = outputs_are_the_networks

pub returns-clause-inputs : goal.returns-clause-inputs
returns-clause-inputs c = inputs_are_the_networks
