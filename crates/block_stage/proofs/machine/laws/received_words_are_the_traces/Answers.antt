use Rattle.block_stage.proofs.OnMachine.Prefixes.{received_words_are_the_traces}
use Rattle.block_stage.proofs.machine.laws.received_words_are_the_traces.Goals as goal

pub returns : goal.returns
returns c = received_words_are_the_traces
