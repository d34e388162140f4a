use Rattle.chan_file.proofs.Lemmas.Reading.{inputs_fit}
use Rattle.chan_file.proofs.laws.inputs_fit.Goals as goal

pub returns : goal.returns
returns c = inputs_fit
