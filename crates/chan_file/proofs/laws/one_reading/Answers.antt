use Rattle.chan_file.proofs.Lemmas.Reading.{one_reading}
use Rattle.chan_file.proofs.laws.one_reading.Goals as goal

pub returns : goal.returns
returns c = one_reading
