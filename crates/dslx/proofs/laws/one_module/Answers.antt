use Rattle.dslx.proofs.OnTexts.{one_given}
use Rattle.dslx.proofs.laws.one_module.Goals as goal

pub returns : goal.returns
returns c = one_given c.one_reading.ensures.of_texts
