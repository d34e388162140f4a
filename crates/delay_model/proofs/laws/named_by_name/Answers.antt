use Rattle.delay_model.proofs.Lemmas.Naming.{named_by_name}
use Rattle.delay_model.proofs.laws.named_by_name.Goals as goal

pub returns : goal.returns
returns c = named_by_name
