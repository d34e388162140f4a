use Rattle.ir_lower.proofs.OnText.{text_same}
use Rattle.ir_lower.proofs.laws.packages_mean_the_text.Goals as goal

pub returns : goal.returns
returns c = text_same
