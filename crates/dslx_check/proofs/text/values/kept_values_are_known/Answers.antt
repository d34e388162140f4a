use Rattle.dslx_check.proofs.OnText.OnValues.Kept.{value_kept}
use Rattle.dslx_check.proofs.text.values.kept_values_are_known.Goals as goal

pub returns : goal.returns
returns c = value_kept
