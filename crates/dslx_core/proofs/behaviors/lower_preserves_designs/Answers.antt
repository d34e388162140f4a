use Rattle.dslx_core.proofs.OnBehaviors.Alike.{texts_simulate}
use Rattle.dslx_core.proofs.behaviors.lower_preserves_designs.Goals as goal

pub returns : goal.returns
returns c = texts_simulate
