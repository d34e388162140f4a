use Rattle.ir_lower_nodes.proofs.OnActs.OnSame.{alike_same}
use Rattle.ir_lower_nodes.proofs.acts.laws.alike_activities_are_same_activations.Goals as goal

pub returns : goal.returns
returns c = λ calls width channels i ir proc state sites widths alike. alike_same calls width channels i ir proc state sites widths alike
