use Rattle.std.proofs.Common.{◌≡◌, drop, map}
use Rattle.dslx_meaning.specs.Inference.{inferred_for}
use Rattle.dslx_values.specs.Inference.Inferences.{inferred}
use Rattle.dslx_values.proofs.inference.inference.inferred_for.Given as goal

abbrev pub invariant-inferences : goal.invariant-inferences
invariant-inferences l = inferred_for l.name (map inferred (drop l.inference-index l.inferences)) ≡ inferred_for l.name (map inferred l.inferences)
