use Rattle.std.proofs.Common.{◌≡◌, ◌++◌, drop, map}
use Rattle.dslx_meaning.specs.Items.{inferred_from}
use Rattle.dslx_values.specs.Inference.Inferences.{inferred}
use Rattle.dslx_values.proofs.inference.inference.inferred_from.Given as goal

abbrev pub invariant-arguments : goal.invariant-arguments
invariant-arguments l = map inferred l.found.items ++ inferred_from (drop l.i l.arguments) (drop l.i l.types) ≡ inferred_from l.arguments l.types
