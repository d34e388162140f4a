use Rattle.std.proofs.Common.{◌≡◌, ◌++◌, drop, map}
use Rattle.dslx_meaning.specs.Inference.{inferred_in, infer_each}
use Rattle.dslx_values.specs.Inference.Inferences.{inferred}
use Rattle.dslx_values.proofs.inference.written.+infer.Given as goal

abbrev pub invariant-infer_each-parts : goal.invariant-infer_each-parts
invariant-infer_each-parts l =
    map inferred l.found.items ++ infer_each (map inferred_in (drop l.i l.parts)) (drop l.i l.types)
    ≡ map inferred l.initial.found.items ++ infer_each (map inferred_in l.parts) l.types
