use Rattle.std.proofs.Common.{◌≤◌, ◌++◌, min, length, map, sym, ap, ◌∙◌, arith}
use Rattle.std.proofs.lemmas.List.{append-nil}
use Rattle.dslx_values.specs.Inference.Inferences.{inferred}
use Rattle.dslx_values.proofs.OnInference.Ends.{each_ended}
use Rattle.dslx_values.proofs.inference.written.+infer.Goals as goal

pub infer_each-returns : goal.infer_each-returns
infer_each-returns t c =
    let past : min (length c.args.parts.now) (length c.args.types.now) ≤ c.parts.i = omega arith in
    sym (ap (λ xs. map inferred c.parts.found.items ++ xs) (each_ended c.args.parts.now c.args.types.now c.parts.i past) ∙ append-nil (map inferred c.parts.found.items))
    ∙ c.parts.invariant
