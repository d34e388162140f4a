use Rattle.std.proofs.Common.{◌≤◌, ◌++◌, min, length, map, sym, ap, ◌∙◌, arith}
use Rattle.std.proofs.lemmas.List.{append-nil}
use Rattle.dslx_values.specs.Inference.Inferences.{inferred}
use Rattle.dslx_values.proofs.OnInference.Ends.{all_ended}
use Rattle.dslx_values.proofs.inference.inference.inferred_from.Goals as goal

pub returns : goal.returns
returns c =
    let past : min (length c.args.arguments.now) (length c.args.types.now) ≤ c.arguments.i = omega arith in
    sym (ap (λ xs. map inferred c.arguments.found.items ++ xs) (all_ended c.args.arguments.now c.args.types.now c.arguments.i past) ∙ append-nil (map inferred c.arguments.found.items))
    ∙ c.arguments.invariant
