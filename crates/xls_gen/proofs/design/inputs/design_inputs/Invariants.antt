use Rattle.std.proofs.Common.{◌≡◌, ◌∷◌, [], replicate}
use Rattle.xls_gen.specs.Design.Words.{words_below}
use Rattle.xls_gen.proofs.design.inputs.design_inputs.Given as goal

abbrev pub invariant-channels : goal.invariant-channels
invariant-channels l = l.words.items ≡ words_below 64 ∷ replicate l._made []
