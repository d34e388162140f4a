use Rattle.std.proofs.Common.{◌∙◌}
use Rattle.ir_passes.proofs.laws.optimised_is_given_back.Goals as goal

pub returns : goal.returns
returns c = λ ir a b f g. g.given_back f.normal ∙ f.numbered
