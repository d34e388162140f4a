use Rattle.std.proofs.Common.{Some, refl, ap, ◌∙◌}
use Rattle.dslx_check_rules.specs.Seen.{capped}
use Rattle.dslx_check_rules.proofs.Lemmas.Sizes.{one_more}
use Rattle.dslx_check_rules.proofs.sizes.one_and.Goals as goal

pub returns : goal.returns
returns c = λ x p. c.plus_size.ensures (Some 1) x refl p ∙ ap capped (one_more x)
