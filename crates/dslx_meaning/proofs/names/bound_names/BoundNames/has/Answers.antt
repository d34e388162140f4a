use Rattle.std.proofs.Common.{ap, ◌∙◌}
use Rattle.dslx_meaning.specs.Lists.{is_in}
use Rattle.dslx_meaning.proofs.OnNames.OnBoundNames.{in_any_order, plain}
use Rattle.dslx_meaning.proofs.names.bound_names.BoundNames.has.Goals as goal

pub returns : goal.returns
returns c =
    c.is_among.ensures
    ∙ (ap (λ names. is_in c.args.name.now (plain names)) c.as_slice.ensures.value ∙ (in_any_order c.args.name.now c.self.inside.names.items ∙ ap (is_in c.args.name.now) c.self.view_is))
