use Rattle.std.proofs.Common.{ap, reverse, ◌∙◌}
use Rattle.dslx_meaning.specs.Names.FirstNames.{first_names}
use Rattle.dslx_meaning.proofs.OnNames.OnBoundNames.{cut, plain}
use Rattle.dslx_meaning.proofs.names.bound_names.BoundNames.keep_first.Goals as goal

pub returns : goal.returns
returns c =
    ap (λ names. reverse (plain names)) c.truncate.ensures.items ∙ cut c.args.count c.self.inside.names.items ∙ ap (first_names c.args.count) c.self.view_is
