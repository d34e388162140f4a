use Rattle.std.proofs.Common.{◌∙◌, ◌++◌, ap}
use Rattle.dslx_meaning.specs.Rules.TypeEnvs as the
use Rattle.dslx_check_rules.specs.Seen.{seen}
use Rattle.dslx_check_rules.specs.Interned.{type_if}
use Rattle.dslx_check_rules.proofs.typing.settled.Goals as goal

pub returns-clause-ty : goal.returns-clause-ty
returns-clause-ty c = λ names rows fs reached n e. ap (type_if names rows) c.limited.ensures.ty ∙ c.unlimited.ensures.ty names rows fs reached n e

pub returns-clause-faults : goal.returns-clause-faults
returns-clause-faults c = λ names later fs reached n p h e.
    c.limited.ensures.faults names later fs p (c.unlimited.ensures.there c.args.types.now h) (c.unlimited.ensures.faults ∙ e)
    ∙ ap (λ t. seen (fs ++ the.type_limits c.args.span.to t)) (c.unlimited.ensures.ty names later fs reached n e)
