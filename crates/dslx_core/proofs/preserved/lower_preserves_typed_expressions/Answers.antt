use Rattle.dslx_core.specs.Lowering.Correspondence.{env_at}
use Rattle.dslx_core.proofs.preserved.lower_preserves_typed_expressions.Goals as goal

pub returns : goal.returns
returns c e context scope calls given bound typed well_typed stands l low =
    let q = c.an_expression_has_its_value.ensures.expression e context (env_at scope given) typed well_typed in
    (q.2.value, q.2.is, c.lower_preserves_expressions.ensures.expression e scope calls given bound stands l low q.2.value q.2.is)
