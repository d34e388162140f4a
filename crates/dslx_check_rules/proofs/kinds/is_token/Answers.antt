use Rattle.std.proofs.Common.{◌∙◌, sym, ap}
use Rattle.dslx_meaning.specs.Types.{is_token_type}
use Rattle.dslx_check_rules.specs.declared.table.measures.TypeMeasures.{TypeMeasures}
use Rattle.dslx_check_rules.proofs.Lemmas.Types.{types_stay}
use Rattle.dslx_check_rules.proofs.kinds.is_token.Goals as goal

pub returns : goal.returns
returns c = λ names later p h. ap (λ (m : TypeMeasures). m.is_token) (c.measures.ensures names) ∙ ap is_token_type (sym (types_stay names c.args.types.now later c.args.ty p h))
