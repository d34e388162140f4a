use Rattle.dslx_check_declarations.proofs.OnValueTypes.{bits_put}
use Rattle.dslx_check_declarations.proofs.value_types.bits_type.Goals as goal

pub returns : goal.returns
returns c = λ names. bits_put names c.args.signed c.args.word.width c.kind_of-kind.ensures c.in_ok-ty.ensures.rows (c.in_ok-ty.ensures.is names) c.in_ok-ty.ensures.there c.in_ok-ty.ensures.grows
