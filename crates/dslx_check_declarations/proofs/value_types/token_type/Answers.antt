use Rattle.std.proofs.Common.{[], refl}
use Rattle.dslx_meaning.specs.Types.{unit_type}
use Rattle.dslx_meaning.specs.declared.ty.DslxType as ty
use Rattle.dslx_check_rules.specs.declared.table.row.TypeRow.TheVariants as row
use Rattle.dslx_check_declarations.proofs.OnValueTypes.{type_put}
use Rattle.dslx_check_declarations.proofs.value_types.token_type.Goals as goal

pub returns : goal.returns
returns c = λ names. type_put names row.Token ty.Token refl c.in_ok-ty.ensures.rows (c.in_ok-ty.ensures.is names) c.in_ok-ty.ensures.there c.in_ok-ty.ensures.grows
