use Rattle.std.proofs.Common.{◌∙◌, ap}
use Rattle.dslx_meaning.specs.declared.ty.DslxType.{out-DslxType}
use Rattle.dslx_check_rules.specs.Interned.{types_in}
use Rattle.dslx_check_uses.proofs.OnInference.{row_level}
use Rattle.dslx_check_uses.proofs.inference.row_of.Goals as goal

pub returns-in-Some : goal.returns-in-Some
returns-in-Some c = λ names later p. ap out-DslxType (c.in-Some.ensures.is names later p) ∙ row_level names (types_in names later) c.in-Some.row.now
