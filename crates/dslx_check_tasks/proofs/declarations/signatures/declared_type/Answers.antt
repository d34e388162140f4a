use Rattle.dslx_check_tasks.proofs.OnDeclarations.OnForeign.{declared_one}
use Rattle.dslx_check_tasks.proofs.declarations.signatures.declared_type.Goals as goal

pub returns : goal.returns
returns c = declared_one c.in_ok-typing.ensures c.unless_unit.ensures.is c.unless_unit.ensures.there
