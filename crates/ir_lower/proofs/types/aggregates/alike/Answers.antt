use Rattle.ir_lower.proofs.OnTypes.OnSame.{same_alike}
use Rattle.ir_lower.proofs.types.aggregates.alike.Goals as goal

pub returns-then-is : goal.returns-then-is
returns-then-is c = same_alike c.args.first c.args.other.now (c.is.ensures.0 c.if-is.true)
