use Rattle.std.proofs.lemmas.Result.{IfOk-weaker}
use Rattle.dslx_check_uses.proofs.OnArguments.{known_default, unknown_default}
use Rattle.dslx_check_uses.proofs.parametrics.default_if_known.Goals as goal

pub returns-then-are_known : goal.returns-then-are_known
returns-then-are_known c = IfOk-weaker c.default_there.result _ _ (λ r g. known_default c.args.ty c.args.at c.if-are_known.true g) c.default_there.ensures

pub returns-else-are_known : goal.returns-else-are_known
returns-else-are_known c = unknown_default c.args.ty c.args.at c.if-are_known.false
