use Rattle.std.proofs.lemmas.Result.{IfOk-weaker}
use Rattle.dslx_check_uses.proofs.OnArguments.{no_default, some_default}
use Rattle.dslx_check_uses.proofs.parametrics.default_value.Goals as goal

pub returns-in-None : goal.returns-in-None
returns-in-None c = no_default c.args.ty c.args.default.now c.in-None.is

pub returns-in-Some : goal.returns-in-Some
returns-in-Some c = IfOk-weaker c.default_if_known.result _ _ (λ r g. some_default c.args.ty c.args.default.now _ c.in-Some.is g) c.default_if_known.ensures
