use Rattle.std.proofs.Common.{◌∙◌, ap}
use Rattle.std.specs.Option.{option_copied}
use Rattle.std.proofs.lemmas.Result.{on_ok_weaker}
use Rattle.dslx_check_declarations.proofs.OnScopes.{binds_none, binds_some}
use Rattle.dslx_check_declarations.proofs.parametrics.bind_if.Goals as goal

pub returns-in-None : goal.returns-in-None
returns-in-None c = binds_none _ _ _ _ _ (ap option_copied c.in-None.is)

pub returns-in-Some : goal.returns-in-Some
returns-in-Some c = on_ok_weaker c.bind_value.result (binds_some _ _ _ _ _ _ _ _ (ap option_copied c.in-Some.is)) c.bind_value.ensures
