use Rattle.std.proofs.Common.{refl}
use Rattle.std.specs.Option.{option_copied}
use Rattle.dslx_check_tasks.proofs.OnDeclarations.OnForeign.{gives_parameter}
use Rattle.dslx_check_tasks.proofs.declarations.parametrics.parameter_seen.Goals as goal

pub returns : goal.returns
returns c = gives_parameter (option_copied c.args.next) c.in_ok-typing.ensures c.in_ok-seen.ensures.0 c.in_ok-seen.ensures.1 c.in_ok-seen.ensures.2 refl
