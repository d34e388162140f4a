use Rattle.std.proofs.Common.{refl}
use Rattle.std.specs.Option.{option_copied}
use Rattle.dslx_check_tasks.proofs.OnDeclarations.OnForeign.{gives_default, tree_as}
use Rattle.dslx_check_tasks.proofs.declarations.parametrics.default_seen.Goals as goal

pub returns : goal.returns
returns c = gives_default (option_copied c.args.next) (tree_as c.default_of.ensures c.in_ok-typing.ensures) c.in_ok-typing-2.ensures.0 c.in_ok-typing-2.ensures.1 c.in_ok-typing-2.ensures.2 refl refl
