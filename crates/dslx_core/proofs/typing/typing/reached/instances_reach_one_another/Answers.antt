use Rattle.std.proofs.Common.{◌*◌, [], length}
use Rattle.dslx_meaning.specs.Rules.ModuleRules.{add_new, outside_instances, own_instances}
use Rattle.dslx_core.proofs.OnTyping.OnTyping.Closed.{outside_reached, reaching_ends}
use Rattle.dslx_core.proofs.typing.typing.reached.instances_reach_one_another.Goals as goal

pub returns-clause-any : goal.returns-clause-any
returns-clause-any c = reaching_ends

pub returns-clause-text : goal.returns-clause-text
returns-clause-text c = λ m top. reaching_ends m (2 * length m.items) (add_new (add_new [] (own_instances m.items)) (outside_instances m top).reached)

pub returns-clause-outside : goal.returns-clause-outside
returns-clause-outside c = outside_reached
