use Rattle.std.proofs.Common.{[]}
use Rattle.dslx_meaning.specs.Rules.Mentions.{mentioned}
use Rattle.dslx_core.proofs.OnTyping.OnLaws.Free.{value_depends, bound_alike}
use Rattle.dslx_core.proofs.typing.laws.a_value_depends_on_free_names.Goals as goal

pub returns : goal.returns
returns c = λ e items bound others p h. value_depends e [] _ _ tt (bound_alike items bound others p (mentioned e []) h)
