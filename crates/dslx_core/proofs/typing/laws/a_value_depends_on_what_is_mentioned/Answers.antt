use Rattle.std.proofs.Common.{[]}
use Rattle.dslx_core.proofs.OnTyping.OnLaws.Free.{value_depends}
use Rattle.dslx_core.proofs.typing.laws.a_value_depends_on_what_is_mentioned.Goals as goal

pub returns : goal.returns
returns c = λ e a b h. value_depends e [] a b tt h
