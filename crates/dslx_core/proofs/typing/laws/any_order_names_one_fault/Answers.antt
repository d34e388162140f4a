use Rattle.dslx_core.proofs.OnTyping.OnLaws.Orders.{one_fault}
use Rattle.dslx_core.proofs.typing.laws.any_order_names_one_fault.Goals as goal

pub returns : goal.returns
returns c = one_fault
