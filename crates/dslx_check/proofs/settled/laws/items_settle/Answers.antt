use Rattle.dslx_check.proofs.OnSettled.OnItems.{items}
use Rattle.dslx_check.proofs.OnSettled.OnSizes.{functions}
use Rattle.dslx_check.proofs.settled.laws.items_settle.Goals as goal

pub returns-clause-items : goal.returns-clause-items
returns-clause-items c = items

pub returns-clause-functions : goal.returns-clause-functions
returns-clause-functions c = functions c.looping_items_mean_nothing.ensures.constant c.looping_items_mean_nothing.ensures.member
