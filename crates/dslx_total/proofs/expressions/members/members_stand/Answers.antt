use Rattle.dslx_total.proofs.OnExpressions.OfMembers.{members_are_there}
use Rattle.dslx_total.proofs.expressions.members.members_stand.Goals as goal

pub returns : goal.returns
returns c = members_are_there
