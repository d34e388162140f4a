use Rattle.dslx_check.proofs.OnSettled.OnDeclared.{declarations, groups_see_types}
use Rattle.dslx_check.proofs.settled.laws.declarations_settle.Goals as goal

pub returns : goal.returns
returns c = declarations c.looping_items_mean_nothing.ensures.member (groups_see_types c.a_group_sees_types_alone.ensures.of_function c.a_group_sees_types_alone.ensures.of_proc)
