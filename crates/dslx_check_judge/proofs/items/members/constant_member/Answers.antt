use Rattle.dslx_check_judge.proofs.OnItems.OnMembers as on
use Rattle.dslx_check_judge.proofs.Lemmas.Items.OnTrees.{constant_walked}
use Rattle.dslx_check_judge.proofs.items.members.constant_member.Goals as goal

pub returns : goal.returns
returns c = on.constant_member c.args.base c.args.e.now (constant_walked c.args.e.now c.in_ok-typing.ensures) c.wanted_faults-wrong.ensures c.is_some.ensures c.is_empty.ensures c.both-is_fine.ensures c.and.ensures c.if_fine.ensures
