use Rattle.dslx_check_judge.proofs.OnItems.OnEnums.{named_if}
use Rattle.dslx_check_judge.proofs.items.enums.enum_of.Goals as goal

pub returns : goal.returns
returns c = named_if c.args.name.now c.args.values.now c.enum_of_type.result c.in_ok-ty.ensures.finds c.in_ok-ty.ensures.postponed c.enum_of_type.ensures.named c.enum_of_type.ensures.nothing c.enum_of_type.ensures.members
