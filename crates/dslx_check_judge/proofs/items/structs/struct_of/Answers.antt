use Rattle.std.proofs.Common.{◌∙◌}
use Rattle.dslx_check_judge.proofs.OnItems.OnStructs.{struct_parts}
use Rattle.dslx_check_judge.proofs.items.structs.struct_of.Goals as goal

pub returns : goal.returns
returns c = struct_parts c.in_ok-ty.ensures.finds c.in_ok-ty.ensures.postponed c.type_limits-limits.ensures c.and.ensures c.of_type.ensures.faults c.of_type.ensures.named c.of_type.ensures.no_value c.of_type.ensures.no_type
