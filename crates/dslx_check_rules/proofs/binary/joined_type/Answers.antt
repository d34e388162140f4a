use Rattle.dslx_check_rules.proofs.OnBinary.{joined_is}
use Rattle.dslx_check_rules.proofs.binary.joined_type.Goals as goal

pub returns-in-Some-clause-is : goal.returns-in-Some-clause-is
returns-in-Some-clause-is c =
    joined_is c.bits.result c.args.types.now c.bits.new.self c.args.left c.args.right c.in-Some.width c.width_of_type-first.result c.width_of_type-second.result
    c.bits.ensures.is c.bits.ensures.grows c.in-Some.ensures.1 c.width_of_type-first.ensures c.width_of_type-second.ensures
