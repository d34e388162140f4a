use Rattle.std.proofs.Common.{◌∙◌}
use Rattle.dslx_check_declarations.proofs.OnMembers.{no_member, no_type, some_member}
use Rattle.dslx_check_declarations.proofs.enums.value_of_member.Goals as goal

pub returns-in-None : goal.returns-in-None
returns-in-None c = no_member c.args.is_type c.args.name.now c.args.value.now c.in-None.is

pub returns-in_ok-name-in-Some : goal.returns-in_ok-name-in-Some
returns-in_ok-name-in-Some c = c.enum_member.ensures ∙ some_member c.args.is_type _ c.args.name.now c.args.value.now c.in-Some.value c.if-is_type.true c.in-Some.is c.in_ok-name-in-Some.ensures

pub returns-else-is_type : goal.returns-else-is_type
returns-else-is_type c = no_type c.args.is_type c.args.name.now c.args.value.now c.if-is_type.false
