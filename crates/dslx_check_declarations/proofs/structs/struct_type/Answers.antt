use Rattle.dslx_check_declarations.proofs.OnTypes.{no_struct, some_struct, unknown_struct}
use Rattle.dslx_check_declarations.proofs.structs.struct_type.Goals as goal

pub returns-then-not-is_whole : goal.returns-then-not-is_whole
returns-then-not-is_whole c = no_struct c.may_name_type-is_whole.ensures c.if-not-is_whole.true

pub returns-in-None : goal.returns-in-None
returns-in-None c = unknown_struct c.in_ok-all_there.ensures.is c.in-None.is

pub returns-in_ok-ty-in-Some : goal.returns-in_ok-ty-in-Some
returns-in_ok-ty-in-Some c = some_struct c.in-Some.parts c.may_name_type-is_whole.ensures c.if-not-is_whole.false c.in_ok-all_there.ensures.is c.in-Some.is
    c.in_ok-ty-in-Some.ensures.rows c.in_ok-ty-in-Some.ensures.there c.in_ok-ty-in-Some.ensures.grows c.in_ok-ty-in-Some.ensures.is
