use Rattle.dslx_check_declarations.proofs.OnTypes.{no_enum, some_enum, unknown_enum}
use Rattle.dslx_check_declarations.proofs.enums.type_of_enum.Goals as goal

pub returns-then-not-is_whole : goal.returns-then-not-is_whole
returns-then-not-is_whole c = no_enum c.may_name_type-is_whole.ensures c.if-not-is_whole.true

pub returns-in-None : goal.returns-in-None
returns-in-None c = unknown_enum c.kind_of.ensures c.in-None.is

pub returns-in_ok-ty-in-Some : goal.returns-in_ok-ty-in-Some
returns-in_ok-ty-in-Some c = some_enum c.in-Some.kind c.may_name_type-is_whole.ensures c.if-not-is_whole.false c.kind_of.ensures c.in-Some.is
    c.in_ok-ty-in-Some.ensures.rows c.in_ok-ty-in-Some.ensures.there c.in_ok-ty-in-Some.ensures.grows c.in_ok-ty-in-Some.ensures.is
