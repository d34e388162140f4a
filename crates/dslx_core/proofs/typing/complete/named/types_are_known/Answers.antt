use Rattle.dslx_core.proofs.OnTyping.OnComplete.OfConstants.{alias_has_type}
use Rattle.dslx_core.proofs.OnTyping.OnComplete.OfStructs.{struct_has_type}
use Rattle.dslx_core.proofs.OnTyping.OnComplete.OfEnums.{enum_has_type}
use Rattle.dslx_core.proofs.typing.complete.named.types_are_known.Goals as goal

pub returns-clause-of_alias : goal.returns-clause-of_alias
returns-clause-of_alias c = alias_has_type

pub returns-clause-of_struct : goal.returns-clause-of_struct
returns-clause-of_struct c = struct_has_type

pub returns-clause-of_enum : goal.returns-clause-of_enum
returns-clause-of_enum c = enum_has_type
