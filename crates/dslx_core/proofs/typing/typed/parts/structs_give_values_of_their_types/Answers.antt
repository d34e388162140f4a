use Rattle.dslx_core.proofs.OnTyping.OnTyped.OfParts.{field_gives}
use Rattle.dslx_core.proofs.OnTyping.OnTyped.OfStructs.{struct_gives}
use Rattle.dslx_core.proofs.typing.typed.parts.structs_give_values_of_their_types.Goals as goal

pub returns-clause-whole : goal.returns-clause-whole
returns-clause-whole c = struct_gives

pub returns-clause-field : goal.returns-clause-field
returns-clause-field c = field_gives
