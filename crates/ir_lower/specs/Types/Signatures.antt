-- What functions give, by the signatures that code holds.
use Rattle.std.specs.Prelude.{List, map}
use Rattle.dslx_core.specs.Types.Typing.{FunctionTypes}
use Rattle.dslx_core.specs.Types.Designs.{FunctionSignature, no_types, types_from}
use Rattle.ir_lower.specs.declared.types.signature.Signature.{Signature}

abbrev pub signature_of : Signature → FunctionSignature
signature_of s = record { arguments = s.arguments; result = s.result }

abbrev pub signatures_of : List Signature → List FunctionSignature
signatures_of ss = map signature_of ss

-- what functions of these signatures give
abbrev pub call_types : List Signature → FunctionTypes
call_types ss = types_from 0 (signatures_of ss) no_types
