-- What a value text says at a type.
use Rattle.std.specs.Prelude.{ℕ, List}
use Rattle.xb_value.specs.declared.token.Token.{Token}
use Rattle.xb_value.specs.declared.ty.Ty.{Ty}
use Rattle.xb_value.specs.declared.value.Value.{Value}
use Rattle.xb_value.specs.Form.{Spells}
use Rattle.xb_value.specs.Shape.{Says}
use Rattle.xb_value.specs.Typing.{IsOfType}

-- the text is a value text, whose numbers and brackets are those of the value, which is of the type
abbrev pub Reads : List ℕ → Ty → Value → Type 0
Reads text t v = (ts : List Token) × Spells text ts × IsOfType t v × Says ts v
