-- The bits that the one operand of a builtin is.
use Rattle.std.specs.Prelude.{List, [], ◌∷◌, Option, None}
use Rattle.dslx_meaning.specs.Values.{bits_of}
use Rattle.dslx_meaning.specs.declared.value.DslxValue.{DslxValue}
use Rattle.dslx_meaning.specs.declared.value.SignedWord.{SignedWord}

abbrev pub only_operand : List DslxValue → Option SignedWord
only_operand (v ∷ []) = bits_of v
only_operand _ = None
