-- What a reader answers.
use Rattle.std.specs.Prelude.{◌≡◌, ℕ, ◌-◌, List, length, Result, Ok, Err, Some, slice_get, codes}
use Rattle.base.specs.declared.grammar.parser.Fault.{Fault}
use Rattle.base.specs.declared.grammar.parser.ParseError.{ParseError}
use Rattle.base.specs.declared.grammar.parser.ParseError.TheVariants as errors

-- The fact holds of the fault, where there is one.
abbrev pub IfFault : {T : Type 0} → Result T ParseError → (Fault → Type 0) → Type 0
IfFault (Ok x) P = Unit {0}
IfFault (Err errors.OutOfMemory) P = Unit {0}
IfFault (Err (errors.Fault fault)) P = P fault

-- The last one of the list is this.
abbrev pub EndsWith : List ℕ → ℕ → Type 0
EndsWith xs x = slice_get xs (length xs - 1) ≡ Some x

-- what an error is printed as
abbrev pub error_text : ParseError → List ℕ
error_text errors.OutOfMemory = codes "out of memory"
error_text (errors.Fault fault) = codes "no sentence of the grammar"
