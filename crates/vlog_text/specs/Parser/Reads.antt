-- Which tokens read as which module, and how the others are refused.
use Rattle.std.specs.Prelude.{◌≡◌, ℕ, List, map, Some, Result, Ok, Err, slice_get}
use Rattle.base.specs.Grammar.Derivation.{IsSentence}
use Rattle.base.specs.Grammar.Steps.{steps_of}
use Rattle.base.specs.Grammar.Tree.{Forest, IsParseTree}
use Rattle.base.specs.Lists.Fault.{IsFirstFault}
use Rattle.vlog_text.specs.Token.Rules.Verilog.{verilog}
use Rattle.dslx_token.specs.Lexeme.{Lexeme}
use Rattle.xb_span.specs.declared.read_error.ReadError.{ReadError}
use Rattle.xb_span.specs.declared.read_error.ReadError.TheVariants.{Syntax, Broken, Over, OutOfMemory}
use Rattle.vlog_text.specs.Builder.Building.{built, parsed_of}
use Rattle.vlog_text.specs.Builder.Empty.{empty}
use Rattle.vlog_text.specs.declared.builder.parsed.Parsed.{Parsed}

abbrev pub kinds_of : List Lexeme → List ℕ
kinds_of ls = map (λ l. l.kind) ls

-- The tokens are derived by the grammar, and this is the module that is built of them by their derivation.
pub record Reads (ls : List Lexeme) (p : Parsed) : Type 0 where
  pub productions : List ℕ
  pub forest : Forest
  pub derived : IsParseTree verilog productions (kinds_of ls) forest
  pub parsed_is : p ≡ parsed_of (built (steps_of forest) ls empty)

-- The token that begins at this byte is the first one with which no text of the grammar goes on.
pub record IsUnexpectedToken (ls : List Lexeme) (at : ℕ) : Type 0 where
  pub place : ℕ
  pub token : Lexeme
  pub fault : IsFirstFault (IsSentence verilog) (kinds_of ls) place
  pub here : slice_get ls place ≡ Some token
  pub starts : at ≡ token.span.from

-- why the tokens are refused
abbrev pub IsRefusal : List Lexeme → ReadError → Type 0
IsRefusal ls (Syntax at) = IsUnexpectedToken ls at
IsRefusal ls (Broken rule span) = ⊥
IsRefusal ls (Over limit) = ⊥
IsRefusal ls OutOfMemory = Unit {0}

-- what the tokens give, but for want of memory: their module, or why they are refused
pub data IsParsing (ls : List Lexeme) : Result Parsed ReadError → Type 0 where
  whole : (p : Parsed) → Reads ls p → IsParsing ls (Ok p)
  misplaced : (at : ℕ) → IsUnexpectedToken ls at → IsParsing ls (Err (Syntax at))
