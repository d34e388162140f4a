-- Which tokens are those of which package, and how the others are refused.
use Rattle.std.specs.Prelude.{◌≡◌, ◌<◌, ◌≤◌, ℕ, List, map, None, Some, slice_get}
use Rattle.base.specs.Grammar.Derivation.{IsSentence}
use Rattle.base.specs.Grammar.Steps.{steps_of}
use Rattle.base.specs.Grammar.Tree.{Forest, IsParseTree}
use Rattle.base.specs.Lists.Fault.{IsFirstFault}
use Rattle.xb_span.specs.Nesting.Nesting.{first_past}
use Rattle.xb_span.specs.declared.nesting.bracket_class.BracketClass.{BracketClass}
use Rattle.ir_builder.specs.Token.Rules.Ir.{ir}
use Rattle.dslx_token.specs.Lexeme.{Lexeme}
use Rattle.xb_span.specs.declared.limit.Limit.{Limit}
use Rattle.xb_span.specs.declared.limit.What.TheVariants.{Nesting}
use Rattle.xb_span.specs.declared.read_error.ReadError.{ReadError}
use Rattle.xb_span.specs.declared.read_error.ReadError.TheVariants.{Syntax, Broken, Over, OutOfMemory}
use Rattle.ir_builder.specs.declared.builder.Spanned.{Spanned}
use Rattle.ir_builder.specs.Building.{built, spanned_of}
use Rattle.ir_builder.specs.Empty.{empty}
use Rattle.ir_text.specs.Parser.BracketClasses.{role_of}

abbrev pub kinds_of : List Lexeme → List ℕ
kinds_of ls = map (λ l. l.kind) ls

-- what each token does to the nesting of those behind it
abbrev pub bracket_classes_of : List Lexeme → List BracketClass
bracket_classes_of ls = map (λ l. role_of l.kind) ls

-- The tokens are derived by the grammar, and this is what is built of them by their derivation.
pub record Reads (ls : List Lexeme) (spanned : Spanned) : Type 0 where
  pub productions : List ℕ
  pub forest : Forest
  pub derived : IsParseTree ir productions (kinds_of ls) forest
  pub spanned_is : spanned ≡ spanned_of (built (steps_of forest) ls empty)

-- No token is nested deeper than the limit.
abbrev pub AreShallow : List Lexeme → Type 0
AreShallow ls = first_past (bracket_classes_of ls) ≡ None

-- This is the index of the first token with which no text of the grammar goes on.
abbrev pub LeaveGrammarAt : List Lexeme → ℕ → Type 0
LeaveGrammarAt ls place = IsFirstFault (IsSentence ir) (kinds_of ls) place

-- The token there begins at this byte, with no text of the grammar going on, and none before it is nested too deep.
pub record IsMisplaced (ls : List Lexeme) (at : ℕ) : Type 0 where
  pub place : ℕ
  pub token : Lexeme
  pub fault : LeaveGrammarAt ls place
  pub here : slice_get ls place ≡ Some token
  pub starts : at ≡ token.span.from
  pub first : (deep : ℕ) → first_past (bracket_classes_of ls) ≡ Some deep → place ≤ deep

-- Some token is nested too deep, and each token before it and it itself may stand there.
pub record AreDeep (ls : List Lexeme) (limit : Limit) : Type 0 where
  pub deep : ℕ
  pub passed : first_past (bracket_classes_of ls) ≡ Some deep
  pub limit_is : limit ≡ record { what = Nesting; found = 129; most = 128 }
  pub first : (place : ℕ) → LeaveGrammarAt ls place → deep < place

-- why tokens are refused
abbrev pub IsRefusal : List Lexeme → ReadError → Type 0
IsRefusal ls (Syntax at) = IsMisplaced ls at
IsRefusal ls (Broken rule span) = ⊥
IsRefusal ls (Over limit) = AreDeep ls limit
IsRefusal ls OutOfMemory = Unit {0}
