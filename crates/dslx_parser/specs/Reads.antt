-- Which tokens read as which tree, and how the others are refused.
use Rattle.std.specs.Prelude.{◌≡◌, ◌⊎◌, ℕ, List, map, take, None, Some, Result, Ok, Err, slice_get}
use Rattle.base.specs.Grammar.Derivation.{IsBeginning, IsDerivation, IsSentence}
use Rattle.base.specs.Lists.Fault.{IsFirstFault}
use Rattle.xb_span.specs.Nesting.Nesting.{first_past}
use Rattle.dslx_token.specs.Rules.Dslx.{dslx}
use Rattle.dslx_token.specs.BracketClasses.BracketClasses.{bracket_classes_of}
use Rattle.dslx_tree.specs.declared.item.Module.{Module}
use Rattle.dslx_token.specs.Lexeme.{Lexeme}
use Rattle.dslx_token.specs.Refusal as token_refusal
use Rattle.dslx_token.specs.Tokens.{IsFirstOdd, Tokens}
use Rattle.xb_span.specs.declared.limit.Limit.{Limit}
use Rattle.xb_span.specs.declared.limit.What.TheVariants.{Nesting}
use Rattle.xb_span.specs.declared.read_error.ReadError.{ReadError}
use Rattle.xb_span.specs.declared.read_error.ReadError.TheVariants.{Syntax, Broken, Over, OutOfMemory}
use Rattle.dslx_parser.specs.Syntax.Trees.{IsTextOf}

abbrev pub kinds_of : List Lexeme → List ℕ
kinds_of ls = map (λ l. l.kind) ls

-- The tokens are a text of the grammar, and this is its tree.
abbrev pub Reads : List Lexeme → Module → Type 0
Reads ls m = IsTextOf ls m

-- This is the index of the first token with which no text of the grammar goes on.
abbrev pub FaultsAt : List Lexeme → ℕ → Type 0
FaultsAt ls place = IsFirstFault (IsSentence dslx) (kinds_of ls) place

-- the kinds of the tokens before an index
abbrev pub before : ℕ → List Lexeme → List ℕ
before place ls = take place (kinds_of ls)

-- No token is nested deeper than the limit, of all of them, or of those before the first one with which no text goes on.
pub record NestsWithin (ls : List Lexeme) : Type 0 where
  pub in_text : (ps : List ℕ) → IsDerivation dslx ps (kinds_of ls) → first_past (bracket_classes_of ps (kinds_of ls)) ≡ None
  pub before_fault : (place : ℕ) (ps : List ℕ) → FaultsAt ls place → IsBeginning dslx ps (before place ls) → first_past (bracket_classes_of ps (before place ls)) ≡ None

-- Some token is nested too deep, and may stand there, as all those before it.
pub data HasDeep (ls : List Lexeme) : Type 0 where
  deep_in_text : (ps : List ℕ) (deep : ℕ) → IsDerivation dslx ps (kinds_of ls) → first_past (bracket_classes_of ps (kinds_of ls)) ≡ Some deep → HasDeep ls
  deep_before_fault : (place : ℕ) (ps : List ℕ) (deep : ℕ) → FaultsAt ls place → IsBeginning dslx ps (before place ls) → first_past (bracket_classes_of ps (before place ls)) ≡ Some deep → HasDeep ls

-- The token there begins at this byte, with no text of the grammar going on, and none before it is nested too deep.
pub record HasFaultAt (ls : List Lexeme) (at : ℕ) : Type 0 where
  pub place : ℕ
  pub token : Lexeme
  pub fault : FaultsAt ls place
  pub here : slice_get ls place ≡ Some token
  pub starts : at ≡ token.span.from
  pub within : NestsWithin ls

-- Some token is nested too deep.
pub record HasTooDeep (ls : List Lexeme) (limit : Limit) : Type 0 where
  pub deep : HasDeep ls
  pub limit_is : limit ≡ record { what = Nesting; found = 129; most = 128 }

-- why the tokens are refused
abbrev pub IsRefusal : List Lexeme → ReadError → Type 0
IsRefusal ls (Syntax at) = HasFaultAt ls at
IsRefusal ls (Broken rule span) = ⊥
IsRefusal ls (Over limit) = HasTooDeep ls limit
IsRefusal ls OutOfMemory = Unit {0}

-- what the tokens give, but for want of memory: their tree, or why they are refused
pub data TokensGive (ls : List Lexeme) : Result Module ReadError → Type 0 where
  tree : (m : Module) → Reads ls m → NestsWithin ls → TokensGive ls (Ok m)
  misplaced : (at : ℕ) → HasFaultAt ls at → TokensGive ls (Err (Syntax at))
  too_deep : (limit : Limit) → HasTooDeep ls limit → TokensGive ls (Err (Over limit))

-- what a text gives, but for want of memory
pub data TextGives (text : List ℕ) : Result Module ReadError → Type 0 where
  no_token : (at : ℕ) → IsFirstOdd text at → TextGives text (Err (Syntax at))
  tokens : (ls : List Lexeme) (r : Result Module ReadError) → Tokens text ls → TokensGive ls r → TextGives text r

-- The text's tokens read as this tree, and none of them is nested deeper than the limit.
pub record TextReads (text : List ℕ) (m : Module) : Type 0 where
  pub tokens : List Lexeme
  pub cut : Tokens text tokens
  pub reads : Reads tokens m
  pub within : NestsWithin tokens

-- why the tokens of a text are refused
pub record IsTokensRefusal (text : List ℕ) (e : ReadError) : Type 0 where
  pub tokens : List Lexeme
  pub cut : Tokens text tokens
  pub refusal : IsRefusal tokens e

-- why a text is refused: for a character that begins no token, else for its tokens
abbrev pub IsTextRefusal : List ℕ → ReadError → Type 0
IsTextRefusal text e = token_refusal.IsRefusal text e ⊎ IsTokensRefusal text e
