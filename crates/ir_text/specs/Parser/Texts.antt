-- Which texts are which packages, and how others are refused.
use Rattle.std.specs.Prelude.{◌≡◌, ℕ, List, None, Some, Result, Ok, Err, option_map}
use Rattle.dslx_token.specs.Lexeme.{Lexeme}
use Rattle.ir_builder.specs.Token.Tokens.{AreIrTokens, IsCutOffAt}
use Rattle.ir_tree.specs.declared.package.Package.{Package}
use Rattle.ir_tree.specs.Rules.Verified.{first_fault}
use Rattle.xb_span.specs.Fault.{error_of}
use Rattle.xb_span.specs.declared.limit.Limit.{Limit}
use Rattle.xb_span.specs.declared.read_error.ReadError.{ReadError}
use Rattle.xb_span.specs.declared.read_error.ReadError.TheVariants.{Syntax, Over}
use Rattle.ir_builder.specs.declared.builder.Spanned.{Spanned}
use Rattle.ir_text.specs.Parser.Reads.{AreDeep, AreShallow, IsMisplaced, Reads}

-- the text is this package, whose lines stand there; it may break rules and pass limits
pub record IsIrTextOf (text : List ℕ) (spanned : Spanned) : Type 0 where
  pub tokens : List Lexeme
  pub cut : AreIrTokens text tokens
  pub reads : Reads tokens spanned
  pub shallow : AreShallow tokens

-- What a text gives, but for want of memory: its package, or the one cause of its refusal.
pub data GivesPackage (text : List ℕ) : Result Package ReadError → Type 0 where
  -- no rule is broken, and no limit is passed
  accepted : (spanned : Spanned) → IsIrTextOf text spanned → first_fault spanned.tree spanned.line_spans ≡ None → GivesPackage text (Ok spanned.tree)
  -- a character begins no token
  cut_off : (at : ℕ) → IsCutOffAt text text at → GivesPackage text (Err (Syntax at))
  -- a token stands where no text of the grammar goes on so
  misplaced : (tokens : List Lexeme) (at : ℕ) → AreIrTokens text tokens → IsMisplaced tokens at → GivesPackage text (Err (Syntax at))
  -- a token is nested too deep
  too_deep : (tokens : List Lexeme) (limit : Limit) → AreIrTokens text tokens → AreDeep tokens limit → GivesPackage text (Err (Over limit))
  -- the first rule that is broken, or limit that is passed
  faulty : (spanned : Spanned) (error : ReadError) → IsIrTextOf text spanned → option_map error_of (first_fault spanned.tree spanned.line_spans) ≡ Some error → GivesPackage text (Err error)
