-- What a Verilog text gives: its module, or why it is refused. First come all tokens, then the grammar, then the rules and
-- limits.
use Rattle.std.specs.Prelude.{ℕ, List, Some, None, Result, Ok, Err}
use Rattle.xb_span.specs.Fault.{error_of}
use Rattle.xb_span.specs.declared.fault.Fault.{Fault}
use Rattle.xb_span.specs.declared.read_error.ReadError.{ReadError}
use Rattle.xb_span.specs.declared.read_error.ReadError.TheVariants.{Syntax, Broken, Over, OutOfMemory}
use Rattle.dslx_token.specs.Lexeme.{Lexeme}
use Rattle.vlog_tree.specs.declared.module.VModule.{VModule}
use Rattle.vlog_text.specs.Token.Tokens.{BreaksAt, HasTokens}
use Rattle.vlog_text.specs.declared.builder.parsed.Parsed.{Parsed}
use Rattle.vlog_text.specs.Parser.Reads.{IsParsing}
use Rattle.vlog_tree.specs.Verifier.Verified.{IsVerdict}

pub data GivesModule (text : List ℕ) : Result VModule ReadError → Type 0 where
  -- some character begins no token
  no_token : (at : ℕ) → BreaksAt text text at → GivesModule text (Err (Syntax at))
  -- some token may not stand where it does
  no_sentence : (ls : List Lexeme) (error : ReadError) → HasTokens text text ls → IsParsing ls (Err error) → GivesModule text (Err error)
  -- a rule is broken or a limit passed
  faulty : (ls : List Lexeme) (p : Parsed) (fault : Fault) → HasTokens text text ls → IsParsing ls (Ok p) → IsVerdict p.design p.part_spans (Some fault) → GivesModule text (Err (error_of fault))
  sound : (ls : List Lexeme) (p : Parsed) → HasTokens text text ls → IsParsing ls (Ok p) → IsVerdict p.design p.part_spans None → GivesModule text (Ok p.design)

-- why a text is refused
abbrev pub IsRefusal : List ℕ → ReadError → Type 0
IsRefusal text OutOfMemory = Unit {0}
IsRefusal text error = GivesModule text (Err error)
