-- What a token of an IR text does to the nesting of those behind it: only open brackets count.
use Rattle.std.specs.Prelude.{◌==◌, ◌||◌, ℕ, if◌then◌else◌}
use Rattle.ir_builder.specs.declared.token.rules.generated.kind.TheConstants.{LBRACE, LBRACKET, LPAREN, RBRACE, RBRACKET, RPAREN}
use Rattle.xb_span.specs.declared.nesting.bracket_class.BracketClass.{BracketClass}
use Rattle.xb_span.specs.declared.nesting.bracket_class.BracketClass.TheVariants.{Open, Close, Plain}

abbrev pub role_of : ℕ → BracketClass
role_of kind =
    if (kind == LPAREN) || ((kind == LBRACKET) || (kind == LBRACE)) then Open
    else if (kind == RPAREN) || ((kind == RBRACKET) || (kind == RBRACE)) then Close
    else Plain
