-- The grammar of DSLX: the rules of docs/dslx.grammar, and the end mark.
use Rattle.std.specs.Prelude.{map}
use Rattle.base.specs.Grammar.Syntax.{Syntax}
use Rattle.dslx_token.specs.declared.rules.generated.kind.TheConstants.{END}
use Rattle.dslx_token.specs.Rules.Rules.{named_rules}

unfoldable pub dslx : Syntax
dslx = record { rules = map (λ r. r.rule) named_rules; end = END }
