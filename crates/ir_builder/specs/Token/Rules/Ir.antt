-- The grammar of IR texts: the rules of docs/ir.grammar, and the end mark.
use Rattle.std.specs.Prelude.{map}
use Rattle.base.specs.Grammar.Syntax.{Syntax}
use Rattle.ir_builder.specs.declared.token.rules.generated.kind.TheConstants.{END}
use Rattle.ir_builder.specs.Token.Rules.Rules.{named_rules}

unfoldable pub ir : Syntax
ir = record { rules = map (λ r. r.rule) named_rules; end = END }
