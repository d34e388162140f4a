-- The grammar of the Verilog subset: the rules of docs/verilog.grammar, and the end mark.
use Rattle.std.specs.Prelude.{map}
use Rattle.base.specs.Grammar.Syntax.{Syntax}
use Rattle.vlog_text.specs.declared.token.rules.generated.kind.TheConstants.{END}
use Rattle.vlog_text.specs.Token.Rules.Rules.{named_rules}

unfoldable pub verilog : Syntax
verilog = record { rules = map (λ r. r.rule) named_rules; end = END }
