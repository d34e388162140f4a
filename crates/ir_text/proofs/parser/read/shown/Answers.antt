use Rattle.std.proofs.Common.{sym, subst}
use Rattle.base.specs.Grammar.Answer.{EndsWith}
use Rattle.ir_builder.specs.declared.token.rules.generated.kind.TheConstants.{END}
use Rattle.ir_builder.specs.Token.Tokens.{AreIrTokens, IsTokenRefusal}
use Rattle.ir_text.specs.Parser.Reads.{kinds_of}
use Rattle.ir_text.proofs.OnParser.LastToken.{ended}
use Rattle.ir_text.proofs.OnParser.OnePackage.{reading_refused, tokens_refused}
use Rattle.ir_text.proofs.parser.read.shown.Goals as goal

pub read_tokens-requires : goal.read_tokens-requires
read_tokens-requires c = subst (λ ls. EndsWith (kinds_of ls) END) (sym c.deref.ensures.value) (ended c.as_bytes.result.now c.in-Ok.tokens.items c.in-Ok.ensures.found)

pub returns-in-Ok-clause-refused : goal.returns-in-Ok-clause-refused
returns-in-Ok-clause-refused c =
    let cut = subst (λ t. AreIrTokens t c.deref.result.now) c.as_bytes.ensures.value (subst (λ ls. AreIrTokens c.as_bytes.result.now ls) (sym c.deref.ensures.value) c.in-Ok.ensures.found) in
    reading_refused c.args.text.now c.deref.result.now cut c.read_tokens.result c.read_tokens.ensures.refused

pub returns-in-Err-clause-refused : goal.returns-in-Err-clause-refused
returns-in-Err-clause-refused c =
    tokens_refused c.args.text.now c.in-Err.error (subst (λ t. IsTokenRefusal t c.in-Err.error) c.as_bytes.ensures.value c.in-Err.ensures.refused)
