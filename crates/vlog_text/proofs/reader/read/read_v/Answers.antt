use Rattle.std.proofs.Common.{◌∙◌, subst, sym}
use Rattle.vlog_text.specs.Token.Tokens.{HasTokens, IsBroken}
use Rattle.vlog_text.proofs.OnReader.OneModule.{refused_tokens}
use Rattle.vlog_text.proofs.reader.read.read_v.Goals as goal

pub parsed-requires : goal.parsed-requires
parsed-requires c =
    subst (λ ls. HasTokens c.args.text.now c.args.text.now ls) (sym c.deref.ensures.value)
    (subst (λ text. HasTokens text text c.in-Ok.tokens.items) c.as_bytes.ensures.value c.in-Ok.ensures.found)

pub returns-in-Err-clause-refused : goal.returns-in-Err-clause-refused
returns-in-Err-clause-refused c = refused_tokens c.args.text.now c.in-Err.error (subst (λ text. IsBroken text c.in-Err.error) c.as_bytes.ensures.value c.in-Err.ensures.refused)
