use Rattle.std.proofs.Common.{sym, subst}
use Rattle.base.specs.Grammar.Answer.{EndsWith}
use Rattle.vlog_text.specs.declared.token.rules.generated.kind.TheConstants.{END}
use Rattle.vlog_text.proofs.parser.reader.judged.Goals as goal

pub parse-requires : goal.parse-requires
parse-requires c = subst (λ ks. EndsWith ks END) (sym c.requires.same) c.requires.ended
