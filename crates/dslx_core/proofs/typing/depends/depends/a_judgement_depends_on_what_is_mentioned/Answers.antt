use Rattle.dslx_meaning.specs.Rules.Mentions.{mentioned, mentioned_in_block, mentioned_in_type}
use Rattle.dslx_core.proofs.OnTyping.OnDepends.Scopes.{sees_from}
use Rattle.dslx_core.proofs.OnTyping.OnDepends.Joined.{block_of_text_alike, expression_alike, written_type_alike}
use Rattle.dslx_core.proofs.typing.depends.depends.a_judgement_depends_on_what_is_mentioned.Goals as goal

pub returns-clause-expression : goal.returns-clause-expression
returns-clause-expression c P e bound on_top context other h = (expression_alike P e).typing bound on_top context other (sees_from P bound context other (mentioned e bound) h)

pub returns-clause-block : goal.returns-clause-block
returns-clause-block c P b bound on_top context other h = block_of_text_alike P b bound on_top context other (sees_from P bound context other (mentioned_in_block b bound) h)

pub returns-clause-written : goal.returns-clause-written
returns-clause-written c P t bound context other h = written_type_alike P t bound context other (sees_from P bound context other (mentioned_in_type t bound) h)
