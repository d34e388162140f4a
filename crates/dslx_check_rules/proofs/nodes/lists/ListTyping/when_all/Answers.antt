use Rattle.std.proofs.Common.{◌∙◌, sym}
use Rattle.dslx_meaning.specs.Lists.{all_some}
use Rattle.dslx_meaning.specs.Rules.TypeEnvs.{types_of}
use Rattle.dslx_check_rules.specs.Interned.{type_if}
use Rattle.dslx_check_rules.proofs.Lemmas.Nodes.Lists.{kept_where_some, nothing_where_none}
use Rattle.dslx_check_rules.proofs.nodes.lists.ListTyping.when_all.Goals as goal

pub returns-then-self-clause-is : goal.returns-then-self-clause-is
returns-then-self-clause-is c = λ names later js all. kept_where_some (all_some (types_of js)) (type_if names later c.args.ty) (sym all.typed ∙ c.if-self.true)

pub returns-else-self-clause-is : goal.returns-else-self-clause-is
returns-else-self-clause-is c = λ names later js all. nothing_where_none (all_some (types_of js)) (type_if names later c.args.ty) (sym all.typed ∙ c.if-self.false)
