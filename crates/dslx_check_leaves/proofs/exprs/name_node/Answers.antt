use Rattle.dslx_meaning.specs.Rules.NameRules.{name_typing}
use Rattle.dslx_check_facts.specs.Walks.{shown}
use Rattle.dslx_check_leaves.proofs.Lemmas.Walking.{if_looked_up}
use Rattle.dslx_check_leaves.proofs.exprs.name_node.Goals as goal

pub returns : goal.returns
returns c =
    if_looked_up c.args.f.now c.args.s.now (shown c.args.w.now) (shown c.name_typing.new.w) (λ env. name_typing c.args.span env c.args.name.now) c.name_typing.result c.name_typing.ensures.misses c.name_typing.ensures.judged
