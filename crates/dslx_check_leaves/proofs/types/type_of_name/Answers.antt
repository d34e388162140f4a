use Rattle.dslx_check_facts.specs.Walks.{shown}
use Rattle.dslx_check_leaves.specs.Named.TypeNames.{name_at}
use Rattle.dslx_check_leaves.proofs.Lemmas.Walking.{if_looked_up}
use Rattle.dslx_check_leaves.proofs.types.type_of_name.Goals as goal

pub returns : goal.returns
returns c =
    if_looked_up c.args.f.now c.args.s.now (shown c.args.w.now) (shown c.type_named.new.w) (λ env. name_at c.args.span c.args.name.now env) c.type_named.result c.type_named.ensures.misses c.type_named.ensures.judged
