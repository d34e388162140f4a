use Rattle.dslx_check_judge.proofs.OnItems.OnItems.{alias_named}
use Rattle.dslx_check_judge.proofs.items.items.alias_seen.Goals as goal

pub returns : goal.returns
returns c = alias_named c.args.alias.now c.new-s.ensures c.in_ok-ty.ensures c.unless_broken-named.ensures.is c.unless_broken-named.ensures.there c.of_type.ensures.faults c.of_type.ensures.named c.of_type.ensures.no_value c.of_type.ensures.no_type
