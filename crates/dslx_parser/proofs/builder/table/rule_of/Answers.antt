use Rattle.std.proofs.Common.{◌∙◌, ap}
use Rattle.dslx_parser.specs.Builder.Building.{entry_at}
use Rattle.dslx_parser.proofs.builder.table.rule_of.Goals as goal

pub returns : goal.returns
returns c = c.listed.ensures ∙ ap (λ rules. entry_at rules c.args.production) c.rules_are_those_of_the_table.ensures.same
