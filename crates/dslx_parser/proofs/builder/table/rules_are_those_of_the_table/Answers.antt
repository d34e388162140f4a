use Rattle.std.proofs.Common.{refl}
use Rattle.dslx_parser.specs.Builder.Table.{table}
use Rattle.dslx_parser.proofs.builder.table.rules_are_those_of_the_table.Goals as goal

pub returns-clause-same : goal.returns-clause-same
unfolding table
returns-clause-same c = refl

pub returns-clause-in_order : goal.returns-clause-in_order
unfolding table
returns-clause-in_order c = refl
