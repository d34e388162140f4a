use Rattle.std.proofs.Common.{◌≡◌, ◌++◌}
use Rattle.dslx_check_facts.specs.Keys.{list_or_none}
use Rattle.dslx_check_facts.specs.Walks.{shown}
use Rattle.dslx_check_declarations.proofs.parts.values_of.Given as goal

abbrev pub invariant-values : goal.invariant-values
invariant-values l = l.values.items ++ list_or_none (shown l.w).prefixes l.number ≡ list_or_none (shown l.w).prefixes l.prefix

abbrev pub decreases-values : goal.decreases-values
decreases-values l = l.number
