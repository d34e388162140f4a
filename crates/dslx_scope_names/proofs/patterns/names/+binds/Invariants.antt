use Rattle.std.proofs.Common.{◌≡◌, drop, map}
use Rattle.std.specs.List.{list_all}
use Rattle.dslx_meaning.specs.Items.{meanings_of}
use Rattle.dslx_core.specs.Lowering.Patterns.{names_of_all}
use Rattle.dslx_core.specs.Lowering.Steps.{lower_pattern_of_text}
use Rattle.dslx_scope_names.proofs.patterns.names.+binds.Given as goal

abbrev pub invariant-binds_nothing_new-patterns : goal.invariant-binds_nothing_new-patterns
invariant-binds_nothing_new-patterns l =
    list_all (meanings_of l.text).is_constant (names_of_all (map lower_pattern_of_text (drop l.pattern-index l.patterns)))
    ≡ list_all (meanings_of l.text).is_constant (names_of_all (map lower_pattern_of_text l.patterns))
