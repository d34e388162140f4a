use Rattle.std.proofs.Common.{◌≡◌, drop, ◌+◌}
use Rattle.std.specs.Option.{option_map}
use Rattle.dslx_meaning.specs.Lists.{index_in}
use Rattle.dslx_core_exprs.proofs.aggregates.fields.index_of.Given as goal

abbrev pub invariant-names : goal.invariant-names
invariant-names l = option_map (λ k. l.i + k) (index_in l.name (drop l.i l.names)) ≡ index_in l.name l.names
