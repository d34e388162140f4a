use Rattle.std.proofs.Common.{reverse, take}
use Rattle.dslx_check_facts.specs.Walks.{shown}
use Rattle.dslx_check_declarations.specs.Scopes.{BindsAll, declaring}
use Rattle.dslx_check_declarations.proofs.parts.behind_values.Given as goal

abbrev pub invariant-values : goal.invariant-values
invariant-values l = BindsAll l.f (declaring l.item l.is_declaring) l.s (shown l.fn.w) (shown l.w) (take l.i l.parametrics) (take l.i (reverse l.values))
