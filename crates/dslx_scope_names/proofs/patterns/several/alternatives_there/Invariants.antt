use Rattle.std.proofs.Common.{◌≡◌, ◌++◌, List, Some, drop, map}
use Rattle.dslx_meaning.specs.Lists.{and_then}
use Rattle.dslx_core.specs.declared.expr.Shape.{Shape}
use Rattle.dslx_core.specs.Lowering.Patterns.{alternatives_shaped}
use Rattle.dslx_core.specs.Lowering.Steps.{lower_pattern_of_text}
use Rattle.dslx_core.specs.Machines.Machine.Callees.{CalleesByName}
use Rattle.dslx_scope_names.specs.Names.Seen.{scope_with}
use Rattle.dslx_scope_names.proofs.patterns.several.alternatives_there.Given as goal

-- those that are left complete the whole
abbrev pub invariant-patterns : goal.invariant-patterns
invariant-patterns l = (callee : CalleesByName) → and_then (alternatives_shaped (map lower_pattern_of_text (drop l.pattern-index l.patterns)) (scope_with callee l.count l.context) l.ty) (λ (ss : List Shape). Some (l.shapes.items ++ ss))
    ≡ alternatives_shaped (map lower_pattern_of_text l.patterns) (scope_with callee l.count l.context) l.ty
