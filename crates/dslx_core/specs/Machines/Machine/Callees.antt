-- Scopes that differ in what calls resolve to.
use Rattle.std.specs.Prelude.{ℕ, List, Option, Some}
use Rattle.dslx_meaning.specs.Lists.{and_then}
use Rattle.dslx_meaning.specs.declared.ty.DslxType.{DslxType}
use Rattle.dslx_meaning.specs.declared.value.DslxValue.{DslxValue}
use Rattle.dslx_core.specs.Lowering.CoreScopes.{CoreCallee, CoreScope}
use Rattle.dslx_core.specs.Lowering.Patterns.{LoweredShape}

-- what calls resolve to
abbrev pub CalleesByName : Type 0
CalleesByName = List ℕ → List DslxValue → List DslxType → Option CoreCallee

abbrev pub with_callee : CalleesByName → CoreScope → CoreScope
with_callee c scope = record { known = record { items = scope.known.items; parametric_args = scope.known.parametric_args; callee = c }; locals = scope.locals; count = scope.count }

-- the same shape, behind which calls resolve to this
abbrev pub moved : CalleesByName → Option LoweredShape → Option LoweredShape
moved c o = and_then o (λ s. Some (record { shape = s.shape; scope = with_callee c s.scope }))
