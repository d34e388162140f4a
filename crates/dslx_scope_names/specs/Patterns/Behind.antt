-- Scopes behind names that patterns bind.
use Rattle.std.specs.Prelude.{ℕ, List, ◌++◌, Option, Some, None, map, reverse}
use Rattle.dslx_meaning.specs.Items.{meanings_of}
use Rattle.dslx_meaning.specs.Lists.{and_then}
use Rattle.dslx_meaning.specs.Names.Bound.{given}
use Rattle.dslx_core.specs.declared.expr.Shape.{Shape}
use Rattle.dslx_core.specs.Lowering.CoreScopes.{BoundSlot, CoreScope}
use Rattle.dslx_core.specs.Lowering.Patterns.{LoweredShape, LoweredShapes, shaped}
use Rattle.dslx_core.specs.Machines.Machine.Callees.{CalleesByName}
use Rattle.dslx_scope_names.specs.Names.Seen.{scope_with}
use Rattle.dslx_scope_names.specs.declared.patterns.bind.BodyScope.{BodyScope}
use Rattle.dslx_scope_names.specs.declared.patterns.bind.BoundShape.{BoundShape}
use Rattle.dslx_scope_names.specs.declared.patterns.bind.BoundTurn.{BoundTurn}
use Rattle.dslx_scope_names.specs.declared.patterns.fresh.Fresh.{Fresh}
use Rattle.dslx_scope_names.specs.declared.patterns.fresh.Outer.{Outer}
use Rattle.dslx_scope_names.specs.declared.patterns.there.Shaped.{Shaped}

-- where these names are bound, too, the last one first, and so many values
abbrev pub behind : List BoundSlot → ℕ → CoreScope → CoreScope
behind names count scope = record { known = scope.known; locals = names ++ scope.locals; count = count }

-- a shape, where there is one, and the scope behind it
abbrev pub shaped_to : Option Shape → CoreScope → Option LoweredShape
shaped_to o scope = and_then o (λ s. shaped s scope)

-- shapes of parts, where they are there
abbrev pub parts_to : Option (List Shape) → CoreScope → Option LoweredShapes
parts_to o scope = and_then o (λ shapes. Some (record { shapes = shapes; scope = scope }))

-- what a pattern is lowered to in a scope
abbrev pub shown_behind : Option Shaped → CoreScope → Option LoweredShape
shown_behind o scope = and_then o (λ s. shaped s.shape (behind s.fresh s.count scope))

-- ---- within a pattern

-- the scope of the whole pattern; what calls are lowered to doesn't matter
abbrev pub outer_scope : Outer → CoreScope
outer_scope o = scope_with (λ name parametric_args types. None) o.count o.context

-- the scope behind what is bound so far
abbrev pub fresh_scope : Outer → Fresh → CoreScope
fresh_scope o f = behind f.names f.count (outer_scope o)

-- ---- in a body

-- where these names are bound, the last one first, and so many values
abbrev pub body_scope : CalleesByName → BodyScope → List BoundSlot → ℕ → CoreScope
body_scope callee k locals count = record {
  known = record { items = meanings_of k.text.now; parametric_args = reverse (map given k.parametric_args.now); callee = callee };
  locals = locals;
  count = count;
}

-- what comes of a pattern whose names are bound in the body
abbrev pub shown_bound : Option BoundShape → CalleesByName → BodyScope → List BoundSlot → Option LoweredShape
shown_bound o callee k locals = and_then o (λ s. shaped s.shape (body_scope callee k locals s.count))

-- the same of the two patterns of a turn
abbrev pub shown_turn : Option BoundTurn → CalleesByName → BodyScope → List BoundSlot → Option (Shape × LoweredShape)
shown_turn o callee k locals = and_then o (λ t. Some (t.index, record { shape = t.accumulator; scope = body_scope callee k locals t.count }))
