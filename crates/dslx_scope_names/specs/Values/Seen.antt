-- A scope in a body, by what code has of it.
use Rattle.std.specs.Prelude.{ℕ, None, map, reverse}
use Rattle.dslx_meaning.specs.Items.{meanings_of}
use Rattle.dslx_meaning.specs.Names.Bound.{given}
use Rattle.dslx_core.specs.Lowering.CoreScopes.{CoreScope}
use Rattle.dslx_core.specs.Machines.Machine.Callees.{CalleesByName}
use Rattle.dslx_scope_names.specs.declared.values.context.ScopeEnv.{ScopeEnv}

-- the scope where calls have these callees, and so many values are bound
abbrev pub scope_with : CalleesByName → ℕ → ScopeEnv → CoreScope
scope_with callee count s = record {
  known = record { items = meanings_of s.text.now; parametric_args = reverse (map given s.parametric_args.now); callee = callee };
  locals = s.locals.now;
  count = count;
}

-- constants see neither of the two
abbrev pub scope_seen : ScopeEnv → CoreScope
scope_seen s = scope_with (λ name parametric_args types. None) 0 s
