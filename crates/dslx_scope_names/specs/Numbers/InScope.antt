-- The arguments of an instance: their types, and the scope where they are bound.
use Rattle.std.specs.Prelude.{ℕ, suc, List, [], ◌∷◌, Option, Some, None, map, reverse, if◌then◌else◌}
use Rattle.std.specs.Option.{option_map}
use Rattle.dslx_tree.specs.declared.item.Module.{Module}
use Rattle.dslx_tree.specs.declared.item.Field.{Field}
use Rattle.dslx_meaning.specs.Environment.{Meanings}
use Rattle.dslx_meaning.specs.Items.{meanings_of}
use Rattle.dslx_meaning.specs.Lists.{and_then}
use Rattle.dslx_meaning.specs.declared.ty.DslxType.{DslxType}
use Rattle.dslx_meaning.specs.Names.Bound.{given}
use Rattle.dslx_meaning.specs.declared.names.scope.Binding.{Binding}
use Rattle.dslx_core.specs.Lowering.CoreScopes.{BoundSlot, BodyEnv, CoreScope}
use Rattle.dslx_core.specs.Lowering.Functions.{argument_types, arguments_in_scope, outer_scope}
use Rattle.dslx_core.specs.Machines.Machine.Callees.{CalleesByName}
use Rattle.dslx_scope_names.specs.declared.parametric_args.arguments.Arguments.{Arguments}

-- the environment of a body where these parametrics are bound, the last one last
abbrev pub globals_with : CalleesByName → Module → List Binding → BodyEnv
globals_with callee m parametric_args = record { items = meanings_of m; parametric_args = reverse (map given parametric_args); callee = callee }

-- the types of arguments, and the scope where they are bound
abbrev pub arguments_of : BodyEnv → List Field → Option (List DslxType × CoreScope)
arguments_of known fields = and_then (argument_types known fields) (λ ts. and_then (arguments_in_scope fields ts (outer_scope known)) (λ scope. Some (ts, scope)))

-- the same of what code has
abbrev pub arguments_shown : CalleesByName → Module → List Binding → Option Arguments → Option (List DslxType × CoreScope)
arguments_shown callee m parametric_args found = option_map (λ (a : Arguments). (a.types, record { known = globals_with callee m parametric_args; locals = a.locals; count = a.count })) found

-- the names of arguments of these types behind those that are bound, none of which is a constant's; so many values are bound before
abbrev pub locals_in_scope : Meanings → List Field → List DslxType → List BoundSlot → ℕ → Option (List BoundSlot)
locals_in_scope items [] [] locals n = Some locals
locals_in_scope items (f ∷ fs) (t ∷ ts) locals n = if items.is_constant f.name.name then None else locals_in_scope items fs ts (record { name = f.name.name; slot = n; ty = t } ∷ locals) (suc n)
locals_in_scope items [] (t ∷ ts) locals n = None
locals_in_scope items (f ∷ fs) [] locals n = None
