-- How an instance is opened.
use Rattle.std.proofs.Common.{◌≡◌, Bool, true, false, List, [], ◌∷◌, Option, Some, None, refl, sym, ap, ◌∙◌}
use Rattle.std.specs.Option.{option_map}
use Rattle.dslx_tree.specs.declared.item.Function.{Function}
use Rattle.dslx_meaning.specs.Lists.{and_then, where_true}
use Rattle.dslx_meaning.specs.declared.ty.DslxType.{DslxType}
use Rattle.dslx_core.specs.Lowering.CoreScopes.{BodyEnv, CoreScope}
use Rattle.dslx_core.specs.Lowering.Functions.{Instantiated, argument_types, arguments_in_scope, parametric_args_are_well_typed, outer_scope}
use Rattle.dslx_scope_names.specs.Numbers.InScope.{arguments_of}
use Rattle.dslx_core.specs.Machines.Machine.Machines.{body_open, function_open}
use Rattle.dslx_core.specs.Machines.Machine.Tasks.{OpenInstance}

-- an instance from the types of its arguments and the scope where they are bound
abbrev pub open_from : Function → Instantiated → List DslxType × CoreScope → Option OpenInstance
open_from f i p = Some (record { instance = i; arguments = p.0; body = body_open f i p.1 })

with_types : (f : Function) (i : Instantiated) (known : BodyEnv) (o : Option (List DslxType))
    → and_then (and_then o (λ ts. and_then (arguments_in_scope f.arguments ts (outer_scope known)) (λ scope. Some (ts, scope)))) (open_from f i)
    ≡ and_then o (λ ts. and_then (arguments_in_scope f.arguments ts (outer_scope known)) (λ scope. open_from f i (ts, scope)))
with_types f i known None = refl
with_types f i known (Some ts) = by (arguments_in_scope f.arguments ts (outer_scope known))
  where
    by : (p : Option CoreScope) → and_then (and_then p (λ scope. Some (ts, scope))) (open_from f i) ≡ and_then p (λ scope. open_from f i (ts, scope))
    by None = refl
    by (Some scope) = refl

-- it is opened so
opens_from : (f : Function) (i : Instantiated) (known : BodyEnv) → where_true (parametric_args_are_well_typed known.items known.parametric_args) (and_then (arguments_of known f.arguments) (open_from f i)) ≡ function_open known f i
opens_from f i known = ap (where_true (parametric_args_are_well_typed known.items known.parametric_args)) (with_types f i known (argument_types known f.arguments))

-- its parametrics don't stand
pub opens_none : (f : Function) (i : Instantiated) (known : BodyEnv) → parametric_args_are_well_typed known.items known.parametric_args ≡ false → None ≡ function_open known f i
opens_none f i known h = ap (λ b. where_true b (and_then (arguments_of known f.arguments) (open_from f i))) (sym h) ∙ opens_from f i known

-- they do, and these are its arguments, if any
pub opens_with : (f : Function) (i : Instantiated) (known : BodyEnv) → parametric_args_are_well_typed known.items known.parametric_args ≡ true → and_then (arguments_of known f.arguments) (open_from f i) ≡ function_open known f i
opens_with f i known h = ap (λ b. where_true b (and_then (arguments_of known f.arguments) (open_from f i))) (sym h) ∙ opens_from f i known
