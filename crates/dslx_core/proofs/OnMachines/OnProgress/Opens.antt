-- An instance that is made behind some table may be opened whatever table there is.
use Rattle.std.proofs.Common.{◌≡◌, List, [], Option, Some, refl, ap, ◌∙◌}
use Rattle.dslx_tree.specs.declared.item.Function.{Function}
use Rattle.dslx_meaning.specs.Items.{as_function, item_named}
use Rattle.dslx_meaning.specs.Lists.{and_then, where_true}
use Rattle.dslx_meaning.specs.declared.ty.DslxType.{DslxType}
use Rattle.dslx_core.specs.Lowering.CoreScopes.{BodyEnv, CoreScope}
use Rattle.dslx_core.specs.Lowering.Functions.{CoreInstance, Instantiated, LoweredFunction, argument_types, arguments_in_scope, lower_function_body, callee_in, instance_globals, lower_instance, next_instance, parametric_args_are_well_typed, outer_scope}
use Rattle.dslx_core.specs.Lowering.Lowering.{LoweredExpr}
use Rattle.dslx_core.specs.Lowering.Trees.{lower_block_of_text}
use Rattle.dslx_core.specs.Machines.Machine.Callees.{CalleesByName}
use Rattle.dslx_core.specs.Machines.Machine.Machines.{body_open, function_open, instance_open, globals_of}
use Rattle.dslx_core.specs.Machines.Machine.Tasks.{InstanceEnv, OpenInstance}
use Rattle.dslx_core.proofs.Lemmas.Machines.Machine.Instances.{arguments_anywhere, calling, types_anywhere}
use Rattle.dslx_core.proofs.Lemmas.Machines.Machine.Options.{from_then, from_where}

-- an instance that is opened
pub record MayOpen (context : InstanceEnv) (i : Instantiated) : Type 0 where
  pub opened : OpenInstance
  pub is : instance_open context i ≡ Some opened
  pub instance : opened.instance ≡ i

-- its parametrics and its arguments are the same whatever calls come to
function_opens : (context : InstanceEnv) (before : List CoreInstance) (i : Instantiated) (f : Function) (l : LoweredFunction)
    → as_function (item_named i.name context.text.items) ≡ Some f → lower_instance (instance_globals context.text context.items before f i.parametric_args) f ≡ Some l → MayOpen context i
function_opens context before i f l is_f e =
    let n = from_where (parametric_args_are_well_typed context.items known.parametric_args) (and_then (argument_types known f.arguments) (lower_function_body known f)) l e in
    let t = from_then (argument_types known f.arguments) (lower_function_body known f) l n.1 in
    let p = from_then (arguments_in_scope f.arguments t.0 (outer_scope known)) (body_at t.0) l t.2 in
    record {
      opened = opening t.0 (here p.0);
      is = ap (λ o. and_then o (λ f. function_open (globals_of context f i) f i)) is_f
          ∙ ap (λ b. where_true b (and_then (argument_types (calling known calls) f.arguments) (λ ts. and_then (arguments_in_scope f.arguments ts (outer_scope (calling known calls))) (λ scope. Some (opening ts scope))))) n.0
          ∙ ap (λ o. and_then o (λ ts. and_then (arguments_in_scope f.arguments ts (outer_scope (calling known calls))) (λ scope. Some (opening ts scope)))) (types_anywhere known calls f.arguments ∙ t.1)
          ∙ ap (λ o. and_then o (λ scope. Some (opening t.0 scope))) (arguments_anywhere known calls f.arguments t.0 [] 0 ∙ ap (λ o. and_then o (λ p. Some (here p))) p.1);
      instance = refl;
    }
  where
    known : BodyEnv
    known = instance_globals context.text context.items before f i.parametric_args

    calls : CalleesByName
    calls = callee_in context.text context.items context.table

    here : CoreScope → CoreScope
    here p = record { known = calling known calls; locals = p.locals; count = p.count }

    opening : List DslxType → CoreScope → OpenInstance
    opening ts scope = record { instance = i; arguments = ts; body = body_open f i scope }

    body_at : List DslxType → CoreScope → Option LoweredFunction
    body_at ts scope = and_then (lower_block_of_text f.body scope) (λ (e : LoweredExpr). Some (record { arguments = ts; result = e.ty; body = e.core }))

pub may_open : (context : InstanceEnv) (before : List CoreInstance) (i : Instantiated) (c : CoreInstance) → next_instance context.text context.items before i ≡ Some c → MayOpen context i
may_open context before i c e =
    let f = from_then (as_function (item_named i.name context.text.items)) (λ f. and_then (lower_instance (instance_globals context.text context.items before f i.parametric_args) f) (made f)) c e in
    let l = from_then (lower_instance (instance_globals context.text context.items before f.0 i.parametric_args) f.0) (made f.0) c f.2 in
    function_opens context before i f.0 l.0 f.1 l.1
  where
    made : Function → LoweredFunction → Option CoreInstance
    made f l = Some (record { name = i.name; parametric_args = i.parametric_args; function = l })
