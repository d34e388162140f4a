use Rattle.std.proofs.Common.{◌≡◌, drop, map}
use Rattle.dslx_tree.specs.declared.item.Field.{Field}
use Rattle.dslx_meaning.specs.Lists.{all_some}
use Rattle.dslx_core.specs.Lowering.Trees.{lower_type_of_text}
use Rattle.dslx_core.specs.Machines.Machine.Callees.{CalleesByName}
use Rattle.dslx_scope_names.specs.Values.Seen.{scope_with}
use Rattle.dslx_scope_names.proofs.Lemmas.Numbers.InOrder.{behind}
use Rattle.dslx_scope_names.proofs.parametric_args.arguments.argument_types.Given as goal

abbrev pub invariant-arguments : goal.invariant-arguments
invariant-arguments l = (callee : CalleesByName)
    → behind l.types.items (all_some (map (λ (f : Field). lower_type_of_text f.ty (scope_with callee 0 l.context)) (drop l.argument-index l.arguments)))
    ≡ all_some (map (λ (f : Field). lower_type_of_text f.ty (scope_with callee 0 l.context)) l.arguments)
