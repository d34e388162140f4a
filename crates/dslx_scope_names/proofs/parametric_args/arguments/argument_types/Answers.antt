use Rattle.std.proofs.Common.{◌+◌, ◌∙◌, List, Option, Some, ap, drop, map, sym, arith}
use Rattle.dslx_tree.specs.declared.item.Field.{Field}
use Rattle.dslx_meaning.specs.Lists.{all_some}
use Rattle.dslx_meaning.specs.declared.ty.DslxType.{DslxType}
use Rattle.dslx_core.specs.Lowering.Trees.{lower_type_of_text}
use Rattle.dslx_core.specs.Machines.Machine.Callees.{CalleesByName}
use Rattle.dslx_scope_names.specs.Values.Seen.{scope_with}
use Rattle.dslx_scope_names.specs.declared.values.context.ScopeEnv.{ScopeEnv}
use Rattle.dslx_scope_names.proofs.Lemmas.Numbers.InOrder.{behind}
use Rattle.dslx_scope_names.proofs.OnParametricArgs.Located.{all_made, next_made, next_makes_none}
use Rattle.dslx_scope_names.proofs.parametric_args.arguments.argument_types.Goals as goal

abbrev type_at : ScopeEnv → CalleesByName → Field → Option DslxType
type_at context callee f = lower_type_of_text f.ty (scope_with callee 0 context)

pub returns-in-None : goal.returns-in-None
returns-in-None c = λ callee.
    next_makes_none (type_at c.args.context callee) c.args.arguments.now c.arguments.argument-index c.argument-item.result c.arguments.types.items (omega arith) c.argument-item.is
    (sym c.in-None.is ∙ c.in_ok-ty.ensures callee 0) ∙ c.arguments.invariant callee

pub arguments-preserved : goal.arguments-preserved
arguments-preserved c = λ callee.
    ap (λ (ts : List DslxType). behind ts (all_some (map (type_at c.args.context callee) (drop (c.arguments.argument-index + 1) c.args.arguments.now)))) c.in_ok-push-in-Some.ensures.items
    ∙ next_made (type_at c.args.context callee) c.args.arguments.now c.arguments.argument-index c.argument-item.result c.arguments.types.items c.in-Some.ty (omega arith) c.argument-item.is
    (sym c.in-Some.is ∙ c.in_ok-ty.ensures callee 0) ∙ c.arguments.invariant callee

pub returns : goal.returns
returns c = λ callee.
    ap Some c.from_vec.ensures ∙ all_made (type_at c.args.context callee) c.args.arguments.now c.arguments.argument-index c.arguments.types.items (omega arith) ∙ c.arguments.invariant callee
