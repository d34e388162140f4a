use Rattle.std.proofs.Common.{◌≡◌, drop, map}
use Rattle.dslx_tree.specs.declared.expr.Arg.{Arg, out-Arg}
use Rattle.dslx_meaning.specs.Lists.{all_some}
use Rattle.dslx_core.specs.Lowering.CoreScopes.{constant_at}
use Rattle.dslx_scope_names.specs.Values.Seen.{scope_seen}
use Rattle.dslx_scope_names.proofs.Lemmas.Numbers.InOrder.{behind}
use Rattle.dslx_config.proofs.configs.number.given_parametric_args.Given as goal

abbrev pub invariant-arguments : goal.invariant-arguments
invariant-arguments l = behind l.given.items (all_some (map (λ (a : Arg). constant_at (scope_seen l.context) (out-Arg a).value) (drop l.argument-index l.arguments)))
    ≡ all_some (map (λ (a : Arg). constant_at (scope_seen l.context) (out-Arg a).value) l.arguments)
