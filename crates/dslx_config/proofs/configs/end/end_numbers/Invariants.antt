use Rattle.std.proofs.Common.{◌≡◌, drop, map}
use Rattle.dslx_core.specs.Networks.Ends.{end_numbers}
use Rattle.dslx_config.specs.Configs.Shown.{held}
use Rattle.dslx_scope_names.proofs.Lemmas.Numbers.InOrder.{behind}
use Rattle.dslx_config.proofs.configs.end.end_numbers.Given as goal

abbrev pub invariant-names : goal.invariant-names
invariant-names l = behind l.parametric_args.items (end_numbers (map held l.ends) (drop l.name-index l.names)) ≡ end_numbers (map held l.ends) l.names
