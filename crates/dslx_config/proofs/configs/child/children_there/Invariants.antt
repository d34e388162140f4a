use Rattle.std.proofs.Common.{◌≡◌, drop, map}
use Rattle.dslx_core.specs.Networks.Configs.{lower_children}
use Rattle.dslx_scope_names.specs.Values.Seen.{scope_seen}
use Rattle.dslx_config.specs.Configs.Shown.{held}
use Rattle.dslx_scope_names.proofs.Lemmas.Numbers.InOrder.{behind}
use Rattle.dslx_config.proofs.configs.child.children_there.Given as goal

abbrev pub invariant-config_statements : goal.invariant-config_statements
invariant-config_statements l = behind l.children.items (lower_children l.context.text.now (scope_seen l.context) (map held l.ends) l.procs (drop l.config_statement-index l.config_statements))
    ≡ lower_children l.context.text.now (scope_seen l.context) (map held l.ends) l.procs l.config_statements
