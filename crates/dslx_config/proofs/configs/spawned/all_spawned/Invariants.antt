use Rattle.std.proofs.Common.{◌≡◌, drop}
use Rattle.dslx_scope_names.specs.Values.Seen.{scope_seen}
use Rattle.dslx_config.specs.Configs.Spawned.{spawned_instances}
use Rattle.dslx_scope_names.proofs.Lemmas.Numbers.InOrder.{behind}
use Rattle.dslx_config.proofs.configs.spawned.all_spawned.Given as goal

abbrev pub invariant-config_statements : goal.invariant-config_statements
invariant-config_statements l = behind l.spawned.items (spawned_instances l.context.text.now (scope_seen l.context) (drop l.config_statement-index l.config_statements))
    ≡ spawned_instances l.context.text.now (scope_seen l.context) l.config_statements
