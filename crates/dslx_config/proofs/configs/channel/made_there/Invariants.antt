use Rattle.std.proofs.Common.{◌≡◌, drop}
use Rattle.dslx_core.specs.Networks.Configs.{lower_made}
use Rattle.dslx_scope_names.specs.Values.Seen.{scope_seen}
use Rattle.dslx_scope_names.proofs.Lemmas.Numbers.InOrder.{behind}
use Rattle.dslx_config.proofs.configs.channel.made_there.Given as goal

abbrev pub invariant-config_statements : goal.invariant-config_statements
invariant-config_statements l = behind l.made.items (lower_made (scope_seen l.context) (drop l.config_statement-index l.config_statements)) ≡ lower_made (scope_seen l.context) l.config_statements
