use Rattle.std.proofs.Common.{◌≡◌, ◌++◌, drop, map}
use Rattle.dslx_meaning.specs.Network.{made_ends}
use Rattle.dslx_config.specs.Configs.Shown.{held}
use Rattle.dslx_config.proofs.configs.end.number_made.Given as goal

abbrev pub invariant-config_statements : goal.invariant-config_statements
invariant-config_statements l = map held l.ends.items ++ made_ends l.number (drop l.config_statement-index l.config_statements) ≡ map held l.fn.ends.items ++ made_ends l.first l.config_statements
