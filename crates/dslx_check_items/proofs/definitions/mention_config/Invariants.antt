use Rattle.std.proofs.Common.{◌≡◌, drop}
use Rattle.dslx_check_items.specs.Inner.Definitions.{config_walk}
use Rattle.dslx_check_items.specs.Inner.Plain.{walk_shown}
use Rattle.dslx_check_items.proofs.definitions.mention_config.Given as goal

abbrev pub invariant-statements : goal.invariant-statements
invariant-statements l = config_walk (drop l.statement-index l.statements) (walk_shown l.w) ≡ config_walk l.statements (walk_shown l.initial.w)
