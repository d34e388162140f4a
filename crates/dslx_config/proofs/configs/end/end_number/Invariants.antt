use Rattle.std.proofs.Common.{◌≡◌, drop, map}
use Rattle.dslx_core.specs.Networks.Ends.{end_number}
use Rattle.dslx_config.specs.Configs.Shown.{held}
use Rattle.dslx_config.proofs.configs.end.end_number.Given as goal

abbrev pub invariant-ends : goal.invariant-ends
invariant-ends l = end_number l.name (map held (drop l.end-index l.ends)) ≡ end_number l.name (map held l.ends)
