use Rattle.std.proofs.Common.{◌≡◌, drop, map}
use Rattle.dslx_check_leaves.specs.Named.Constants.{some_local}
use Rattle.dslx_check_leaves.proofs.named.constants.is_one_local.Given as goal

abbrev pub invariant-names : goal.invariant-names
invariant-names l = some_local l.s (map (λ n. n.now) (drop l.name-index l.names)) ≡ some_local l.s (map (λ n. n.now) l.names)
