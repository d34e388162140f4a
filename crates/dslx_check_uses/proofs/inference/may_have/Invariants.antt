use Rattle.std.proofs.Common.{◌≡◌, drop, map}
use Rattle.dslx_meaning.specs.Lists.{is_in}
use Rattle.dslx_check_uses.specs.Inferring.{name_lent}
use Rattle.dslx_check_uses.proofs.inference.may_have.Given as goal

abbrev pub invariant-names : goal.invariant-names
invariant-names l = is_in l.name (map name_lent (drop l.other-index l.maybe)) ≡ is_in l.name (map name_lent l.maybe)
