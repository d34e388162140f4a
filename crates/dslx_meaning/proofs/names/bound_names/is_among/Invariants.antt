use Rattle.std.proofs.Common.{◌≡◌, drop}
use Rattle.dslx_meaning.specs.Lists.{is_in}
use Rattle.dslx_meaning.proofs.OnNames.OnBoundNames.{plain}
use Rattle.dslx_meaning.proofs.names.bound_names.is_among.Given as goal

abbrev pub invariant-names : goal.invariant-names
invariant-names l = is_in l.name (plain (drop l.other-index l.names)) ≡ is_in l.name (plain l.names)
