use Rattle.std.proofs.Common.{◌≡◌, drop}
use Rattle.dslx_meaning.specs.Environment.{given_in}
use Rattle.dslx_meaning.proofs.names.scope.Scope.get.Given as goal

abbrev pub invariant-names : goal.invariant-names
invariant-names l = given_in l.name (drop l.i l.self) ≡ given_in l.name l.self
