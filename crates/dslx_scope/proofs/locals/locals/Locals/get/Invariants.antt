use Rattle.std.proofs.Common.{◌≡◌, drop}
use Rattle.dslx_core.specs.Lowering.CoreScopes.{local_in}
use Rattle.dslx_scope.proofs.locals.locals.Locals.get.Given as goal

abbrev pub invariant-names : goal.invariant-names
invariant-names l = local_in l.name (drop l.i l.self) ≡ local_in l.name l.self
