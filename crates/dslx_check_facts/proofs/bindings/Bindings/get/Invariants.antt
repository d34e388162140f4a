use Rattle.std.proofs.Common.{◌≡◌, drop}
use Rattle.dslx_check_facts.specs.Bound.{bound_in}
use Rattle.dslx_check_facts.proofs.bindings.Bindings.get.Given as goal

abbrev pub invariant-names : goal.invariant-names
invariant-names g l = bound_in l.name (drop l.i l.self) ≡ bound_in l.name l.self
