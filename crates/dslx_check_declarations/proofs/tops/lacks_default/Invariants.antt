use Rattle.std.proofs.Common.{◌≡◌, drop}
use Rattle.std.specs.List.{list_any}
use Rattle.dslx_meaning.specs.Rules.ModuleRules.{lacks_default}
use Rattle.dslx_check_declarations.proofs.tops.lacks_default.Given as goal

abbrev pub invariant-parametrics : goal.invariant-parametrics
invariant-parametrics l = list_any lacks_default (drop l.parametric-index l.parametrics) ≡ list_any lacks_default l.parametrics
