use Rattle.std.proofs.Common.{◌≡◌, drop, map}
use Rattle.dslx_meaning.specs.Rules.CallRules.{parametric_args_for}
use Rattle.dslx_check_uses.specs.Inferring.{first_number, number_of}
use Rattle.dslx_check_uses.proofs.inference.first_inferred.Given as goal

abbrev pub invariant-numbers : goal.invariant-numbers
invariant-numbers l = first_number (parametric_args_for l.name (map number_of (drop l.other-index l.numbers))) ≡ first_number (parametric_args_for l.name (map number_of l.numbers))
