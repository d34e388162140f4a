use Rattle.std.proofs.Common.{◌≡◌, ◌==◌, drop, map}
use Rattle.std.specs.List.{list_all}
use Rattle.dslx_meaning.specs.Rules.CallRules.{parametric_args_for}
use Rattle.dslx_check_uses.specs.Inferring.{number_of}
use Rattle.dslx_check_uses.proofs.inference.is_one.Given as goal

abbrev pub invariant-numbers : goal.invariant-numbers
invariant-numbers l = list_all (λ k. k == l.number) (parametric_args_for l.name (map number_of (drop l.other-index l.numbers))) ≡ list_all (λ k. k == l.number) (parametric_args_for l.name (map number_of l.numbers))
