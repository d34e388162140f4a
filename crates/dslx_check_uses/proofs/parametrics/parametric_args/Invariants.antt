use Rattle.std.proofs.Common.{map}
use Rattle.dslx_check_facts.specs.Walks.{shown}
use Rattle.dslx_check_uses.specs.Inferring.{name_lent, number_of}
use Rattle.dslx_check_uses.proofs.OnArguments.{Upto}
use Rattle.dslx_check_uses.proofs.parametrics.parametric_args.Given as goal

abbrev pub invariant-parametrics : goal.invariant-parametrics
invariant-parametrics l = Upto l.f l.callee (shown l.fn.w) (shown l.w) l.parametrics l.given (map number_of l.found.numbers.items) (map name_lent l.found.maybe.items) l.seen l.i
