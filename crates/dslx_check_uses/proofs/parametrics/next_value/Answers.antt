use Rattle.std.proofs.Common.{map}
use Rattle.std.specs.Option.{option_copied}
use Rattle.dslx_check_uses.specs.Inferring.{name_lent, number_of}
use Rattle.dslx_check_uses.proofs.OnArguments.{next_found}
use Rattle.dslx_check_uses.proofs.parametrics.next_value.Goals as goal

pub returns : goal.returns
returns c = next_found c.args.parametric.now (option_copied c.args.given) (map number_of c.args.found.now.numbers.items) (map name_lent c.args.found.now.maybe.items) c.in_ok-ty.ensures c.in_ok-value.ensures
