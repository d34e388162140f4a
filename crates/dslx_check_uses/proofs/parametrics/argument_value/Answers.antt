use Rattle.std.proofs.Common.{ap, map}
use Rattle.dslx_check_uses.specs.Inferring.{name_lent, number_of}
use Rattle.std.specs.Option.{option_copied}
use Rattle.std.proofs.lemmas.Result.{IfOk-weaker}
use Rattle.dslx_check_uses.proofs.OnArguments.{argument_given, argument_not_given}
use Rattle.dslx_check_uses.proofs.parametrics.argument_value.Goals as goal

pub returns-in-Some : goal.returns-in-Some
returns-in-Some c = IfOk-weaker c.given_value.result _ _ (λ r g. argument_given c.args.parametric.now (map number_of c.args.found.now.numbers.items) (map name_lent c.args.found.now.maybe.items) (option_copied c.args.given) c.in-Some.given.now (ap option_copied c.in-Some.is) g) c.given_value.ensures

pub returns-in-None : goal.returns-in-None
returns-in-None c = IfOk-weaker c.not_given.result _ _ (λ r g. argument_not_given c.args.ty c.args.parametric.now (map number_of c.args.found.now.numbers.items) (map name_lent c.args.found.now.maybe.items) (option_copied c.args.given) (ap option_copied c.in-None.is) g) c.not_given.ensures
