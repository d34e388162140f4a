use Rattle.std.proofs.Common.{ap}
use Rattle.std.specs.Option.{option_copied}
use Rattle.std.proofs.lemmas.Result.{IfOk-weaker}
use Rattle.dslx_check_uses.proofs.OnArguments.{default_found, hidden_default, no_one, none_there, the_one}
use Rattle.dslx_check_uses.proofs.parametrics.default_there.Goals as goal

pub returns-then-is_hidden : goal.returns-then-is_hidden
returns-then-is_hidden c = hidden_default c.args.ty c.args.at c.if-is_hidden.true

pub returns-in-None : goal.returns-in-None
returns-in-None c =
    let there = c.in_ok-there.ensures in
    none_there there.grows there.reached (λ known later has holds missing. no_one _ _ (ap option_copied c.in-None.is) (there.seen known later has holds missing))

pub returns-in-Some : goal.returns-in-Some
returns-in-Some c =
    let there = c.in_ok-there.ensures in
    IfOk-weaker c.note_default.result _ _ (λ r g. default_found c.if-is_hidden.false there.grows there.reached (λ rows h missing. the_one _ _ _ (ap option_copied c.in-Some.is) (there.rows rows h missing))
    (λ known later has holds missing. the_one _ _ _ (ap option_copied c.in-Some.is) (there.seen known later has holds missing)) g) c.note_default.ensures
