use Rattle.std.proofs.Common.{ap}
use Rattle.std.specs.Option.{option_copied}
use Rattle.dslx_check_uses.proofs.OnArguments.{hidden_type, no_one, none_there, the_one, type_found}
use Rattle.dslx_check_uses.proofs.parametrics.parametric_type.Goals as goal

pub returns-then-is_hidden : goal.returns-then-is_hidden
returns-then-is_hidden c = hidden_type c.if-is_hidden.true

pub returns-in-None : goal.returns-in-None
returns-in-None c =
    let there = c.in_ok-seen_there.ensures in
    none_there there.grows there.reached (λ known later has holds missing. no_one _ _ (ap option_copied c.in-None.is) (there.seen known later has holds missing))

pub returns-in_ok-note_type-in-Some : goal.returns-in_ok-note_type-in-Some
returns-in_ok-note_type-in-Some c =
    let there = c.in_ok-seen_there.ensures in
    type_found c.if-is_hidden.false there.grows there.reached (λ rows h missing. the_one _ _ _ (ap option_copied c.in-Some.is) (there.rows rows h missing))
    (λ known later has holds missing. the_one _ _ _ (ap option_copied c.in-Some.is) (there.seen known later has holds missing)) c.in_ok-note_type-in-Some.ensures c.unless_unit.ensures.is c.unless_unit.ensures.there
