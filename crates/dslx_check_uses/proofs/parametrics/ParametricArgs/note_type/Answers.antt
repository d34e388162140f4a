use Rattle.dslx_check_uses.proofs.OnArguments.{on_ok, type_not_noted, type_noted}
use Rattle.dslx_check_uses.proofs.parametrics.ParametricArgs.note_type.Goals as goal

pub returns-then-are_known : goal.returns-then-are_known
returns-then-are_known c = on_ok c.note_there.result _ _ (λ h. type_noted _ _ c.args.there.now _ c.if-are_known.true c.as_slice.ensures.value h) c.note_there.ensures

pub returns-else-are_known : goal.returns-else-are_known
returns-else-are_known c = type_not_noted _ c.args.there.now c.if-are_known.false
