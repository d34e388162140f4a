use Rattle.std.proofs.Common.{refl}
use Rattle.std.proofs.lemmas.Result.{IfOk-weaker}
use Rattle.dslx_check_judge.proofs.OnItems.OnEnums.{enum_first, enum_other}
use Rattle.dslx_check_judge.proofs.items.enums.enum_seen.Goals as goal

pub returns : goal.returns
returns c = enum_other c.args.is_first c.args.choice.now c.if-is_first.false c.in_ok-faults.ensures c.of_type.ensures.faults

pub returns-then-is_first : goal.returns-then-is_first
returns-then-is_first c = IfOk-weaker c.enum_of.result _ _
    (λ j h. enum_first c.args.is_first c.args.choice.now c.if-is_first.true c.in_ok-faults.ensures refl refl c.as_slice.ensures.value h) c.enum_of.ensures
