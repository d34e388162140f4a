use Rattle.std.proofs.Common.{refl}
use Rattle.dslx_check_judge.proofs.OnItems.OnConstants.{constant_named}
use Rattle.dslx_check_judge.proofs.items.constants.constant_seen.Goals as goal

pub returns : goal.returns
returns c = constant_named c.args.own.now c.in_ok-faults.ensures (record { rows = c.in_ok-value_type.ensures.grows; items = c.in_ok-value_type.ensures.items }) refl c.in_ok-value_type.ensures.is c.in_ok-value_type.ensures.there refl refl refl refl
