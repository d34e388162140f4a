use Rattle.std.proofs.Common.{◌<◌, length, arith}
use Rattle.dslx_core_exprs.proofs.OnAggregates.ListLemmas.{slot_behind}
use Rattle.dslx_core_exprs.proofs.aggregates.filled.slots_from.Goals as goal

pub exprs-preserved : goal.exprs-preserved
exprs-preserved c =
    let within : c.exprs.i < length c.args.exprs.now = omega arith in
    slot_behind c.args.first c.exprs.i c.in_ok-slot_from.field-0 c.args.exprs.now c.exprs.slots.items c.push.new.self.items within c.in_ok-slot_from.ensures c.in_ok-push.ensures.items c.exprs.invariant
