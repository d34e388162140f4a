use Rattle.std.proofs.Common.{[], ◌∷◌, true}
use Rattle.task_queue.specs.Inner.Exchange.{gets}
use Rattle.task_queue.proofs.OnSeats.Many.{gets_law, gets_none, exchanged_append, exchanged_one, first_exchange, other_exchanges}
use Rattle.task_queue.proofs.queue.leave.Goals as goal

pub part-requires : goal.part-requires
part-requires g c = first_exchange gets gets_law gets_none true c.args.pass.now.first c.args.pass.now.more.items c.args.seat.now c.requires

pub part_all-requires : goal.part_all-requires
part_all-requires g c = other_exchanges gets gets_law gets_none true c.args.pass.now.first c.args.pass.now.more.items c.args.seat.now c.requires c.part.new.a c.part.new.b c.part.ensures

pub returns-clause-exchanged : goal.returns-clause-exchanged
returns-clause-exchanged g c =
    exchanged_append gets gets_law gets_none (c.args.pass.now.first ∷ []) c.args.pass.now.more.items (c.part.new.a ∷ []) c.part_all.new.seats.items c.args.seat.now c.part.new.b c.part_all.new.seat
    (exchanged_one gets gets_law gets_none c.args.pass.now.first c.args.seat.now c.part.new.a c.part.new.b c.part.ensures) c.part_all.ensures.exchanged
