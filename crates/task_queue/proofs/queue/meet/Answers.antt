use Rattle.std.proofs.Common.{[], ◌∷◌, false}
use Rattle.task_queue.specs.Inner.Exchange.{gives}
use Rattle.task_queue.proofs.OnSeats.Many.{gives_law, gives_none, exchanged_append, exchanged_one, first_exchange, other_exchanges}
use Rattle.task_queue.proofs.queue.meet.Goals as goal

pub unite-requires : goal.unite-requires
unite-requires g c = first_exchange gives gives_law gives_none false c.args.pass.now.first c.args.pass.now.more.items c.args.seat.now c.requires

pub unite_all-requires : goal.unite_all-requires
unite_all-requires g c = other_exchanges gives gives_law gives_none false c.args.pass.now.first c.args.pass.now.more.items c.args.seat.now c.requires c.unite.new.a c.unite.new.b c.unite.ensures

pub returns-clause-exchanged : goal.returns-clause-exchanged
returns-clause-exchanged g c =
    exchanged_append gives gives_law gives_none (c.args.pass.now.first ∷ []) c.args.pass.now.more.items (c.unite.new.a ∷ []) c.unite_all.new.seats.items c.args.seat.now c.unite.new.b c.unite_all.new.seat
    (exchanged_one gives gives_law gives_none c.args.pass.now.first c.args.seat.now c.unite.new.a c.unite.new.b c.unite.ensures) c.unite_all.ensures.exchanged
