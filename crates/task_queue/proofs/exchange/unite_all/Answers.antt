use Rattle.std.proofs.Common.{◌<◌, length, refl, arith, false}
use Rattle.std.proofs.lemmas.Option.{slice_get_read}
use Rattle.task_queue.specs.Inner.Exchange.{gives}
use Rattle.task_queue.proofs.OnSeats.Many.{gives_law, gives_none, exchanges_none, exchanges_length, exchanges_more, exchanges_all, next_exchange}
use Rattle.task_queue.proofs.exchange.unite_all.Goals as goal

pub loop-k-init : goal.loop-k-init
loop-k-init g c = (exchanges_none gives gives_law gives_none c.args.seats.now.items c.args.seat.now, refl)

pub unite-requires : goal.unite-requires
unite-requires g c =
    let now = c.loop-k.seats.items in
    let x = c.index_mut.result.now in
    let inside : c.loop-k.k < length now = omega (arith, c.loop-k-test.true, c.len-k-end.ensures, c.args.seats.now.ok.0, exchanges_length gives gives_law gives_none c.args.seats.now.items c.loop-k.seats.items c.args.seat.now c.loop-k.seat c.loop-k.k c.loop-k.invariant.0) in
    let at = slice_get_read now _ c.loop-k.k x refl inside c.index_mut.ensures.value in
    next_exchange gives gives_law gives_none c.args.seats.now.items now c.args.seat.now c.loop-k.seat c.loop-k.k c.loop-k.invariant.0 x at false c.requires

pub loop-k-preserved : goal.loop-k-preserved
loop-k-preserved g c =
    let now = c.loop-k.seats.items in
    let x = c.index_mut.result.now in
    let inside : c.loop-k.k < length now = omega (arith, c.loop-k-test.true, c.len-k-end.ensures, c.args.seats.now.ok.0, exchanges_length gives gives_law gives_none c.args.seats.now.items c.loop-k.seats.items c.args.seat.now c.loop-k.seat c.loop-k.k c.loop-k.invariant.0) in
    let at = slice_get_read now _ c.loop-k.k x refl inside c.index_mut.ensures.value in
    (exchanges_more gives gives_law gives_none c.args.seats.now.items now c.args.seat.now c.loop-k.seat c.loop-k.k c.loop-k.invariant.0 x at c.unite.new.a c.unite.new.b c.unite.ensures, c.loop-k.invariant.1)

pub returns-clause-exchanged : goal.returns-clause-exchanged
returns-clause-exchanged g c =
    exchanges_all gives gives_law gives_none c.args.seats.now.items c.loop-k.seats.items c.args.seat.now c.loop-k.seat c.loop-k.k c.loop-k.invariant.0 (omega (arith, c.loop-k-test.false, c.len-k-end.ensures, c.args.seats.now.ok.0, exchanges_length gives gives_law gives_none c.args.seats.now.items c.loop-k.seats.items c.args.seat.now c.loop-k.seat c.loop-k.k c.loop-k.invariant.0))
