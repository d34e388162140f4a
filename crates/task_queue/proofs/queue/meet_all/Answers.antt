use Rattle.std.proofs.Common.{◌<◌, length, refl, ◌∙◌, arith}
use Rattle.std.proofs.lemmas.Option.{slice_get_read}
use Rattle.task_queue.specs.Passes.{seats}
use Rattle.task_queue.proofs.OnSeats.Many.{unites_none, unites_length, unites_more, unites_all, next_unites}
use Rattle.task_queue.proofs.queue.meet_all.Goals as goal

pub loop-k-init : goal.loop-k-init
loop-k-init g c = (unites_none (seats c.args.pass.now) c.args.more.now.items, refl)

pub meet-requires : goal.meet-requires
meet-requires g c =
    let now = c.loop-k.more.items in
    let x = c.index_mut.result.now in
    let inside : c.loop-k.k < length now = omega (arith, c.loop-k-test.true, c.len-k-end.ensures, c.args.more.now.ok.0, unites_length (seats c.args.pass.now) (seats c.loop-k.pass) c.args.more.now.items c.loop-k.more.items c.loop-k.k c.loop-k.invariant.0) in
    let at = slice_get_read now _ c.loop-k.k x refl inside c.index_mut.ensures.value in
    next_unites (seats c.args.pass.now) (seats c.loop-k.pass) c.args.more.now.items now c.loop-k.k c.loop-k.invariant.0 x at c.requires

pub loop-k-preserved : goal.loop-k-preserved
loop-k-preserved g c =
    let now = c.loop-k.more.items in
    let x = c.index_mut.result.now in
    let inside : c.loop-k.k < length now = omega (arith, c.loop-k-test.true, c.len-k-end.ensures, c.args.more.now.ok.0, unites_length (seats c.args.pass.now) (seats c.loop-k.pass) c.args.more.now.items c.loop-k.more.items c.loop-k.k c.loop-k.invariant.0) in
    let at = slice_get_read now _ c.loop-k.k x refl inside c.index_mut.ensures.value in (
      unites_more (seats c.args.pass.now) (seats c.loop-k.pass) c.args.more.now.items now c.loop-k.k c.loop-k.invariant.0 x at (seats c.meet.new.pass) c.meet.new.seat c.meet.ensures.exchanged,
      c.meet.ensures.reserve ∙ c.loop-k.invariant.1,
    )

pub returns-clause-united : goal.returns-clause-united
returns-clause-united g c =
    unites_all (seats c.args.pass.now) (seats c.loop-k.pass) c.args.more.now.items c.loop-k.more.items c.loop-k.k c.loop-k.invariant.0 (omega (arith, c.loop-k-test.false, c.len-k-end.ensures, c.args.more.now.ok.0, unites_length (seats c.args.pass.now) (seats c.loop-k.pass) c.args.more.now.items c.loop-k.more.items c.loop-k.k c.loop-k.invariant.0))
