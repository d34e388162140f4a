use Rattle.std.proofs.Common.{arith}
use Rattle.task_queue.specs.declared.queue.TaskPass.{TaskPass}
use Rattle.task_queue.proofs.OnPasses.{may_leave, left_owned, left_first, left_second, left_dealt, left_run, left_room, left_sums}
use Rattle.task_queue.proofs.queue.TaskQueue.split.Goals as goal

pub leave-requires : goal.leave-requires
leave-requires g c = may_leave c.args.self.now c.args.pass.now c.pop.new.self.items c.in-Some.seat c.requires.pass.0 c.requires.pass.1 c.in-Some.ensures.items

pub returns-clause-passes : goal.returns-clause-passes
returns-clause-passes g c =
    let v : TaskPass _ _ = record { first = c.leave.new.seat; more = c.new.result } in
    let is = c.requires.pass in
    let both = left_dealt c.args.self.now c.args.pass.now c.pop.new.self.items c.in-Some.seat is.0 is.1 c.in-Some.ensures.items c.leave.new.pass v c.leave.ensures.exchanged c.new.ensures.items in (
      left_first c.args.self.now c.args.pass.now c.pop.new.self.items c.in-Some.seat is.0 is.1 c.in-Some.ensures.items c.leave.new.pass v c.leave.ensures.exchanged c.new.ensures.items,
      left_second c.args.self.now c.args.pass.now c.pop.new.self.items c.in-Some.seat is.0 is.1 c.in-Some.ensures.items c.leave.new.pass v c.leave.ensures.exchanged c.new.ensures.items,
      both.0,
      both.1,
    )

pub returns-clause-deques : goal.returns-clause-deques
returns-clause-deques g c =
    let v : TaskPass _ _ = record { first = c.leave.new.seat; more = c.new.result } in
    let is = c.requires.pass in
    let own = left_owned c.args.self.now c.args.pass.now c.pop.new.self.items c.in-Some.seat is.0 is.1 c.in-Some.ensures.items c.leave.new.pass v c.leave.ensures.exchanged c.new.ensures.items in
    (own.0, own.1, omega (arith, c.leave.ensures.reserve, c.in-Some.ensures.capacity))

pub returns-clause-run : goal.returns-clause-run
returns-clause-run g c =
    let v : TaskPass _ _ = record { first = c.leave.new.seat; more = c.new.result } in
    let is = c.requires.pass in
    left_run c.args.self.now c.args.pass.now c.pop.new.self.items c.in-Some.seat is.0 is.1 c.in-Some.ensures.items c.leave.new.pass v c.leave.ensures.exchanged c.new.ensures.items

pub returns-clause-room : goal.returns-clause-room
returns-clause-room g c =
    let v : TaskPass _ _ = record { first = c.leave.new.seat; more = c.new.result } in
    let is = c.requires.pass in
    left_room c.args.self.now c.args.pass.now c.pop.new.self.items c.in-Some.seat is.0 is.1 c.in-Some.ensures.items c.leave.new.pass v c.leave.ensures.exchanged c.new.ensures.items

pub returns-clause-sums : goal.returns-clause-sums
returns-clause-sums g c =
    let v : TaskPass _ _ = record { first = c.leave.new.seat; more = c.new.result } in
    let is = c.requires.pass in
    left_sums c.args.self.now c.args.pass.now c.pop.new.self.items c.in-Some.seat is.0 is.1 c.in-Some.ensures.items c.leave.new.pass v c.leave.ensures.exchanged c.new.ensures.items
