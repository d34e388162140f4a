use Rattle.std.proofs.Common.{◌≡◌, ◌∷◌, ◌++◌, ◌∙◌, map, arith}
use Rattle.task_queue.specs.Seats.{seat_number}
use Rattle.task_queue.specs.Passes.{owned, seats}
use Rattle.task_queue.proofs.OnPasses.{may_meet, may_meet_all, met_all, joined_owned, joined, joined_dealt, joined_run, joined_room, joined_sums, seats_length}
use Rattle.task_queue.proofs.queue.TaskQueue.join.Goals as goal

pub meet-requires : goal.meet-requires
meet-requires g c = may_meet c.args.self.now c.args.pass.now c.args.other c.requires.pass.0 c.requires.other.0 c.requires.pass.1 c.requires.other.1 c.requires.apart

pub meet_all-requires : goal.meet_all-requires
meet_all-requires g c = may_meet_all c.args.self.now c.args.pass.now c.args.other c.requires.pass.0 c.requires.other.0 c.requires.pass.1 c.requires.other.1 c.requires.apart c.meet.new.pass c.meet.new.seat c.meet.ensures.exchanged

pub take_in-requires : goal.take_in-requires
take_in-requires g c =
    let mine = seats_length (seats c.meet_all.new.pass) (owned c.args.pass.now) (c.meet_all.ensures.united.numbers.0 ∙ c.meet.ensures.exchanged.numbers) in
    let theirs = seats_length c.meet_all.new.more.items (map seat_number c.args.other.more.items) c.meet_all.ensures.united.numbers.1 in
    omega (arith, mine, theirs, c.requires.reserve, c.meet.ensures.reserve, c.meet_all.ensures.reserve)

pub returns-clause-pass : goal.returns-clause-pass
returns-clause-pass g c =
    let is = c.requires.pass in
    let of = c.requires.other in
    let one = met_all c.args.self.now c.args.pass.now c.args.other is.0 of.0 is.1 of.1 c.requires.apart c.meet.new.pass c.meet.new.seat c.meet.ensures.exchanged c.meet_all.new.pass c.meet_all.new.more.items c.meet_all.ensures.united in
    let items : seats c.take_in.new.pass ≡ seats c.meet_all.new.pass ++ c.meet.new.seat ∷ c.meet_all.new.more.items = (λ i. c.take_in.ensures.items.0 i ∷ c.take_in.ensures.items.1 i) in
    (joined c.args.self.now c.args.pass.now c.args.other is.0 of.0 is.1 of.1 c.requires.apart c.take_in.new.pass (seats c.meet_all.new.pass) (c.meet.new.seat ∷ c.meet_all.new.more.items) one items, joined_dealt c.args.self.now c.args.pass.now c.args.other is.0 of.0 is.1 of.1 c.requires.apart c.take_in.new.pass (seats c.meet_all.new.pass) (c.meet.new.seat ∷ c.meet_all.new.more.items) one items)

pub returns-clause-deques : goal.returns-clause-deques
returns-clause-deques g c =
    let is = c.requires.pass in
    let of = c.requires.other in
    let one = met_all c.args.self.now c.args.pass.now c.args.other is.0 of.0 is.1 of.1 c.requires.apart c.meet.new.pass c.meet.new.seat c.meet.ensures.exchanged c.meet_all.new.pass c.meet_all.new.more.items c.meet_all.ensures.united in
    let items : seats c.take_in.new.pass ≡ seats c.meet_all.new.pass ++ c.meet.new.seat ∷ c.meet_all.new.more.items = (λ i. c.take_in.ensures.items.0 i ∷ c.take_in.ensures.items.1 i) in
    (joined_owned c.args.self.now c.args.pass.now c.args.other is.0 of.0 is.1 of.1 c.requires.apart c.take_in.new.pass (seats c.meet_all.new.pass) (c.meet.new.seat ∷ c.meet_all.new.more.items) one items, omega (arith, c.meet.ensures.reserve, c.meet_all.ensures.reserve, c.take_in.ensures.reserve))

pub returns-clause-run : goal.returns-clause-run
returns-clause-run g c =
    let is = c.requires.pass in
    let of = c.requires.other in
    let one = met_all c.args.self.now c.args.pass.now c.args.other is.0 of.0 is.1 of.1 c.requires.apart c.meet.new.pass c.meet.new.seat c.meet.ensures.exchanged c.meet_all.new.pass c.meet_all.new.more.items c.meet_all.ensures.united in
    let items : seats c.take_in.new.pass ≡ seats c.meet_all.new.pass ++ c.meet.new.seat ∷ c.meet_all.new.more.items = (λ i. c.take_in.ensures.items.0 i ∷ c.take_in.ensures.items.1 i) in
    joined_run c.args.self.now c.args.pass.now c.args.other is.0 of.0 is.1 of.1 c.requires.apart c.take_in.new.pass (seats c.meet_all.new.pass) (c.meet.new.seat ∷ c.meet_all.new.more.items) one items

pub returns-clause-room : goal.returns-clause-room
returns-clause-room g c =
    let is = c.requires.pass in
    let of = c.requires.other in
    let one = met_all c.args.self.now c.args.pass.now c.args.other is.0 of.0 is.1 of.1 c.requires.apart c.meet.new.pass c.meet.new.seat c.meet.ensures.exchanged c.meet_all.new.pass c.meet_all.new.more.items c.meet_all.ensures.united in
    let items : seats c.take_in.new.pass ≡ seats c.meet_all.new.pass ++ c.meet.new.seat ∷ c.meet_all.new.more.items = (λ i. c.take_in.ensures.items.0 i ∷ c.take_in.ensures.items.1 i) in
    joined_room c.args.self.now c.args.pass.now c.args.other is.0 of.0 is.1 of.1 c.requires.apart c.take_in.new.pass (seats c.meet_all.new.pass) (c.meet.new.seat ∷ c.meet_all.new.more.items) one items

pub returns-clause-sums : goal.returns-clause-sums
returns-clause-sums g c =
    let is = c.requires.pass in
    let of = c.requires.other in
    let one = met_all c.args.self.now c.args.pass.now c.args.other is.0 of.0 is.1 of.1 c.requires.apart c.meet.new.pass c.meet.new.seat c.meet.ensures.exchanged c.meet_all.new.pass c.meet_all.new.more.items c.meet_all.ensures.united in
    let items : seats c.take_in.new.pass ≡ seats c.meet_all.new.pass ++ c.meet.new.seat ∷ c.meet_all.new.more.items = (λ i. c.take_in.ensures.items.0 i ∷ c.take_in.ensures.items.1 i) in
    joined_sums c.args.self.now c.args.pass.now c.args.other is.0 of.0 is.1 of.1 c.requires.apart c.take_in.new.pass (seats c.meet_all.new.pass) (c.meet.new.seat ∷ c.meet_all.new.more.items) one items
