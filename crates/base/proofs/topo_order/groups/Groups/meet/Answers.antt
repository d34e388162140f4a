use Rattle.std.proofs.Common.{◌∙◌, sym}
use Rattle.base.proofs.OnTopoOrder.Gathering.{met_new, met_open, met_done, place_read}
use Rattle.base.proofs.OnTopoOrder.Grouping.{inside_places}
use Rattle.base.proofs.OnTopoOrder.Numbering.{numbering_met}
use Rattle.base.proofs.topo_order.groups.Groups.meet.Goals as goal

pub returns-in_ok-enter-in-New-clause-walk : goal.returns-in_ok-enter-in-New-clause-walk
returns-in_ok-enter-in-New-clause-walk c =
    let told = c.in_ok-enter-in-New.ensures in
    (met_new c.args.needs.now c.args.self.now.marks.items c.args.self.now.taken.items c.args.self.now.positions.items c.args.self.now.path.items c.args.self.now.stack.items c.args.self.now.starts.items c.args.self.now.loops.items c.requires.last.0 c.args.top c.args.child
    c.enter.new.self.marks.items c.enter.new.self.taken.items c.enter.new.self.positions.items c.enter.new.self.path.items c.enter.new.self.stack.items c.enter.new.self.starts.items c.enter.new.self.loops.items
    c.requires.walk c.requires.last.1 c.requires.inside c.requires.next (sym c.mark.ensures ∙ c.in-New.is)
    told.marks (told.taken ∙ c.take.ensures) told.positions told.path told.stack told.starts told.loops).grouping

pub returns-in_ok-enter-in-New-clause-numbers : goal.returns-in_ok-enter-in-New-clause-numbers
returns-in_ok-enter-in-New-clause-numbers c =
    let told = c.in_ok-enter-in-New.ensures in
    numbering_met c.args.needs.now c.args.self.now.marks.items c.args.self.now.numbers.items c.args.child c.enter.new.self.marks.items c.enter.new.self.numbers.items
    c.requires.numbers c.requires.walk.marks_size c.requires.inside (sym c.mark.ensures ∙ c.in-New.is) told.marks told.numbers

pub returns-in_ok-enter-in-New-clause-marks : goal.returns-in_ok-enter-in-New-clause-marks
returns-in_ok-enter-in-New-clause-marks c =
    let told = c.in_ok-enter-in-New.ensures in
    (met_new c.args.needs.now c.args.self.now.marks.items c.args.self.now.taken.items c.args.self.now.positions.items c.args.self.now.path.items c.args.self.now.stack.items c.args.self.now.starts.items c.args.self.now.loops.items c.requires.last.0 c.args.top c.args.child
    c.enter.new.self.marks.items c.enter.new.self.taken.items c.enter.new.self.positions.items c.enter.new.self.path.items c.enter.new.self.stack.items c.enter.new.self.starts.items c.enter.new.self.loops.items
    c.requires.walk c.requires.last.1 c.requires.inside c.requires.next (sym c.mark.ensures ∙ c.in-New.is)
    told.marks (told.taken ∙ c.take.ensures) told.positions told.path told.stack told.starts told.loops).on

pub returns-in_ok-enter-in-New-clause-less : goal.returns-in_ok-enter-in-New-clause-less
returns-in_ok-enter-in-New-clause-less c =
    let told = c.in_ok-enter-in-New.ensures in
    (met_new c.args.needs.now c.args.self.now.marks.items c.args.self.now.taken.items c.args.self.now.positions.items c.args.self.now.path.items c.args.self.now.stack.items c.args.self.now.starts.items c.args.self.now.loops.items c.requires.last.0 c.args.top c.args.child
    c.enter.new.self.marks.items c.enter.new.self.taken.items c.enter.new.self.positions.items c.enter.new.self.path.items c.enter.new.self.stack.items c.enter.new.self.starts.items c.enter.new.self.loops.items
    c.requires.walk c.requires.last.1 c.requires.inside c.requires.next (sym c.mark.ensures ∙ c.in-New.is)
    told.marks (told.taken ∙ c.take.ensures) told.positions told.path told.stack told.starts told.loops).less

pub returns-in-Open-clause-walk : goal.returns-in-Open-clause-walk
returns-in-Open-clause-walk c =
    (met_open c.args.needs.now c.args.self.now.marks.items c.args.self.now.taken.items c.args.self.now.positions.items c.args.self.now.path.items c.args.self.now.stack.items c.args.self.now.starts.items c.args.self.now.loops.items c.requires.last.0 c.args.top c.args.child c.index-at.result.now
    c.take.new.taken.items c.join.new.starts.items c.notice.new.loops.items
    c.requires.walk c.requires.last.1 c.requires.next (sym c.mark.ensures ∙ c.in-Open.is)
    (place_read c.args.self.now.positions.items c.args.child c.index-at.result.now c.index-at.result.now (inside_places c.args.needs.now c.args.self.now.positions.items c.requires.walk.positions_size c.args.child c.requires.inside) c.index-at.ensures)
    c.take.ensures c.notice.ensures c.join.ensures).grouping

pub returns-in-Open-clause-less : goal.returns-in-Open-clause-less
returns-in-Open-clause-less c =
    (met_open c.args.needs.now c.args.self.now.marks.items c.args.self.now.taken.items c.args.self.now.positions.items c.args.self.now.path.items c.args.self.now.stack.items c.args.self.now.starts.items c.args.self.now.loops.items c.requires.last.0 c.args.top c.args.child c.index-at.result.now
    c.take.new.taken.items c.join.new.starts.items c.notice.new.loops.items
    c.requires.walk c.requires.last.1 c.requires.next (sym c.mark.ensures ∙ c.in-Open.is)
    (place_read c.args.self.now.positions.items c.args.child c.index-at.result.now c.index-at.result.now (inside_places c.args.needs.now c.args.self.now.positions.items c.requires.walk.positions_size c.args.child c.requires.inside) c.index-at.ensures)
    c.take.ensures c.notice.ensures c.join.ensures).less

pub returns-in-Done-clause-walk : goal.returns-in-Done-clause-walk
returns-in-Done-clause-walk c =
    (met_done c.args.needs.now c.args.self.now.marks.items c.args.self.now.taken.items c.args.self.now.positions.items c.args.self.now.path.items c.args.self.now.stack.items c.args.self.now.starts.items c.args.self.now.loops.items c.requires.last.0 c.args.top c.args.child
    c.take.new.taken.items c.requires.walk c.requires.last.1 c.requires.next (sym c.mark.ensures ∙ c.in-Done.is) c.take.ensures).grouping

pub returns-in-Done-clause-less : goal.returns-in-Done-clause-less
returns-in-Done-clause-less c =
    (met_done c.args.needs.now c.args.self.now.marks.items c.args.self.now.taken.items c.args.self.now.positions.items c.args.self.now.path.items c.args.self.now.stack.items c.args.self.now.starts.items c.args.self.now.loops.items c.requires.last.0 c.args.top c.args.child
    c.take.new.taken.items c.requires.walk c.requires.last.1 c.requires.next (sym c.mark.ensures ∙ c.in-Done.is) c.take.ensures).less
