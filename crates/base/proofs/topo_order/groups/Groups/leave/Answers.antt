use Rattle.std.proofs.Common.{sym, subst, arith}
use Rattle.std.proofs.lemmas.Option.{slice_get_within}
use Rattle.base.specs.TopoOrder.Inner.Groups.{IsGrouping, IsNoLast, position_of}
use Rattle.base.proofs.OnTopoOrder.Gathering.{is_top, place_read, stack_in_marks, stack_in_loops, left_plain, closed_to}
use Rattle.base.proofs.OnTopoOrder.Numbering.{numbering_closed, stack_in_numbers}
use Rattle.base.proofs.topo_order.groups.Groups.leave.Goals as goal

pub close-requires-clause-within : goal.close-requires-clause-within
close-requires-clause-within c =
    let top = is_top c.args.needs.now c.args.self.now.marks.items c.args.self.now.taken.items c.args.self.now.positions.items c.args.self.now.path.items c.args.self.now.stack.items c.args.self.now.starts.items c.args.self.now.loops.items c.pop_top.new.path.items c.args.top c.requires.walk c.pop_top.ensures in
    let place = place_read c.args.self.now.positions.items c.args.top c.index-at.result.now c.index-at.result.now top.in_places c.index-at.ensures in
    let low = slice_get_within c.args.self.now.stack.items (position_of c.args.self.now.positions.items c.args.top) c.args.top top.at in
    omega (arith, low, place)

pub close-requires-clause-marks : goal.close-requires-clause-marks
close-requires-clause-marks c =
    stack_in_marks c.args.needs.now c.args.self.now.marks.items c.args.self.now.taken.items c.args.self.now.positions.items c.args.self.now.path.items c.args.self.now.stack.items c.args.self.now.starts.items c.args.self.now.loops.items c.requires.walk

pub close-requires-clause-loops : goal.close-requires-clause-loops
close-requires-clause-loops c =
    stack_in_loops c.args.needs.now c.args.self.now.marks.items c.args.self.now.taken.items c.args.self.now.positions.items c.args.self.now.path.items c.args.self.now.stack.items c.args.self.now.starts.items c.args.self.now.loops.items c.requires.walk

pub close-requires-clause-numbers : goal.close-requires-clause-numbers
close-requires-clause-numbers c =
    stack_in_numbers c.args.needs.now c.args.self.now.marks.items c.args.self.now.taken.items c.args.self.now.positions.items c.args.self.now.path.items c.args.self.now.stack.items c.args.self.now.starts.items c.args.self.now.loops.items
    c.args.self.now.numbers.items c.requires.walk c.requires.numbers

pub returns-then-ends_at-clause-numbers : goal.returns-then-ends_at-clause-numbers
returns-then-ends_at-clause-numbers c =
    let told = c.close.ensures in
    let top = is_top c.args.needs.now c.args.self.now.marks.items c.args.self.now.taken.items c.args.self.now.positions.items c.args.self.now.path.items c.args.self.now.stack.items c.args.self.now.starts.items c.args.self.now.loops.items c.pop_top.new.path.items c.args.top c.requires.walk c.pop_top.ensures in
    numbering_closed c.args.needs.now c.args.self.now.marks.items c.args.self.now.taken.items c.args.self.now.positions.items c.args.self.now.path.items c.args.self.now.stack.items c.args.self.now.starts.items c.args.self.now.loops.items
    c.pop_top.new.path.items c.ends_at.new.starts.items c.args.top c.index-at.result.now
    c.args.self.now.numbers.items c.close.new.self.marks.items c.close.new.self.numbers.items
    c.requires.walk c.pop_top.ensures c.requires.all c.if-ends_at.ensures
    (place_read c.args.self.now.positions.items c.args.top c.index-at.result.now c.index-at.result.now top.in_places c.index-at.ensures)
    c.requires.numbers told.marks told.numbers

pub returns-then-ends_at-clause-walk : goal.returns-then-ends_at-clause-walk
returns-then-ends_at-clause-walk c =
    let told = c.close.ensures in
    let top = is_top c.args.needs.now c.args.self.now.marks.items c.args.self.now.taken.items c.args.self.now.positions.items c.args.self.now.path.items c.args.self.now.stack.items c.args.self.now.starts.items c.args.self.now.loops.items c.pop_top.new.path.items c.args.top c.requires.walk c.pop_top.ensures in
    (closed_to c.args.needs.now c.args.self.now.marks.items c.args.self.now.taken.items c.args.self.now.positions.items c.args.self.now.path.items c.args.self.now.stack.items c.args.self.now.starts.items c.args.self.now.loops.items
    c.pop_top.new.path.items c.ends_at.new.starts.items c.args.top c.index-at.result.now
    c.close.new.self.marks.items c.close.new.self.taken.items c.close.new.self.positions.items c.close.new.self.path.items c.close.new.self.stack.items c.close.new.self.starts.items c.close.new.self.loops.items
    c.requires.walk c.pop_top.ensures c.requires.all c.if-ends_at.ensures
    (place_read c.args.self.now.positions.items c.args.top c.index-at.result.now c.index-at.result.now top.in_places c.index-at.ensures)
    told.marks told.taken told.positions told.path told.stack told.starts told.loops).grouping

pub returns-then-ends_at-clause-marks : goal.returns-then-ends_at-clause-marks
returns-then-ends_at-clause-marks c =
    let told = c.close.ensures in
    let top = is_top c.args.needs.now c.args.self.now.marks.items c.args.self.now.taken.items c.args.self.now.positions.items c.args.self.now.path.items c.args.self.now.stack.items c.args.self.now.starts.items c.args.self.now.loops.items c.pop_top.new.path.items c.args.top c.requires.walk c.pop_top.ensures in
    (closed_to c.args.needs.now c.args.self.now.marks.items c.args.self.now.taken.items c.args.self.now.positions.items c.args.self.now.path.items c.args.self.now.stack.items c.args.self.now.starts.items c.args.self.now.loops.items
    c.pop_top.new.path.items c.ends_at.new.starts.items c.args.top c.index-at.result.now
    c.close.new.self.marks.items c.close.new.self.taken.items c.close.new.self.positions.items c.close.new.self.path.items c.close.new.self.stack.items c.close.new.self.starts.items c.close.new.self.loops.items
    c.requires.walk c.pop_top.ensures c.requires.all c.if-ends_at.ensures
    (place_read c.args.self.now.positions.items c.args.top c.index-at.result.now c.index-at.result.now top.in_places c.index-at.ensures)
    told.marks told.taken told.positions told.path told.stack told.starts told.loops).on

pub returns-else-ends_at-clause-walk : goal.returns-else-ends_at-clause-walk
returns-else-ends_at-clause-walk c =
    let top = is_top c.args.needs.now c.args.self.now.marks.items c.args.self.now.taken.items c.args.self.now.positions.items c.args.self.now.path.items c.args.self.now.stack.items c.args.self.now.starts.items c.args.self.now.loops.items c.pop_top.new.path.items c.args.top c.requires.walk c.pop_top.ensures in
    let place = place_read c.args.self.now.positions.items c.args.top c.index-at.result.now c.index-at.result.now top.in_places c.index-at.ensures in
    subst (λ s. IsGrouping c.args.needs.now c.args.self.now.marks.items c.args.self.now.taken.items c.args.self.now.positions.items c.pop_top.new.path.items c.args.self.now.stack.items s c.args.self.now.loops.items) (sym c.if-ends_at.ensures.1)
    (left_plain c.args.needs.now c.args.self.now.marks.items c.args.self.now.taken.items c.args.self.now.positions.items c.args.self.now.path.items c.args.self.now.stack.items c.args.self.now.starts.items c.args.self.now.loops.items
    c.pop_top.new.path.items c.args.top c.requires.walk c.pop_top.ensures c.requires.all (subst (IsNoLast c.args.self.now.starts.items) place c.if-ends_at.ensures.0))
