use Rattle.std.proofs.Common.{sym, ◌∙◌}
use Rattle.base.specs.TopoOrder.Inner.Walk.{taken_of}
use Rattle.base.proofs.OnTopoOrder.Gathering.{is_top}
use Rattle.base.proofs.topo_order.groups.Groups.step.Goals as goal

pub next_need-requires-clause-known : goal.next_need-requires-clause-known
next_need-requires-clause-known c =
    (is_top c.args.needs.now c.args.self.now.marks.items c.args.self.now.taken.items c.args.self.now.positions.items c.args.self.now.path.items c.args.self.now.stack.items c.args.self.now.starts.items c.args.self.now.loops.items c.requires.last.0 c.args.top c.requires.walk c.requires.last.1).in_taken

pub next_need-requires-clause-inside : goal.next_need-requires-clause-inside
next_need-requires-clause-inside c =
    (is_top c.args.needs.now c.args.self.now.marks.items c.args.self.now.taken.items c.args.self.now.positions.items c.args.self.now.path.items c.args.self.now.stack.items c.args.self.now.starts.items c.args.self.now.loops.items c.requires.last.0 c.args.top c.requires.walk c.requires.last.1).in_needs

pub meet-requires-clause-inside : goal.meet-requires-clause-inside
meet-requires-clause-inside c = c.requires.closed c.args.top c.in-Some.child (taken_of c.args.self.now.taken.items c.args.top, sym c.next_need.ensures.need ∙ c.in-Some.is)
