use Rattle.std.proofs.Common.{ℕ, ◌-◌, List, length, sym, ap, ◌∙◌}
use Rattle.std.specs.Prelude.{slice_get}
use Rattle.base.proofs.OnTopoOrder.Gathering.{last_is, visit_begins}
use Rattle.base.proofs.OnTopoOrder.Numbering.{numbering_met}
use Rattle.base.proofs.topo_order.groups.Groups.visit.Goals as goal

pub loop-top-init : goal.loop-top-init
loop-top-init c =
    let told = c.in_ok-enter.ensures in
    let began = visit_begins c.args.needs.now c.args.self.now.marks.items c.args.self.now.taken.items c.args.self.now.positions.items c.args.self.now.path.items c.args.self.now.stack.items c.args.self.now.starts.items c.args.self.now.loops.items c.args.root
    c.enter.new.self.marks.items c.enter.new.self.taken.items c.enter.new.self.positions.items c.enter.new.self.path.items c.enter.new.self.stack.items c.enter.new.self.starts.items c.enter.new.self.loops.items
    c.requires.walk c.requires.empty c.requires.inside c.requires.new told.marks told.taken told.positions told.path told.stack told.starts told.loops in
    let numbers = numbering_met c.args.needs.now c.args.self.now.marks.items c.args.self.now.numbers.items c.args.root c.enter.new.self.marks.items c.enter.new.self.numbers.items
    c.requires.numbers c.requires.walk.marks_size c.requires.inside c.requires.new told.marks told.numbers in
    record { walk = began.grouping; numbers = numbers; begun = began.begun; done = began.done }

pub step-requires-clause-last : goal.step-requires-clause-last
step-requires-clause-last c =
    last_is c.loop-top.self.path.items c.in-Some.top
    (ap (λ (xs : List ℕ). slice_get xs (length xs - 1)) (sym c.deref.ensures.value) ∙ sym c.last.ensures.value ∙ sym c.copied.ensures ∙ c.in-Some.is)

pub loop-top-preserved : goal.loop-top-preserved
loop-top-preserved c =
    let told = c.in_ok-step.ensures in
    record {
      walk = told.walk;
      numbers = told.numbers;
      begun = told.marks.begun c.args.root c.loop-top.invariant.begun;
      done = λ i h. told.marks.done i (c.loop-top.invariant.done i h);
    }
