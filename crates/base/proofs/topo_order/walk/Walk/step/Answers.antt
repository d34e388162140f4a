use Rattle.std.proofs.Common.{◌++◌, ◌∷◌, [], sym, ◌∙◌, subst, ap}
use Rattle.std.specs.Prelude.{slice_set}
use Rattle.base.specs.TopoOrder.Needs.{Needs}
use Rattle.base.specs.declared.topo_order.walk.Mark.TheVariants.{Open}
use Rattle.base.specs.TopoOrder.Inner.Walk.{IsWalk, taken_of}
use Rattle.base.proofs.OnTopoOrder.Steps.{cycle_found}
use Rattle.base.proofs.OnTopoOrder.Work.{last_known, inside_marks}
use Rattle.base.proofs.OnTopoOrder.Stepping.{step_enter, step_skip, step_leave}
use Rattle.base.proofs.topo_order.walk.Walk.step.Goals as goal

pub next_need-requires-clause-known : goal.next_need-requires-clause-known
next_need-requires-clause-known c = (last_known _ _ _ _ _ _ _ c.requires.walk c.requires.last.1).in_taken

pub next_need-requires-clause-inside : goal.next_need-requires-clause-inside
next_need-requires-clause-inside c = (last_known _ _ _ _ _ _ _ c.requires.walk c.requires.last.1).in_needs

pub mark-requires : goal.mark-requires
mark-requires c =
    let need : Needs c.args.needs.now c.args.top c.in-Some.child = (taken_of c.args.self.now.taken.items c.args.top, sym c.next_need.ensures.need ∙ c.in-Some.is) in
    inside_marks _ _ _ _ _ _ c.requires.walk (c.requires.closed c.args.top c.in-Some.child need)

pub enter-requires : goal.enter-requires
enter-requires c =
    let need : Needs c.args.needs.now c.args.top c.in-Some.child = (taken_of c.args.self.now.taken.items c.args.top, sym c.next_need.ensures.need ∙ c.in-Some.is) in
    rw c.take.ensures.marks (inside_marks _ _ _ _ _ _ c.requires.walk (c.requires.closed c.args.top c.in-Some.child need))

pub take-requires-in-Done-clause-known : goal.take-requires-in-Done-clause-known
take-requires-in-Done-clause-known c = (last_known _ _ _ _ _ _ _ c.requires.walk c.requires.last.1).in_taken

pub leave-requires-clause-known : goal.leave-requires-clause-known
leave-requires-clause-known c = (last_known _ _ _ _ _ _ _ c.requires.walk c.requires.last.1).in_marks

pub returns-in-Open-clause-found : goal.returns-in-Open-clause-found
returns-in-Open-clause-found c =
    let need : Needs c.args.needs.now c.args.top c.in-Some.child = (taken_of c.args.self.now.taken.items c.args.top, sym c.next_need.ensures.need ∙ c.in-Some.is) in
    let walk : IsWalk c.args.needs.now c.args.self.now.marks.items c.args.self.now.taken.items (c.requires.last.0 ++ c.args.top ∷ []) c.args.self.now.order.items =
    subst (λ path. IsWalk c.args.needs.now c.args.self.now.marks.items c.args.self.now.taken.items path c.args.self.now.order.items) c.requires.last.1 c.requires.walk in
    cycle_found _ _ _ _ _ _ _ walk need (sym c.mark.ensures ∙ c.in-Open.is)

pub returns-in_ok-enter-in-New-clause-walk : goal.returns-in_ok-enter-in-New-clause-walk
returns-in_ok-enter-in-New-clause-walk c =
    let told = c.in_ok-enter-in-New.ensures in
    let need = sym c.next_need.ensures.need ∙ c.in-Some.is in
    (step_enter c.args.needs.now c.args.self.now.marks.items c.args.self.now.taken.items c.args.self.now.path.items c.args.self.now.order.items c.requires.last.0 c.args.top c.in-Some.child
    c.enter.new.self.marks.items c.enter.new.self.taken.items c.enter.new.self.path.items c.enter.new.self.order.items c.requires.walk c.requires.last.1
    (c.requires.closed c.args.top c.in-Some.child (taken_of c.args.self.now.taken.items c.args.top, need)) need (sym c.mark.ensures ∙ c.in-New.is)
    (told.marks ∙ ap (λ marks. slice_set marks c.in-Some.child Open) c.take.ensures.marks) (told.taken ∙ c.take.ensures.taken)
    (told.path ∙ ap (λ path. path ++ c.in-Some.child ∷ []) c.take.ensures.path) (told.order ∙ c.take.ensures.order)).walk

pub returns-in_ok-enter-in-New-clause-marks : goal.returns-in_ok-enter-in-New-clause-marks
returns-in_ok-enter-in-New-clause-marks c =
    let told = c.in_ok-enter-in-New.ensures in
    let need = sym c.next_need.ensures.need ∙ c.in-Some.is in
    (step_enter c.args.needs.now c.args.self.now.marks.items c.args.self.now.taken.items c.args.self.now.path.items c.args.self.now.order.items c.requires.last.0 c.args.top c.in-Some.child
    c.enter.new.self.marks.items c.enter.new.self.taken.items c.enter.new.self.path.items c.enter.new.self.order.items c.requires.walk c.requires.last.1
    (c.requires.closed c.args.top c.in-Some.child (taken_of c.args.self.now.taken.items c.args.top, need)) need (sym c.mark.ensures ∙ c.in-New.is)
    (told.marks ∙ ap (λ marks. slice_set marks c.in-Some.child Open) c.take.ensures.marks) (told.taken ∙ c.take.ensures.taken)
    (told.path ∙ ap (λ path. path ++ c.in-Some.child ∷ []) c.take.ensures.path) (told.order ∙ c.take.ensures.order)).on

pub returns-in_ok-enter-in-New-clause-less : goal.returns-in_ok-enter-in-New-clause-less
returns-in_ok-enter-in-New-clause-less c =
    let told = c.in_ok-enter-in-New.ensures in
    let need = sym c.next_need.ensures.need ∙ c.in-Some.is in
    (step_enter c.args.needs.now c.args.self.now.marks.items c.args.self.now.taken.items c.args.self.now.path.items c.args.self.now.order.items c.requires.last.0 c.args.top c.in-Some.child
    c.enter.new.self.marks.items c.enter.new.self.taken.items c.enter.new.self.path.items c.enter.new.self.order.items c.requires.walk c.requires.last.1
    (c.requires.closed c.args.top c.in-Some.child (taken_of c.args.self.now.taken.items c.args.top, need)) need (sym c.mark.ensures ∙ c.in-New.is)
    (told.marks ∙ ap (λ marks. slice_set marks c.in-Some.child Open) c.take.ensures.marks) (told.taken ∙ c.take.ensures.taken)
    (told.path ∙ ap (λ path. path ++ c.in-Some.child ∷ []) c.take.ensures.path) (told.order ∙ c.take.ensures.order)).less

pub returns-in-Done-clause-walk : goal.returns-in-Done-clause-walk
returns-in-Done-clause-walk c =
    let need = sym c.next_need.ensures.need ∙ c.in-Some.is in
    (step_skip c.args.needs.now c.args.self.now.marks.items c.args.self.now.taken.items c.args.self.now.path.items c.args.self.now.order.items c.requires.last.0 c.args.top c.in-Some.child
    c.take-in-Done.new.self.marks.items c.take-in-Done.new.self.taken.items c.take-in-Done.new.self.path.items c.take-in-Done.new.self.order.items c.requires.walk c.requires.last.1
    need (sym c.mark.ensures ∙ c.in-Done.is) c.take-in-Done.ensures.marks c.take-in-Done.ensures.taken c.take-in-Done.ensures.path c.take-in-Done.ensures.order).walk

pub returns-in-Done-clause-marks : goal.returns-in-Done-clause-marks
returns-in-Done-clause-marks c =
    let need = sym c.next_need.ensures.need ∙ c.in-Some.is in
    (step_skip c.args.needs.now c.args.self.now.marks.items c.args.self.now.taken.items c.args.self.now.path.items c.args.self.now.order.items c.requires.last.0 c.args.top c.in-Some.child
    c.take-in-Done.new.self.marks.items c.take-in-Done.new.self.taken.items c.take-in-Done.new.self.path.items c.take-in-Done.new.self.order.items c.requires.walk c.requires.last.1
    need (sym c.mark.ensures ∙ c.in-Done.is) c.take-in-Done.ensures.marks c.take-in-Done.ensures.taken c.take-in-Done.ensures.path c.take-in-Done.ensures.order).on

pub returns-in-Done-clause-less : goal.returns-in-Done-clause-less
returns-in-Done-clause-less c =
    let need = sym c.next_need.ensures.need ∙ c.in-Some.is in
    (step_skip c.args.needs.now c.args.self.now.marks.items c.args.self.now.taken.items c.args.self.now.path.items c.args.self.now.order.items c.requires.last.0 c.args.top c.in-Some.child
    c.take-in-Done.new.self.marks.items c.take-in-Done.new.self.taken.items c.take-in-Done.new.self.path.items c.take-in-Done.new.self.order.items c.requires.walk c.requires.last.1
    need (sym c.mark.ensures ∙ c.in-Done.is) c.take-in-Done.ensures.marks c.take-in-Done.ensures.taken c.take-in-Done.ensures.path c.take-in-Done.ensures.order).less

pub returns-in_ok-leave-in-None-clause-walk : goal.returns-in_ok-leave-in-None-clause-walk
returns-in_ok-leave-in-None-clause-walk c =
    let told = c.in_ok-leave-in-None.ensures in
    (step_leave c.args.needs.now c.args.self.now.marks.items c.args.self.now.taken.items c.args.self.now.path.items c.args.self.now.order.items c.requires.last.0 told.path.0 c.args.top
    c.leave.new.self.marks.items c.leave.new.self.taken.items c.leave.new.self.path.items c.leave.new.self.order.items c.requires.walk c.requires.last.1 told.path.1
    (sym c.next_need.ensures.need ∙ c.in-None.is) told.marks told.taken told.path.2 told.order).walk

pub returns-in_ok-leave-in-None-clause-marks : goal.returns-in_ok-leave-in-None-clause-marks
returns-in_ok-leave-in-None-clause-marks c =
    let told = c.in_ok-leave-in-None.ensures in
    (step_leave c.args.needs.now c.args.self.now.marks.items c.args.self.now.taken.items c.args.self.now.path.items c.args.self.now.order.items c.requires.last.0 told.path.0 c.args.top
    c.leave.new.self.marks.items c.leave.new.self.taken.items c.leave.new.self.path.items c.leave.new.self.order.items c.requires.walk c.requires.last.1 told.path.1
    (sym c.next_need.ensures.need ∙ c.in-None.is) told.marks told.taken told.path.2 told.order).on

pub returns-in_ok-leave-in-None-clause-less : goal.returns-in_ok-leave-in-None-clause-less
returns-in_ok-leave-in-None-clause-less c =
    let told = c.in_ok-leave-in-None.ensures in
    (step_leave c.args.needs.now c.args.self.now.marks.items c.args.self.now.taken.items c.args.self.now.path.items c.args.self.now.order.items c.requires.last.0 told.path.0 c.args.top
    c.leave.new.self.marks.items c.leave.new.self.taken.items c.leave.new.self.path.items c.leave.new.self.order.items c.requires.walk c.requires.last.1 told.path.1
    (sym c.next_need.ensures.need ∙ c.in-None.is) told.marks told.taken told.path.2 told.order).less
