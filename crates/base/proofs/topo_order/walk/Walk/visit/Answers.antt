use Rattle.base.proofs.OnTopoOrder.Stepping.{step_begin}
use Rattle.base.proofs.topo_order.walk.Walk.visit.Goals as goal

pub loop-top-init : goal.loop-top-init
loop-top-init c =
    let told = c.in_ok-enter.ensures in
    let began = step_begin c.args.needs.now c.args.self.now.marks.items c.args.self.now.taken.items c.args.self.now.path.items c.args.self.now.order.items c.args.root
    c.enter.new.self.marks.items c.enter.new.self.taken.items c.enter.new.self.path.items c.enter.new.self.order.items
    c.requires.walk c.requires.empty c.requires.inside c.requires.new told.marks told.taken told.path told.order in
    record { walk = began.walk; begun = began.begun; done = began.on.done }
