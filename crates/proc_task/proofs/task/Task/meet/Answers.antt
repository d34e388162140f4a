use Rattle.std.proofs.Common.{refl, ap, subst}
use Rattle.base.proofs.Lemmas.Lists.Indices.{slice_get-set, slice_get-set_other}
use Rattle.proc_task.specs.Ports.{AreEnds}
use Rattle.proc_task.proofs.Ports.{found}
use Rattle.proc_task.proofs.Steps.{set_outlet, set_inlet, same_item}
use Rattle.proc_task.proofs.task.Task.meet.Goals as goal

pub meet-requires-clause-outlet : goal.meet-requires-clause-outlet
meet-requires-clause-outlet g c =
    let t = c.args.self.now in
    let u = c.args.other.now in
    let ends = c.requires.ends in
    let was = found t.outlets.items c.args.outlet c.index_mut.result.now ends.outlet ends.outlet_is c.index_mut.ensures.value in
    let had = found u.inlets.items c.args.inlet c.index_mut-2.result.now ends.inlet ends.inlet_is c.index_mut-2.ensures.value in
    c.requires.task.ports.outlet c.args.outlet c.index_mut.result.now was

pub meet-requires-clause-inlet : goal.meet-requires-clause-inlet
meet-requires-clause-inlet g c =
    let t = c.args.self.now in
    let u = c.args.other.now in
    let ends = c.requires.ends in
    let was = found t.outlets.items c.args.outlet c.index_mut.result.now ends.outlet ends.outlet_is c.index_mut.ensures.value in
    let had = found u.inlets.items c.args.inlet c.index_mut-2.result.now ends.inlet ends.inlet_is c.index_mut-2.ensures.value in
    c.requires.other.ports.inlet c.args.inlet c.index_mut-2.result.now had

pub meet-requires-clause-ends : goal.meet-requires-clause-ends
meet-requires-clause-ends g c =
    let t = c.args.self.now in
    let u = c.args.other.now in
    let ends = c.requires.ends in
    let was = found t.outlets.items c.args.outlet c.index_mut.result.now ends.outlet ends.outlet_is c.index_mut.ensures.value in
    let had = found u.inlets.items c.args.inlet c.index_mut-2.result.now ends.inlet ends.inlet_is c.index_mut-2.ensures.value in
    subst (λ x. AreEnds x c.index_mut-2.result.now) (same_item t.outlets.items c.args.outlet ends.outlet c.index_mut.result.now ends.outlet_is was) (subst (λ x. AreEnds ends.outlet x) (same_item u.inlets.items c.args.inlet ends.inlet c.index_mut-2.result.now ends.inlet_is had) ends.ends)

pub returns-clause-task : goal.returns-clause-task
returns-clause-task g c =
    let t = c.args.self.now in
    let u = c.args.other.now in
    let ends = c.requires.ends in
    let was = found t.outlets.items c.args.outlet c.index_mut.result.now ends.outlet ends.outlet_is c.index_mut.ensures.value in
    let had = found u.inlets.items c.args.inlet c.index_mut-2.result.now ends.inlet ends.inlet_is c.index_mut-2.ensures.value in
    set_outlet _ _ t c.requires.task c.args.outlet c.index_mut.result.now c.meet.new.outlet _ was c.meet.ensures.outlet.0 c.meet.ensures.outlet.1 (ap (λ v. v.items) c.meet.ensures.outlet.2) refl refl refl refl refl refl refl

pub returns-clause-other : goal.returns-clause-other
returns-clause-other g c =
    let t = c.args.self.now in
    let u = c.args.other.now in
    let ends = c.requires.ends in
    let was = found t.outlets.items c.args.outlet c.index_mut.result.now ends.outlet ends.outlet_is c.index_mut.ensures.value in
    let had = found u.inlets.items c.args.inlet c.index_mut-2.result.now ends.inlet ends.inlet_is c.index_mut-2.ensures.value in
    set_inlet _ _ u c.requires.other c.args.inlet c.index_mut-2.result.now c.meet.new.inlet _ had c.meet.ensures.inlet.0 c.meet.ensures.inlet.1 c.meet.ensures.inlet.2 refl refl refl refl refl refl refl

pub returns-clause-same : goal.returns-clause-same
returns-clause-same g c =
    let t = c.args.self.now in
    let u = c.args.other.now in
    let ends = c.requires.ends in
    let was = found t.outlets.items c.args.outlet c.index_mut.result.now ends.outlet ends.outlet_is c.index_mut.ensures.value in
    let had = found u.inlets.items c.args.inlet c.index_mut-2.result.now ends.inlet ends.inlet_is c.index_mut-2.ensures.value in (
      record { runtime = refl; number = refl; count = refl; stands = refl; outlets = λ j h. slice_get-set_other t.outlets.items c.args.outlet j c.meet.new.outlet h; inlets = refl },
      record { runtime = refl; number = refl; count = refl; stands = refl; outlets = refl; inlets = λ j h. slice_get-set_other u.inlets.items c.args.inlet j c.meet.new.inlet h },
    )

pub returns-clause-met : goal.returns-clause-met
returns-clause-met g c =
    let t = c.args.self.now in
    let u = c.args.other.now in
    let ends = c.requires.ends in
    let was = found t.outlets.items c.args.outlet c.index_mut.result.now ends.outlet ends.outlet_is c.index_mut.ensures.value in
    let had = found u.inlets.items c.args.inlet c.index_mut-2.result.now ends.inlet ends.inlet_is c.index_mut-2.ensures.value in
    record {
      outlet = c.meet.new.outlet;
      inlet = c.meet.new.inlet;
      outlet_is = slice_get-set t.outlets.items c.args.outlet c.index_mut.result.now c.meet.new.outlet was;
      inlet_is = slice_get-set u.inlets.items c.args.inlet c.index_mut-2.result.now c.meet.new.inlet had;
      ends = c.meet.ensures.ends;
      met = c.meet.ensures.met;
    }
