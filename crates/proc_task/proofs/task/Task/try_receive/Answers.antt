use Rattle.std.proofs.Common.{refl, ap, ◌∙◌, arith, [], ◌∷◌, ◌++◌}
use Rattle.std.proofs.lemmas.Option.{slice_get_within}
use Rattle.proc_task.proofs.Ports.{place_read, there_found, told_set}
use Rattle.proc_task.proofs.Steps.{unchanged, inlet_there, may_take, few_sites, after_receive, held_receive, set_inlet, receive_later, stays_put}
use Rattle.proc_task.specs.Ports.{told_in}
use Rattle.proc_task.proofs.task.Task.try_receive.Goals as goal

pub returns-in_err-reserve-clause-task : goal.returns-in_err-reserve-clause-task
returns-in_err-reserve-clause-task g c =
    let t = c.args.self.now in
    unchanged _ _ t _ c.requires.task refl refl refl refl (λ i. record { state = t.state; got = c.reserve.ensures.items i; done = t.done; ends = t.ends }) refl refl

pub returns-in_err-reserve-clause-further : goal.returns-in_err-reserve-clause-further
returns-in_err-reserve-clause-further g c =
    let t = c.args.self.now in
    stays_put t _ (λ i. record { state = t.state; got = c.reserve.ensures.items i; done = t.done; ends = t.ends })

pub index-requires : goal.index-requires
index-requires g c =
    let t = c.args.self.now in
    let fit = inlet_there _ _ t c.requires.task c.args.site c.requires.next in
    omega (arith, slice_get_within t.indices.items c.args.site fit.2.place fit.2.place_is, t.indices.ok.0)

pub index_mut-requires : goal.index_mut-requires
index_mut-requires g c =
    let t = c.args.self.now in
    let fit = inlet_there _ _ t c.requires.task c.args.site c.requires.next in
    let at = place_read t.indices.items c.args.site c.index.result.now fit.2.place fit.2.place_is c.index.ensures in
    omega (arith, at, slice_get_within t.inlets.items fit.2.place fit.2.inlet fit.2.inlet_is, t.inlets.ok.0)

pub take-requires-clause-inlet : goal.take-requires-clause-inlet
take-requires-clause-inlet g c =
    let t = c.args.self.now in
    let fit = inlet_there _ _ t c.requires.task c.args.site c.requires.next in
    let at = place_read t.indices.items c.args.site c.index.result.now fit.2.place fit.2.place_is c.index.ensures in
    let was = there_found t.inlets.items fit.2.place c.index.result.now c.index_mut.result.now fit.2.inlet fit.2.inlet_is at c.index_mut.ensures.value in
    c.requires.task.ports.inlet c.index.result.now c.index_mut.result.now was

pub take-requires-clause-word : goal.take-requires-clause-word
take-requires-clause-word g c =
    let t = c.args.self.now in
    let fit = inlet_there _ _ t c.requires.task c.args.site c.requires.next in
    let at = place_read t.indices.items c.args.site c.index.result.now fit.2.place fit.2.place_is c.index.ensures in
    let was = there_found t.inlets.items fit.2.place c.index.result.now c.index_mut.result.now fit.2.inlet fit.2.inlet_is at c.index_mut.ensures.value in
    may_take _ _ t c.requires.task c.args.site c.requires.next c.index.result.now c.index_mut.result.now at was

pub overflow_add-self : goal.overflow_add-self
overflow_add-self g c =
    let t = c.args.self.now in
    let fit = inlet_there _ _ t c.requires.task c.args.site c.requires.next in
    omega (arith, slice_get_within t.sites.items c.args.site fit.0 fit.1, few_sites _ _ t c.requires.task)

pub returns-in-Some-clause-task : goal.returns-in-Some-clause-task
returns-in-Some-clause-task g c =
    let t = c.args.self.now in
    let fit = inlet_there _ _ t c.requires.task c.args.site c.requires.next in
    let at = place_read t.indices.items c.args.site c.index.result.now fit.2.place fit.2.place_is c.index.ensures in
    let was = there_found t.inlets.items fit.2.place c.index.result.now c.index_mut.result.now fit.2.inlet fit.2.inlet_is at c.index_mut.ensures.value in
    after_receive _ _ t c.requires.task c.args.site c.requires.next c.index.result.now c.index_mut.result.now c.take.new.self c.in-Some.word _ at was
    c.take.ensures.inlet (ap (λ x. x.0) c.take.ensures.told) c.in-Some.ensures.taken.0 c.in-Some.ensures.taken.1
    refl refl refl (omega arith) refl (c.push_reserved.ensures.items ∙ ap (λ xs. xs ++ c.in-Some.word ∷ []) c.reserve.ensures.items) (omega arith) refl refl refl

pub returns-in-Some-clause-same : goal.returns-in-Some-clause-same
returns-in-Some-clause-same g c =
    let t = c.args.self.now in
    let fit = inlet_there _ _ t c.requires.task c.args.site c.requires.next in
    let at = place_read t.indices.items c.args.site c.index.result.now fit.2.place fit.2.place_is c.index.ensures in
    let was = there_found t.inlets.items fit.2.place c.index.result.now c.index_mut.result.now fit.2.inlet fit.2.inlet_is at c.index_mut.ensures.value in
    record { runtime = refl; number = refl; outlets = λ k. refl; inlets = told_set told_in t.inlets.items c.index.result.now c.index_mut.result.now c.take.new.self was c.take.ensures.told }

pub returns-in-Some-clause-further : goal.returns-in-Some-clause-further
returns-in-Some-clause-further g c =
    let t = c.args.self.now in
    let later = receive_later _ _ t c.requires.task c.args.site c.requires.next in record {
      state = refl;
      more = c.in-Some.word ∷ [];
      got = c.push_reserved.ensures.items ∙ ap (λ xs. xs ++ c.in-Some.word ∷ []) c.reserve.ensures.items;
      done = omega (arith, later);
    }

pub returns-in-None-clause-task : goal.returns-in-None-clause-task
returns-in-None-clause-task g c =
    let t = c.args.self.now in
    let fit = inlet_there _ _ t c.requires.task c.args.site c.requires.next in
    let at = place_read t.indices.items c.args.site c.index.result.now fit.2.place fit.2.place_is c.index.ensures in
    let was = there_found t.inlets.items fit.2.place c.index.result.now c.index_mut.result.now fit.2.inlet fit.2.inlet_is at c.index_mut.ensures.value in
    set_inlet _ _ t c.requires.task c.index.result.now c.index_mut.result.now c.take.new.self _ was
    c.take.ensures.inlet (ap (λ x. x.0) c.take.ensures.told) c.in-None.ensures.taken.0
    refl refl refl refl (λ i. record { state = t.state; got = c.reserve.ensures.items i; done = t.done; ends = t.ends }) refl refl

pub returns-in-None-clause-same : goal.returns-in-None-clause-same
returns-in-None-clause-same g c =
    let t = c.args.self.now in
    let fit = inlet_there _ _ t c.requires.task c.args.site c.requires.next in
    let at = place_read t.indices.items c.args.site c.index.result.now fit.2.place fit.2.place_is c.index.ensures in
    let was = there_found t.inlets.items fit.2.place c.index.result.now c.index_mut.result.now fit.2.inlet fit.2.inlet_is at c.index_mut.ensures.value in
    record { runtime = refl; number = refl; outlets = λ k. refl; inlets = told_set told_in t.inlets.items c.index.result.now c.index_mut.result.now c.take.new.self was c.take.ensures.told }

pub returns-in-None-clause-further : goal.returns-in-None-clause-further
returns-in-None-clause-further g c =
    let t = c.args.self.now in
    stays_put t _ (λ i. record { state = t.state; got = c.reserve.ensures.items i; done = t.done; ends = t.ends })

pub returns-in-None-clause-made : goal.returns-in-None-clause-made
returns-in-None-clause-made g c =
    let t = c.args.self.now in
    let fit = inlet_there _ _ t c.requires.task c.args.site c.requires.next in
    let at = place_read t.indices.items c.args.site c.index.result.now fit.2.place fit.2.place_is c.index.ensures in
    let was = there_found t.inlets.items fit.2.place c.index.result.now c.index_mut.result.now fit.2.inlet fit.2.inlet_is at c.index_mut.ensures.value in (
      refl,
      held_receive _ _ t c.requires.task c.args.site c.requires.next c.index.result.now c.index_mut.result.now c.take.new.self _ at was
          (ap (λ x. x.0) c.take.ensures.told) c.in-None.ensures.taken.1 refl refl (λ i. record { state = t.state; got = c.reserve.ensures.items i; done = t.done; ends = t.ends }) refl,
    )
