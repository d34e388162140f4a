use Rattle.std.proofs.Common.{[], refl, sym, ap, arith}
use Rattle.std.proofs.lemmas.Bool.{MatchBool-at_true, MatchBool-at_false}
use Rattle.std.proofs.lemmas.List.{append-nil}
use Rattle.std.proofs.lemmas.Option.{slice_get_within}
use Rattle.proc_task.proofs.Ports.{place_read, there_found, told_set}
use Rattle.proc_task.proofs.Steps.{outlet_there, may_put, few_sites, after_send, held_send, set_outlet, send_later, stays_put}
use Rattle.proc_task.specs.Ports.{told_out}
use Rattle.proc_task.proofs.task.Task.try_send.Goals as goal

pub index-requires : goal.index-requires
index-requires g c =
    let t = c.args.self.now in
    let fit = outlet_there _ _ t c.requires.task c.args.site c.args.word c.requires.next in
    omega (arith, slice_get_within t.indices.items c.args.site fit.2.place fit.2.place_is, t.indices.ok.0)

pub index_mut-requires : goal.index_mut-requires
index_mut-requires g c =
    let t = c.args.self.now in
    let fit = outlet_there _ _ t c.requires.task c.args.site c.args.word c.requires.next in
    let at = place_read t.indices.items c.args.site c.index.result.now fit.2.place fit.2.place_is c.index.ensures in
    omega (arith, at, slice_get_within t.outlets.items fit.2.place fit.2.outlet fit.2.outlet_is, t.outlets.ok.0)

pub put-requires-clause-outlet : goal.put-requires-clause-outlet
put-requires-clause-outlet g c =
    let t = c.args.self.now in
    let fit = outlet_there _ _ t c.requires.task c.args.site c.args.word c.requires.next in
    let at = place_read t.indices.items c.args.site c.index.result.now fit.2.place fit.2.place_is c.index.ensures in
    let was = there_found t.outlets.items fit.2.place c.index.result.now c.index_mut.result.now fit.2.outlet fit.2.outlet_is at c.index_mut.ensures.value in
    c.requires.task.ports.outlet c.index.result.now c.index_mut.result.now was

pub put-requires-clause-word : goal.put-requires-clause-word
put-requires-clause-word g c =
    let t = c.args.self.now in
    let fit = outlet_there _ _ t c.requires.task c.args.site c.args.word c.requires.next in
    let at = place_read t.indices.items c.args.site c.index.result.now fit.2.place fit.2.place_is c.index.ensures in
    let was = there_found t.outlets.items fit.2.place c.index.result.now c.index_mut.result.now fit.2.outlet fit.2.outlet_is at c.index_mut.ensures.value in
    may_put _ _ t c.requires.task c.args.site c.args.word c.requires.next c.index.result.now c.index_mut.result.now at was

pub returns-in_err-put-clause-task : goal.returns-in_err-put-clause-task
returns-in_err-put-clause-task g c =
    let t = c.args.self.now in
    let fit = outlet_there _ _ t c.requires.task c.args.site c.args.word c.requires.next in
    let at = place_read t.indices.items c.args.site c.index.result.now fit.2.place fit.2.place_is c.index.ensures in
    let was = there_found t.outlets.items fit.2.place c.index.result.now c.index_mut.result.now fit.2.outlet fit.2.outlet_is at c.index_mut.ensures.value in
    set_outlet _ _ t c.requires.task c.index.result.now c.index_mut.result.now c.put.new.self _ was
    c.put.ensures.outlet (ap (λ x. x.0) c.put.ensures.told) c.in_err-put.ensures.err refl refl refl refl refl refl refl

pub returns-in_err-put-clause-same : goal.returns-in_err-put-clause-same
returns-in_err-put-clause-same g c =
    let t = c.args.self.now in
    let fit = outlet_there _ _ t c.requires.task c.args.site c.args.word c.requires.next in
    let at = place_read t.indices.items c.args.site c.index.result.now fit.2.place fit.2.place_is c.index.ensures in
    let was = there_found t.outlets.items fit.2.place c.index.result.now c.index_mut.result.now fit.2.outlet fit.2.outlet_is at c.index_mut.ensures.value in
    record { runtime = refl; number = refl; outlets = told_set told_out t.outlets.items c.index.result.now c.index_mut.result.now c.put.new.self was c.put.ensures.told; inlets = λ k. refl }

pub returns-in_err-put-clause-further : goal.returns-in_err-put-clause-further
returns-in_err-put-clause-further g c = stays_put c.args.self.now _ refl

pub overflow_add-self : goal.overflow_add-self
overflow_add-self g c =
    let t = c.args.self.now in
    let fit = outlet_there _ _ t c.requires.task c.args.site c.args.word c.requires.next in
    omega (arith, slice_get_within t.sites.items c.args.site fit.0 fit.1, few_sites _ _ t c.requires.task)

pub returns-then-branch-clause-task : goal.returns-then-branch-clause-task
returns-then-branch-clause-task g c =
    let t = c.args.self.now in
    let fit = outlet_there _ _ t c.requires.task c.args.site c.args.word c.requires.next in
    let at = place_read t.indices.items c.args.site c.index.result.now fit.2.place fit.2.place_is c.index.ensures in
    let was = there_found t.outlets.items fit.2.place c.index.result.now c.index_mut.result.now fit.2.outlet fit.2.outlet_is at c.index_mut.ensures.value in
    after_send _ _ t c.requires.task c.args.site c.args.word c.requires.next c.index.result.now c.index_mut.result.now c.put.new.self _ at was
    c.put.ensures.outlet (ap (λ x. x.0) c.put.ensures.told) (MatchBool-at_true _ _ c.if-branch.true c.in_ok-put.ensures.put).1 (MatchBool-at_true _ _ c.if-branch.true c.in_ok-put.ensures.put).0 refl refl refl (omega arith) refl refl (omega arith) refl refl refl

pub returns-then-branch-clause-same : goal.returns-then-branch-clause-same
returns-then-branch-clause-same g c =
    let t = c.args.self.now in
    let fit = outlet_there _ _ t c.requires.task c.args.site c.args.word c.requires.next in
    let at = place_read t.indices.items c.args.site c.index.result.now fit.2.place fit.2.place_is c.index.ensures in
    let was = there_found t.outlets.items fit.2.place c.index.result.now c.index_mut.result.now fit.2.outlet fit.2.outlet_is at c.index_mut.ensures.value in
    record { runtime = refl; number = refl; outlets = told_set told_out t.outlets.items c.index.result.now c.index_mut.result.now c.put.new.self was c.put.ensures.told; inlets = λ k. refl }

pub returns-then-branch-clause-further : goal.returns-then-branch-clause-further
returns-then-branch-clause-further g c =
    let t = c.args.self.now in
    let later = send_later _ _ t c.requires.task c.args.site c.args.word c.requires.next in
    record { state = refl; more = []; got = sym (append-nil t.got.items); done = omega (arith, later) }

pub returns-else-branch-clause-task : goal.returns-else-branch-clause-task
returns-else-branch-clause-task g c =
    let t = c.args.self.now in
    let fit = outlet_there _ _ t c.requires.task c.args.site c.args.word c.requires.next in
    let at = place_read t.indices.items c.args.site c.index.result.now fit.2.place fit.2.place_is c.index.ensures in
    let was = there_found t.outlets.items fit.2.place c.index.result.now c.index_mut.result.now fit.2.outlet fit.2.outlet_is at c.index_mut.ensures.value in
    set_outlet _ _ t c.requires.task c.index.result.now c.index_mut.result.now c.put.new.self _ was
    c.put.ensures.outlet (ap (λ x. x.0) c.put.ensures.told) (MatchBool-at_false _ _ c.if-branch.false c.in_ok-put.ensures.put).0 refl refl refl refl refl refl refl

pub returns-else-branch-clause-same : goal.returns-else-branch-clause-same
returns-else-branch-clause-same g c =
    let t = c.args.self.now in
    let fit = outlet_there _ _ t c.requires.task c.args.site c.args.word c.requires.next in
    let at = place_read t.indices.items c.args.site c.index.result.now fit.2.place fit.2.place_is c.index.ensures in
    let was = there_found t.outlets.items fit.2.place c.index.result.now c.index_mut.result.now fit.2.outlet fit.2.outlet_is at c.index_mut.ensures.value in
    record { runtime = refl; number = refl; outlets = told_set told_out t.outlets.items c.index.result.now c.index_mut.result.now c.put.new.self was c.put.ensures.told; inlets = λ k. refl }

pub returns-else-branch-clause-further : goal.returns-else-branch-clause-further
returns-else-branch-clause-further g c = stays_put c.args.self.now _ refl

pub returns-else-branch-clause-made : goal.returns-else-branch-clause-made
returns-else-branch-clause-made g c =
    let t = c.args.self.now in
    let fit = outlet_there _ _ t c.requires.task c.args.site c.args.word c.requires.next in
    let at = place_read t.indices.items c.args.site c.index.result.now fit.2.place fit.2.place_is c.index.ensures in
    let was = there_found t.outlets.items fit.2.place c.index.result.now c.index_mut.result.now fit.2.outlet fit.2.outlet_is at c.index_mut.ensures.value in
    (refl, held_send _ _ t c.requires.task c.args.site c.args.word c.requires.next c.index.result.now c.index_mut.result.now c.put.new.self _ at was (ap (λ x. x.0) c.put.ensures.told) (MatchBool-at_false _ _ c.if-branch.false c.in_ok-put.ensures.put).1 refl refl refl refl)
