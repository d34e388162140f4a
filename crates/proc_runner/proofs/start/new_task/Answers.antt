use Rattle.std.proofs.Common.{◌<◌, ◌^◌, ℕ, List, length, sym, ap, ◌∙◌, subst, arith}
use Rattle.std.specs.Prelude.{slice_get}
use Rattle.xb_value.specs.declared.value.Value.{Value}
use Rattle.net_core.specs.declared.net.Site.{Site}
use Rattle.proc_task.specs.declared.port.Outlet.{Outlet}
use Rattle.proc_task.specs.declared.port.Inlet.{Inlet}
use Rattle.proc_task.specs.Moving.{IsNewTask}
use Rattle.proc_runner.specs.Inner.Ended.{AreOutletsOf, AreInletsOf, HasIndices, AreSiteIndices}
use Rattle.proc_runner.proofs.Taken.{sites_have, is_new, left_behind}
use Rattle.proc_runner.proofs.start.new_task.Goals as goal

pub indices-requires : goal.indices-requires
indices-requires g c =
    let run = g.H.Runtime.run c.args.runtime.now in
    let lines = g.H.Runtime.lines c.args.runtime.now in
    let ends = c.args.ends.now in
    let left = c.requires.ends in
    let outlets = c.in_ok-outlets.outlets.items in
    let inlets = c.in_ok-inlets.inlets.items in
    let out = subst (λ (ss : List ℕ). AreOutletsOf c.args.p ss ends.sends.items (length ss) outlets) c.as_slice.ensures.value c.in_ok-outlets.ensures.outlets in
    let inn = subst (λ (ss : List ℕ). AreInletsOf c.args.p ss ends.recvs.items (length ss) inlets) c.as_slice-2.ensures.value c.in_ok-inlets.ensures.inlets in
    let has = sites_have run c.requires.typed lines c.args.p c.args.head.now c.requires.head ends.senders.items ends.receivers.items ends.sends.items ends.recvs.items left outlets inlets out inn in
    subst (λ (x : List Site × List (Outlet _) × List (Inlet _)). HasIndices x.0 x.1 x.2 × (length x.1 < 2 ^ 32) × (length x.2 < 2 ^ 32))
    (λ i. (sym c.as_slice-sites.ensures i, sym c.as_slice-3.ensures.value i, sym c.as_slice-4.ensures.value i))
    (has, omega (arith, out.few, left.senders_count, left.few), omega (arith, inn.few, left.receivers_count, left.few))

pub new-requires : goal.new-requires
new-requires g c =
    let run = g.H.Runtime.run c.args.runtime.now in
    let lines = g.H.Runtime.lines c.args.runtime.now in
    let ends = c.args.ends.now in
    let outlets = c.in_ok-outlets.outlets.items in
    let inlets = c.in_ok-inlets.inlets.items in
    let indices = c.in_ok-indices.indices.items in
    let out = subst (λ (ss : List ℕ). AreOutletsOf c.args.p ss ends.sends.items (length ss) outlets) c.as_slice.ensures.value c.in_ok-outlets.ensures.outlets in
    let inn = subst (λ (ss : List ℕ). AreInletsOf c.args.p ss ends.recvs.items (length ss) inlets) c.as_slice-2.ensures.value c.in_ok-inlets.ensures.inlets in
    let at = subst (λ (x : List Site × List (Outlet _) × List (Inlet _)). AreSiteIndices x.0 indices x.1 x.2)
    (λ i. (c.as_slice-sites.ensures i, c.as_slice-3.ensures.value i, c.as_slice-4.ensures.value i)) c.in_ok-indices.ensures in
    let is = is_new run c.requires.typed lines c.args.p c.args.head.now c.requires.head ends.senders.items ends.receivers.items ends.sends.items ends.recvs.items c.requires.ends outlets inlets out inn indices at in
    let sites = sym (c.in_ok-sites.ensures.items ∙ c.as_slice-sites.ensures) in
    let state = sym (c.in_ok-state.ensures {u = tt}) in
    subst (λ (x : List Site × Value). IsNewTask run lines c.args.p x.0 x.1 indices outlets inlets) (λ i. (sites i, state i)) is

pub returns-clause-ends : goal.returns-clause-ends
returns-clause-ends g c =
    let run = g.H.Runtime.run c.args.runtime.now in
    let lines = g.H.Runtime.lines c.args.runtime.now in
    let ends = c.args.ends.now in
    let outlets = c.in_ok-outlets.outlets.items in
    let inlets = c.in_ok-inlets.inlets.items in
    let out = subst (λ (ss : List ℕ). AreOutletsOf c.args.p ss ends.sends.items (length ss) outlets) c.as_slice.ensures.value c.in_ok-outlets.ensures.outlets in
    let inn = subst (λ (ss : List ℕ). AreInletsOf c.args.p ss ends.recvs.items (length ss) inlets) c.as_slice-2.ensures.value c.in_ok-inlets.ensures.inlets in
    left_behind run c.requires.typed lines c.args.p c.args.head.now c.requires.head ends.senders.items ends.receivers.items ends.sends.items ends.recvs.items c.requires.ends outlets inlets out inn
    c.outlets.new.sends.items c.inlets.new.recvs.items c.in_ok-outlets.ensures.count c.in_ok-inlets.ensures.count
    (λ d other. c.in_ok-outlets.ensures.rest d (λ e. other (ap (λ (ss : List ℕ). slice_get ss d) (sym c.as_slice.ensures.value) ∙ e)))
    (λ d other. c.in_ok-inlets.ensures.rest d (λ e. other (ap (λ (ss : List ℕ). slice_get ss d) (sym c.as_slice-2.ensures.value) ∙ e)))
