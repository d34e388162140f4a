use Rattle.std.proofs.Common.{List, ◌≡◌, ◌<◌, ◌+◌, length, sym, ap, subst, ◌∙◌, arith}
use Rattle.std.proofs.lemmas.List.{length-map}
use Rattle.ir_tree.specs.declared.node.Node.{Node}
use Rattle.pipe_schedule.specs.Timed.{TimedNode, node_at, sources_of}
use Rattle.pipe_schedule.specs.Inner.Delays.{delay_within, timed_within, timed_node_within}
use Rattle.pipe_schedule.specs.Inner.Slots.{latest, lowest, raised}
use Rattle.pipe_schedule.proofs.Walk.{IsWalkedTo, latest_low, placed_low, slot_is, walk_step, walk_end, node_is}
use Rattle.pipe_schedule.proofs.slots.slots_of.Goals as goal

pub place-slot-requires : goal.place-slot-requires
place-slot-requires c =
    let at : c.latest.result ≡ latest c.nodes.slots.items (record { stage = lowest c.nodes.floor c.role.result; time = 0 }) (sources_of c.index-nodes-i.result) =
    c.latest.ensures ∙ ap (λ xs. latest xs c.start.result (sources_of c.index-nodes-i.result)) c.deref.ensures.value ∙ ap (λ s. latest c.nodes.slots.items s (sources_of c.index-nodes-i.result)) c.start.ensures in
    let low = latest_low c.nodes.slots.items c.nodes.floor c.role.result (sources_of c.index-nodes-i.result) c.nodes.i c.latest.result at c.nodes.invariant.up_to c.nodes.invariant.send c.nodes.invariant.receive in
    let inside = c.nodes-test.true in
    omega (arith, low, inside, c.as_slice-nodes.type_inv)

pub raise-floor-requires : goal.raise-floor-requires
raise-floor-requires c =
    let at : c.latest.result ≡ latest c.nodes.slots.items (record { stage = lowest c.nodes.floor c.role.result; time = 0 }) (sources_of c.index-nodes-i.result) =
    c.latest.ensures ∙ ap (λ xs. latest xs c.start.result (sources_of c.index-nodes-i.result)) c.deref.ensures.value ∙ ap (λ s. latest c.nodes.slots.items s (sources_of c.index-nodes-i.result)) c.start.ensures in
    let low = latest_low c.nodes.slots.items c.nodes.floor c.role.result (sources_of c.index-nodes-i.result) c.nodes.i c.latest.result at c.nodes.invariant.up_to c.nodes.invariant.send c.nodes.invariant.receive in
    let up = placed_low c.args.clock c.delay-delay.result c.nodes.i c.latest.result c.place-slot.result c.place-slot.ensures low in
    let inside = c.nodes-test.true in
    omega (arith, up, inside, c.as_slice-nodes.type_inv)

pub nodes-preserved : goal.nodes-preserved
nodes-preserved c =
    let n = c.index-nodes-i.result in
    let same = c.as_slice-nodes.ensures in
    let read = node_is c.args.proc.now c.as_slice-nodes.result.now c.nodes.i n same c.nodes-test.true c.index-nodes-i.is in
    let delay : (node_at (timed_within c.args.proc.now) c.nodes.i).delay ≡ c.delay-delay.result =
    ap (λ (x : TimedNode). x.delay) read ∙ ap (λ ns. delay_within c.args.proc.now.state ns n) (sym same) ∙ sym c.delay-delay.ensures in
    let role : (node_at (timed_within c.args.proc.now) c.nodes.i).role ≡ c.role.result = ap (λ (x : TimedNode). x.role) read ∙ sym c.role.ensures in
    let sources : (node_at (timed_within c.args.proc.now) c.nodes.i).sources ≡ sources_of n = ap (λ (x : TimedNode). x.sources) read in
    let at : c.latest.result ≡ latest c.nodes.slots.items c.start.result (node_at (timed_within c.args.proc.now) c.nodes.i).sources =
    c.latest.ensures ∙ ap (λ xs. latest xs c.start.result (sources_of n)) c.deref.ensures.value ∙ ap (latest c.nodes.slots.items c.start.result) (sym sources) in
    let slot = slot_is c.args.clock c.nodes.slots.items c.nodes.floor (node_at (timed_within c.args.proc.now) c.nodes.i) c.delay-delay.result c.role.result c.start.result c.latest.result c.place-slot.result delay role c.start.ensures at c.place-slot.ensures in
    let start : c.latest.result ≡ latest c.nodes.slots.items (record { stage = lowest c.nodes.floor c.role.result; time = 0 }) (sources_of n) =
    c.latest.ensures ∙ ap (λ xs. latest xs c.start.result (sources_of n)) c.deref.ensures.value ∙ ap (λ s. latest c.nodes.slots.items s (sources_of n)) c.start.ensures in
    let low = latest_low c.nodes.slots.items c.nodes.floor c.role.result (sources_of n) c.nodes.i c.latest.result start c.nodes.invariant.up_to c.nodes.invariant.send c.nodes.invariant.receive in
    let up = placed_low c.args.clock c.delay-delay.result c.nodes.i c.latest.result c.place-slot.result c.place-slot.ensures low in
    let in_time = c.if-clock-delay.false in
    let inside : c.nodes.i < length (timed_within c.args.proc.now) = rw (length-map) (subst (λ (ns : List Node). c.nodes.i < length ns) same c.nodes-test.true) in
    let w : IsWalkedTo (timed_within c.args.proc.now) c.args.clock c.nodes.i c.nodes.slots.items c.nodes.floor = record {
      exact = c.nodes.invariant.exact;
      count = c.nodes.invariant.count;
      up_to = c.nodes.invariant.up_to;
      send = c.nodes.invariant.send;
      receive = c.nodes.invariant.receive;
      in_time = c.nodes.invariant.in_time;
    } in
    let next = walk_step (timed_within c.args.proc.now) c.args.clock c.nodes.i c.nodes.slots.items c.nodes.floor w inside (omega (arith, delay, in_time)) c.place-slot.result slot up in
    let pushed = c.in_ok-push.ensures in
    let floor : c.raise-floor.result ≡ raised c.nodes.floor (node_at (timed_within c.args.proc.now) c.nodes.i).role c.place-slot.result.stage =
    c.raise-floor.ensures ∙ ap (λ r. raised c.nodes.floor r c.place-slot.result.stage) (c.role-in-nodes.ensures ∙ sym (ap (λ (x : TimedNode). x.role) read)) in
    let moved = subst (λ xs. IsWalkedTo (timed_within c.args.proc.now) c.args.clock (c.nodes.i + 1) xs (raised c.nodes.floor (node_at (timed_within c.args.proc.now) c.nodes.i).role c.place-slot.result.stage)) (sym pushed) next in
    let all = subst (λ f. IsWalkedTo (timed_within c.args.proc.now) c.args.clock (c.nodes.i + 1) c.push.new.slots.items f) (sym floor) moved in
    record { exact = all.exact; count = all.count; up_to = all.up_to; send = all.send; receive = all.receive; in_time = all.in_time }

pub returns-clause-slots : goal.returns-clause-slots
returns-clause-slots c =
    let same = c.as_slice-nodes.ensures in
    let past = c.nodes-test.false in
    let most = c.nodes.auto.i-end in
    let w : IsWalkedTo (timed_within c.args.proc.now) c.args.clock c.nodes.i c.nodes.slots.items c.nodes.floor = record {
      exact = c.nodes.invariant.exact;
      count = c.nodes.invariant.count;
      up_to = c.nodes.invariant.up_to;
      send = c.nodes.invariant.send;
      receive = c.nodes.invariant.receive;
      in_time = c.nodes.invariant.in_time;
    } in
    let here : c.nodes.i ≡ length c.as_slice-nodes.result.now = omega arith in
    let end : c.nodes.i ≡ length (timed_within c.args.proc.now) = here ∙ ap (λ (ns : List Node). length ns) same ∙ sym (length-map c.args.proc.now.nodes (timed_node_within c.args.proc.now.state c.args.proc.now.nodes)) in
    walk_end (timed_within c.args.proc.now) c.args.clock c.nodes.i c.nodes.slots.items c.nodes.floor w end
