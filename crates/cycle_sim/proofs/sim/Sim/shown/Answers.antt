use Rattle.std.proofs.Common.{◌≡◌, ◌∙◌, ◌+◌, ◌*◌, ◌<◌, ℕ, length, ap, subst, sym, Some, get_or, arith}
use Rattle.std.specs.Prelude.{slice_get}
use Rattle.std.proofs.lemmas.Option.{slice_get-get_or}
use Rattle.vlog_tree.specs.declared.module.VModule.{VModule}
use Rattle.vlog_tree.specs.Signals.{channels_of}
use Rattle.vlog_tree.specs.Rows.{shown_channel, outs_of}
use Rattle.vlog_tree.specs.Settled.{values_of}
use Rattle.cycle_sim.specs.Sim.{SimState, IsRunning}
use Rattle.cycle_sim.proofs.Showing.{HasPort, has_port}
use Rattle.cycle_sim.proofs.sim.Sim.shown.Goals as goal

pub first_port-at-requires : goal.first_port-at-requires
first_port-at-requires c =
    let known = subst (λ now. c.args.channel < length (channels_of now.design)) (sym c.self.view_is) c.requires in
    let port = has_port c.self.inside.design c.self.inside.indices.items c.self.inside.values.items c.self.inside.before.items c.args.channel c.self.invariant known in
    rw c.deref.ensures.value port.in_words

pub bounds-as_slice-at : goal.bounds-as_slice-at
bounds-as_slice-at c =
    let known = subst (λ now. c.args.channel < length (channels_of now.design)) (sym c.self.view_is) c.requires in
    let port = has_port c.self.inside.design c.self.inside.indices.items c.self.inside.values.items c.self.inside.before.items c.args.channel c.self.invariant known in
    rw (c.as_slice.ensures, c.first_port-at.ensures) port.in_ports

pub bounds-as_slice-at-2 : goal.bounds-as_slice-at-2
bounds-as_slice-at-2 c =
    let known = subst (λ now. c.args.channel < length (channels_of now.design)) (sym c.self.view_is) c.requires in
    let port = has_port c.self.inside.design c.self.inside.indices.items c.self.inside.values.items c.self.inside.before.items c.args.channel c.self.invariant known in
    let inside : c.first_port-at.result < length c.as_slice.result.now = rw (c.as_slice.ensures, c.first_port-at.ensures) port.in_ports in
    λ _. inside

pub offset_bounds-as_slice-at : goal.offset_bounds-as_slice-at
offset_bounds-as_slice-at c =
    let known = subst (λ now. c.args.channel < length (channels_of now.design)) (sym c.self.view_is) c.requires in
    let port = has_port c.self.inside.design c.self.inside.indices.items c.self.inside.values.items c.self.inside.before.items c.args.channel c.self.invariant known in
    let inside : c.first_port-at.result < length c.as_slice.result.now = rw (c.as_slice.ensures, c.first_port-at.ensures) port.in_ports in
    omega (arith, inside, c.as_slice.type_inv)

pub shown_at-requires : goal.shown_at-requires
shown_at-requires c =
    let known = subst (λ now. c.args.channel < length (channels_of now.design)) (sym c.self.view_is) c.requires in
    let port = has_port c.self.inside.design c.self.inside.indices.items c.self.inside.values.items c.self.inside.before.items c.args.channel c.self.invariant known in
    rw (c.deref-2.ensures.value, c.first_port-at.ensures) port.in_words

pub returns : goal.returns
returns c =
    let known = subst (λ now. c.args.channel < length (channels_of now.design)) (sym c.self.view_is) c.requires in
    let port = has_port c.self.inside.design c.self.inside.indices.items c.self.inside.values.items c.self.inside.before.items c.args.channel c.self.invariant known in
    let p = c.index-as_slice-at.result in
    let there : slice_get c.self.inside.design.ports (2 + 3 * c.args.channel) ≡ Some p =
    slice_get-get_or c.self.inside.design.ports (2 + 3 * c.args.channel) p port.in_ports
    ∙ ap Some (sym (c.index-as_slice-at.is ∙ ap (λ xs. get_or xs c.first_port-at.result p) c.as_slice.ensures ∙ ap (λ k. get_or c.self.inside.design.ports k p) c.first_port-at.ensures)) in
    let shows = port.shows p there in
    let same : c.shown_at.result ≡ shown_channel (values_of c.self.inside.values.items) (2 + 3 * c.args.channel) p.direction =
    c.shown_at.ensures
    ∙ ap (λ q. shown_channel (values_of c.deref-2.result.now) c.first_port-at.result q.direction) (sym c.index-as_slice-at.is)
    ∙ ap (λ words. shown_channel (values_of words) c.first_port-at.result p.direction) c.deref-2.ensures.value
    ∙ ap (λ k. shown_channel (values_of c.self.inside.values.items) k p.direction) c.first_port-at.ensures in
    subst (λ now. slice_get (outs_of now.design (values_of now.words)).channels c.args.channel ≡ Some c.shown_at.result) c.self.view_is (shows ∙ ap Some (sym same))
