use Rattle.std.proofs.Common.{◌≡◌, ◌∙◌, ◌++◌, ◌∷◌, [], length, ap, sym, subst, arith}
use Rattle.vlog_tree.specs.Signals.{channels_of}
use Rattle.cycle_sim.proofs.OnRows.Known.{AreSoFar, one_more_known}
use Rattle.cycle_sim.proofs.rows.channels.Channels.of.Goals as goal

pub channels-preserved : goal.channels-preserved
channels-preserved c =
    let len : c.len.result ≡ c.channels.shapes.len = c.len.ensures in
    let ok = c.channels.shapes.ok in
    let number : c.len.result ≡ length c.channels.shapes.items = omega (arith, len, ok) in
    subst (AreSoFar (channels_of c.args.design.now) c.in-Some.first.rest.now c.put_new.new.numbers) (sym c.in_ok-push.ensures.items)
    (one_more_known (channels_of c.args.design.now) c.channels.left.now c.in-Some.first.rest.now c.in-Some.first.data.now c.channels.numbers c.put_new.new.numbers c.channels.shapes.items c.channel_name.result.now c.len.result c.shape_of.result
    c.channels.invariant c.in-Some.ensures c.channel_name.ensures number c.shape_of.ensures c.in_ok-put_new.ensures)
