use Rattle.std.proofs.Common.{arith, get_or}
use Rattle.block_verilog.specs.Queues.{IsViewOf, IsViewed}
use Rattle.block_verilog.proofs.Lemmas.Each.{same_or, each_begun, each_more, wires_begun, wires_more}
use Rattle.block_verilog.proofs.OnQueues.{view_is, viewed}
use Rattle.block_verilog.proofs.queues.views.Goals as goal

pub channels-init : goal.channels-init
channels-init c = record {
  are = each_begun (IsViewOf c.args.channels.now c.args.ports.now c.args.fifos.now) _ c.new-views.ensures.items;
  wired = wires_begun c.args.wires.now (λ v. IsViewed v c.args.channels.now c.args.fifos.now) _ c.new-views.ensures.items;
}

pub channels-preserved : goal.channels-preserved
channels-preserved c =
    let channels = c.args.channels.now in
    let ports = c.args.ports.now in
    let fifos = c.args.fifos.now in
    record {
      are = each_more (IsViewOf channels ports fifos) c.channels.i c.channels.views.items c.push.new.self.items c.in_ok-view.view c.channels.invariant.are c.in_ok-push.ensures.items
          (view_is channels ports fifos c.channels.i (get_or ports c.channels.i 0) c.index-channels-i.result c.index-fifos-i.result c.in_ok-view.view (omega (arith, c.channels-test.true, c.min-count.ensures, c.min.ensures)) (omega (arith, c.channels-test.true, c.min-count.ensures, c.min.ensures)) (omega (arith, c.channels-test.true, c.min-count.ensures, c.min.ensures))
          c.index-channels-i.is (same_or ports c.channels.i _ _ (omega (arith, c.channels-test.true, c.min-count.ensures, c.min.ensures))) c.index-fifos-i.is c.in_ok-view.ensures.is);
      wired = wires_more c.args.wires.now c.channels.wires c.view.new.wires (λ v. IsViewed v channels fifos) c.channels.i c.channels.views.items c.push.new.self.items c.in_ok-view.view c.channels.invariant.are.count c.in_ok-push.ensures.items c.channels.invariant.wired
          (viewed c.channels.wires c.view.new.wires channels fifos c.channels.i c.index-channels-i.result c.index-fifos-i.result c.in_ok-view.view (omega (arith, c.channels-test.true, c.min-count.ensures, c.min.ensures)) (omega (arith, c.channels-test.true, c.min-count.ensures, c.min.ensures))
          c.index-channels-i.is c.index-fifos-i.is c.in_ok-view.ensures.wired);
    }
