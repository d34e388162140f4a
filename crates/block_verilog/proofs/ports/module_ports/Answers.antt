use Rattle.block_verilog.specs.Ports.{module_ports}
use Rattle.block_verilog.proofs.OnPorts.{ports_begun, ports_more, ports_done}
use Rattle.block_verilog.proofs.ports.module_ports.Goals as goal

pub channels-init : goal.channels-init
channels-init c = ports_begun _ _ c.args.channels.now c.new-ports.result c.push_bit.new.ports c.push_bit-2.new.ports c.new-ports.ensures c.in_ok-push_bit.ensures c.in_ok-push_bit-2.ensures

pub channels-preserved : goal.channels-preserved
channels-preserved c =
    ports_more c.args.channels.now c.channels.i c.index-channels-i.result c.channels.ports c.push_ports.new.ports (module_ports c.args.channels.now) c.channels-test.true c.index-channels-i.is c.channels.invariant c.in_ok-push_ports.ensures

pub returns : goal.returns
returns c = ports_done c.args.channels.now c.channels.i c.channels.ports (module_ports c.args.channels.now) c.channels-test.false c.channels.invariant
