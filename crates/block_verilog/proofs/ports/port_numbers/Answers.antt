use Rattle.std.proofs.Common.{ap, ◌+◌, ◌∙◌, get_or}
use Rattle.block_verilog.proofs.Lemmas.Each.{same_or}
use Rattle.block_verilog.proofs.OnPorts.{numbers_begun, numbers_more, numbers_done}
use Rattle.block_verilog.proofs.ports.port_numbers.Goals as goal

pub channels-init : goal.channels-init
channels-init c = numbers_begun c.args.first c.args.channels.now _ c.new-numbers.ensures.items

pub channels-preserved : goal.channels-preserved
channels-preserved c =
    numbers_more c.args.first c.channels.next c.in_ok-next.next c.args.channels.now c.channels.i (get_or c.args.channels.now c.channels.i c.index-channels-i.result) c.channels.numbers.items c.push.new.self.items c.channels-test.true (same_or c.args.channels.now c.channels.i _ _ c.channels-test.true) c.channels.invariant c.in_ok-push.ensures.items
    (c.in_ok-next.ensures ∙ ap (λ k. c.channels.next + k) c.count_ports.ensures)

pub returns : goal.returns
returns c = numbers_done c.args.first c.channels.next c.args.channels.now c.channels.i c.channels.numbers.items c.channels-test.false c.channels.invariant
