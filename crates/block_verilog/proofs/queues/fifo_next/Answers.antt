use Rattle.std.proofs.Common.{subst, sym}
use Rattle.std.specs.Prelude.{OnOk}
use Rattle.block_build.specs.Netlist.Added.{next_number, AddsWires}
use Rattle.block_verilog.specs.Queues.{IsShown, GoesBy}
use Rattle.block_verilog.proofs.OnQueues.{fifo_goes}
use Rattle.block_verilog.proofs.queues.fifo_next.Goals as goal

pub returns-in-Some-clause-wired : goal.returns-in-Some-clause-wired
returns-in-Some-clause-wired c =
    subst (λ f. OnOk c.go_on.result (IsShown f c.args.view → AddsWires c.args.wires.now c.go_on.new.wires (λ v. GoesBy v f c.args.view c.args.end (next_number c.args.wires.now)))) (sym c.in-Some.is)
    (fifo_goes c.go_on.result c.args.wires.now c.go_on.new.wires c.in-Some.fifo c.args.view c.args.end c.go_on.ensures.wired)
