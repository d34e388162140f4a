use Rattle.std.proofs.Common.{subst, sym}
use Rattle.std.specs.Prelude.{IfOk}
use Rattle.block_build.specs.Netlist.Added.{AddsWires}
use Rattle.block_verilog.specs.Queues.{ShownBy}
use Rattle.block_verilog.proofs.OnQueues.{shown_at}
use Rattle.block_verilog.proofs.queues.inner_view.Goals as goal

pub returns-in-Some-clause-wired : goal.returns-in-Some-clause-wired
returns-in-Some-clause-wired c =
    subst (λ f. IfOk c.view.result (λ view. AddsWires c.args.wires.now c.view.new.wires (λ v. ShownBy v f view))) (sym c.in-Some.is)
    (shown_at c.view.result c.args.wires.now c.view.new.wires c.in-Some.fifo c.view.ensures.signals c.view.ensures.puts).1
