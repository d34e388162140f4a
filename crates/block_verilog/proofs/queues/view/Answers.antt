use Rattle.std.proofs.Common.{subst, sym}
use Rattle.std.specs.Prelude.{IfOk}
use Rattle.block_build.specs.Netlist.Added.{AddsWires}
use Rattle.block_verilog.specs.Queues.{ViewedBy}
use Rattle.block_verilog.proofs.queues.view.Goals as goal

pub returns-in-Inner-clause-wired : goal.returns-in-Inner-clause-wired
returns-in-Inner-clause-wired c =
    subst (λ e. IfOk c.inner_view.result (λ view. AddsWires c.args.wires.now c.inner_view.new.wires (λ v. ViewedBy v e c.args.fifo view))) (sym c.in-Inner.is) c.inner_view.ensures.wired
