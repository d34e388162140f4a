use Rattle.block_build.specs.Netlist.Added.{AddsWires}
use Rattle.block_verilog.specs.Signals.Nodes.{FirstMade}
use Rattle.block_verilog.proofs.signals.procs.node_wires.Given as goal

abbrev pub invariant-nodes : goal.invariant-nodes
invariant-nodes l = AddsWires l.initial.wires l.wires (λ v. FirstMade v l.channels l.proc l.staging.stage.now l.registers l.views l.made l.i)
