use Rattle.block_build.specs.Netlist.Added.{AddsWires}
use Rattle.block_verilog.specs.Each.{EachFrom}
use Rattle.block_verilog.specs.Queues.{IsViewOf, IsViewed}
use Rattle.block_verilog.proofs.Lemmas.Each.{EachSoFar}
use Rattle.block_verilog.proofs.queues.views.Given as goal

abbrev pub invariant-channels : goal.invariant-channels
invariant-channels l = record {
  are : EachSoFar (IsViewOf l.channels l.ports l.fifos) l.i l.views.items;
  wired : AddsWires l.initial.wires l.wires (λ v. EachFrom (IsViewed v l.channels l.fifos) 0 l.views.items);
}
