use Rattle.std.proofs.Common.{◌≡◌, length}
use Rattle.block_build.specs.Netlist.Added.{AddsWires}
use Rattle.block_verilog.specs.Each.{EachFrom}
use Rattle.block_verilog.specs.Sides.{IsEnd}
use Rattle.block_verilog.proofs.sides.all_ends.Given as goal

abbrev pub invariant-channels : goal.invariant-channels
invariant-channels l = record {
  count : length l.ends.items ≡ l.i;
  wired : AddsWires l.initial.wires l.wires (λ v. EachFrom (IsEnd v l.procs l.made l.channels) 0 l.ends.items);
}
