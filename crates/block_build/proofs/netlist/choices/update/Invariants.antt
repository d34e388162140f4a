use Rattle.std.proofs.Common.{◌≡◌, length}
use Rattle.block_build.specs.Netlist.Added.{AddsWires}
use Rattle.block_build.specs.Netlist.Choices.{ShowAllUpdated}
use Rattle.block_build.proofs.netlist.choices.update.Given as goal

abbrev pub invariant-elements : goal.invariant-elements
invariant-elements l =
    record {
      count : length l.updated.items ≡ l.i;
      shows : AddsWires l.initial.wires l.wires (λ v. ShowAllUpdated v l.index l.bits (length l.widths) l.element l.elements l.updated.items);
    }
