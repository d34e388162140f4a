use Rattle.std.proofs.Common.{◌≡◌, length}
use Rattle.block_build.specs.Netlist.Added.{AddsWires}
use Rattle.block_build.specs.Netlist.Choices.{HaveCount, ShowsChosen}
use Rattle.block_build.proofs.netlist.choices.select.Given as goal

abbrev pub invariant-values : goal.invariant-values
invariant-values l =
    record {
      count : HaveCount (length l.widths) l.values → length l.fn.other ≡ length l.widths → length l.chosen ≡ length l.widths;
      shows : AddsWires l.initial.wires l.wires (λ v. ShowsChosen v l.selector l.bits (length l.widths) l.values l.fn.other l.i l.chosen);
    }
