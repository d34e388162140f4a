use Rattle.std.proofs.Common.{◌≡◌, length, drop}
use Rattle.dslx_core.specs.CoreValues.{first_apart}
use Rattle.dslx_interp.proofs.operate.shapes.take_first.Given as goal

abbrev pub invariant-shapes : goal.invariant-shapes
invariant-shapes l =
    record {
      same_bound : l.bound.items ≡ l.initial.bound.items;
      same_rest : first_apart (drop l.shape-index l.shapes) l.value l.initial.bound.items ≡ first_apart l.shapes l.value l.initial.bound.items;
      same_count : l.count ≡ length l.initial.bound.items;
    }
