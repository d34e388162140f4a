use Rattle.std.proofs.Common.{◌≡◌, length}
use Rattle.ir_lower.specs.Types.Bound.{AddsTypes}
use Rattle.ir_lower.proofs.OnTypes.OnBound.{PartsLeft}
use Rattle.ir_lower.proofs.types.binding.+bind.Given as goal

abbrev pub invariant-bind_each-shapes : goal.invariant-bind_each-shapes
invariant-bind_each-shapes l =
    record {
      same_length : length l.shapes ≡ length l.types;
      same_rest : PartsLeft l.certain l.shapes l.types l.i l.fn.bound.items l.bound.items;
      grown : AddsTypes l.fn.bound.items l.bound.items;
    }
