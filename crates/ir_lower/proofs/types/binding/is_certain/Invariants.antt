use Rattle.std.proofs.Common.{◌≡◌, drop, true}
use Rattle.dslx_core.specs.Types.Typing.{is_certain}
use Rattle.ir_lower.proofs.types.binding.is_certain.Given as goal

abbrev pub invariant-shapes : goal.invariant-shapes
invariant-shapes l =
    record {
      kept : l.bound.items ≡ l.fn.bound.items;
      rest : is_certain (drop l.shape-index l.shapes) l.ty l.fn.bound.items ≡ true → is_certain l.shapes l.ty l.fn.bound.items ≡ true;
    }
