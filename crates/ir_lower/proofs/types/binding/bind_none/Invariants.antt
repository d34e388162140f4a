use Rattle.std.proofs.Common.{◌≡◌, drop}
use Rattle.dslx_core.specs.Types.Typing.{each_binds_none}
use Rattle.ir_lower.proofs.types.binding.bind_none.Given as goal

abbrev pub invariant-shapes : goal.invariant-shapes
invariant-shapes l =
    record {
      kept : l.bound.items ≡ l.fn.bound.items;
      rest : each_binds_none (drop l.shape-index l.shapes) l.ty l.fn.bound.items ≡ each_binds_none l.shapes l.ty l.fn.bound.items;
    }
