use Rattle.std.proofs.Common.{◌≡◌, take, map}
use Rattle.ir_tree.specs.Types.{ty_of}
use Rattle.ir_tree.proofs.ir_type.IrType.+to_ty.Given as goal

abbrev pub invariant-parts : goal.invariant-parts
invariant-parts l = l.types.items ≡ map ty_of (take l.part-index l.part-items)
