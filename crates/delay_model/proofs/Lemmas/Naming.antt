-- Each operation is found by its name.
use Rattle.std.specs.Prelude.{◌≡◌, Some, refl}
use Rattle.delay_model.specs.declared.op.Op.{Op}
use Rattle.delay_model.specs.declared.op.Op.TheVariants as op
use Rattle.delay_model.specs.declared.op.Binary.{Binary}
use Rattle.delay_model.specs.declared.op.Binary.TheVariants as binary
use Rattle.delay_model.specs.declared.op.Unary.{Unary}
use Rattle.delay_model.specs.declared.op.Unary.TheVariants as unary
use Rattle.delay_model.specs.declared.op.Compare.{Compare}
use Rattle.delay_model.specs.declared.op.Compare.TheVariants as compare
use Rattle.delay_model.specs.declared.op.Shift.{Shift}
use Rattle.delay_model.specs.declared.op.Shift.TheVariants as shift
use Rattle.delay_model.specs.declared.op.Reduce.{Reduce}
use Rattle.delay_model.specs.declared.op.Reduce.TheVariants as reduce
use Rattle.delay_model.specs.declared.op.Extend.{Extend}
use Rattle.delay_model.specs.declared.op.Extend.TheVariants as extend
use Rattle.delay_model.specs.Names.{name_of, op_named}

binary_found : (o : Binary) → op_named (name_of (op.Binary o)) ≡ Some (op.Binary o)
binary_found binary.Add = refl
binary_found binary.Sub = refl
binary_found binary.Umul = refl
binary_found binary.Udiv = refl
binary_found binary.Umod = refl
binary_found binary.And = refl
binary_found binary.Or = refl
binary_found binary.Xor = refl

unary_found : (o : Unary) → op_named (name_of (op.Unary o)) ≡ Some (op.Unary o)
unary_found unary.Not = refl
unary_found unary.Neg = refl
unary_found unary.Reverse = refl

compare_found : (o : Compare) → op_named (name_of (op.Compare o)) ≡ Some (op.Compare o)
compare_found compare.Eq = refl
compare_found compare.Ne = refl
compare_found compare.Ult = refl
compare_found compare.Ule = refl
compare_found compare.Ugt = refl
compare_found compare.Uge = refl
compare_found compare.Slt = refl
compare_found compare.Sle = refl
compare_found compare.Sgt = refl
compare_found compare.Sge = refl

shift_found : (o : Shift) → op_named (name_of (op.Shift o)) ≡ Some (op.Shift o)
shift_found shift.Shll = refl
shift_found shift.Shrl = refl
shift_found shift.Shra = refl

reduce_found : (o : Reduce) → op_named (name_of (op.Reduce o)) ≡ Some (op.Reduce o)
reduce_found reduce.And = refl
reduce_found reduce.Or = refl
reduce_found reduce.Xor = refl

extend_found : (o : Extend) → op_named (name_of (op.Extend o)) ≡ Some (op.Extend o)
extend_found extend.Zero = refl
extend_found extend.Sign = refl

pub named_by_name : (o : Op) → op_named (name_of o) ≡ Some o
named_by_name (op.Binary o) = binary_found o
named_by_name (op.Unary o) = unary_found o
named_by_name (op.Compare o) = compare_found o
named_by_name (op.Shift o) = shift_found o
named_by_name (op.Reduce o) = reduce_found o
named_by_name (op.Extend o) = extend_found o
named_by_name op.Concat = refl
named_by_name op.BitSlice = refl
named_by_name op.DynamicBitSlice = refl
named_by_name op.Sel = refl
named_by_name op.Tuple = refl
named_by_name op.Array = refl
named_by_name op.TupleIndex = refl
named_by_name op.ArrayIndex = refl
named_by_name op.ArrayUpdate = refl
named_by_name op.Literal = refl
named_by_name op.AfterAll = refl
named_by_name op.Receive = refl
named_by_name op.Send = refl
