-- How texts spell operations.
use Rattle.std.specs.Prelude.{ℕ, List, codes, Option, find}
use Rattle.std.specs.Str.{bytes_eq}
use Rattle.delay_model.specs.declared.op.Op.{Op}
use Rattle.delay_model.specs.declared.op.Op.TheVariants as op
use Rattle.delay_model.specs.declared.op.Binary.{Binary}
use Rattle.delay_model.specs.declared.op.Binary.TheVariants as binary
use Rattle.delay_model.specs.declared.op.Unary.{Unary}
use Rattle.delay_model.specs.declared.op.Unary.TheVariants as unary
use Rattle.delay_model.specs.declared.op.Compare.{Compare}
use Rattle.delay_model.specs.declared.op.Compare.TheVariants as compare
use Rattle.delay_model.specs.declared.op.Shift.{Shift}
use Rattle.delay_model.specs.declared.op.Shift.TheVariants as shift
use Rattle.delay_model.specs.declared.op.Reduce.{Reduce}
use Rattle.delay_model.specs.declared.op.Reduce.TheVariants as reduce
use Rattle.delay_model.specs.declared.op.Extend.{Extend}
use Rattle.delay_model.specs.declared.op.Extend.TheVariants as extend
use Rattle.delay_model.specs.declared.op.TheConstants.Op.{ALL}

abbrev pub binary_name : Binary → List ℕ
binary_name binary.Add = codes "add"
binary_name binary.Sub = codes "sub"
binary_name binary.Umul = codes "umul"
binary_name binary.Udiv = codes "udiv"
binary_name binary.Umod = codes "umod"
binary_name binary.And = codes "and"
binary_name binary.Or = codes "or"
binary_name binary.Xor = codes "xor"

abbrev pub unary_name : Unary → List ℕ
unary_name unary.Not = codes "not"
unary_name unary.Neg = codes "neg"
unary_name unary.Reverse = codes "reverse"

abbrev pub compare_name : Compare → List ℕ
compare_name compare.Eq = codes "eq"
compare_name compare.Ne = codes "ne"
compare_name compare.Ult = codes "ult"
compare_name compare.Ule = codes "ule"
compare_name compare.Ugt = codes "ugt"
compare_name compare.Uge = codes "uge"
compare_name compare.Slt = codes "slt"
compare_name compare.Sle = codes "sle"
compare_name compare.Sgt = codes "sgt"
compare_name compare.Sge = codes "sge"

abbrev pub shift_name : Shift → List ℕ
shift_name shift.Shll = codes "shll"
shift_name shift.Shrl = codes "shrl"
shift_name shift.Shra = codes "shra"

abbrev pub reduce_name : Reduce → List ℕ
reduce_name reduce.And = codes "and_reduce"
reduce_name reduce.Or = codes "or_reduce"
reduce_name reduce.Xor = codes "xor_reduce"

abbrev pub extend_name : Extend → List ℕ
extend_name extend.Zero = codes "zero_ext"
extend_name extend.Sign = codes "sign_ext"

-- the name of an operation
abbrev pub name_of : Op → List ℕ
name_of (op.Binary o) = binary_name o
name_of (op.Unary o) = unary_name o
name_of (op.Compare o) = compare_name o
name_of (op.Shift o) = shift_name o
name_of (op.Reduce o) = reduce_name o
name_of (op.Extend o) = extend_name o
name_of op.Concat = codes "concat"
name_of op.BitSlice = codes "bit_slice"
name_of op.DynamicBitSlice = codes "dynamic_bit_slice"
name_of op.Sel = codes "sel"
name_of op.Tuple = codes "tuple"
name_of op.Array = codes "array"
name_of op.TupleIndex = codes "tuple_index"
name_of op.ArrayIndex = codes "array_index"
name_of op.ArrayUpdate = codes "array_update"
name_of op.Literal = codes "literal"
name_of op.AfterAll = codes "after_all"
name_of op.Receive = codes "receive"
name_of op.Send = codes "send"

-- the operation of a name, if there is one
abbrev pub op_named : List ℕ → Option Op
op_named word = find (λ o. bytes_eq (name_of o) word) ALL
