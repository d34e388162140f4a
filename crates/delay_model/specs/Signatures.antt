-- What operations take.
use Rattle.std.specs.Prelude.{ℕ, Bool, ◌==◌, nat_le}
use Rattle.delay_model.specs.declared.op.Op.{Op}
use Rattle.delay_model.specs.declared.op.Op.TheVariants as op
use Rattle.delay_model.specs.declared.signature.Count.{Count}
use Rattle.delay_model.specs.declared.signature.Count.TheVariants.{Exactly, AtLeast}
use Rattle.delay_model.specs.declared.signature.AttributeKind.{AttributeKind}
use Rattle.delay_model.specs.declared.signature.AttributeKind.TheVariants as kind

-- so many operands are right
abbrev pub is_met : Count → ℕ → Bool
is_met (Exactly count) operands = operands == count
is_met (AtLeast count) operands = nat_le count operands

-- how many operands stand before the attributes
abbrev pub count_of : Op → Count
count_of (op.Binary o) = Exactly 2
count_of (op.Unary o) = Exactly 1
count_of (op.Compare o) = Exactly 2
count_of (op.Shift o) = Exactly 2
count_of (op.Reduce o) = Exactly 1
count_of (op.Extend o) = Exactly 1
count_of op.Concat = AtLeast 1
count_of op.BitSlice = Exactly 1
count_of op.DynamicBitSlice = Exactly 2
count_of op.Sel = Exactly 1
count_of op.Tuple = AtLeast 0
count_of op.Array = AtLeast 1
count_of op.TupleIndex = Exactly 1
count_of op.ArrayIndex = Exactly 1
count_of op.ArrayUpdate = Exactly 2
count_of op.Literal = Exactly 0
count_of op.AfterAll = Exactly 0
count_of op.Receive = Exactly 1
count_of op.Send = Exactly 2

-- the attributes
abbrev pub attribute_kind_of : Op → AttributeKind
attribute_kind_of (op.Binary o) = kind.None
attribute_kind_of (op.Unary o) = kind.None
attribute_kind_of (op.Compare o) = kind.None
attribute_kind_of (op.Shift o) = kind.None
attribute_kind_of (op.Reduce o) = kind.None
attribute_kind_of (op.Extend o) = kind.NewBitCount
attribute_kind_of op.Concat = kind.None
attribute_kind_of op.BitSlice = kind.StartAndWidth
attribute_kind_of op.DynamicBitSlice = kind.Width
attribute_kind_of op.Sel = kind.Cases
attribute_kind_of op.Tuple = kind.None
attribute_kind_of op.Array = kind.None
attribute_kind_of op.TupleIndex = kind.Index
attribute_kind_of op.ArrayIndex = kind.Indices
attribute_kind_of op.ArrayUpdate = kind.Indices
attribute_kind_of op.Literal = kind.Value
attribute_kind_of op.AfterAll = kind.None
attribute_kind_of op.Receive = kind.Channel
attribute_kind_of op.Send = kind.Channel
