-- How long operations take, in picoseconds, by the width of what they work on.
use Rattle.std.specs.Prelude.{ℕ, ◌+◌, ◌-◌, ◌*◌}
use Rattle.std.specs.Int.Count.{count_leading_zeros}
use Rattle.delay_model.specs.declared.op.Op.{Op}
use Rattle.delay_model.specs.declared.op.Op.TheVariants as op
use Rattle.delay_model.specs.declared.op.Binary.TheVariants as binary
use Rattle.delay_model.specs.declared.op.Unary.TheVariants as unary
use Rattle.delay_model.specs.declared.op.Compare.TheVariants as compare
use Rattle.delay_model.specs.declared.timing.TimedBy.{TimedBy}
use Rattle.delay_model.specs.declared.timing.TimedBy.TheVariants as timed_by

-- how many binary digits a number below 2 ^ 32 has: 1 for 1, 6 for 32, none for 0
abbrev pub binary_digits : ℕ → ℕ
binary_digits n = 32 - count_leading_zeros 32 n

-- by which width an operation is timed
abbrev pub timed_by_of : Op → TimedBy
timed_by_of (op.Binary o) = timed_by.Result
timed_by_of (op.Unary o) = timed_by.Result
timed_by_of o = timed_by.FirstOperand

-- the table of delays: what an operation takes at a width
abbrev pub delay_of : Op → ℕ → ℕ
delay_of (op.Binary binary.Add) w = 40 + 10 * binary_digits w
delay_of (op.Binary binary.Sub) w = 40 + 10 * binary_digits w
delay_of (op.Binary binary.Umul) w = 80 + 40 * binary_digits w
delay_of (op.Binary binary.Udiv) w = 100 * w
delay_of (op.Binary binary.Umod) w = 100 * w
delay_of (op.Binary binary.And) w = 20
delay_of (op.Binary binary.Or) w = 20
delay_of (op.Binary binary.Xor) w = 20
delay_of (op.Unary unary.Not) w = 20
delay_of (op.Unary unary.Neg) w = 40 + 10 * binary_digits w
delay_of (op.Unary unary.Reverse) w = 0
delay_of (op.Compare compare.Eq) w = 20 + 10 * binary_digits w
delay_of (op.Compare compare.Ne) w = 20 + 10 * binary_digits w
delay_of (op.Compare o) w = 40 + 10 * binary_digits w
delay_of (op.Shift o) w = 20 * binary_digits w
delay_of (op.Reduce o) w = 10 * binary_digits w
delay_of (op.Extend o) w = 0
delay_of op.Concat w = 0
delay_of op.BitSlice w = 0
delay_of op.DynamicBitSlice w = 20 * binary_digits w
delay_of op.Sel w = 40
delay_of op.Tuple w = 0
delay_of op.Array w = 0
delay_of op.TupleIndex w = 0
delay_of op.ArrayIndex w = 20 * binary_digits w
delay_of op.ArrayUpdate w = 20 * binary_digits w
delay_of op.Literal w = 0
delay_of op.AfterAll w = 0
delay_of op.Receive w = 0
delay_of op.Send w = 0
