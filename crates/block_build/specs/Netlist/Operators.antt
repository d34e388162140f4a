-- The wires of operations on numbers. Of operands that Verilog slices or takes as signed numbers the signal is wanted, since it
-- does that to names alone; literals are signals that carry a number.
use Rattle.std.specs.Prelude.{◌≡◌, ℕ, zero, suc, ◌+◌, ◌-◌, List, [], ◌∷◌, ◌==◌, nat_lt, if◌then◌else◌}
use Rattle.xb_bits.specs.Word.{Word}
use Rattle.delay_model.specs.declared.op.Binary.TheVariants as operation
use Rattle.delay_model.specs.declared.op.Binary.{Binary}
use Rattle.delay_model.specs.declared.op.Compare.{Compare}
use Rattle.delay_model.specs.declared.op.Compare.TheVariants as compare
use Rattle.delay_model.specs.declared.op.Shift.{Shift}
use Rattle.delay_model.specs.declared.op.Shift.TheVariants as shift
use Rattle.delay_model.specs.declared.op.Reduce.{Reduce}
use Rattle.delay_model.specs.declared.op.Reduce.TheVariants as reduce
use Rattle.vlog_tree.specs.declared.expression.Atom.{Atom}
use Rattle.vlog_tree.specs.declared.expression.Binary as verilog
use Rattle.vlog_tree.specs.declared.expression.Binary.TheVariants as binary
use Rattle.vlog_tree.specs.declared.expression.Unary.{Unary}
use Rattle.vlog_tree.specs.declared.expression.Unary.TheVariants as unary
use Rattle.vlog_tree.specs.declared.expression.Order.{Order}
use Rattle.vlog_tree.specs.declared.expression.Order.TheVariants as order
use Rattle.vlog_tree.specs.declared.expression.Expr.TheVariants as expr
use Rattle.vlog_tree.specs.declared.expression.Simple.{Simple}
use Rattle.vlog_tree.specs.declared.expression.Simple.TheVariants as simple
use Rattle.vlog_tree.specs.Value.{Values}
use Rattle.block_build.specs.Netlist.Wires.{Wire}
use Rattle.block_build.specs.Netlist.Gates.{net, binary_gate}

-- ---- two numbers of one width

-- a division by 0 gives this other number
abbrev pub divided_wires : ℕ → ℕ → verilog.Binary → Atom → Atom → Atom → Atom → List Wire
divided_wires width k operator a b zeros other =
    binary_gate 1 binary.NotEqual b zeros
    ∷ record { width = width; driver = expr.Choice (net k) (simple.Binary operator a b) (simple.Atom other) }
    ∷ []

-- from wire k on, with the literals of as many zeros and ones
abbrev pub binary_wires : Binary → ℕ → ℕ → Atom → Atom → Atom → Atom → List Wire
binary_wires operation.Add width k a b zeros ones = binary_gate width binary.Add a b ∷ []
binary_wires operation.Sub width k a b zeros ones = binary_gate width binary.Subtract a b ∷ []
binary_wires operation.Umul width k a b zeros ones = binary_gate width binary.Multiply a b ∷ []
binary_wires operation.Udiv width k a b zeros ones = divided_wires width k binary.Divide a b zeros ones
binary_wires operation.Umod width k a b zeros ones = divided_wires width k binary.Remainder a b zeros zeros
binary_wires operation.And width k a b zeros ones = binary_gate width binary.And a b ∷ []
binary_wires operation.Or width k a b zeros ones = binary_gate width binary.Or a b ∷ []
binary_wires operation.Xor width k a b zeros ones = binary_gate width binary.Xor a b ∷ []

-- the wire that has the result
abbrev pub binary_net : Binary → ℕ → ℕ
binary_net operation.Add k = k
binary_net operation.Sub k = k
binary_net operation.Umul k = k
binary_net operation.Udiv k = suc k
binary_net operation.Umod k = suc k
binary_net operation.And k = k
binary_net operation.Or k = k
binary_net operation.Xor k = k

-- ---- comparisons

abbrev pub signed_gate : Order → ℕ → ℕ → Wire
signed_gate o s t = record { width = 1; driver = expr.SignedOrder o (record { 0 = s }) (record { 0 = t }) }

-- of atoms, or where they are signed of signals
abbrev pub compare_gate : Compare → Atom → Atom → ℕ → ℕ → Wire
compare_gate compare.Eq a b s t = binary_gate 1 binary.Equal a b
compare_gate compare.Ne a b s t = binary_gate 1 binary.NotEqual a b
compare_gate compare.Ult a b s t = binary_gate 1 (binary.Ordered order.Less) a b
compare_gate compare.Ule a b s t = binary_gate 1 (binary.Ordered order.LessOrEqual) a b
compare_gate compare.Ugt a b s t = binary_gate 1 (binary.Ordered order.Greater) a b
compare_gate compare.Uge a b s t = binary_gate 1 (binary.Ordered order.GreaterOrEqual) a b
compare_gate compare.Slt a b s t = signed_gate order.Less s t
compare_gate compare.Sle a b s t = signed_gate order.LessOrEqual s t
compare_gate compare.Sgt a b s t = signed_gate order.Greater s t
compare_gate compare.Sge a b s t = signed_gate order.GreaterOrEqual s t

-- the signals of a signed comparison carry its operands
abbrev pub SignalsCarry : Values → Compare → ℕ → ℕ → Word → Word → Type 0
SignalsCarry v compare.Eq s t x y = Unit {0}
SignalsCarry v compare.Ne s t x y = Unit {0}
SignalsCarry v compare.Ult s t x y = Unit {0}
SignalsCarry v compare.Ule s t x y = Unit {0}
SignalsCarry v compare.Ugt s t x y = Unit {0}
SignalsCarry v compare.Uge s t x y = Unit {0}
SignalsCarry v compare.Slt s t x y = (v s ≡ x) × (v t ≡ y)
SignalsCarry v compare.Sle s t x y = (v s ≡ x) × (v t ≡ y)
SignalsCarry v compare.Sgt s t x y = (v s ≡ x) × (v t ≡ y)
SignalsCarry v compare.Sge s t x y = (v s ≡ x) × (v t ≡ y)

-- ---- shifts, one bit of all bits

abbrev pub shift_gate : Shift → ℕ → Atom → Atom → ℕ → Wire
shift_gate shift.Shll width a amount s = binary_gate width binary.ShiftLeft a amount
shift_gate shift.Shrl width a amount s = binary_gate width binary.ShiftRight a amount
shift_gate shift.Shra width a amount s = record { width = width; driver = expr.SignedShift (record { 0 = s }) amount }

-- the signal of a shift that copies the sign carries its operand
abbrev pub SignalCarries : Values → Shift → ℕ → Word → Type 0
SignalCarries v shift.Shll s x = Unit {0}
SignalCarries v shift.Shrl s x = Unit {0}
SignalCarries v shift.Shra s x = v s ≡ x

abbrev pub unary_gate : ℕ → Unary → Atom → Wire
unary_gate width operator a = record { width = width; driver = expr.Simple (simple.Unary operator a) }

abbrev pub reduce_gate : Reduce → Atom → Wire
reduce_gate reduce.And a = unary_gate 1 unary.AllOnes a
reduce_gate reduce.Or a = unary_gate 1 unary.SomeOne a
reduce_gate reduce.Xor a = unary_gate 1 unary.Parity a

-- ---- parts of a number, and numbers side by side

-- so many bits of a signal of `all` bits, from bit `low` on. A signal of one bit has no slices
abbrev pub part_of : ℕ → ℕ → ℕ → ℕ → Simple
part_of all s low width = if all == 1 then simple.Atom (net s) else simple.Slice (record { 0 = s }) (low + width - 1) low

abbrev pub simple_gate : ℕ → Simple → Wire
simple_gate width x = record { width = width; driver = expr.Simple x }

-- the low bits of a signal of `all` bits, or it below so many zeros
abbrev pub fitted : ℕ → ℕ → ℕ → Atom → Simple
fitted all width s zeros =
    if nat_lt width all then simple.Slice (record { 0 = s }) (width - 1) 0
    else if all == width then simple.Atom (net s)
    else simple.Concat (zeros ∷ net s ∷ [])

-- a number shifted to the right, and its low bits
abbrev pub dyn_slice_wires : ℕ → ℕ → ℕ → Atom → Atom → Atom → List Wire
dyn_slice_wires all width k a start zeros = binary_gate all binary.ShiftRight a start ∷ simple_gate width (fitted all width k zeros) ∷ []

-- a signal of `all` bits below copies of its highest bit: so many zeros or ones, by that bit
abbrev pub sign_wires : ℕ → ℕ → ℕ → ℕ → Atom → Atom → List Wire
sign_wires all width k s zeros ones =
    simple_gate 1 (part_of all s (all - 1) 1)
    ∷ record { width = width; driver = expr.Choice (net k) (simple.Concat (ones ∷ net s ∷ [])) (simple.Concat (zeros ∷ net s ∷ [])) }
    ∷ []

-- so many bits of a signal, one by one, from bit i on
abbrev pub bit_wires : ℕ → ℕ → ℕ → ℕ → List Wire
bit_wires all s i zero = []
bit_wires all s i (suc n) = simple_gate 1 (part_of all s i 1) ∷ bit_wires all s (suc i) n
