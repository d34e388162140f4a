-- What replacements say of a node.
use Rattle.std.specs.Prelude.{◌≡◌, ℕ, ◌+◌, ◌<◌, ◌≤◌, List, [], Some, None}
use Rattle.xb_bits.specs.Word.{word}
use Rattle.xb_bits.specs.Parts.{slice_bits}
use Rattle.xb_value.specs.declared.value.Value.{Value}
use Rattle.xb_value.specs.declared.value.Value as values_of
use Rattle.delay_model.specs.declared.op.Binary.{Binary}
use Rattle.delay_model.specs.declared.op.Compare.{Compare}
use Rattle.delay_model.specs.declared.op.Extend.{Extend}
use Rattle.ir_tree.specs.declared.ir_type.IrType.{IrType, Bits}
use Rattle.ir_tree.specs.declared.node.Operand.{Operand}
use Rattle.ir_tree.specs.declared.node.Node.{Node}
use Rattle.ir_tree.specs.Operations.{binary_word, holds, bit, extend_word}
use Rattle.ir_tree.specs.NodeValues.{pure_value}
use Rattle.ir_rebuild.specs.Built.{AreBuilt, AreValues, OperandSimulates, Extends}
use Rattle.pass_narrow.specs.declared.node_pattern.NodeReplacement.{NodeReplacement}
use Rattle.pass_narrow.specs.declared.node_pattern.NodeReplacement.TheVariants as right
use Rattle.pass_narrow.specs.declared.rewritten_node.LongSlice.{LongSlice}
use Rattle.pass_narrow.specs.Numbers.{number, IsNumber}
use Rattle.pass_narrow.specs.Replacements.{slice_of}
use Rattle.pass_narrow.specs.Slices.{inner_part}

-- ---- what operations give for numbers of so many bits

abbrev pub binary_number : Binary → ℕ → ℕ → ℕ → ℕ
binary_number o w x y = (binary_word o (word w x) (word w y)).value

abbrev pub compare_number : Compare → ℕ → ℕ → ℕ → ℕ
compare_number o w x y = (bit (holds o (word w x) (word w y))).value

-- of a number of `own` bits
abbrev pub extend_number : Extend → ℕ → ℕ → ℕ → ℕ
extend_number kind own w x = (extend_word kind (word own x) w).value

-- ---- nodes and operands that are these numbers

-- the node is a number of so many bits, this one
pub record IsResult (state : IrType) (nodes : List Node) (n : Node) (w : ℕ) (f : Value → List Value → ℕ) : Type 0 where
  pub ty : n.ty ≡ Bits w []
  pub value : (s : Value) (values : List Value) → AreValues state nodes s values → pure_value n s values ≡ values_of.Bits (word w (f s values))

-- an operand of a list that has grown is the number
pub record GivesNumber (state : IrType) (old new : List Node) (o : Operand) (w : ℕ) (f : Value → List Value → ℕ) : Type 0 where
  pub built : AreBuilt state new
  pub extends : Extends old new
  pub is : IsNumber state new o w
  pub value : (s : Value) (values : List Value) → AreValues state new s values → number s values o ≡ f s values

-- the operand is a number that can be made so long
pub record HasLonger (state : IrType) (nodes : List Node) (o : Operand) (w : ℕ) : Type 0 where
  pub own : ℕ
  pub is : IsNumber state nodes o own
  pub longer : own ≤ w
  pub most : w ≤ 128

-- ---- what a replacement says of a node of `total` bits

pub record IsExtension (state : IrType) (nodes : List Node) (n : Node) (kind : Extend) (a : Operand) (total : ℕ) : Type 0 where
  pub own : ℕ
  pub is : IsNumber state nodes a own
  pub longer : own ≤ total
  pub most : total ≤ 128
  pub result : IsResult state nodes n total (λ s values. extend_number kind own total (number s values a))

pub record IsOperation (state : IrType) (nodes : List Node) (n : Node) (o : Binary) (a b : Operand) (least total : ℕ) : Type 0 where
  pub first : HasLonger state nodes a least
  pub second : HasLonger state nodes b least
  pub fewer : least < total
  pub most : total ≤ 128
  pub result : IsResult state nodes n total (λ s values. binary_number o least (number s values a) (number s values b))

pub record IsComparison (state : IrType) (nodes : List Node) (n : Node) (o : Compare) (a b : Operand) (least : ℕ) : Type 0 where
  pub first : HasLonger state nodes a least
  pub second : HasLonger state nodes b least
  pub result : IsResult state nodes n 1 (λ s values. compare_number o least (number s values a) (number s values b))

pub record IsZero (state : IrType) (nodes : List Node) (n : Node) (total : ℕ) : Type 0 where
  pub some : 1 ≤ total
  pub most : total ≤ 128
  pub result : IsResult state nodes n total (λ s values. 0)

-- the bits of a slice, with zeros before them
pub record IsSliceOf (state : IrType) (nodes : List Node) (n : Node) (part : LongSlice) : Type 0 where
  pub own : ℕ
  pub is : IsNumber state nodes part.operand own
  pub within : part.start + part.width ≤ own
  pub some : 1 ≤ part.width
  pub longer : part.width ≤ part.total
  pub most : part.total ≤ 128
  pub result : IsResult state nodes n part.total (λ s values. slice_bits (number s values part.operand) part.start part.width)

-- the operand of `width` bits, with zeros before it
pub record IsWhole (state : IrType) (nodes : List Node) (n : Node) (o : Operand) (width total : ℕ) : Type 0 where
  pub is : IsNumber state nodes o width
  pub longer : width ≤ total
  pub most : total ≤ 128
  pub result : IsResult state nodes n total (λ s values. number s values o)

abbrev pub IsReplacement : IrType → List Node → Node → ℕ → NodeReplacement → Type 0
IsReplacement state nodes n total (right.Operand o) = OperandSimulates state nodes n o
IsReplacement state nodes n total right.Zero = IsZero state nodes n total
IsReplacement state nodes n total (right.Extension kind a) = IsExtension state nodes n kind a total
IsReplacement state nodes n total (right.Slice x start) = IsSliceOf state nodes n (record { operand = x; start = start; width = total; total = total })
IsReplacement state nodes n total (right.LongerSlice x start width) = IsSliceOf state nodes n (record { operand = x; start = start; width = width; total = total })
IsReplacement state nodes n total (right.Operation o a b least) = IsOperation state nodes n o a b least total
IsReplacement state nodes n total (right.Comparison o a b least) = IsComparison state nodes n o a b least

-- ---- slices

abbrev pub slice_at : Operand → ℕ → ℕ → ℕ → LongSlice
slice_at x start width total = record { operand = x; start = start; width = width; total = total }

-- what a replacement says of a slice with zeros before it
abbrev pub SaysOfSlice : IrType → List Node → Node → LongSlice → NodeReplacement → Type 0
SaysOfSlice state nodes n part (right.Operand o) = IsNumber state nodes part.operand part.width × IsResult state nodes n part.total (λ s values. number s values part.operand) × (part.operand ≡ o)
SaysOfSlice state nodes n part right.Zero = IsResult state nodes n part.total (λ s values. 0)
SaysOfSlice state nodes n part (right.Extension kind a) = ⊥
SaysOfSlice state nodes n part (right.Slice y start) = IsSliceOf state nodes n (slice_at y start part.width part.total)
SaysOfSlice state nodes n part (right.LongerSlice y start width) = IsSliceOf state nodes n (slice_at y start width part.total)
SaysOfSlice state nodes n part (right.Operation o a b m) = ⊥
SaysOfSlice state nodes n part (right.Comparison o a b m) = ⊥

-- no slice is inside this one
abbrev pub IsInnermost : IrType → List Node → LongSlice → Type 0
IsInnermost state nodes part = (r : NodeReplacement) → slice_of state nodes part.start part.width part.operand ≡ Some r → inner_part r part ≡ None
