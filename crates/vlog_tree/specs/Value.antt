-- What an expression is worth where every signal has a number: IEEE 1800's value in two states, with `/` and `%` by 0
-- read as 0. The widths of a form agree (rule 74), so nothing is extended to the width of a context.
use Rattle.std.specs.Prelude.{ℕ, ◌-◌, ◌+◌, Bool, true, false, List, [], ◌∷◌, ◌==◌, not, if◌then◌else◌}
use Rattle.std.specs.declared.cmp.Ordering.{Ordering}
use Rattle.std.specs.declared.cmp.Ordering.TheVariants as ordering
use Rattle.xb_bits.specs.Word.{Word, word}
use Rattle.xb_bits.specs.Operations as op
use Rattle.vlog_tree.specs.declared.signal.Signal.{Signal}
use Rattle.vlog_tree.specs.declared.expression.Expr.{Expr}
use Rattle.vlog_tree.specs.declared.expression.Expr.TheVariants as expr
use Rattle.vlog_tree.specs.declared.expression.Simple.{Simple}
use Rattle.vlog_tree.specs.declared.expression.Simple.TheVariants as simple
use Rattle.vlog_tree.specs.declared.expression.Atom.{Atom}
use Rattle.vlog_tree.specs.declared.expression.Atom.TheVariants as atom
use Rattle.vlog_tree.specs.declared.expression.Binary.{Binary}
use Rattle.vlog_tree.specs.declared.expression.Binary.TheVariants as binary
use Rattle.vlog_tree.specs.declared.expression.Unary.{Unary}
use Rattle.vlog_tree.specs.declared.expression.Unary.TheVariants as unary
use Rattle.vlog_tree.specs.declared.expression.Order.{Order}
use Rattle.vlog_tree.specs.declared.expression.Order.TheVariants as order

-- the number of each signal
abbrev pub Values : Type 0
Values = ℕ → Word

-- a bit
abbrev pub bit : Bool → Word
bit b = word 1 (if b then 1 else 0)

-- whether the comparison holds of two numbers that are so ordered
abbrev pub holds : Order → Ordering → Bool
holds order.Less ordering.Less = true
holds order.Less _ = false
holds order.LessOrEqual ordering.Greater = false
holds order.LessOrEqual _ = true
holds order.Greater ordering.Greater = true
holds order.Greater _ = false
holds order.GreaterOrEqual ordering.Less = false
holds order.GreaterOrEqual _ = true

abbrev pub atom_value : Values → Atom → Word
atom_value values (atom.Signal s) = values s.0
atom_value values (atom.Literal literal) = word literal.width literal.value

abbrev pub binary_value : Binary → Word → Word → Word
binary_value binary.Add a b = op.add a b
binary_value binary.Subtract a b = op.sub a b
binary_value binary.Multiply a b = op.mul a b
binary_value binary.Divide a b = if b.value == 0 then word a.width 0 else op.udiv a b
binary_value binary.Remainder a b = op.umod a b
binary_value binary.And a b = op.and a b
binary_value binary.Or a b = op.or a b
binary_value binary.Xor a b = op.xor a b
binary_value binary.Equal a b = bit (a.value == b.value)
binary_value binary.NotEqual a b = bit (not (a.value == b.value))
binary_value (binary.Ordered order) a b = bit (holds order (op.cmp_u a b))
binary_value binary.ShiftLeft a b = op.shll a b
binary_value binary.ShiftRight a b = op.shrl a b

abbrev pub unary_value : Unary → Word → Word
unary_value unary.Negate a = op.neg a
unary_value unary.Complement a = op.not a
unary_value unary.AllOnes a = op.and_reduce a
unary_value unary.SomeOne a = op.or_reduce a
unary_value unary.Parity a = op.xor_reduce a

-- the numbers of atoms side by side, the first in the high bits
abbrev pub joined_value : Values → List Atom → Word
joined_value values [] = word 0 0
joined_value values (a ∷ rest) = op.concat (atom_value values a) (joined_value values rest)

abbrev pub simple_value : Values → Simple → Word
simple_value values (simple.Atom a) = atom_value values a
simple_value values (simple.Binary operator a b) = binary_value operator (atom_value values a) (atom_value values b)
simple_value values (simple.Unary operator a) = unary_value operator (atom_value values a)
simple_value values (simple.Slice s high low) = op.slice (values s.0) low (high + 1 - low)
simple_value values (simple.Concat atoms) = joined_value values atoms

abbrev pub expr_value : Values → Expr → Word
expr_value values (expr.Simple x) = simple_value values x
expr_value values (expr.SignedOrder order a b) = bit (holds order (op.cmp_s (values a.0) (values b.0)))
expr_value values (expr.SignedShift a k) = op.shra (values a.0) (atom_value values k)
expr_value values (expr.Choice c a b) =
    if (atom_value values c).value == 0 then simple_value values b else simple_value values a
