-- The texts of names, literals, operators and expressions.
use Rattle.std.specs.Prelude.{ℕ, List, [], ◌++◌, map, codes, decimal, slice_get, option_map, unwrap_or}
use Rattle.xb_value.specs.Text.{listed}
use Rattle.vlog_tree.specs.declared.module.VModule.{VModule}
use Rattle.vlog_tree.specs.declared.expression.Expr.{Expr}
use Rattle.vlog_tree.specs.declared.expression.Expr.TheVariants as expr
use Rattle.vlog_tree.specs.declared.expression.Simple.{Simple}
use Rattle.vlog_tree.specs.declared.expression.Simple.TheVariants as simple
use Rattle.vlog_tree.specs.declared.expression.Atom.{Atom}
use Rattle.vlog_tree.specs.declared.expression.Atom.TheVariants as atom
use Rattle.vlog_tree.specs.declared.expression.Literal.{Literal}
use Rattle.vlog_tree.specs.declared.expression.Binary.{Binary}
use Rattle.vlog_tree.specs.declared.expression.Binary.TheVariants as binary
use Rattle.vlog_tree.specs.declared.expression.Unary.{Unary}
use Rattle.vlog_tree.specs.declared.expression.Unary.TheVariants as unary
use Rattle.vlog_tree.specs.declared.expression.Order.{Order}
use Rattle.vlog_tree.specs.declared.expression.Order.TheVariants as order
use Rattle.vlog_tree.specs.Signals.{signals}

-- ---- names and literals

-- the name of a signal
unfoldable pub signal_text : VModule → ℕ → List ℕ
signal_text m s = unwrap_or (option_map (λ d. d.name) (slice_get (signals m) s)) []

-- `8'd250`
unfoldable pub literal_text : Literal → List ℕ
literal_text literal = decimal literal.width ++ (codes "'d" ++ decimal literal.value)

abbrev pub atom_text : VModule → Atom → List ℕ
atom_text m (atom.Signal s) = signal_text m s.0
atom_text m (atom.Literal literal) = literal_text literal

-- ---- operators, with spaces round those between two

abbrev pub order_text : Order → List ℕ
order_text order.Less = codes " < "
order_text order.LessOrEqual = codes " <= "
order_text order.Greater = codes " > "
order_text order.GreaterOrEqual = codes " >= "

abbrev pub binary_text : Binary → List ℕ
binary_text binary.Add = codes " + "
binary_text binary.Subtract = codes " - "
binary_text binary.Multiply = codes " * "
binary_text binary.Divide = codes " / "
binary_text binary.Remainder = codes " % "
binary_text binary.And = codes " & "
binary_text binary.Or = codes " | "
binary_text binary.Xor = codes " ^ "
binary_text binary.Equal = codes " == "
binary_text binary.NotEqual = codes " != "
binary_text (binary.Ordered order) = order_text order
binary_text binary.ShiftLeft = codes " << "
binary_text binary.ShiftRight = codes " >> "

abbrev pub unary_text : Unary → List ℕ
unary_text unary.Negate = codes "-"
unary_text unary.Complement = codes "~"
unary_text unary.AllOnes = codes "&"
unary_text unary.SomeOne = codes "|"
unary_text unary.Parity = codes "^"

-- ---- expressions

-- `[7:4]`
unfoldable pub bounds_text : ℕ → ℕ → List ℕ
bounds_text high low = codes "[" ++ (decimal high ++ (codes ":" ++ (decimal low ++ codes "]")))

abbrev pub simple_text : VModule → Simple → List ℕ
simple_text m (simple.Atom a) = atom_text m a
simple_text m (simple.Binary operator a b) = atom_text m a ++ (binary_text operator ++ atom_text m b)
simple_text m (simple.Unary operator a) = unary_text operator ++ atom_text m a
simple_text m (simple.Slice s high low) = signal_text m s.0 ++ bounds_text high low
simple_text m (simple.Concat atoms) = codes "{" ++ (listed [] (map (atom_text m) atoms) ++ codes "}")

-- `$signed(x)`
unfoldable pub signed_text : VModule → ℕ → List ℕ
signed_text m s = codes "$signed(" ++ (signal_text m s ++ codes ")")

abbrev pub expr_text : VModule → Expr → List ℕ
expr_text m (expr.Simple x) = simple_text m x
expr_text m (expr.SignedOrder order a b) = signed_text m a.0 ++ (order_text order ++ signed_text m b.0)
expr_text m (expr.SignedShift a amount) = signed_text m a.0 ++ (codes " >>> " ++ atom_text m amount)
expr_text m (expr.Choice c a b) = atom_text m c ++ (codes " ? " ++ (simple_text m a ++ (codes " : " ++ simple_text m b)))
