-- The widths that an expression's parts need for a target of some width, and the signals that it reads.
use Rattle.std.specs.Prelude.{ℕ, ◌-◌, ◌+◌, Bool, true, false, List, [], ◌∷◌, ◌++◌, ◌==◌, nat_lt, nat_le, ◌&&◌, flat_map}
use Rattle.vlog_tree.specs.declared.signal.Signal.{Signal}
use Rattle.vlog_tree.specs.declared.expression.Expr.{Expr}
use Rattle.vlog_tree.specs.declared.expression.Expr.TheVariants as expr
use Rattle.vlog_tree.specs.declared.expression.Simple.{Simple}
use Rattle.vlog_tree.specs.declared.expression.Simple.TheVariants as simple
use Rattle.vlog_tree.specs.declared.expression.Atom.{Atom}
use Rattle.vlog_tree.specs.declared.expression.Atom.TheVariants as atom
use Rattle.vlog_tree.specs.declared.expression.Binary.{Binary}
use Rattle.vlog_tree.specs.declared.expression.Binary.TheVariants as binary
use Rattle.vlog_tree.specs.declared.expression.Unary.{Unary}
use Rattle.vlog_tree.specs.declared.expression.Unary.TheVariants as unary

-- the width of each signal
abbrev pub Widths : Type 0
Widths = ℕ → ℕ

abbrev pub atom_width : Widths → Atom → ℕ
atom_width widths (atom.Signal s) = widths s.0
atom_width widths (atom.Literal literal) = literal.width

-- the width of numbers side by side
abbrev pub joined_width : Widths → List Atom → ℕ
joined_width widths [] = 0
joined_width widths (a ∷ rest) = atom_width widths a + joined_width widths rest

-- an operator between numbers of these widths gives one of width w
abbrev pub binary_fits : ℕ → Binary → ℕ → ℕ → Bool
binary_fits w binary.Equal a b = (a == b) && (w == 1)
binary_fits w binary.NotEqual a b = (a == b) && (w == 1)
binary_fits w (binary.Ordered _) a b = (a == b) && (w == 1)
binary_fits w binary.ShiftLeft a b = a == w
binary_fits w binary.ShiftRight a b = a == w
binary_fits w _ a b = (a == w) && (b == w)

-- an operator before a number of width a gives one of width w
abbrev pub unary_fits : ℕ → Unary → ℕ → Bool
unary_fits w unary.Negate a = a == w
unary_fits w unary.Complement a = a == w
unary_fits w _ a = w == 1

abbrev pub simple_fits : Widths → ℕ → Simple → Bool
simple_fits widths w (simple.Atom a) = atom_width widths a == w
simple_fits widths w (simple.Binary operator a b) = binary_fits w operator (atom_width widths a) (atom_width widths b)
simple_fits widths w (simple.Unary operator a) = unary_fits w operator (atom_width widths a)
simple_fits widths w (simple.Slice s high low) =
    nat_lt 1 (widths s.0) && (nat_le low high && (nat_lt high (widths s.0) && (w == high + 1 - low)))
simple_fits widths w (simple.Concat atoms) = joined_width widths atoms == w

-- a target of width w may be driven by this
abbrev pub fits : Widths → ℕ → Expr → Bool
fits widths w (expr.Simple x) = simple_fits widths w x
fits widths w (expr.SignedOrder _ a b) = (widths a.0 == widths b.0) && (w == 1)
fits widths w (expr.SignedShift a _) = widths a.0 == w
fits widths w (expr.Choice c a b) = (atom_width widths c == 1) && (simple_fits widths w a && simple_fits widths w b)

-- the signals that an expression reads, in text order
abbrev pub atom_reads : Atom → List ℕ
atom_reads (atom.Signal s) = s.0 ∷ []
atom_reads (atom.Literal _) = []

abbrev pub simple_reads : Simple → List ℕ
simple_reads (simple.Atom a) = atom_reads a
simple_reads (simple.Binary _ a b) = atom_reads a ++ atom_reads b
simple_reads (simple.Unary _ a) = atom_reads a
simple_reads (simple.Slice s _ _) = s.0 ∷ []
simple_reads (simple.Concat atoms) = flat_map atom_reads atoms

abbrev pub reads : Expr → List ℕ
reads (expr.Simple x) = simple_reads x
reads (expr.SignedOrder _ a b) = a.0 ∷ b.0 ∷ []
reads (expr.SignedShift a k) = a.0 ∷ atom_reads k
reads (expr.Choice c a b) = atom_reads c ++ (simple_reads a ++ simple_reads b)

-- the widths of an expression's literals, in text order
abbrev pub atom_literals : Atom → List ℕ
atom_literals (atom.Signal _) = []
atom_literals (atom.Literal literal) = literal.width ∷ []

abbrev pub simple_literals : Simple → List ℕ
simple_literals (simple.Atom a) = atom_literals a
simple_literals (simple.Binary _ a b) = atom_literals a ++ atom_literals b
simple_literals (simple.Unary _ a) = atom_literals a
simple_literals (simple.Slice _ _ _) = []
simple_literals (simple.Concat atoms) = flat_map atom_literals atoms

abbrev pub literals : Expr → List ℕ
literals (expr.Simple x) = simple_literals x
literals (expr.SignedOrder _ _ _) = []
literals (expr.SignedShift _ k) = atom_literals k
literals (expr.Choice c a b) = atom_literals c ++ (simple_literals a ++ simple_literals b)
