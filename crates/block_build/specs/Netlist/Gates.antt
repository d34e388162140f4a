-- Wires of one bit.
use Rattle.std.specs.Prelude.{ℕ}
use Rattle.vlog_tree.specs.declared.expression.Atom.{Atom}
use Rattle.vlog_tree.specs.declared.expression.Atom.TheVariants as atom
use Rattle.vlog_tree.specs.declared.expression.Binary.{Binary}
use Rattle.vlog_tree.specs.declared.expression.Binary.TheVariants as binary
use Rattle.vlog_tree.specs.declared.expression.Expr.TheVariants as expr
use Rattle.vlog_tree.specs.declared.expression.Simple.TheVariants as simple
use Rattle.vlog_tree.specs.declared.expression.Unary.TheVariants as unary
use Rattle.block_build.specs.Netlist.Wires.{Wire}

-- the signal of a number
abbrev pub net : ℕ → Atom
net k = atom.Signal (record { 0 = k })

abbrev pub not_gate : Atom → Wire
not_gate a = record { width = 1; driver = expr.Simple (simple.Unary unary.Complement a) }

abbrev pub and_gate : Atom → Atom → Wire
and_gate a b = record { width = 1; driver = expr.Simple (simple.Binary binary.And a b) }

abbrev pub or_gate : Atom → Atom → Wire
or_gate a b = record { width = 1; driver = expr.Simple (simple.Binary binary.Or a b) }

-- the one where the bit is 1, the other where it is 0
abbrev pub choice_gate : ℕ → Atom → Atom → Atom → Wire
choice_gate width bit a b = record { width = width; driver = expr.Choice bit (simple.Atom a) (simple.Atom b) }

-- wires of any width between two of it
abbrev pub binary_gate : ℕ → Binary → Atom → Atom → Wire
binary_gate width operator a b = record { width = width; driver = expr.Simple (simple.Binary operator a b) }
