-- What each rule of the grammar makes of the parts that its symbols left.
use Rattle.std.specs.Prelude.{ℕ, List, [], ◌∷◌, ◌+◌, ◌++◌, min, drop, take, reverse, Option, None, Some}
use Rattle.xb_span.specs.declared.span.Span.{Span}
use Rattle.vlog_tree.specs.declared.module.Port.{Port}
use Rattle.vlog_tree.specs.declared.module.Declaration.{Declaration}
use Rattle.vlog_tree.specs.declared.module.Direction.{Direction}
use Rattle.vlog_tree.specs.declared.module.Direction.TheVariants as directions
use Rattle.vlog_tree.specs.declared.module.Storage.{Storage}
use Rattle.vlog_tree.specs.declared.module.Storage.TheVariants as storages
use Rattle.vlog_tree.specs.declared.signal.Signal.{Signal}
use Rattle.vlog_tree.specs.declared.expression.Atom.{Atom}
use Rattle.vlog_tree.specs.declared.expression.Atom.TheVariants as atom
use Rattle.vlog_tree.specs.declared.expression.Binary.{Binary}
use Rattle.vlog_tree.specs.declared.expression.Binary.TheVariants as binary
use Rattle.vlog_tree.specs.declared.expression.Order.{Order}
use Rattle.vlog_tree.specs.declared.expression.Order.TheVariants as order
use Rattle.vlog_tree.specs.declared.expression.Unary.{Unary}
use Rattle.vlog_tree.specs.declared.expression.Unary.TheVariants as unary
use Rattle.vlog_tree.specs.declared.expression.Simple.{Simple}
use Rattle.vlog_tree.specs.declared.expression.Simple.TheVariants as simple
use Rattle.vlog_tree.specs.declared.expression.Expr.{Expr}
use Rattle.vlog_tree.specs.declared.expression.Expr.TheVariants as expr
use Rattle.vlog_text.specs.declared.builder.state.State.{State}
use Rattle.vlog_text.specs.declared.builder.tail.Tail.{Tail}
use Rattle.vlog_text.specs.declared.builder.tail.Tail.TheVariants as tail
use Rattle.vlog_text.specs.Builder.Empty.{no_ident, no_literal, no_atom, no_simple, no_expr}
use Rattle.base.specs.Stacks.Tops.{top_or}
use Rattle.vlog_text.specs.Builder.Parts.{most, range_width, range_some, signal_of}

-- from there to the end of the last token
abbrev pub span_from : ℕ → State → Span
span_from from s = record { from = from; to = s.last.to }

-- the signal of the name on top
abbrev pub top_signal : State → Signal
top_signal s = record { 0 = signal_of s.signals (top_or no_ident s.idents).name }

-- ---- what stands behind a name or a literal

abbrev pub simple_of : Atom → Tail → Simple
simple_of a tail.Alone = simple.Atom a
simple_of a (tail.Binary operator b) = simple.Binary operator a b
simple_of (atom.Signal s) (tail.Slice high low) = simple.Slice s high low
simple_of a _ = simple.Atom a

abbrev pub expr_of : Atom → Tail → Expr
expr_of a (tail.Choice then otherwise) = expr.Choice a then otherwise
expr_of a t = expr.Simple (simple_of a t)

-- the same behind `$signed(x)`
abbrev pub signed_of : Signal → Tail → Expr
signed_of s (tail.SignedOrder order other) = expr.SignedOrder order s other
signed_of s (tail.SignedShift amount) = expr.SignedShift s amount
signed_of s _ = expr.Simple (simple.Atom (atom.Signal s))

-- ---- ports and declarations

-- `[ number : 0 ]`
abbrev pub range_of : State → State
range_of s = record s { numbers = drop 1 (drop 1 s.numbers); ranges = Some (top_or 0 (drop 1 s.numbers)) ∷ s.ranges }

abbrev pub no_range : State → State
no_range s = record s { ranges = None ∷ s.ranges }

abbrev pub direction_of : Direction → State → State
direction_of direction s = record s { directions = direction ∷ s.directions; starts = s.last.from ∷ s.starts }

unfoldable pub port_by : Direction → List ℕ → Option ℕ → Port
port_by direction name range = record { direction = direction; name = name; width = range_width range; some_width = range_some range }

abbrev pub port_made : State → Port
port_made s = port_by (top_or directions.Input s.directions) (top_or no_ident s.idents).name (top_or None s.ranges)

-- `direction wire range name`
abbrev pub port_of : State → State
port_of s = record s {
  directions = drop 1 s.directions;
  ranges = drop 1 s.ranges;
  idents = drop 1 s.idents;
  starts = drop 1 s.starts;
  signals = s.signals ++ (top_or no_ident s.idents).name ∷ [];
  ports = s.ports ++ port_made s ∷ [];
  port_spans = s.port_spans ++ span_from (top_or 0 s.starts) s ∷ [];
}

abbrev pub storage_of : Storage → State → State
storage_of storage s = record s { storages = storage ∷ s.storages; starts = s.last.from ∷ s.starts }

unfoldable pub declaration_by : Storage → List ℕ → Option ℕ → Declaration
declaration_by storage name range = record { storage = storage; name = name; width = range_width range; some_width = range_some range }

abbrev pub declaration_made : State → Declaration
declaration_made s = declaration_by (top_or storages.Wire s.storages) (top_or no_ident s.idents).name (top_or None s.ranges)

-- `storage range name ;`
abbrev pub declaration_of : State → State
declaration_of s = record s {
  storages = drop 1 s.storages;
  ranges = drop 1 s.ranges;
  idents = drop 1 s.idents;
  starts = drop 1 s.starts;
  signals = s.signals ++ (top_or no_ident s.idents).name ∷ [];
  declarations = s.declarations ++ declaration_made s ∷ [];
  declaration_spans = s.declaration_spans ++ span_from (top_or 0 s.starts) s ∷ [];
}

-- ---- assignments and sets

-- `assign name = expr ;`
abbrev pub assignment_of : State → State
assignment_of s = record s {
  idents = drop 1 s.idents;
  exprs = drop 1 s.exprs;
  starts = drop 1 s.starts;
  assignments = s.assignments ++ record { target = top_signal s; value = top_or no_expr s.exprs } ∷ [];
  assignment_spans = s.assignment_spans ++ span_from (top_or 0 s.starts) s ∷ [];
}

-- `name <= atom ;`
abbrev pub set_of : State → State
set_of s = record s {
  idents = drop 1 s.idents;
  atoms = drop 1 s.atoms;
  sets = s.sets ++ record { target = top_signal s; value = top_or no_atom s.atoms } ∷ [];
  set_spans = s.set_spans ++ span_from (top_or no_ident s.idents).span.from s ∷ [];
}

-- `clk` or `rst` in the head of a branch
abbrev pub skip_ident : State → State
skip_ident s = record s { idents = drop 1 s.idents }

-- `if (rst) begin sets end`
abbrev pub resets_of : State → State
resets_of s = record s { idents = drop 1 s.idents; resets = s.sets; reset_spans = s.set_spans; sets = []; set_spans = [] }

-- `else begin sets end`
abbrev pub clocks_of : State → State
clocks_of s = record s { clocks = s.sets; clock_spans = s.set_spans; sets = []; set_spans = [] }

-- ---- atoms and operators

abbrev pub name_atom : State → State
name_atom s = record s { idents = drop 1 s.idents; atoms = atom.Signal (top_signal s) ∷ s.atoms }

abbrev pub literal_atom : State → State
literal_atom s = record s { literals = drop 1 s.literals; atoms = atom.Literal (top_or no_literal s.literals) ∷ s.atoms }

abbrev pub unary_is : Unary → State → State
unary_is operator s = record s { unaries = operator ∷ s.unaries }

abbrev pub binary_is : Binary → State → State
binary_is operator s = record s { binaries = operator ∷ s.binaries }

abbrev pub order_is : Order → State → State
order_is order s = record s { orders = order ∷ s.orders }

abbrev pub ordered_binary : State → State
ordered_binary s = record s { orders = drop 1 s.orders; binaries = binary.Ordered (top_or order.Less s.orders) ∷ s.binaries }

-- ---- lists in braces

-- a list ends, and so far has no atom behind its first
abbrev pub start : State → State
start s = record s { counts = 0 ∷ s.counts }

-- the list has one atom more
abbrev pub more : State → State
more s = record s { counts = min (top_or 0 s.counts + 1) most ∷ drop 1 s.counts }

-- `{ atoms }`
abbrev pub concat_of : State → State
concat_of s =
    let count = min (top_or 0 s.counts + 1) most in
    record s { counts = drop 1 s.counts; atoms = drop count s.atoms; simples = simple.Concat (reverse (take count s.atoms)) ∷ s.simples }

-- ---- what stands behind a name or a literal

abbrev pub no_tail : State → State
no_tail s = record s { tails = tail.Alone ∷ s.tails }

-- `binary atom`
abbrev pub binary_tail : State → State
binary_tail s = record s {
  binaries = drop 1 s.binaries;
  atoms = drop 1 s.atoms;
  tails = tail.Binary (top_or binary.Add s.binaries) (top_or no_atom s.atoms) ∷ s.tails;
}

-- `[ high : low ]`
abbrev pub slice_tail : State → State
slice_tail s = record s {
  numbers = drop 1 (drop 1 s.numbers);
  tails = tail.Slice (top_or 0 (drop 1 s.numbers)) (top_or 0 s.numbers) ∷ s.tails;
}

-- `? simple : simple`
abbrev pub choice_tail : State → State
choice_tail s = record s {
  simples = drop 1 (drop 1 s.simples);
  tails = tail.Choice (top_or no_simple (drop 1 s.simples)) (top_or no_simple s.simples) ∷ s.tails;
}

-- `comparison $signed ( name )`
abbrev pub order_tail : State → State
order_tail s = record s {
  orders = drop 1 s.orders;
  idents = drop 1 s.idents;
  tails = tail.SignedOrder (top_or order.Less s.orders) (top_signal s) ∷ s.tails;
}

-- `>>> atom`
abbrev pub shift_tail : State → State
shift_tail s = record s { atoms = drop 1 s.atoms; tails = tail.SignedShift (top_or no_atom s.atoms) ∷ s.tails }

-- ---- expressions

-- `unary atom`
abbrev pub unary_of : State → State
unary_of s = record s {
  unaries = drop 1 s.unaries;
  atoms = drop 1 s.atoms;
  simples = simple.Unary (top_or unary.Negate s.unaries) (top_or no_atom s.atoms) ∷ s.simples;
}

abbrev pub name_simple : State → State
name_simple s = record s {
  idents = drop 1 s.idents;
  tails = drop 1 s.tails;
  simples = simple_of (atom.Signal (top_signal s)) (top_or tail.Alone s.tails) ∷ s.simples;
}

abbrev pub literal_simple : State → State
literal_simple s = record s {
  literals = drop 1 s.literals;
  tails = drop 1 s.tails;
  simples = simple_of (atom.Literal (top_or no_literal s.literals)) (top_or tail.Alone s.tails) ∷ s.simples;
}

abbrev pub name_expr : State → State
name_expr s = record s {
  idents = drop 1 s.idents;
  tails = drop 1 s.tails;
  exprs = expr_of (atom.Signal (top_signal s)) (top_or tail.Alone s.tails) ∷ s.exprs;
}

abbrev pub literal_expr : State → State
literal_expr s = record s {
  literals = drop 1 s.literals;
  tails = drop 1 s.tails;
  exprs = expr_of (atom.Literal (top_or no_literal s.literals)) (top_or tail.Alone s.tails) ∷ s.exprs;
}

abbrev pub simple_expr : State → State
simple_expr s = record s { simples = drop 1 s.simples; exprs = expr.Simple (top_or no_simple s.simples) ∷ s.exprs }

-- `$signed ( name ) tail`
abbrev pub signed_expr : State → State
signed_expr s = record s {
  idents = drop 1 s.idents;
  tails = drop 1 s.tails;
  exprs = signed_of (top_signal s) (top_or tail.Alone s.tails) ∷ s.exprs;
}
