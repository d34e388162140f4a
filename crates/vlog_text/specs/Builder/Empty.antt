-- Nothing built, and what stands for a part that isn't there, as never happens by the grammar.
use Rattle.std.specs.Prelude.{[]}
use Rattle.xb_span.specs.declared.span.Span.{Span}
use Rattle.xb_span.specs.Spans.{nowhere}
use Rattle.vlog_tree.specs.declared.expression.Atom.{Atom}
use Rattle.vlog_tree.specs.declared.expression.Atom.TheVariants as atom
use Rattle.vlog_tree.specs.declared.expression.Literal.{Literal}
use Rattle.vlog_tree.specs.declared.expression.Simple.{Simple}
use Rattle.vlog_tree.specs.declared.expression.Simple.TheVariants as simple
use Rattle.vlog_tree.specs.declared.expression.Expr.{Expr}
use Rattle.vlog_tree.specs.declared.expression.Expr.TheVariants as expr
use Rattle.vlog_text.specs.Builder.Parts.{Named, literal_said}
use Rattle.vlog_text.specs.declared.builder.state.State.{State}

abbrev pub no_ident : Named
no_ident = record { span = nowhere; name = [] }

-- `1'd0`
abbrev pub no_literal : Literal
no_literal = literal_said 1 0

abbrev pub no_atom : Atom
no_atom = atom.Literal no_literal

abbrev pub no_simple : Simple
no_simple = simple.Atom no_atom

abbrev pub no_expr : Expr
no_expr = expr.Simple no_simple

abbrev pub empty : State
empty = record {
  last = nowhere;
  starts = [];
  idents = [];
  literals = [];
  numbers = [];
  ranges = [];
  directions = [];
  storages = [];
  orders = [];
  binaries = [];
  unaries = [];
  counts = [];
  atoms = [];
  tails = [];
  simples = [];
  exprs = [];
  sets = [];
  set_spans = [];
  signals = [];
  ports = [];
  port_spans = [];
  declarations = [];
  declaration_spans = [];
  assignments = [];
  assignment_spans = [];
  resets = [];
  reset_spans = [];
  clocks = [];
  clock_spans = [];
  literal_ends = [];
}
