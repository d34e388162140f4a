-- Nothing built, and what stands for a part that isn't there, as never happens by the grammar.
use Rattle.std.specs.Prelude.{List, []}
use Rattle.xb_span.specs.declared.span.Span.{Span}
use Rattle.dslx_token.specs.Lexeme.{Lexeme}
use Rattle.ir_tree.specs.declared.constant.Constant.{Constant, Number}
use Rattle.ir_tree.specs.declared.ir_type.IrType.{IrType, Token}
use Rattle.ir_tree.specs.declared.node.Attributes.TheVariants as attributes
use Rattle.ir_builder.specs.Token.Tokens.{ir_lexeme_at}
use Rattle.ir_builder.specs.declared.state.Call.{Call}
use Rattle.ir_builder.specs.declared.state.State.{State}

-- the mark at the end of an empty text
abbrev pub no_token : Lexeme
no_token = ir_lexeme_at 0 []

abbrev pub no_type : IrType
no_type = Token []

abbrev pub no_constant : Constant
no_constant = Number 0

abbrev pub no_call : Call
no_call = record { operands = []; attributes = attributes.None }

-- from the beginning of the one to the end of the other
abbrev pub join : Span → Span → Span
join first last = record { from = first.from; to = last.to }

abbrev pub empty : State
empty = record {
  tokens = [];
  names = [];
  numbers = [];
  ids = [];
  counts = [];
  types = [];
  constants = [];
  ends = [];
  operands = [];
  options = [];
  site_channels = [];
  calls = [];
  nodes = [];
  node_spans = [];
  node_names = [];
  channels = [];
  channel_spans = [];
  channel_names = [];
  heads = [];
  nexts = [];
  procs = [];
  proc_spans = [];
}
