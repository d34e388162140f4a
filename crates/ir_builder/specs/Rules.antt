-- What each rule of the grammar makes of the parts that its symbols left on the stacks.
use Rattle.std.specs.Prelude.{ℕ, List, [], ◌∷◌, ◌+◌, min, drop, take, reverse, Option, None, Some}
use Rattle.xb_span.specs.declared.span.Span.{Span}
use Rattle.xb_span.specs.Spans.{nowhere}
use Rattle.delay_model.specs.Names.{op_named}
use Rattle.delay_model.specs.declared.op.Op.{Op}
use Rattle.delay_model.specs.declared.op.Op.TheVariants.{AfterAll}
use Rattle.dslx_token.specs.Lexeme.{Lexeme}
use Rattle.ir_builder.specs.Token.Kinds.{op_part}
use Rattle.ir_builder.specs.Token.Said.{number_said, small_said, id_said}
use Rattle.ir_tree.specs.declared.constant.Constant as constants
use Rattle.ir_tree.specs.declared.ir_type.IrType.{IrType, Bits, Token, Tuple, out-IrType}
use Rattle.ir_tree.specs.declared.ir_type.IrType.TheOpen.{IrType-F}
use Rattle.ir_tree.specs.declared.node.Attributes.{Attributes}
use Rattle.ir_tree.specs.declared.node.Attributes.TheVariants as attributes
use Rattle.ir_tree.specs.declared.node.Node.{Node}
use Rattle.ir_tree.specs.declared.node.Operand.{Operand}
use Rattle.ir_tree.specs.declared.node.Operand.TheVariants as operands
use Rattle.ir_tree.specs.declared.package.Ends.{Ends}
use Rattle.ir_tree.specs.declared.package.Ends.TheVariants as ends
use Rattle.ir_tree.specs.declared.package.Proc.{Proc}
use Rattle.ir_tree.specs.declared.rules.line_spans.ProcSpans.{ProcSpans}
use Rattle.ir_builder.specs.declared.state.Call.{Call}
use Rattle.ir_builder.specs.declared.state.State.{State}
use Rattle.ir_builder.specs.Empty.{no_token, no_type, no_constant, no_call, join}
use Rattle.ir_builder.specs.Named.{index_in, numbered}
use Rattle.base.specs.Stacks.Tops.{top_or}

-- ---- tokens and lists

abbrev pub token_of : List Lexeme → Lexeme
token_of = top_or no_token

-- from the beginning of the one token to the end of the other
abbrev pub reach : Lexeme → Lexeme → Span
reach first last = join first.span last.span

-- tokens that say nothing more
abbrev pub skip : ℕ → State → State
skip count s = record s { tokens = drop count s.tokens }

-- a list ends, and so far has no element
abbrev pub start : State → State
start s = record s { counts = 0 ∷ s.counts }

-- the list has one element more, behind such tokens
abbrev pub more : ℕ → State → State
more count s = record s { tokens = drop count s.tokens; counts = min (top_or 0 s.counts + 1) 18446744073709551615 ∷ drop 1 s.counts }

-- ---- names and numbers

abbrev pub name : State → State
name s = record s { tokens = drop 1 s.tokens; names = token_of s.tokens ∷ s.names }

abbrev pub number : State → State
number s = record s { tokens = drop 1 s.tokens; numbers = number_said (token_of s.tokens).bytes ∷ s.numbers }

-- ---- types

-- `bits[N]`
abbrev pub bits_element : State → State
bits_element s = record s { tokens = drop 3 s.tokens; numbers = drop 1 s.numbers; types = Bits (top_or 0 s.numbers) [] ∷ s.types }

-- `token`
abbrev pub token_element : State → State
token_element s = record s { tokens = drop 1 s.tokens; types = Token [] ∷ s.types }

-- `(TYPE, ..)`
abbrev pub tuple_element : State → State
tuple_element s =
    let count = top_or 0 s.counts in
    record s {
      tokens = drop 2 s.tokens;
      counts = drop 1 s.counts;
      types = Tuple (reverse (take count s.types)) [] ∷ drop count s.types;
    }

abbrev pub sized_step : List ℕ → IrType-F IrType → IrType
sized_step sizes (IrType-F.Bits width ns) = Bits width sizes
sized_step sizes (IrType-F.Token ns) = Token sizes
sized_step sizes (IrType-F.Tuple parts ns) = Tuple parts sizes

-- the type of arrays of these sizes of such elements
abbrev pub sized : List ℕ → IrType → IrType
sized sizes element = sized_step sizes (out-IrType element)

-- an element and the sizes of the arrays around it: the last size in the text is that of the outermost array
abbrev pub type_of : State → State
type_of s =
    let count = top_or 0 s.counts in
    record s {
      counts = drop 1 s.counts;
      numbers = drop count s.numbers;
      types = sized (take count s.numbers) (top_or no_type s.types) ∷ drop 1 s.types;
    }

-- ---- values

abbrev pub number_value : State → State
number_value s = record s { numbers = drop 1 s.numbers; constants = constants.Number (top_or 0 s.numbers) ∷ s.constants }

-- `(VALUE, ..)`
abbrev pub tuple_value : State → State
tuple_value s =
    let count = top_or 0 s.counts in
    record s {
      tokens = drop 2 s.tokens;
      counts = drop 1 s.counts;
      constants = constants.Tuple (reverse (take count s.constants)) ∷ drop count s.constants;
    }

-- `[VALUE, ..]`
abbrev pub array_value : State → State
array_value s =
    let count = top_or 0 s.counts in
    record s {
      tokens = drop 2 s.tokens;
      counts = drop 1 s.counts;
      constants = constants.Array (reverse (take count s.constants)) ∷ drop count s.constants;
    }

-- ---- operands

-- `st`
abbrev pub state_operand : State → State
state_operand s = record s { tokens = drop 1 s.tokens; operands = operands.State ∷ s.operands }

-- the node before of this name
abbrev pub node_named : List (List ℕ) → List ℕ → Operand
node_named names name = operands.Node (numbered (index_in names name))

-- `OP.ID`
abbrev pub node_operand : State → State
node_operand s = record s { tokens = drop 1 s.tokens; operands = node_named s.node_names (token_of s.tokens).bytes ∷ s.operands }

-- `predicate=OPERAND,` or `default=OPERAND,`
abbrev pub some_operand : State → State
some_operand s = record s { tokens = drop 3 s.tokens; operands = drop 1 s.operands; options = Some (top_or operands.State s.operands) ∷ s.options }

-- neither of these
abbrev pub no_operand : State → State
no_operand s = record s { options = None ∷ s.options }

-- ---- calls

-- the operands on top, with these attributes
abbrev pub called : Attributes → State → State
called attributes s =
    let count = top_or 0 s.counts in
    record s {
      counts = drop 1 s.counts;
      operands = drop count s.operands;
      calls = record { operands = reverse (take count s.operands); attributes = attributes } ∷ s.calls;
    }

abbrev pub plain_call : State → State
plain_call s = called attributes.None s

-- `start=N, width=N`
abbrev pub slice_call : State → State
slice_call s = called (attributes.StartAndWidth (top_or 0 (drop 1 s.numbers)) (top_or 0 s.numbers)) (record s { numbers = drop 1 (drop 1 s.numbers) })

-- `width=N`
abbrev pub dynamic_call : State → State
dynamic_call s = called (attributes.Width (top_or 0 s.numbers)) (record s { numbers = drop 1 s.numbers })

-- `new_bit_count=N`
abbrev pub extend_call : State → State
extend_call s = called (attributes.NewBitCount (top_or 0 s.numbers)) (record s { numbers = drop 1 s.numbers })

-- `cases=[..], default=..`
abbrev pub sel_call : State → State
sel_call s =
    let count = top_or 0 s.counts in
    called (attributes.Cases (reverse (take count s.operands)) (top_or None s.options))
    (record s { counts = drop 1 s.counts; operands = drop count s.operands; options = drop 1 s.options })

-- `index=N`
abbrev pub index_call : State → State
index_call s = called (attributes.Index (top_or 0 s.numbers)) (record s { numbers = drop 1 s.numbers })

-- `indices=[..]`
abbrev pub indices_call : State → State
indices_call s = called (attributes.Indices (top_or operands.State s.operands)) (record s { operands = drop 1 s.operands })

-- `value=V`
abbrev pub literal_call : State → State
literal_call s = called (attributes.Value (top_or no_constant s.constants)) (record s { constants = drop 1 s.constants })

-- `channel=NAME,`
abbrev pub site_channel : State → State
site_channel s = record s {
  tokens = drop 3 s.tokens;
  names = drop 1 s.names;
  site_channels = numbered (index_in s.channel_names (token_of s.names).bytes) ∷ s.site_channels;
}

-- `predicate=.., channel=NAME`
abbrev pub site_call : State → State
site_call s =
    called (attributes.Channel (top_or None s.options) (top_or 0 s.site_channels))
    (record s { options = drop 1 s.options; site_channels = drop 1 s.site_channels })

-- ---- lines

-- `id=N,`
abbrev pub channel_id : State → State
channel_id s = record s { tokens = drop 2 (drop 1 (drop 1 s.tokens)); ids = small_said (token_of (drop 1 s.tokens)).bytes ∷ s.ids }

-- `input` or `output`
abbrev pub outer : Ends → State → State
outer kind s = record s { tokens = drop 1 s.tokens; ends = kind ∷ s.ends }

-- `inner, depth=N`
abbrev pub inner : State → State
inner s = record s { tokens = drop 4 s.tokens; numbers = drop 1 s.numbers; ends = ends.Inner (top_or 0 s.numbers) ∷ s.ends }

-- `chan NAME(TYPE, id=N, kind=..)`
abbrev pub channel_of : State → State
channel_of s =
    let behind = drop 2 (drop 1 s.tokens) in
    record s {
      tokens = drop 1 behind;
      names = drop 1 s.names;
      ids = drop 1 s.ids;
      types = drop 1 s.types;
      ends = drop 1 s.ends;
      channels = record {
        name = (token_of s.names).bytes;
        id = top_or 0 s.ids;
        ty = top_or no_type s.types;
        ends = top_or ends.Input s.ends;
      } ∷ s.channels;
      channel_spans = reach (token_of behind) (token_of s.tokens) ∷ s.channel_spans;
      channel_names = (token_of s.names).bytes ∷ s.channel_names;
    }

-- `proc NAME(st: TYPE, init=VALUE) {`
abbrev pub head_of : State → State
head_of s =
    let behind = drop 3 (drop 1 s.tokens) in
    record s { tokens = drop 1 behind; heads = reach (token_of behind) (token_of s.tokens) ∷ s.heads }

abbrev pub op_or : Option Op → Op
op_or None = AfterAll
op_or (Some op) = op

-- the node of this name, of the type and the call on top
abbrev pub node_made : List ℕ → State → Node
node_made name s =
    let call = top_or no_call s.calls in
    record {
      id = id_said name;
      ty = top_or no_type s.types;
      op = op_or (op_named (op_part name));
      operands = call.operands;
      attributes = call.attributes;
    }

-- the node of this name, which operands behind it may name
abbrev pub node_added : List ℕ → State → State
node_added name s = record s {
  types = drop 1 s.types;
  calls = drop 1 s.calls;
  nodes = node_made name s ∷ s.nodes;
  node_names = name ∷ s.node_names;
}

-- `OP.ID: TYPE = OP(.., id=ID)`
abbrev pub node_of : State → State
node_of s =
    let behind = drop 7 (drop 1 s.tokens) in
    let added = node_added (token_of behind).bytes s in
    record added { tokens = drop 1 behind; node_spans = reach (token_of behind) (token_of s.tokens) ∷ s.node_spans }

-- `next(OPERAND)`
abbrev pub next_of : State → State
next_of s =
    let behind = drop 1 (drop 1 s.tokens) in
    record s { tokens = drop 1 behind; nexts = reach (token_of behind) (token_of s.tokens) ∷ s.nexts }

-- a proc of these nodes, by the parts on top
abbrev pub proc_made : List Node → State → Proc
proc_made nodes s = record {
  name = (token_of s.names).bytes;
  state = top_or no_type s.types;
  init = top_or no_constant s.constants;
  nodes = nodes;
  next = top_or operands.State s.operands;
}

-- where a proc stands, by its first and last lines
abbrev pub spans_made : List Span → ℕ → State → ProcSpans
spans_made nodes end s = record { head = top_or nowhere s.heads; nodes = nodes; next = top_or nowhere s.nexts; end = end }

-- a proc, up to its `}`: the next one begins anew
abbrev pub proc_of : State → State
proc_of s =
    let count = top_or 0 s.counts in
    record s {
      tokens = drop 1 s.tokens;
      counts = drop 1 s.counts;
      nodes = drop count s.nodes;
      node_spans = drop count s.node_spans;
      node_names = [];
      names = drop 1 s.names;
      types = drop 1 s.types;
      constants = drop 1 s.constants;
      operands = drop 1 s.operands;
      heads = drop 1 s.heads;
      nexts = drop 1 s.nexts;
      procs = proc_made (reverse (take count s.nodes)) s ∷ s.procs;
      proc_spans = spans_made (reverse (take count s.node_spans)) (token_of s.tokens).span.to s ∷ s.proc_spans;
    }

-- `package NAME`, of which the name stays
abbrev pub package_line : State → State
package_line s = record s {
  tokens = drop 1 s.tokens;
  names = token_of s.names ∷ drop 1 s.names;
  heads = reach (token_of s.tokens) (token_of s.names) ∷ s.heads;
}
