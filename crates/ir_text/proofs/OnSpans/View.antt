-- What decides where lines stand: of all that was built, the tokens, the counts of lists, the names, and the spans of lines.
use Rattle.std.proofs.Common.{ℕ, ◌+◌, min, List, [], ◌∷◌, drop, take, reverse}
use Rattle.base.specs.declared.grammar.bottom_up.Step.{Step}
use Rattle.base.specs.declared.grammar.bottom_up.Step.TheVariants.{Shift, Reduce}
use Rattle.xb_span.specs.declared.span.Span.{Span}
use Rattle.xb_span.specs.Spans.{nowhere}
use Rattle.delay_model.specs.Names.{op_named}
use Rattle.delay_model.specs.declared.op.Op.{Op}
use Rattle.dslx_token.specs.Lexeme.{Lexeme}
use Rattle.base.specs.Stacks.Tops.{top_or}
use Rattle.ir_builder.specs.Token.Kinds.{op_part}
use Rattle.ir_builder.specs.Token.Said.{id_said}
use Rattle.ir_tree.specs.declared.rules.line_spans.ProcSpans.{ProcSpans}
use Rattle.ir_builder.specs.declared.rule.Rule.{Rule}
use Rattle.ir_builder.specs.declared.rule.Rule.TheVariants.{Keep, Skip, Start, More, Name, Number, BitsElement, TokenElement, TupleElement, TypeOf, NumberValue, TupleValue, ArrayValue, StateOperand, NodeOperand, SomeOperand, NoOperand, PlainCall, SliceCall, DynamicCall, ExtendCall, SelCall, IndexCall, IndicesCall, LiteralCall, SiteChannel, SiteCall, ChannelId, Input, Output, Inner, ChannelOf, HeadOf, NodeOf, NextOf, ProcOf, PackageLine}
use Rattle.ir_builder.specs.Building.{rule_of}
use Rattle.ir_builder.specs.Rules.{op_or, reach, token_of}

-- a node by its id and its operation
pub record NodeKey : Type 0 where
  pub id : ℕ
  pub op : Op

-- a proc by its name and its nodes
pub record ProcKey : Type 0 where
  pub name : List ℕ
  pub nodes : List NodeKey

pub record View : Type 0 where
  pub tokens : List Lexeme
  pub counts : List ℕ
  pub names : List Lexeme
  pub nodes : List NodeKey
  pub node_spans : List Span
  pub channels : List (List ℕ)
  pub channel_spans : List Span
  pub heads : List Span
  pub nexts : List Span
  pub procs : List ProcKey
  pub proc_spans : List ProcSpans

abbrev pub shown : Lexeme → View → View
shown l v = record v { tokens = l ∷ v.tokens }

-- ---- what the rules do to it

-- so many tokens and so many counts are taken
abbrev pub less : ℕ → ℕ → View → View
less tokens counts v = record v { tokens = drop tokens v.tokens; counts = drop counts v.counts }

abbrev pub node_key : List ℕ → NodeKey
node_key word = record { id = id_said word; op = op_or (op_named (op_part word)) }

abbrev pub more : ℕ → View → View
more count v = record v { tokens = drop count v.tokens; counts = min (top_or 0 v.counts + 1) 18446744073709551615 ∷ drop 1 v.counts }

abbrev pub channel_seen : View → View
channel_seen v =
    let behind = drop 2 (drop 1 v.tokens) in
    record v {
      tokens = drop 1 behind;
      names = drop 1 v.names;
      channels = (token_of v.names).bytes ∷ v.channels;
      channel_spans = reach (token_of behind) (token_of v.tokens) ∷ v.channel_spans;
    }

abbrev pub head_seen : View → View
head_seen v =
    let behind = drop 3 (drop 1 v.tokens) in
    record v { tokens = drop 1 behind; heads = reach (token_of behind) (token_of v.tokens) ∷ v.heads }

abbrev pub node_seen : View → View
node_seen v =
    let behind = drop 7 (drop 1 v.tokens) in
    record v {
      tokens = drop 1 behind;
      nodes = node_key (token_of behind).bytes ∷ v.nodes;
      node_spans = reach (token_of behind) (token_of v.tokens) ∷ v.node_spans;
    }

abbrev pub next_seen : View → View
next_seen v =
    let behind = drop 1 (drop 1 v.tokens) in
    record v { tokens = drop 1 behind; nexts = reach (token_of behind) (token_of v.tokens) ∷ v.nexts }

-- a proc of these nodes
abbrev pub proc_seen : List NodeKey → List Span → List NodeKey → List Span → View → View
proc_seen nodes spans others other_spans v = record v {
  tokens = drop 1 v.tokens;
  counts = drop 1 v.counts;
  nodes = others;
  node_spans = other_spans;
  names = drop 1 v.names;
  heads = drop 1 v.heads;
  nexts = drop 1 v.nexts;
  procs = record { name = (token_of v.names).bytes; nodes = nodes } ∷ v.procs;
  proc_spans = record { head = top_or nowhere v.heads; nodes = spans; next = top_or nowhere v.nexts; end = (token_of v.tokens).span.to } ∷ v.proc_spans;
}

abbrev pub proc_counted : ℕ → View → View
proc_counted count v = proc_seen (reverse (take count v.nodes)) (reverse (take count v.node_spans)) (drop count v.nodes) (drop count v.node_spans) v

abbrev pub package_seen : View → View
package_seen v = record v {
  tokens = drop 1 v.tokens;
  names = token_of v.names ∷ drop 1 v.names;
  heads = reach (token_of v.tokens) (token_of v.names) ∷ v.heads;
}

abbrev pub seen : Rule → View → View
seen Keep v = v
seen (Skip count) v = less count 0 v
seen (More count) v = more count v
seen Start v = record v { counts = 0 ∷ v.counts }
seen Name v = record v { tokens = drop 1 v.tokens; names = token_of v.tokens ∷ v.names }
seen Number v = less 1 0 v
seen BitsElement v = less 3 0 v
seen TokenElement v = less 1 0 v
seen TupleElement v = less 2 1 v
seen TypeOf v = less 0 1 v
seen NumberValue v = v
seen TupleValue v = less 2 1 v
seen ArrayValue v = less 2 1 v
seen StateOperand v = less 1 0 v
seen NodeOperand v = less 1 0 v
seen SomeOperand v = less 3 0 v
seen NoOperand v = v
seen PlainCall v = less 0 1 v
seen SliceCall v = less 0 1 v
seen DynamicCall v = less 0 1 v
seen ExtendCall v = less 0 1 v
seen SelCall v = less 0 1 (less 0 1 v)
seen IndexCall v = less 0 1 v
seen IndicesCall v = less 0 1 v
seen LiteralCall v = less 0 1 v
seen SiteChannel v = record v { tokens = drop 3 v.tokens; names = drop 1 v.names }
seen SiteCall v = less 0 1 v
seen ChannelId v = record v { tokens = drop 2 (drop 1 (drop 1 v.tokens)) }
seen Input v = less 1 0 v
seen Output v = less 1 0 v
seen Inner v = less 4 0 v
seen ChannelOf v = channel_seen v
seen HeadOf v = head_seen v
seen NodeOf v = node_seen v
seen NextOf v = next_seen v
seen ProcOf v = proc_counted (top_or 0 v.counts) v
seen PackageLine v = package_seen v

-- what is shown by the steps
unfoldable pub viewed : List Step → List Lexeme → View → View
viewed [] ls v = v
viewed (Shift ∷ steps) [] v = viewed steps [] v
viewed (Shift ∷ steps) (l ∷ ls) v = viewed steps ls (shown l v)
viewed (Reduce p ∷ steps) ls v = viewed steps ls (seen (rule_of p) v)
