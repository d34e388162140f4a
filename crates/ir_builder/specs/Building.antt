-- How a package is built: each token adds itself, and each complete tree of a rule makes one of the parts of its symbols.
use Rattle.std.specs.Prelude.{ℕ, List, [], ◌∷◌, reverse, slice_index_or}
use Rattle.xb_span.specs.Spans.{nowhere}
use Rattle.base.specs.declared.grammar.bottom_up.Step.{Step}
use Rattle.base.specs.declared.grammar.bottom_up.Step.TheVariants.{Shift, Reduce}
use Rattle.dslx_token.specs.Lexeme.{Lexeme}
use Rattle.ir_tree.specs.declared.package.Ends.TheVariants as ends
use Rattle.ir_tree.specs.declared.package.Package.{Package}
use Rattle.ir_tree.specs.declared.rules.line_spans.LineSpans.{LineSpans}
use Rattle.ir_builder.specs.declared.builder.Spanned.{Spanned}
use Rattle.ir_builder.specs.declared.rule.Rule.{Rule}
use Rattle.ir_builder.specs.declared.rule.Rule.TheVariants.{Keep, Skip, Start, More, Name, Number, BitsElement, TokenElement, TupleElement, TypeOf, NumberValue, TupleValue, ArrayValue, StateOperand, NodeOperand, SomeOperand, NoOperand, PlainCall, SliceCall, DynamicCall, ExtendCall, SelCall, IndexCall, IndicesCall, LiteralCall, SiteChannel, SiteCall, ChannelId, Input, Output, Inner, ChannelOf, HeadOf, NodeOf, NextOf, ProcOf, PackageLine}
use Rattle.ir_builder.specs.declared.rule.TheConstants.{RULES}
use Rattle.ir_builder.specs.declared.state.State.{State}
use Rattle.base.specs.Stacks.Tops.{top_or}
use Rattle.ir_builder.specs.Rules as rules

-- what a token adds
abbrev pub shifted : Lexeme → State → State
shifted l s = record s { tokens = l ∷ s.tokens }

-- the rule of a production
abbrev pub rule_of : ℕ → Rule
rule_of production = slice_index_or RULES production Keep

-- what a complete tree of a rule does
abbrev pub reduced : Rule → State → State
reduced Keep s = s
reduced (Skip count) s = rules.skip count s
reduced (More count) s = rules.more count s
reduced Start s = rules.start s
reduced Name s = rules.name s
reduced Number s = rules.number s
reduced BitsElement s = rules.bits_element s
reduced TokenElement s = rules.token_element s
reduced TupleElement s = rules.tuple_element s
reduced TypeOf s = rules.type_of s
reduced NumberValue s = rules.number_value s
reduced TupleValue s = rules.tuple_value s
reduced ArrayValue s = rules.array_value s
reduced StateOperand s = rules.state_operand s
reduced NodeOperand s = rules.node_operand s
reduced SomeOperand s = rules.some_operand s
reduced NoOperand s = rules.no_operand s
reduced PlainCall s = rules.plain_call s
reduced SliceCall s = rules.slice_call s
reduced DynamicCall s = rules.dynamic_call s
reduced ExtendCall s = rules.extend_call s
reduced SelCall s = rules.sel_call s
reduced IndexCall s = rules.index_call s
reduced IndicesCall s = rules.indices_call s
reduced LiteralCall s = rules.literal_call s
reduced SiteChannel s = rules.site_channel s
reduced SiteCall s = rules.site_call s
reduced ChannelId s = rules.channel_id s
reduced Input s = rules.outer ends.Input s
reduced Output s = rules.outer ends.Output s
reduced Inner s = rules.inner s
reduced ChannelOf s = rules.channel_of s
reduced HeadOf s = rules.head_of s
reduced NodeOf s = rules.node_of s
reduced NextOf s = rules.next_of s
reduced ProcOf s = rules.proc_of s
reduced PackageLine s = rules.package_line s

-- what is built by the steps from the tokens
unfoldable pub built : List Step → List Lexeme → State → State
built [] ls s = s
built (Shift ∷ steps) [] s = built steps [] s
built (Shift ∷ steps) (l ∷ ls) s = built steps ls (shifted l s)
built (Reduce p ∷ steps) ls s = built steps ls (reduced (rule_of p) s)

-- the package of a text whose lines have been built
abbrev pub package_of : State → Package
package_of s = record {
  name = (rules.token_of s.names).bytes;
  channels = reverse s.channels;
  procs = reverse s.procs;
}

-- and where its lines stand
abbrev pub spans_of : State → LineSpans
spans_of s = record {
  name = top_or nowhere s.heads;
  channels = reverse s.channel_spans;
  procs = reverse s.proc_spans;
}

abbrev pub spanned_of : State → Spanned
spanned_of s = record { tree = package_of s; line_spans = spans_of s }
