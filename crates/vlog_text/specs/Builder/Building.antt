-- How a module is built: each token adds a part, and each complete tree of a rule makes one of the parts of its symbols.
use Rattle.std.specs.Prelude.{◌==◌, ◌||◌, ℕ, Bool, min, if◌then◌else◌, List, [], ◌∷◌, ◌++◌, slice_index_or}
use Rattle.base.specs.declared.grammar.bottom_up.Step.{Step}
use Rattle.base.specs.declared.grammar.bottom_up.Step.TheVariants.{Shift, Reduce}
use Rattle.vlog_text.specs.declared.token.rules.generated.kind.TheConstants.{ASSIGN, CLK, LITERAL, NAME, NUMBER, RST, ZERO}
use Rattle.dslx_token.specs.Lexeme.{Lexeme}
use Rattle.vlog_text.specs.Token.TokenPrefixes.{width_said}
use Rattle.vlog_tree.specs.declared.module.VModule.{VModule}
use Rattle.vlog_tree.specs.declared.verifier.part_spans.PartSpans.{PartSpans}
use Rattle.vlog_text.specs.declared.builder.parsed.Parsed.{Parsed}
use Rattle.vlog_text.specs.declared.builder.rule.Rule.{Rule}
use Rattle.vlog_text.specs.declared.builder.rule.Rule.TheVariants.{Keep, RangeOf, NoRange, PortOf, DirectionOf, DeclarationOf, StorageOf, AssignmentOf, SkipIdent, ResetsOf, ClocksOf, SetOf, NameAtom, LiteralAtom, NameExpr, LiteralExpr, SimpleExpr, SignedExpr, NameSimple, LiteralSimple, UnaryOf, ConcatOf, More, Start, BinaryTail, NoTail, ChoiceTail, SliceTail, OrderTail, ShiftTail, UnaryIs, BinaryIs, OrderedBinary, OrderIs}
use Rattle.vlog_text.specs.declared.builder.rule.TheConstants.{RULES}
use Rattle.vlog_text.specs.declared.builder.state.State.{State}
use Rattle.vlog_text.specs.Builder.Empty.{no_ident}
use Rattle.base.specs.Stacks.Tops.{top_or}
use Rattle.vlog_text.specs.Builder.Parts.{literal_of, most, name_text}
use Rattle.vlog_text.specs.Builder.Rules as rules

abbrev pub is_name : ℕ → Bool
is_name kind = (kind == NAME) || ((kind == CLK) || (kind == RST))

abbrev pub is_number : ℕ → Bool
is_number kind = (kind == NUMBER) || (kind == ZERO)

abbrev pub kept_name : Lexeme → State → State
kept_name l s = record s { idents = record { span = l.span; name = name_text l.bytes } ∷ s.idents }

abbrev pub kept_literal : Lexeme → State → State
kept_literal l s = record s { literals = literal_of l.bytes ∷ s.literals; literal_ends = s.literal_ends ++ l.span.to ∷ [] }

abbrev pub kept_number : Lexeme → State → State
kept_number l s = record s { numbers = min (width_said l.bytes) most ∷ s.numbers }

abbrev pub kept_start : Lexeme → State → State
kept_start l s = record s { starts = l.span.from ∷ s.starts }

abbrev pub kept : Lexeme → State → State
kept l s =
    if is_name l.kind then kept_name l s
    else if l.kind == LITERAL then kept_literal l s
    else if is_number l.kind then kept_number l s
    else if l.kind == ASSIGN then kept_start l s
    else s

-- what a token adds
abbrev pub shifted : Lexeme → State → State
shifted l s = kept l (record s { last = l.span })

-- the rule of a production
abbrev pub rule_of : ℕ → Rule
rule_of production = slice_index_or RULES production Keep

-- what a complete tree of a rule does
abbrev pub reduced : Rule → State → State
reduced Keep s = s
reduced RangeOf s = rules.range_of s
reduced NoRange s = rules.no_range s
reduced (DirectionOf direction) s = rules.direction_of direction s
reduced PortOf s = rules.port_of s
reduced (StorageOf storage) s = rules.storage_of storage s
reduced DeclarationOf s = rules.declaration_of s
reduced AssignmentOf s = rules.assignment_of s
reduced SkipIdent s = rules.skip_ident s
reduced ResetsOf s = rules.resets_of s
reduced ClocksOf s = rules.clocks_of s
reduced SetOf s = rules.set_of s
reduced NameAtom s = rules.name_atom s
reduced LiteralAtom s = rules.literal_atom s
reduced NameExpr s = rules.name_expr s
reduced LiteralExpr s = rules.literal_expr s
reduced SimpleExpr s = rules.simple_expr s
reduced SignedExpr s = rules.signed_expr s
reduced NameSimple s = rules.name_simple s
reduced LiteralSimple s = rules.literal_simple s
reduced UnaryOf s = rules.unary_of s
reduced ConcatOf s = rules.concat_of s
reduced More s = rules.more s
reduced Start s = rules.start s
reduced BinaryTail s = rules.binary_tail s
reduced NoTail s = rules.no_tail s
reduced ChoiceTail s = rules.choice_tail s
reduced SliceTail s = rules.slice_tail s
reduced OrderTail s = rules.order_tail s
reduced ShiftTail s = rules.shift_tail s
reduced (UnaryIs operator) s = rules.unary_is operator s
reduced (BinaryIs operator) s = rules.binary_is operator s
reduced OrderedBinary s = rules.ordered_binary s
reduced (OrderIs order) s = rules.order_is order s

-- what is built by the steps from the tokens
unfoldable pub built : List Step → List Lexeme → State → State
built [] ls s = s
built (Shift ∷ steps) [] s = built steps [] s
built (Shift ∷ steps) (l ∷ ls) s = built steps ls (shifted l s)
built (Reduce p ∷ steps) ls s = built steps ls (reduced (rule_of p) s)

-- the module that has been built, under this name
abbrev pub design_by : List ℕ → State → VModule
design_by name s = record {
  name = name;
  ports = s.ports;
  declarations = s.declarations;
  assignments = s.assignments;
  at_reset = s.resets;
  at_clock = s.clocks;
}

-- where its parts stand
abbrev pub spans_by : State → PartSpans
spans_by s = record {
  ports = s.port_spans;
  declarations = s.declaration_spans;
  assignments = s.assignment_spans;
  at_reset = s.reset_spans;
  at_clock = s.clock_spans;
  literals = s.literal_ends;
}

-- the module of a text that has been built, and where its parts stand: its name is the one that is left
abbrev pub parsed_of : State → Parsed
parsed_of s = record { design = design_by (top_or no_ident s.idents).name s; part_spans = spans_by s }
