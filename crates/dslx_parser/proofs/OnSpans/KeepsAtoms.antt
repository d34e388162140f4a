-- The parts that the rules of atoms make stand where the parts of their symbols do.
use Rattle.std.proofs.Common.{refl}
use Rattle.dslx_parser.specs.Syntax.Nodes.{exprs_of, ident_of, in_turn, number_of}
use Rattle.std.specs.Prelude.{None, Some}
use Rattle.dslx_parser.specs.Syntax.Atoms.{rules}
use Rattle.dslx_parser.specs.Spans.Places.{nothing}
use Rattle.dslx_parser.specs.Spans.Places as things
use Rattle.dslx_parser.proofs.OnSpans.Around.{a_name_of, at_by, bare_stands, before, block_value_stands, ending, goes_by, member_stands, name_stands, named_type_stands, operand_by, typed_stands}
use Rattle.dslx_parser.proofs.OnSpans.Fits.{AllKeep, none, ◌&◌}
use Rattle.dslx_parser.proofs.OnSpans.Grouping.{closes, grouped}
use Rattle.dslx_parser.proofs.OnSpans.Standing.{begins_by, behind, ends_by, made_of, operand_in, operand_stands, same, stands_in, starts_at, through, widened}

pub keep : AllKeep rules
unfolding rules
keep =
    -- atom = NUMBER
    (λ parts from to number. bare_stands (number_of parts.0) number.within) &
    -- atom = base_keyword type_tail COLON typed
    (λ parts from to (_, base, (_, sizes, (_, colon, operand))). operand (in_turn parts.1.0 parts.0) from (at_by (sizes parts.0 from base) (goes_by colon))) &
    -- atom = alias_name type_tail COLON typed
    (λ parts from to (_, base, (_, sizes, (_, colon, operand))). operand (in_turn parts.1.0 parts.0) from (at_by (sizes parts.0 from base) (goes_by colon))) &
    -- atom = elements
    (λ parts from to elements. operand_stands _ _ from to (things.of_array _ None (exprs_of parts.0.2) parts.0.3) (widened parts.0.0.from parts.0.1.to elements.1 elements.0.goes elements.2.goes) elements.0.first elements.2.last) &
    -- atom = TRUE
    (λ _ from to word. operand_stands _ _ from to (things.of_bool _ _) (nothing word.within.goes) word.within.first word.within.last) &
    -- atom = FALSE
    (λ _ from to word. operand_stands _ _ from to (things.of_bool _ _) (nothing word.within.goes) word.within.first word.within.last) &
    -- atom = NAME name_tail
    (λ parts from to (_, name, operand). operand (ident_of parts.0) from (a_name_of refl name)) &
    -- atom = FUNNAME function_tail
    (λ parts from to (_, name, operand). operand (ident_of parts.0) from (a_name_of refl name)) &
    -- atom = STRUCTNAME struct_tail
    (λ parts from to (_, name, operand). operand (ident_of parts.0) from (a_name_of refl name)) &
    -- atom = BOTHNAME both_tail
    (λ parts from to (_, name, operand). operand (ident_of parts.0) from (a_name_of refl name)) &
    -- atom = LPAREN parenthesis
    (λ parts from to (_, opening, operand). operand parts.0.span from opening.within) &
    -- atom = block
    (λ parts from to block. block_value_stands parts.0 block) &
    -- atom = if
    (λ _ from to operand. operand) &
    -- atom = match
    (λ _ from to operand. operand) &
    -- atom = for
    (λ _ from to operand. operand) &
    -- alias_name = TYPENAME
    (λ parts from to name. named_type_stands (ident_of parts.0) (a_name_of refl name)) &
    -- typed = signed
    (λ parts from to number ty start t. typed_stands ty parts.0 t (same from) number) &
    -- typed = elements
    (λ parts from to elements ty start t. operand_stands _ _ start to (things.of_array _ (Some ty) (exprs_of parts.0.2) parts.0.3) (behind (starts_at t) (widened from parts.0.1.to elements.1 (through from parts.0.0.from parts.0.0.to elements.0.first elements.0.goes) elements.2.goes)) t.within.first elements.2.last) &
    -- name_tail = PATH any_name
    (λ parts from to (_, path, member) owner start n. member_stands owner parts.1.0 n path member) &
    -- name_tail = call
    (λ _ from to call. call) &
    -- name_tail = (nothing)
    (λ _ from to k name start n. operand_by (name_stands name n) k) &
    -- function_tail = PATH any_name
    (λ parts from to (_, path, member) owner start n. member_stands owner parts.1.0 n path member) &
    -- function_tail = call
    (λ _ from to call. call) &
    -- function_tail = call_with_args
    (λ _ from to call. call) &
    -- function_tail = (nothing)
    (λ _ from to k name start n. operand_by (name_stands name n) k) &
    -- struct_tail = PATH any_name
    (λ parts from to (_, path, member) owner start n. member_stands owner parts.1.0 n path member) &
    -- struct_tail = call
    (λ _ from to call. call) &
    -- struct_tail = fields
    (λ _ from to fields. fields) &
    -- struct_tail = (nothing)
    (λ _ from to k name start n. operand_by (name_stands name n) k) &
    -- both_tail = PATH any_name
    (λ parts from to (_, path, member) owner start n. member_stands owner parts.1.0 n path member) &
    -- both_tail = call
    (λ _ from to call. call) &
    -- both_tail = call_with_args
    (λ _ from to call. call) &
    -- both_tail = fields
    (λ _ from to fields. fields) &
    -- both_tail = (nothing)
    (λ _ from to k name start n. operand_by (name_stands name n) k) &
    -- call = LPAREN exprs RPAREN
    (λ _ from to (_, opening, (_, values, closing)) name start n. operand_stands _ _ start to (things.of_call _ _ _ _) (behind (starts_at n) (before opening (ending values closing))) n.within.first closing.within.last) &
    -- call_with_args = ARGS arg args_more GT LPAREN exprs RPAREN
    (λ _ from to (_, begin, (_, arg, (_, more, (_, end, (_, opening, (_, values, closing)))))) name start n. operand_stands _ _ start to (things.of_call _ _ _ _) (behind (starts_at n) (before begin (behind arg (behind more (before end (before opening (ending values closing))))))) n.within.first closing.within.last) &
    -- exprs = expr exprs_more
    (λ _ from to (_, value, more). behind (operand_in value) more) &
    -- exprs = (nothing)
    (λ _ from to k. nothing k) &
    -- exprs_more = COMMA exprs
    (λ _ from to (_, comma, values). before comma values) &
    -- exprs_more = (nothing)
    (λ _ from to k. nothing k) &
    -- fields = FIELDS field_list RBRACE
    (λ _ from to (_, opening, (_, fields, closing)) name start n. operand_stands _ _ start to (things.of_struct _ _ _ _) (behind (starts_at n) (before opening (ending fields closing))) n.within.first closing.within.last) &
    -- field_list = any_name field_value field_more
    (λ parts from to (_, name, (_, field, more)). behind (field parts.0 from name) more) &
    -- field_list = REST expr
    (λ _ from to (_, dots, others). before dots (operand_in others)) &
    -- field_list = (nothing)
    (λ _ from to k. nothing k) &
    -- field_value = COLON expr
    (λ _ from to (_, colon, value) name start n. made_of (things.of_field_value _ _) (behind (stands_in n) (before colon (operand_in value)))) &
    -- field_value = (nothing)
    (λ _ from to k name start n. made_of (things.of_field_value _ _) (ends_by to (stands_in n) k)) &
    -- field_more = COMMA field_list
    (λ _ from to (_, comma, fields). before comma fields) &
    -- field_more = (nothing)
    (λ _ from to k. nothing k) &
    -- parenthesis = RPAREN
    (λ _ from to closing opening start w. operand_stands _ _ start to (things.of_tuple _ _) (nothing (closes w closing)) w.first closing.within.last) &
    -- parenthesis = expr parenthesis_end
    (λ parts from to (_, first, operand) opening start w. operand opening parts.0 start from w first) &
    -- parenthesis_end = RPAREN
    (λ _ from to closing opening first start mid w o. grouped w o closing) &
    -- parenthesis_end = COMMA exprs RPAREN
    (λ _ from to (_, comma, (_, more, closing)) opening first start mid w o. operand_stands _ _ start to (things.of_tuple _ _) (begins_by opening.from (behind (operand_in o) (before comma (ending more closing))) (through opening.from opening.to mid w.goes w.last)) w.first closing.within.last) &
    -- elements = LBRACKET expr elements_more RBRACKET
    (λ parts from to (_, opening, (_, first, (_, more, closing))). (record { first = opening.within.first; goes = opening.within.goes; last = same parts.0.span.to }, widened parts.0.span.to parts.1.1.1.0.span.from (behind (operand_in first) more) opening.within.last closing.within.first, record { first = same parts.1.1.1.0.span.from; goes = closing.within.goes; last = closing.within.last })) &
    -- elements_more = COMMA elements_next
    (λ _ from to (_, comma, more). before comma more) &
    -- elements_more = (nothing)
    (λ _ from to k. nothing k) &
    -- elements_next = expr elements_more
    (λ _ from to (_, element, more). behind (operand_in element) more) &
    -- elements_next = DOTS elements_end
    (λ _ from to (mid, dots, elements_end). nothing (through from mid to (goes_by dots) elements_end)) &
    -- elements_next = (nothing)
    (λ _ from to k. nothing k) &
    -- elements_end = COMMA
    (λ _ from to comma. goes_by comma) &
    -- elements_end = (nothing)
    (λ _ from to k. k) &
    none
