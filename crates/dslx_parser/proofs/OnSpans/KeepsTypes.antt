-- The parts that the rules of arguments, numbers and types make stand where the parts of their symbols do.
use Rattle.dslx_parser.specs.Syntax.Nodes.{in_turn, named_type, number_of}
use Rattle.dslx_parser.specs.Syntax.Types.{rules}
use Rattle.dslx_parser.specs.Spans.Places.{nothing}
use Rattle.dslx_parser.specs.Spans.Places as things
use Rattle.dslx_parser.proofs.OnSpans.Around.{array_stands, arg_stands, at_by, bare_stands, before, both_tokens, ending, goes_by, name_stands, named_type_stands, operand_by, starting, typed_stands}
use Rattle.dslx_parser.proofs.OnSpans.Fits.{AllKeep, none, ◌&◌}
use Rattle.dslx_parser.proofs.OnSpans.Standing.{alone, behind, operand_in, stands_in, type_stands}

pub keep : AllKeep rules
unfolding rules
keep =
    -- args_more = COMMA arg args_more
    (λ _ from to (_, comma, (_, arg, more)). behind (before comma arg) more) &
    -- args_more = (nothing)
    (λ _ from to k. nothing k) &
    -- arg = NUMBER
    (λ parts from to number. arg_stands (bare_stands (number_of parts.0) number.within)) &
    -- arg = base_keyword type_tail COLON signed
    (λ parts from to (_, base, (_, sizes, (_, colon, number))). arg_stands (typed_stands (in_turn parts.1.0 parts.0) parts.1.1.1.0 (sizes parts.0 from base) (goes_by colon) number)) &
    -- arg = any_name arg_name
    (λ parts from to (_, name, arg). arg parts.0 from name) &
    -- arg = LBRACE expr RBRACE
    (λ _ from to (_, opening, (_, value, closing)). alone from to (things.of_arg _ _) (starting opening (ending (operand_in value) closing)) opening.within.first closing.within.last) &
    -- arg_name = COLON signed
    (λ parts from to (_, colon, number) name start n. arg_stands (typed_stands (named_type name) parts.1.0 (named_type_stands name n) (goes_by colon) number)) &
    -- arg_name = name_size type_tail COLON signed
    (λ parts from to (_, size, (_, sizes, (_, colon, number))) name start n. arg_stands (typed_stands (in_turn parts.1.0 (parts.0 name)) parts.1.1.1.0 (sizes (parts.0 name) start (size name start n)) (goes_by colon) number)) &
    -- arg_name = (nothing)
    (λ _ from to k name start n. arg_stands (operand_by (name_stands name n) k)) &
    -- signed = MINUS NUMBER
    (λ _ from to (_, minus, number). both_tokens minus number) &
    -- signed = NUMBER
    (λ _ from to number. number.within) &
    -- type = base type_tail
    (λ parts from to (_, base, sizes). sizes parts.0 from base) &
    -- base = base_keyword
    (λ _ from to base. base) &
    -- base = any_name
    (λ parts from to name. named_type_stands parts.0 name) &
    -- base = LPAREN types RPAREN
    (λ _ from to (_, opening, (_, parts, closing)). type_stands (alone from to (things.of_tuple_type _ _) (starting opening (ending parts closing)) opening.within.first closing.within.last)) &
    -- base_keyword = UNSIGNED
    (λ _ from to word. type_stands (alone from to (things.of_bits _ _ _) (nothing word.within.goes) word.within.first word.within.last)) &
    -- base_keyword = SIGNED
    (λ _ from to word. type_stands (alone from to (things.of_bits _ _ _) (nothing word.within.goes) word.within.first word.within.last)) &
    -- base_keyword = WIDE LBRACKET expr RBRACKET
    (λ _ from to (_, word, (_, opening, (_, width, closing))). type_stands (alone from to (things.of_wide _ _ _) (starting word (before opening (ending (operand_in width) closing))) word.within.first closing.within.last)) &
    -- base_keyword = BOOL
    (λ _ from to word. type_stands (alone from to (things.of_bool_type _) (nothing word.within.goes) word.within.first word.within.last)) &
    -- type_tail = size type_tail
    (λ parts from to (_, size, more) ty start t. more (parts.0 ty) start (size ty start t)) &
    -- type_tail = (nothing)
    (λ _ from to k ty start t. at_by t k) &
    -- size = LBRACKET expr RBRACKET
    (λ parts from to (_, opening, (_, size, closing)) ty start t. array_stands ty parts.1.0 parts.1.1.0 t opening size closing) &
    -- name_size = LBRACKET expr RBRACKET
    (λ parts from to (_, opening, (_, size, closing)) name start n. array_stands (named_type name) parts.1.0 parts.1.1.0 (named_type_stands name n) opening size closing) &
    -- types = type types_more
    (λ _ from to (_, ty, more). behind (stands_in ty) more) &
    -- types = (nothing)
    (λ _ from to k. nothing k) &
    -- types_more = COMMA types
    (λ _ from to (_, comma, types). before comma types) &
    -- types_more = (nothing)
    (λ _ from to k. nothing k) &
    none
