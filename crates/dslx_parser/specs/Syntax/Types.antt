-- What the rules of arguments between `<` and `>`, of numbers and of types make of the parts of their symbols, in the order of docs/dslx.grammar.
use Rattle.std.specs.Prelude.{List, true, false, [], ◌∷◌}
use Rattle.base.specs.declared.grammar.table.Symbol.TheVariants.{Terminal, Nonterminal}
use Rattle.dslx_token.specs.declared.rules.generated.kind.TheConstants as kind
use Rattle.dslx_token.specs.declared.rules.generated.nonterminal.TheConstants as nonterminal
use Rattle.dslx_token.specs.Lexical.{number_value, width_of}
use Rattle.dslx_tree.specs.declared.type_expr.TypeNode as types
use Rattle.dslx_parser.specs.Syntax.Nodes.{arg_at, arg_of, array_type, bare_number, from_to, in_turn, name_alone, named_type, number_of, says_signed, type_at, typed_number}
use Rattle.dslx_parser.specs.Syntax.SymbolParts.{SemanticAction, makes}

unfoldable pub rules : List SemanticAction
rules =
    -- args_more = COMMA arg args_more
    makes nonterminal.ARGS_MORE (Terminal kind.COMMA ∷ Nonterminal nonterminal.ARG ∷ Nonterminal nonterminal.ARGS_MORE ∷ []) (λ _ arg more. arg ∷ more) ∷
    -- args_more = (nothing)
    makes nonterminal.ARGS_MORE [] ([]) ∷
    -- arg = NUMBER
    makes nonterminal.ARG (Terminal kind.NUMBER ∷ []) (λ number. arg_of (bare_number (number_of number))) ∷
    -- arg = base_keyword type_tail COLON signed
    makes nonterminal.ARG (Nonterminal nonterminal.BASE_KEYWORD ∷ Nonterminal nonterminal.TYPE_TAIL ∷ Terminal kind.COLON ∷ Nonterminal nonterminal.SIGNED ∷ []) (λ base sizes _ number. arg_of (typed_number (in_turn sizes base) number)) ∷
    -- arg = any_name arg_name
    makes nonterminal.ARG (Nonterminal nonterminal.ANY_NAME ∷ Nonterminal nonterminal.ARG_NAME ∷ []) (λ name arg. arg name) ∷
    -- arg = LBRACE expr RBRACE
    makes nonterminal.ARG (Terminal kind.LBRACE ∷ Nonterminal nonterminal.EXPR ∷ Terminal kind.RBRACE ∷ []) (λ opening value closing. arg_at (from_to opening.span closing.span) value.expr) ∷
    -- arg_name = COLON signed
    makes nonterminal.ARG_NAME (Terminal kind.COLON ∷ Nonterminal nonterminal.SIGNED ∷ []) (λ _ number name. arg_of (typed_number (named_type name) number)) ∷
    -- arg_name = name_size type_tail COLON signed
    makes nonterminal.ARG_NAME (Nonterminal nonterminal.NAME_SIZE ∷ Nonterminal nonterminal.TYPE_TAIL ∷ Terminal kind.COLON ∷ Nonterminal nonterminal.SIGNED ∷ []) (λ size sizes _ number name. arg_of (typed_number (in_turn sizes (size name)) number)) ∷
    -- arg_name = (nothing)
    makes nonterminal.ARG_NAME [] (λ name. arg_of (name_alone name)) ∷
    -- signed = MINUS NUMBER
    makes nonterminal.SIGNED (Terminal kind.MINUS ∷ Terminal kind.NUMBER ∷ []) (λ minus number. record { span = from_to minus.span number.span; is_negative = true; value = number_value number.bytes }) ∷
    -- signed = NUMBER
    makes nonterminal.SIGNED (Terminal kind.NUMBER ∷ []) (λ number. number_of number) ∷
    -- type = base type_tail
    makes nonterminal.TYPE (Nonterminal nonterminal.BASE ∷ Nonterminal nonterminal.TYPE_TAIL ∷ []) (λ base sizes. in_turn sizes base) ∷
    -- base = base_keyword
    makes nonterminal.BASE (Nonterminal nonterminal.BASE_KEYWORD ∷ []) (λ base. base) ∷
    -- base = any_name
    makes nonterminal.BASE (Nonterminal nonterminal.ANY_NAME ∷ []) (λ name. named_type name) ∷
    -- base = LPAREN types RPAREN
    makes nonterminal.BASE (Terminal kind.LPAREN ∷ Nonterminal nonterminal.TYPES ∷ Terminal kind.RPAREN ∷ []) (λ opening parts closing. type_at (from_to opening.span closing.span) (types.Tuple parts)) ∷
    -- base_keyword = UNSIGNED
    makes nonterminal.BASE_KEYWORD (Terminal kind.UNSIGNED ∷ []) (λ word. type_at word.span (types.Bits false (width_of word.bytes))) ∷
    -- base_keyword = SIGNED
    makes nonterminal.BASE_KEYWORD (Terminal kind.SIGNED ∷ []) (λ word. type_at word.span (types.Bits true (width_of word.bytes))) ∷
    -- base_keyword = WIDE LBRACKET expr RBRACKET
    makes nonterminal.BASE_KEYWORD (Terminal kind.WIDE ∷ Terminal kind.LBRACKET ∷ Nonterminal nonterminal.EXPR ∷ Terminal kind.RBRACKET ∷ []) (λ word _ width closing. type_at (from_to word.span closing.span) (types.Wide (says_signed word.bytes) width.expr)) ∷
    -- base_keyword = BOOL
    makes nonterminal.BASE_KEYWORD (Terminal kind.BOOL ∷ []) (λ word. type_at word.span types.Bool) ∷
    -- type_tail = size type_tail
    makes nonterminal.TYPE_TAIL (Nonterminal nonterminal.SIZE ∷ Nonterminal nonterminal.TYPE_TAIL ∷ []) (λ size more. size ∷ more) ∷
    -- type_tail = (nothing)
    makes nonterminal.TYPE_TAIL [] ([]) ∷
    -- size = LBRACKET expr RBRACKET
    makes nonterminal.SIZE (Terminal kind.LBRACKET ∷ Nonterminal nonterminal.EXPR ∷ Terminal kind.RBRACKET ∷ []) (λ _ size closing element. array_type element size closing) ∷
    -- name_size = LBRACKET expr RBRACKET
    makes nonterminal.NAME_SIZE (Terminal kind.LBRACKET ∷ Nonterminal nonterminal.EXPR ∷ Terminal kind.RBRACKET ∷ []) (λ _ size closing name. array_type (named_type name) size closing) ∷
    -- types = type types_more
    makes nonterminal.TYPES (Nonterminal nonterminal.TYPE ∷ Nonterminal nonterminal.TYPES_MORE ∷ []) (λ ty more. ty ∷ more) ∷
    -- types = (nothing)
    makes nonterminal.TYPES [] ([]) ∷
    -- types_more = COMMA types
    makes nonterminal.TYPES_MORE (Terminal kind.COMMA ∷ Nonterminal nonterminal.TYPES ∷ []) (λ _ types. types) ∷
    -- types_more = (nothing)
    makes nonterminal.TYPES_MORE [] ([]) ∷
    []
