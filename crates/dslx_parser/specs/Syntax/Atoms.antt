-- What the rules of atoms make of the parts of their symbols, in the order of docs/dslx.grammar.
use Rattle.std.specs.Prelude.{List, true, false, [], ◌∷◌, None, Some}
use Rattle.base.specs.declared.grammar.table.Symbol.TheVariants.{Terminal, Nonterminal}
use Rattle.dslx_token.specs.declared.rules.generated.kind.TheConstants as kind
use Rattle.dslx_token.specs.declared.rules.generated.nonterminal.TheConstants as nonterminal
use Rattle.dslx_tree.specs.declared.expr.FieldValue.{roll-FieldValue}
use Rattle.dslx_tree.specs.declared.type_expr.TypeExpr.{out-TypeExpr}
use Rattle.dslx_tree.specs.declared.expr.Node as nodes
use Rattle.dslx_parser.specs.Syntax.Nodes.{array_at, bare_number, block_alone, exprs_of, from_to, ident_of, in_turn, member_of, name_alone, named_type, number_of, operand_at, typed_number}
use Rattle.dslx_parser.specs.Syntax.SymbolParts.{SemanticAction, makes}

unfoldable pub rules : List SemanticAction
rules =
    -- atom = NUMBER
    makes nonterminal.ATOM (Terminal kind.NUMBER ∷ []) (λ number. bare_number (number_of number)) ∷
    -- atom = base_keyword type_tail COLON typed
    makes nonterminal.ATOM (Nonterminal nonterminal.BASE_KEYWORD ∷ Nonterminal nonterminal.TYPE_TAIL ∷ Terminal kind.COLON ∷ Nonterminal nonterminal.TYPED ∷ []) (λ base sizes _ operand. operand (in_turn sizes base)) ∷
    -- atom = alias_name type_tail COLON typed
    makes nonterminal.ATOM (Nonterminal nonterminal.ALIAS_NAME ∷ Nonterminal nonterminal.TYPE_TAIL ∷ Terminal kind.COLON ∷ Nonterminal nonterminal.TYPED ∷ []) (λ base sizes _ operand. operand (in_turn sizes base)) ∷
    -- atom = elements
    makes nonterminal.ATOM (Nonterminal nonterminal.ELEMENTS ∷ []) (λ elements. array_at (from_to elements.0 elements.1) None elements) ∷
    -- atom = TRUE
    makes nonterminal.ATOM (Terminal kind.TRUE ∷ []) (λ word. operand_at word.span (nodes.Bool true)) ∷
    -- atom = FALSE
    makes nonterminal.ATOM (Terminal kind.FALSE ∷ []) (λ word. operand_at word.span (nodes.Bool false)) ∷
    -- atom = NAME name_tail
    makes nonterminal.ATOM (Terminal kind.NAME ∷ Nonterminal nonterminal.NAME_TAIL ∷ []) (λ name operand. operand (ident_of name)) ∷
    -- atom = FUNNAME function_tail
    makes nonterminal.ATOM (Terminal kind.FUNNAME ∷ Nonterminal nonterminal.FUNCTION_TAIL ∷ []) (λ name operand. operand (ident_of name)) ∷
    -- atom = STRUCTNAME struct_tail
    makes nonterminal.ATOM (Terminal kind.STRUCTNAME ∷ Nonterminal nonterminal.STRUCT_TAIL ∷ []) (λ name operand. operand (ident_of name)) ∷
    -- atom = BOTHNAME both_tail
    makes nonterminal.ATOM (Terminal kind.BOTHNAME ∷ Nonterminal nonterminal.BOTH_TAIL ∷ []) (λ name operand. operand (ident_of name)) ∷
    -- atom = LPAREN parenthesis
    makes nonterminal.ATOM (Terminal kind.LPAREN ∷ Nonterminal nonterminal.PARENTHESIS ∷ []) (λ opening operand. operand opening.span) ∷
    -- atom = block
    makes nonterminal.ATOM (Nonterminal nonterminal.BLOCK ∷ []) (λ block. block_alone block) ∷
    -- atom = if
    makes nonterminal.ATOM (Nonterminal nonterminal.IF ∷ []) (λ operand. operand) ∷
    -- atom = match
    makes nonterminal.ATOM (Nonterminal nonterminal.MATCH ∷ []) (λ operand. operand) ∷
    -- atom = for
    makes nonterminal.ATOM (Nonterminal nonterminal.FOR ∷ []) (λ operand. operand) ∷
    -- alias_name = TYPENAME
    makes nonterminal.ALIAS_NAME (Terminal kind.TYPENAME ∷ []) (λ name. named_type (ident_of name)) ∷
    -- typed = signed
    makes nonterminal.TYPED (Nonterminal nonterminal.SIGNED ∷ []) (λ number ty. typed_number ty number) ∷
    -- typed = elements
    makes nonterminal.TYPED (Nonterminal nonterminal.ELEMENTS ∷ []) (λ elements ty. array_at (from_to (out-TypeExpr ty).span elements.1) (Some ty) elements) ∷
    -- name_tail = PATH any_name
    makes nonterminal.NAME_TAIL (Terminal kind.PATH ∷ Nonterminal nonterminal.ANY_NAME ∷ []) (λ _ member owner. member_of owner member) ∷
    -- name_tail = call
    makes nonterminal.NAME_TAIL (Nonterminal nonterminal.CALL ∷ []) (λ call. call) ∷
    -- name_tail = (nothing)
    makes nonterminal.NAME_TAIL [] (λ name. name_alone name) ∷
    -- function_tail = PATH any_name
    makes nonterminal.FUNCTION_TAIL (Terminal kind.PATH ∷ Nonterminal nonterminal.ANY_NAME ∷ []) (λ _ member owner. member_of owner member) ∷
    -- function_tail = call
    makes nonterminal.FUNCTION_TAIL (Nonterminal nonterminal.CALL ∷ []) (λ call. call) ∷
    -- function_tail = call_with_args
    makes nonterminal.FUNCTION_TAIL (Nonterminal nonterminal.CALL_WITH_ARGS ∷ []) (λ call. call) ∷
    -- function_tail = (nothing)
    makes nonterminal.FUNCTION_TAIL [] (λ name. name_alone name) ∷
    -- struct_tail = PATH any_name
    makes nonterminal.STRUCT_TAIL (Terminal kind.PATH ∷ Nonterminal nonterminal.ANY_NAME ∷ []) (λ _ member owner. member_of owner member) ∷
    -- struct_tail = call
    makes nonterminal.STRUCT_TAIL (Nonterminal nonterminal.CALL ∷ []) (λ call. call) ∷
    -- struct_tail = fields
    makes nonterminal.STRUCT_TAIL (Nonterminal nonterminal.FIELDS ∷ []) (λ fields. fields) ∷
    -- struct_tail = (nothing)
    makes nonterminal.STRUCT_TAIL [] (λ name. name_alone name) ∷
    -- both_tail = PATH any_name
    makes nonterminal.BOTH_TAIL (Terminal kind.PATH ∷ Nonterminal nonterminal.ANY_NAME ∷ []) (λ _ member owner. member_of owner member) ∷
    -- both_tail = call
    makes nonterminal.BOTH_TAIL (Nonterminal nonterminal.CALL ∷ []) (λ call. call) ∷
    -- both_tail = call_with_args
    makes nonterminal.BOTH_TAIL (Nonterminal nonterminal.CALL_WITH_ARGS ∷ []) (λ call. call) ∷
    -- both_tail = fields
    makes nonterminal.BOTH_TAIL (Nonterminal nonterminal.FIELDS ∷ []) (λ fields. fields) ∷
    -- both_tail = (nothing)
    makes nonterminal.BOTH_TAIL [] (λ name. name_alone name) ∷
    -- call = LPAREN exprs RPAREN
    makes nonterminal.CALL (Terminal kind.LPAREN ∷ Nonterminal nonterminal.EXPRS ∷ Terminal kind.RPAREN ∷ []) (λ _ values closing name. operand_at (from_to name.span closing.span) (nodes.Call name [] (exprs_of values))) ∷
    -- call_with_args = ARGS arg args_more GT LPAREN exprs RPAREN
    makes nonterminal.CALL_WITH_ARGS (Terminal kind.ARGS ∷ Nonterminal nonterminal.ARG ∷ Nonterminal nonterminal.ARGS_MORE ∷ Terminal kind.GT ∷ Terminal kind.LPAREN ∷ Nonterminal nonterminal.EXPRS ∷ Terminal kind.RPAREN ∷ []) (λ _ arg more _ _ values closing name. operand_at (from_to name.span closing.span) (nodes.Call name (arg ∷ more) (exprs_of values))) ∷
    -- exprs = expr exprs_more
    makes nonterminal.EXPRS (Nonterminal nonterminal.EXPR ∷ Nonterminal nonterminal.EXPRS_MORE ∷ []) (λ value more. value ∷ more) ∷
    -- exprs = (nothing)
    makes nonterminal.EXPRS [] ([]) ∷
    -- exprs_more = COMMA exprs
    makes nonterminal.EXPRS_MORE (Terminal kind.COMMA ∷ Nonterminal nonterminal.EXPRS ∷ []) (λ _ values. values) ∷
    -- exprs_more = (nothing)
    makes nonterminal.EXPRS_MORE [] ([]) ∷
    -- fields = FIELDS field_list RBRACE
    makes nonterminal.FIELDS (Terminal kind.FIELDS ∷ Nonterminal nonterminal.FIELD_LIST ∷ Terminal kind.RBRACE ∷ []) (λ _ fields closing name. operand_at (from_to name.span closing.span) (nodes.Struct name fields.0 fields.1)) ∷
    -- field_list = any_name field_value field_more
    makes nonterminal.FIELD_LIST (Nonterminal nonterminal.ANY_NAME ∷ Nonterminal nonterminal.FIELD_VALUE ∷ Nonterminal nonterminal.FIELD_MORE ∷ []) (λ name field more. (field name ∷ more.0, more.1)) ∷
    -- field_list = REST expr
    makes nonterminal.FIELD_LIST (Terminal kind.REST ∷ Nonterminal nonterminal.EXPR ∷ []) (λ _ others. ([], Some others.expr)) ∷
    -- field_list = (nothing)
    makes nonterminal.FIELD_LIST [] (([], None)) ∷
    -- field_value = COLON expr
    makes nonterminal.FIELD_VALUE (Terminal kind.COLON ∷ Nonterminal nonterminal.EXPR ∷ []) (λ _ value name. roll-FieldValue (record { name = name; value = Some value.expr })) ∷
    -- field_value = (nothing)
    makes nonterminal.FIELD_VALUE [] (λ name. roll-FieldValue (record { name = name; value = None })) ∷
    -- field_more = COMMA field_list
    makes nonterminal.FIELD_MORE (Terminal kind.COMMA ∷ Nonterminal nonterminal.FIELD_LIST ∷ []) (λ _ fields. fields) ∷
    -- field_more = (nothing)
    makes nonterminal.FIELD_MORE [] (([], None)) ∷
    -- parenthesis = RPAREN
    makes nonterminal.PARENTHESIS (Terminal kind.RPAREN ∷ []) (λ closing opening. operand_at (from_to opening closing.span) (nodes.Tuple [])) ∷
    -- parenthesis = expr parenthesis_end
    makes nonterminal.PARENTHESIS (Nonterminal nonterminal.EXPR ∷ Nonterminal nonterminal.PARENTHESIS_END ∷ []) (λ first operand opening. operand opening first) ∷
    -- parenthesis_end = RPAREN
    makes nonterminal.PARENTHESIS_END (Terminal kind.RPAREN ∷ []) (λ closing opening first. record { span = from_to opening closing.span; expr = first.expr }) ∷
    -- parenthesis_end = COMMA exprs RPAREN
    makes nonterminal.PARENTHESIS_END (Terminal kind.COMMA ∷ Nonterminal nonterminal.EXPRS ∷ Terminal kind.RPAREN ∷ []) (λ _ more closing opening first. operand_at (from_to opening closing.span) (nodes.Tuple (exprs_of (first ∷ more)))) ∷
    -- elements = LBRACKET expr elements_more RBRACKET
    makes nonterminal.ELEMENTS (Terminal kind.LBRACKET ∷ Nonterminal nonterminal.EXPR ∷ Nonterminal nonterminal.ELEMENTS_MORE ∷ Terminal kind.RBRACKET ∷ []) (λ opening first more closing. (opening.span, closing.span, first ∷ more.0, more.1)) ∷
    -- elements_more = COMMA elements_next
    makes nonterminal.ELEMENTS_MORE (Terminal kind.COMMA ∷ Nonterminal nonterminal.ELEMENTS_NEXT ∷ []) (λ _ more. more) ∷
    -- elements_more = (nothing)
    makes nonterminal.ELEMENTS_MORE [] (([], false)) ∷
    -- elements_next = expr elements_more
    makes nonterminal.ELEMENTS_NEXT (Nonterminal nonterminal.EXPR ∷ Nonterminal nonterminal.ELEMENTS_MORE ∷ []) (λ element more. (element ∷ more.0, more.1)) ∷
    -- elements_next = DOTS elements_end
    makes nonterminal.ELEMENTS_NEXT (Terminal kind.DOTS ∷ Nonterminal nonterminal.ELEMENTS_END ∷ []) (λ _ _. ([], true)) ∷
    -- elements_next = (nothing)
    makes nonterminal.ELEMENTS_NEXT [] (([], false)) ∷
    -- elements_end = COMMA
    makes nonterminal.ELEMENTS_END (Terminal kind.COMMA ∷ []) (λ _. tt) ∷
    -- elements_end = (nothing)
    makes nonterminal.ELEMENTS_END [] (tt) ∷
    []
