-- What the rules of blocks, statements and patterns make of the parts of their symbols, in the order of docs/dslx.grammar.
use Rattle.std.specs.Prelude.{List, true, false, [], ◌∷◌, None, Some}
use Rattle.base.specs.declared.grammar.table.Symbol.TheVariants.{Terminal, Nonterminal}
use Rattle.dslx_token.specs.declared.rules.generated.kind.TheConstants as kind
use Rattle.dslx_token.specs.declared.rules.generated.nonterminal.TheConstants as nonterminal
use Rattle.dslx_tree.specs.declared.block.Let.{roll-Let}
use Rattle.dslx_tree.specs.declared.block.Stmt as stmts
use Rattle.dslx_tree.specs.declared.pattern.Shape as shapes
use Rattle.dslx_parser.specs.Syntax.Nodes.{block_at, from_to, in_turn, member_pattern, name_pattern, named_type, number_pattern, pattern_at}
use Rattle.dslx_parser.specs.Syntax.SymbolParts.{SemanticAction, makes}

unfoldable pub rules : List SemanticAction
rules =
    -- block = LBRACE statements RBRACE
    makes nonterminal.BLOCK (Terminal kind.LBRACE ∷ Nonterminal nonterminal.STATEMENTS ∷ Terminal kind.RBRACE ∷ []) (λ opening statements closing. block_at (from_to opening.span closing.span) statements) ∷
    -- statements = let statements
    makes nonterminal.STATEMENTS (Nonterminal nonterminal.LET ∷ Nonterminal nonterminal.STATEMENTS ∷ []) (λ statement more. (statement ∷ more.0, more.1)) ∷
    -- statements = expr statement_end
    makes nonterminal.STATEMENTS (Nonterminal nonterminal.EXPR ∷ Nonterminal nonterminal.STATEMENT_END ∷ []) (λ value statements. statements value) ∷
    -- statements = (nothing)
    makes nonterminal.STATEMENTS [] (([], None)) ∷
    -- statement_end = bare statements
    makes nonterminal.STATEMENT_END (Nonterminal nonterminal.BARE ∷ Nonterminal nonterminal.STATEMENTS ∷ []) (λ statement more value. (statement value ∷ more.0, more.1)) ∷
    -- statement_end = (nothing)
    makes nonterminal.STATEMENT_END [] (λ value. ([], Some value.expr)) ∷
    -- bare = SEMI
    makes nonterminal.BARE (Terminal kind.SEMI ∷ []) (λ _ value. stmts.Bare value.expr) ∷
    -- let = LET let_pattern ASSIGN expr SEMI
    makes nonterminal.LET (Terminal kind.LET ∷ Nonterminal nonterminal.LET_PATTERN ∷ Terminal kind.ASSIGN ∷ Nonterminal nonterminal.EXPR ∷ Terminal kind.SEMI ∷ []) (λ keyword bound _ value semi. stmts.Let (roll-Let (record { span = from_to keyword.span semi.span; pattern = bound.0; ty = bound.1; value = value.expr }))) ∷
    -- let_pattern = plain_pattern let_type
    makes nonterminal.LET_PATTERN (Nonterminal nonterminal.PLAIN_PATTERN ∷ Nonterminal nonterminal.LET_TYPE ∷ []) (λ pattern ty. (pattern, ty)) ∷
    -- let_pattern = any_name let_name
    makes nonterminal.LET_PATTERN (Nonterminal nonterminal.ANY_NAME ∷ Nonterminal nonterminal.LET_NAME ∷ []) (λ name bound. bound name) ∷
    -- let_name = PATH any_name let_type
    makes nonterminal.LET_NAME (Terminal kind.PATH ∷ Nonterminal nonterminal.ANY_NAME ∷ Nonterminal nonterminal.LET_TYPE ∷ []) (λ _ member ty owner. (member_pattern owner member, ty)) ∷
    -- let_name = name_size type_tail COLON signed let_type
    makes nonterminal.LET_NAME (Nonterminal nonterminal.NAME_SIZE ∷ Nonterminal nonterminal.TYPE_TAIL ∷ Terminal kind.COLON ∷ Nonterminal nonterminal.SIGNED ∷ Nonterminal nonterminal.LET_TYPE ∷ []) (λ size sizes _ number ty name. (number_pattern (in_turn sizes (size name)) number, ty)) ∷
    -- let_name = COLON let_colon
    makes nonterminal.LET_NAME (Terminal kind.COLON ∷ Nonterminal nonterminal.LET_COLON ∷ []) (λ _ bound. bound) ∷
    -- let_name = (nothing)
    makes nonterminal.LET_NAME [] (λ name. (name_pattern name, None)) ∷
    -- let_colon = signed let_type
    makes nonterminal.LET_COLON (Nonterminal nonterminal.SIGNED ∷ Nonterminal nonterminal.LET_TYPE ∷ []) (λ number ty name. (number_pattern (named_type name) number, ty)) ∷
    -- let_colon = type
    makes nonterminal.LET_COLON (Nonterminal nonterminal.TYPE ∷ []) (λ ty name. (name_pattern name, Some ty)) ∷
    -- let_type = COLON type
    makes nonterminal.LET_TYPE (Terminal kind.COLON ∷ Nonterminal nonterminal.TYPE ∷ []) (λ _ ty. Some ty) ∷
    -- let_type = (nothing)
    makes nonterminal.LET_TYPE [] (None) ∷
    -- pattern = plain_pattern
    makes nonterminal.PATTERN (Nonterminal nonterminal.PLAIN_PATTERN ∷ []) (λ pattern. pattern) ∷
    -- pattern = any_name pattern_name
    makes nonterminal.PATTERN (Nonterminal nonterminal.ANY_NAME ∷ Nonterminal nonterminal.PATTERN_NAME ∷ []) (λ name pattern. pattern name) ∷
    -- plain_pattern = WILD
    makes nonterminal.PLAIN_PATTERN (Terminal kind.WILD ∷ []) (λ word. pattern_at word.span shapes.Wild) ∷
    -- plain_pattern = TRUE
    makes nonterminal.PLAIN_PATTERN (Terminal kind.TRUE ∷ []) (λ word. pattern_at word.span (shapes.Bool true)) ∷
    -- plain_pattern = FALSE
    makes nonterminal.PLAIN_PATTERN (Terminal kind.FALSE ∷ []) (λ word. pattern_at word.span (shapes.Bool false)) ∷
    -- plain_pattern = base_keyword type_tail COLON signed
    makes nonterminal.PLAIN_PATTERN (Nonterminal nonterminal.BASE_KEYWORD ∷ Nonterminal nonterminal.TYPE_TAIL ∷ Terminal kind.COLON ∷ Nonterminal nonterminal.SIGNED ∷ []) (λ base sizes _ number. number_pattern (in_turn sizes base) number) ∷
    -- plain_pattern = LPAREN patterns RPAREN
    makes nonterminal.PLAIN_PATTERN (Terminal kind.LPAREN ∷ Nonterminal nonterminal.PATTERNS ∷ Terminal kind.RPAREN ∷ []) (λ opening patterns closing. pattern_at (from_to opening.span closing.span) (shapes.Tuple patterns)) ∷
    -- pattern_name = PATH any_name
    makes nonterminal.PATTERN_NAME (Terminal kind.PATH ∷ Nonterminal nonterminal.ANY_NAME ∷ []) (λ _ member owner. member_pattern owner member) ∷
    -- pattern_name = COLON signed
    makes nonterminal.PATTERN_NAME (Terminal kind.COLON ∷ Nonterminal nonterminal.SIGNED ∷ []) (λ _ number name. number_pattern (named_type name) number) ∷
    -- pattern_name = name_size type_tail COLON signed
    makes nonterminal.PATTERN_NAME (Nonterminal nonterminal.NAME_SIZE ∷ Nonterminal nonterminal.TYPE_TAIL ∷ Terminal kind.COLON ∷ Nonterminal nonterminal.SIGNED ∷ []) (λ size sizes _ number name. number_pattern (in_turn sizes (size name)) number) ∷
    -- pattern_name = (nothing)
    makes nonterminal.PATTERN_NAME [] (λ name. name_pattern name) ∷
    -- patterns = pattern patterns_more
    makes nonterminal.PATTERNS (Nonterminal nonterminal.PATTERN ∷ Nonterminal nonterminal.PATTERNS_MORE ∷ []) (λ pattern more. pattern ∷ more) ∷
    -- patterns = (nothing)
    makes nonterminal.PATTERNS [] ([]) ∷
    -- patterns_more = COMMA patterns
    makes nonterminal.PATTERNS_MORE (Terminal kind.COMMA ∷ Nonterminal nonterminal.PATTERNS ∷ []) (λ _ patterns. patterns) ∷
    -- patterns_more = (nothing)
    makes nonterminal.PATTERNS_MORE [] ([]) ∷
    []
