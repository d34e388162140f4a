-- What each rule of the grammar makes of the parts of its symbols, in the order of docs/dslx.grammar.
use Rattle.std.specs.Prelude.{ℕ, true, false, List, [], ◌∷◌}
use Rattle.dslx_token.specs.declared.rules.generated.production.TheConstants as production
use Rattle.dslx_tree.specs.declared.operator.Binary.TheVariants as binary
use Rattle.dslx_tree.specs.declared.operator.Prefix.TheVariants as prefix
use Rattle.dslx_tree.specs.declared.process.Direction.TheVariants as direction
use Rattle.dslx_actions.specs.declared.types.rule.TypeAction.TheVariants as types
use Rattle.dslx_actions.specs.declared.types.rule.PatternAction.TheVariants as patterns
use Rattle.dslx_node_actions.specs.declared.exprs.atoms.rule.ArgAction.TheVariants as args
use Rattle.dslx_node_actions.specs.declared.exprs.atoms.rule.AtomAction.TheVariants as atoms
use Rattle.dslx_node_actions.specs.declared.exprs.operators.rule.OperatorAction.TheVariants as operators
use Rattle.dslx_node_actions.specs.declared.exprs.braces.rule.BraceAction.TheVariants as braces
use Rattle.dslx_node_actions.specs.declared.items.rule.ItemAction.TheVariants as items
use Rattle.dslx_node_actions.specs.declared.items.rule.ProcAction.TheVariants as procs
use Rattle.dslx_parser.specs.declared.builder.rule.CommonAction.TheVariants as common
use Rattle.dslx_parser.specs.declared.builder.rule.Rule.{Rule}
use Rattle.dslx_parser.specs.declared.builder.rule.Rule.TheVariants.{Keep, Common, TypeExpr, Pattern, Atom, Arg, Operator, Brace, Item, Proc}

-- each rule by its name, and what it does
unfoldable pub table : List (ℕ × Rule)
table =
    -- module = items
    (production.MODULE, Keep) ∷
    -- items = item items
    (production.ITEMS__ITEM, Keep) ∷
    -- items = (nothing)
    (production.ITEMS__NONE, Keep) ∷
    -- item = PUB definition
    (production.ITEM__PUB, Item items.Public) ∷
    -- item = definition
    (production.ITEM__DEFINITION, Item items.Private) ∷
    -- definition = function
    (production.DEFINITION__FUNCTION, Keep) ∷
    -- definition = proc
    (production.DEFINITION__PROC, Keep) ∷
    -- definition = constant
    (production.DEFINITION__CONSTANT, Keep) ∷
    -- definition = alias
    (production.DEFINITION__ALIAS, Keep) ∷
    -- definition = structure
    (production.DEFINITION__STRUCTURE, Keep) ∷
    -- definition = enumeration
    (production.DEFINITION__ENUMERATION, Keep) ∷
    -- any_name = NAME
    (production.ANY_NAME__NAME, Keep) ∷
    -- any_name = TYPENAME
    (production.ANY_NAME__TYPENAME, Keep) ∷
    -- any_name = FUNNAME
    (production.ANY_NAME__FUNNAME, Keep) ∷
    -- any_name = STRUCTNAME
    (production.ANY_NAME__STRUCTNAME, Keep) ∷
    -- any_name = BOTHNAME
    (production.ANY_NAME__BOTHNAME, Keep) ∷
    -- open_brace = LBRACE
    (production.OPEN_BRACE__LBRACE, Keep) ∷
    -- open_brace = FIELDS
    (production.OPEN_BRACE__FIELDS, Keep) ∷
    -- open_angle = LT
    (production.OPEN_ANGLE__LT, Keep) ∷
    -- open_angle = ARGS
    (production.OPEN_ANGLE__ARGS, Keep) ∷
    -- function = FN any_name parameters LPAREN arguments_declared RPAREN result_type block
    (production.FUNCTION, Item items.Function) ∷
    -- result_type = ARROW type
    (production.RESULT_TYPE__ARROW, Common common.Annotation) ∷
    -- result_type = (nothing)
    (production.RESULT_TYPE__NONE, Common common.NoAnnotation) ∷
    -- parameters = open_angle parameter parameters_more GT
    (production.PARAMETERS__OPEN_ANGLE, Common (common.SkipMore 2)) ∷
    -- parameters = (nothing)
    (production.PARAMETERS__NONE, Common common.Start) ∷
    -- parameters_more = COMMA parameter parameters_more
    (production.PARAMETERS_MORE__COMMA, Common (common.SkipMore 1)) ∷
    -- parameters_more = (nothing)
    (production.PARAMETERS_MORE__NONE, Common common.Start) ∷
    -- parameter = any_name COLON type parameter_default
    (production.PARAMETER, Item items.Parametric) ∷
    -- parameter_default = ASSIGN LBRACE expr RBRACE
    (production.PARAMETER_DEFAULT__ASSIGN, Common (common.Given 3)) ∷
    -- parameter_default = (nothing)
    (production.PARAMETER_DEFAULT__NONE, Common common.LeftOut) ∷
    -- arguments_declared = argument_declared arguments_declared_more
    (production.ARGUMENTS_DECLARED__ARGUMENT_DECLARED, Common common.More) ∷
    -- arguments_declared = (nothing)
    (production.ARGUMENTS_DECLARED__NONE, Common common.Start) ∷
    -- arguments_declared_more = COMMA arguments_declared
    (production.ARGUMENTS_DECLARED_MORE__COMMA, Common (common.Skip 1)) ∷
    -- arguments_declared_more = (nothing)
    (production.ARGUMENTS_DECLARED_MORE__NONE, Common common.Start) ∷
    -- argument_declared = any_name COLON type
    (production.ARGUMENT_DECLARED, Item items.Field) ∷
    -- constant = CONST any_name constant_type ASSIGN expr SEMI
    (production.CONSTANT, Item items.Constant) ∷
    -- constant_type = COLON type
    (production.CONSTANT_TYPE__COLON, Common common.Annotation) ∷
    -- constant_type = (nothing)
    (production.CONSTANT_TYPE__NONE, Common common.NoAnnotation) ∷
    -- alias = TYPE any_name ASSIGN type SEMI
    (production.ALIAS, Item items.Alias) ∷
    -- structure = STRUCT any_name open_brace arguments_declared RBRACE
    (production.STRUCTURE, Item items.Struct) ∷
    -- enumeration = ENUM any_name COLON type open_brace members RBRACE
    (production.ENUMERATION, Item items.Enum) ∷
    -- members = member members_more
    (production.MEMBERS__MEMBER, Common common.More) ∷
    -- members = (nothing)
    (production.MEMBERS__NONE, Common common.Start) ∷
    -- members_more = COMMA members
    (production.MEMBERS_MORE__COMMA, Common (common.Skip 1)) ∷
    -- members_more = (nothing)
    (production.MEMBERS_MORE__NONE, Common common.Start) ∷
    -- member = any_name ASSIGN expr
    (production.MEMBER, Item items.Member) ∷
    -- proc = PROC any_name parameters open_brace proc_members parts RBRACE
    (production.PROC, Proc procs.Proc) ∷
    -- proc_members = proc_member proc_members
    (production.PROC_MEMBERS__PROC_MEMBER, Common common.More) ∷
    -- proc_members = (nothing)
    (production.PROC_MEMBERS__NONE, Common common.Start) ∷
    -- proc_member = any_name COLON end SEMI
    (production.PROC_MEMBER, Proc (procs.End 2)) ∷
    -- end = CHAN LT type GT direction
    (production.END, Common (common.Skip 3)) ∷
    -- direction = IN
    (production.DIRECTION__IN, Proc (procs.Direction direction.In)) ∷
    -- direction = OUT
    (production.DIRECTION__OUT, Proc (procs.Direction direction.Out)) ∷
    -- parts = config parts_init_next
    (production.PARTS__CONFIG, Keep) ∷
    -- parts = init parts_config_next
    (production.PARTS__INIT, Keep) ∷
    -- parts = next parts_config_init
    (production.PARTS__NEXT, Keep) ∷
    -- parts_init_next = init next
    (production.PARTS_INIT_NEXT__INIT, Keep) ∷
    -- parts_init_next = next init
    (production.PARTS_INIT_NEXT__NEXT, Keep) ∷
    -- parts_config_next = config next
    (production.PARTS_CONFIG_NEXT__CONFIG, Keep) ∷
    -- parts_config_next = next config
    (production.PARTS_CONFIG_NEXT__NEXT, Keep) ∷
    -- parts_config_init = config init
    (production.PARTS_CONFIG_INIT__CONFIG, Keep) ∷
    -- parts_config_init = init config
    (production.PARTS_CONFIG_INIT__INIT, Keep) ∷
    -- config = CONFIG LPAREN ends RPAREN LBRACE makings config_result RBRACE
    (production.CONFIG, Proc procs.Config) ∷
    -- ends = end_declared ends_more
    (production.ENDS__END_DECLARED, Common common.More) ∷
    -- ends = (nothing)
    (production.ENDS__NONE, Common common.Start) ∷
    -- ends_more = COMMA ends
    (production.ENDS_MORE__COMMA, Common (common.Skip 1)) ∷
    -- ends_more = (nothing)
    (production.ENDS_MORE__NONE, Common common.Start) ∷
    -- end_declared = any_name COLON end
    (production.END_DECLARED, Proc (procs.End 1)) ∷
    -- makings = channel makings
    (production.MAKINGS__CHANNEL, Common common.More) ∷
    -- makings = spawn makings
    (production.MAKINGS__SPAWN, Common common.More) ∷
    -- makings = (nothing)
    (production.MAKINGS__NONE, Common common.Start) ∷
    -- channel = LET LPAREN any_name COMMA any_name RPAREN ASSIGN channel_made
    (production.CHANNEL, Proc procs.Channel) ∷
    -- channel_made = CHAN LT type channel_depth GT LPAREN STRING channel_end
    (production.CHANNEL_MADE, Common (common.LastMark 5)) ∷
    -- channel_end = RPAREN SEMI
    (production.CHANNEL_END, Common (common.LastMark 2)) ∷
    -- channel_depth = COMMA arg
    (production.CHANNEL_DEPTH__COMMA, Proc procs.Depth) ∷
    -- channel_depth = (nothing)
    (production.CHANNEL_DEPTH__NONE, Proc procs.NoDepth) ∷
    -- spawn = SPAWN any_name spawn_args LPAREN names RPAREN SEMI
    (production.SPAWN, Proc procs.Spawn) ∷
    -- spawn_args = open_angle arg args_more GT
    (production.SPAWN_ARGS__OPEN_ANGLE, Common (common.SkipMore 2)) ∷
    -- spawn_args = (nothing)
    (production.SPAWN_ARGS__NONE, Common common.Start) ∷
    -- config_result = LPAREN names RPAREN
    (production.CONFIG_RESULT__LPAREN, Common (common.Skip 2)) ∷
    -- config_result = (nothing)
    (production.CONFIG_RESULT__NONE, Common common.Start) ∷
    -- names = any_name names_more
    (production.NAMES__ANY_NAME, Common common.More) ∷
    -- names = (nothing)
    (production.NAMES__NONE, Common common.Start) ∷
    -- names_more = COMMA names
    (production.NAMES_MORE__COMMA, Common (common.Skip 1)) ∷
    -- names_more = (nothing)
    (production.NAMES_MORE__NONE, Common common.Start) ∷
    -- init = INIT block
    (production.INIT, Common (common.Skip 1)) ∷
    -- next = NEXT LPAREN any_name COLON type RPAREN block
    (production.NEXT, Proc procs.Next) ∷
    -- args_more = COMMA arg args_more
    (production.ARGS_MORE__COMMA, Common (common.SkipMore 1)) ∷
    -- args_more = (nothing)
    (production.ARGS_MORE__NONE, Common common.Start) ∷
    -- arg = NUMBER
    (production.ARG__NUMBER, Arg args.Number) ∷
    -- arg = base_keyword type_tail COLON signed
    (production.ARG__BASE_KEYWORD, Arg args.Typed) ∷
    -- arg = any_name arg_name
    (production.ARG__ANY_NAME, Keep) ∷
    -- arg = LBRACE expr RBRACE
    (production.ARG__LBRACE, Arg args.Braced) ∷
    -- arg_name = COLON signed
    (production.ARG_NAME__COLON, Arg args.NamedTyped) ∷
    -- arg_name = name_size type_tail COLON signed
    (production.ARG_NAME__NAME_SIZE, Arg args.Typed) ∷
    -- arg_name = (nothing)
    (production.ARG_NAME__NONE, Arg args.Name) ∷
    -- signed = MINUS NUMBER
    (production.SIGNED__MINUS, TypeExpr types.Negative) ∷
    -- signed = NUMBER
    (production.SIGNED__NUMBER, Keep) ∷
    -- type = base type_tail
    (production.TYPE, Keep) ∷
    -- base = base_keyword
    (production.BASE__BASE_KEYWORD, Keep) ∷
    -- base = any_name
    (production.BASE__ANY_NAME, TypeExpr types.Named) ∷
    -- base = LPAREN types RPAREN
    (production.BASE__LPAREN, TypeExpr types.Tuple) ∷
    -- base_keyword = UNSIGNED
    (production.BASE_KEYWORD__UNSIGNED, Keep) ∷
    -- base_keyword = SIGNED
    (production.BASE_KEYWORD__SIGNED, Keep) ∷
    -- base_keyword = WIDE LBRACKET expr RBRACKET
    (production.BASE_KEYWORD__WIDE, TypeExpr types.Wide) ∷
    -- base_keyword = BOOL
    (production.BASE_KEYWORD__BOOL, Keep) ∷
    -- type_tail = size type_tail
    (production.TYPE_TAIL__SIZE, Keep) ∷
    -- type_tail = (nothing)
    (production.TYPE_TAIL__NONE, Keep) ∷
    -- size = LBRACKET expr RBRACKET
    (production.SIZE, TypeExpr types.Array) ∷
    -- name_size = LBRACKET expr RBRACKET
    (production.NAME_SIZE, TypeExpr types.NamedArray) ∷
    -- types = type types_more
    (production.TYPES__TYPE, Common common.More) ∷
    -- types = (nothing)
    (production.TYPES__NONE, Common common.Start) ∷
    -- types_more = COMMA types
    (production.TYPES_MORE__COMMA, Common (common.Skip 1)) ∷
    -- types_more = (nothing)
    (production.TYPES_MORE__NONE, Common common.Start) ∷
    -- block = LBRACE statements RBRACE
    (production.BLOCK, Item items.Block) ∷
    -- statements = let statements
    (production.STATEMENTS__LET, Common common.More) ∷
    -- statements = expr statement_end
    (production.STATEMENTS__EXPR, Keep) ∷
    -- statements = (nothing)
    (production.STATEMENTS__NONE, Common common.NothingMore) ∷
    -- statement_end = bare statements
    (production.STATEMENT_END__BARE, Common common.More) ∷
    -- statement_end = (nothing)
    (production.STATEMENT_END__NONE, Item items.LastValue) ∷
    -- bare = SEMI
    (production.BARE, Item items.Bare) ∷
    -- let = LET let_pattern ASSIGN expr SEMI
    (production.LET, Item items.Let) ∷
    -- let_pattern = plain_pattern let_type
    (production.LET_PATTERN__PLAIN_PATTERN, Keep) ∷
    -- let_pattern = any_name let_name
    (production.LET_PATTERN__ANY_NAME, Keep) ∷
    -- let_name = PATH any_name let_type
    (production.LET_NAME__PATH, Pattern patterns.Member) ∷
    -- let_name = name_size type_tail COLON signed let_type
    (production.LET_NAME__NAME_SIZE, Pattern patterns.Typed) ∷
    -- let_name = COLON let_colon
    (production.LET_NAME__COLON, Keep) ∷
    -- let_name = (nothing)
    (production.LET_NAME__NONE, Pattern patterns.NameAlone) ∷
    -- let_colon = signed let_type
    (production.LET_COLON__SIGNED, Pattern patterns.NamedTyped) ∷
    -- let_colon = type
    (production.LET_COLON__TYPE, Pattern patterns.NameAnnotated) ∷
    -- let_type = COLON type
    (production.LET_TYPE__COLON, Common common.Annotation) ∷
    -- let_type = (nothing)
    (production.LET_TYPE__NONE, Common common.NoAnnotation) ∷
    -- pattern = plain_pattern
    (production.PATTERN__PLAIN_PATTERN, Keep) ∷
    -- pattern = any_name pattern_name
    (production.PATTERN__ANY_NAME, Keep) ∷
    -- plain_pattern = WILD
    (production.PLAIN_PATTERN__WILD, Pattern patterns.Wild) ∷
    -- plain_pattern = TRUE
    (production.PLAIN_PATTERN__TRUE, Pattern (patterns.Bool true)) ∷
    -- plain_pattern = FALSE
    (production.PLAIN_PATTERN__FALSE, Pattern (patterns.Bool false)) ∷
    -- plain_pattern = base_keyword type_tail COLON signed
    (production.PLAIN_PATTERN__BASE_KEYWORD, Pattern patterns.Typed) ∷
    -- plain_pattern = LPAREN patterns RPAREN
    (production.PLAIN_PATTERN__LPAREN, Pattern patterns.Tuple) ∷
    -- pattern_name = PATH any_name
    (production.PATTERN_NAME__PATH, Pattern patterns.Member) ∷
    -- pattern_name = COLON signed
    (production.PATTERN_NAME__COLON, Pattern patterns.NamedTyped) ∷
    -- pattern_name = name_size type_tail COLON signed
    (production.PATTERN_NAME__NAME_SIZE, Pattern patterns.Typed) ∷
    -- pattern_name = (nothing)
    (production.PATTERN_NAME__NONE, Pattern patterns.Name) ∷
    -- patterns = pattern patterns_more
    (production.PATTERNS__PATTERN, Common common.More) ∷
    -- patterns = (nothing)
    (production.PATTERNS__NONE, Common common.Start) ∷
    -- patterns_more = COMMA patterns
    (production.PATTERNS_MORE__COMMA, Common (common.Skip 1)) ∷
    -- patterns_more = (nothing)
    (production.PATTERNS_MORE__NONE, Common common.Start) ∷
    -- expr = operand operands
    (production.EXPR, Operator operators.Chain) ∷
    -- operands = binary operand operands
    (production.OPERANDS__BINARY, Common common.More) ∷
    -- operands = (nothing)
    (production.OPERANDS__NONE, Common common.Start) ∷
    -- binary = STAR
    (production.BINARY__STAR, Operator (operators.Sign binary.Mul)) ∷
    -- binary = SLASH
    (production.BINARY__SLASH, Operator (operators.Sign binary.Div)) ∷
    -- binary = PERCENT
    (production.BINARY__PERCENT, Operator (operators.Sign binary.Rem)) ∷
    -- binary = PLUS
    (production.BINARY__PLUS, Operator (operators.Sign binary.Add)) ∷
    -- binary = MINUS
    (production.BINARY__MINUS, Operator (operators.Sign binary.Sub)) ∷
    -- binary = CONCAT
    (production.BINARY__CONCAT, Operator (operators.Sign binary.Concat)) ∷
    -- binary = SHL
    (production.BINARY__SHL, Operator (operators.Sign binary.Shl)) ∷
    -- binary = SHR
    (production.BINARY__SHR, Operator (operators.Sign binary.Shr)) ∷
    -- binary = AMP
    (production.BINARY__AMP, Operator (operators.Sign binary.And)) ∷
    -- binary = CARET
    (production.BINARY__CARET, Operator (operators.Sign binary.Xor)) ∷
    -- binary = PIPE
    (production.BINARY__PIPE, Operator (operators.Sign binary.Or)) ∷
    -- binary = EQ
    (production.BINARY__EQ, Operator (operators.Sign binary.Eq)) ∷
    -- binary = NE
    (production.BINARY__NE, Operator (operators.Sign binary.Ne)) ∷
    -- binary = LT
    (production.BINARY__LT, Operator (operators.Sign binary.Lt)) ∷
    -- binary = LE
    (production.BINARY__LE, Operator (operators.Sign binary.Le)) ∷
    -- binary = GT
    (production.BINARY__GT, Operator (operators.Sign binary.Gt)) ∷
    -- binary = GE
    (production.BINARY__GE, Operator (operators.Sign binary.Ge)) ∷
    -- binary = ANDAND
    (production.BINARY__ANDAND, Operator (operators.Sign binary.Both)) ∷
    -- binary = OROR
    (production.BINARY__OROR, Operator (operators.Sign binary.Either)) ∷
    -- operand = prefixed casts
    (production.OPERAND, Keep) ∷
    -- prefixed = MINUS prefixed
    (production.PREFIXED__MINUS, Operator (operators.Prefixed prefix.Minus)) ∷
    -- prefixed = BANG prefixed
    (production.PREFIXED__BANG, Operator (operators.Prefixed prefix.Not)) ∷
    -- prefixed = atom posts
    (production.PREFIXED__ATOM, Keep) ∷
    -- casts = cast casts
    (production.CASTS__CAST, Keep) ∷
    -- casts = (nothing)
    (production.CASTS__NONE, Keep) ∷
    -- cast = AS type
    (production.CAST, Operator operators.Cast) ∷
    -- posts = LBRACKET expr index_end posts
    (production.POSTS__LBRACKET, Keep) ∷
    -- posts = DOT part posts
    (production.POSTS__DOT, Keep) ∷
    -- posts = (nothing)
    (production.POSTS__NONE, Keep) ∷
    -- index_end = RBRACKET
    (production.INDEX_END__RBRACKET, Operator operators.Index) ∷
    -- index_end = COLON expr RBRACKET
    (production.INDEX_END__COLON, Operator operators.Slice) ∷
    -- index_end = PLUSCOLON type RBRACKET
    (production.INDEX_END__PLUSCOLON, Operator operators.Part) ∷
    -- part = any_name
    (production.PART__ANY_NAME, Operator operators.Field) ∷
    -- part = NUMBER
    (production.PART__NUMBER, Operator operators.Element) ∷
    -- atom = NUMBER
    (production.ATOM__NUMBER, Atom atoms.BareNumber) ∷
    -- atom = base_keyword type_tail COLON typed
    (production.ATOM__BASE_KEYWORD, Keep) ∷
    -- atom = alias_name type_tail COLON typed
    (production.ATOM__ALIAS_NAME, Keep) ∷
    -- atom = elements
    (production.ATOM__ELEMENTS, Atom atoms.Array) ∷
    -- atom = TRUE
    (production.ATOM__TRUE, Atom (atoms.Bool true)) ∷
    -- atom = FALSE
    (production.ATOM__FALSE, Atom (atoms.Bool false)) ∷
    -- atom = NAME name_tail
    (production.ATOM__NAME, Keep) ∷
    -- atom = FUNNAME function_tail
    (production.ATOM__FUNNAME, Keep) ∷
    -- atom = STRUCTNAME struct_tail
    (production.ATOM__STRUCTNAME, Keep) ∷
    -- atom = BOTHNAME both_tail
    (production.ATOM__BOTHNAME, Keep) ∷
    -- atom = LPAREN parenthesis
    (production.ATOM__LPAREN, Keep) ∷
    -- atom = block
    (production.ATOM__BLOCK, Brace braces.Block) ∷
    -- atom = if
    (production.ATOM__IF, Keep) ∷
    -- atom = match
    (production.ATOM__MATCH, Keep) ∷
    -- atom = for
    (production.ATOM__FOR, Keep) ∷
    -- alias_name = TYPENAME
    (production.ALIAS_NAME, TypeExpr types.Named) ∷
    -- typed = signed
    (production.TYPED__SIGNED, Atom atoms.TypedNumber) ∷
    -- typed = elements
    (production.TYPED__ELEMENTS, Atom atoms.TypedArray) ∷
    -- name_tail = PATH any_name
    (production.NAME_TAIL__PATH, Atom atoms.Member) ∷
    -- name_tail = call
    (production.NAME_TAIL__CALL, Keep) ∷
    -- name_tail = (nothing)
    (production.NAME_TAIL__NONE, Atom atoms.Name) ∷
    -- function_tail = PATH any_name
    (production.FUNCTION_TAIL__PATH, Atom atoms.Member) ∷
    -- function_tail = call
    (production.FUNCTION_TAIL__CALL, Keep) ∷
    -- function_tail = call_with_args
    (production.FUNCTION_TAIL__CALL_WITH_ARGS, Keep) ∷
    -- function_tail = (nothing)
    (production.FUNCTION_TAIL__NONE, Atom atoms.Name) ∷
    -- struct_tail = PATH any_name
    (production.STRUCT_TAIL__PATH, Atom atoms.Member) ∷
    -- struct_tail = call
    (production.STRUCT_TAIL__CALL, Keep) ∷
    -- struct_tail = fields
    (production.STRUCT_TAIL__FIELDS, Keep) ∷
    -- struct_tail = (nothing)
    (production.STRUCT_TAIL__NONE, Atom atoms.Name) ∷
    -- both_tail = PATH any_name
    (production.BOTH_TAIL__PATH, Atom atoms.Member) ∷
    -- both_tail = call
    (production.BOTH_TAIL__CALL, Keep) ∷
    -- both_tail = call_with_args
    (production.BOTH_TAIL__CALL_WITH_ARGS, Keep) ∷
    -- both_tail = fields
    (production.BOTH_TAIL__FIELDS, Keep) ∷
    -- both_tail = (nothing)
    (production.BOTH_TAIL__NONE, Atom atoms.Name) ∷
    -- call = LPAREN exprs RPAREN
    (production.CALL, Atom atoms.Call) ∷
    -- call_with_args = ARGS arg args_more GT LPAREN exprs RPAREN
    (production.CALL_WITH_ARGS, Atom atoms.CallWithArgs) ∷
    -- exprs = expr exprs_more
    (production.EXPRS__EXPR, Common common.More) ∷
    -- exprs = (nothing)
    (production.EXPRS__NONE, Common common.Start) ∷
    -- exprs_more = COMMA exprs
    (production.EXPRS_MORE__COMMA, Common (common.Skip 1)) ∷
    -- exprs_more = (nothing)
    (production.EXPRS_MORE__NONE, Common common.Start) ∷
    -- fields = FIELDS field_list RBRACE
    (production.FIELDS, Brace braces.Struct) ∷
    -- field_list = any_name field_value field_more
    (production.FIELD_LIST__ANY_NAME, Common common.More) ∷
    -- field_list = REST expr
    (production.FIELD_LIST__REST, Brace braces.Others) ∷
    -- field_list = (nothing)
    (production.FIELD_LIST__NONE, Common common.NothingMore) ∷
    -- field_value = COLON expr
    (production.FIELD_VALUE__COLON, Brace braces.FieldValue) ∷
    -- field_value = (nothing)
    (production.FIELD_VALUE__NONE, Brace braces.FieldName) ∷
    -- field_more = COMMA field_list
    (production.FIELD_MORE__COMMA, Common (common.Skip 1)) ∷
    -- field_more = (nothing)
    (production.FIELD_MORE__NONE, Common common.NothingMore) ∷
    -- parenthesis = RPAREN
    (production.PARENTHESIS__RPAREN, Atom atoms.Unit) ∷
    -- parenthesis = expr parenthesis_end
    (production.PARENTHESIS__EXPR, Keep) ∷
    -- parenthesis_end = RPAREN
    (production.PARENTHESIS_END__RPAREN, Atom atoms.Grouped) ∷
    -- parenthesis_end = COMMA exprs RPAREN
    (production.PARENTHESIS_END__COMMA, Atom atoms.Tuple) ∷
    -- elements = LBRACKET expr elements_more RBRACKET
    (production.ELEMENTS, Common common.More) ∷
    -- elements_more = COMMA elements_next
    (production.ELEMENTS_MORE__COMMA, Common (common.Skip 1)) ∷
    -- elements_more = (nothing)
    (production.ELEMENTS_MORE__NONE, Atom atoms.LastElement) ∷
    -- elements_next = expr elements_more
    (production.ELEMENTS_NEXT__EXPR, Common common.More) ∷
    -- elements_next = DOTS elements_end
    (production.ELEMENTS_NEXT__DOTS, Atom atoms.Repeated) ∷
    -- elements_next = (nothing)
    (production.ELEMENTS_NEXT__NONE, Atom atoms.LastElement) ∷
    -- elements_end = COMMA
    (production.ELEMENTS_END__COMMA, Common (common.Skip 1)) ∷
    -- elements_end = (nothing)
    (production.ELEMENTS_END__NONE, Keep) ∷
    -- if = IF expr headed_block ELSE else
    (production.IF, Brace braces.If) ∷
    -- else = block
    (production.ELSE__BLOCK, Brace braces.Block) ∷
    -- else = if
    (production.ELSE__IF, Keep) ∷
    -- match = MATCH expr LBRACE arms RBRACE
    (production.MATCH, Brace braces.Match) ∷
    -- arms = arm arms_more
    (production.ARMS__ARM, Common common.More) ∷
    -- arms = (nothing)
    (production.ARMS__NONE, Common common.Start) ∷
    -- arms_more = COMMA arms
    (production.ARMS_MORE__COMMA, Common (common.Skip 1)) ∷
    -- arms_more = (nothing)
    (production.ARMS_MORE__NONE, Common common.Start) ∷
    -- arm = pattern alternatives DARROW expr
    (production.ARM, Brace braces.Arm) ∷
    -- alternatives = PIPE pattern alternatives
    (production.ALTERNATIVES__PIPE, Common (common.SkipMore 1)) ∷
    -- alternatives = (nothing)
    (production.ALTERNATIVES__NONE, Common common.Start) ∷
    -- for = FOR LPAREN pattern COMMA pattern RPAREN for_type for_range
    (production.FOR, Brace braces.For) ∷
    -- for_type = COLON type
    (production.FOR_TYPE__COLON, Common common.Annotation) ∷
    -- for_type = (nothing)
    (production.FOR_TYPE__NONE, Common common.NoAnnotation) ∷
    -- for_range = IN expr REST expr headed_block LPAREN expr RPAREN
    (production.FOR_RANGE, Keep) ∷
    -- headed_block = LBRACE statements RBRACE
    (production.HEADED_BLOCK, Item items.Block) ∷
    []
