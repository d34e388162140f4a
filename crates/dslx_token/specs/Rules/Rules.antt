-- Written by tools/grammar_tables.py from docs/dslx.grammar.
-- The rules of the grammar by their names.
use Rattle.std.specs.Prelude.{ℕ, List, [], ◌∷◌}
use Rattle.base.specs.Grammar.Syntax.{NamedRule, named}
use Rattle.base.specs.declared.grammar.table.Symbol.TheVariants.{Terminal, Nonterminal}
use Rattle.dslx_token.specs.declared.rules.generated.kind.TheConstants as kind
use Rattle.dslx_token.specs.declared.rules.generated.nonterminal.TheConstants as nonterminal
use Rattle.dslx_token.specs.declared.rules.generated.production.TheConstants as production

-- the kinds of token by their names, in the order of these names, with the end mark behind them
unfoldable pub kinds : List ℕ
kinds = kind.AMP ∷ kind.ANDAND ∷ kind.ARGS ∷ kind.ARROW ∷ kind.AS ∷ kind.ASSIGN ∷ kind.BANG ∷ kind.BOOL ∷ kind.BOTHNAME ∷ kind.CARET ∷ kind.CHAN ∷ kind.COLON ∷ kind.COMMA ∷ kind.CONCAT ∷ kind.CONFIG ∷ kind.CONST ∷ kind.DARROW ∷ kind.DOT ∷ kind.DOTS ∷ kind.ELSE ∷ kind.ENUM ∷ kind.EQ ∷ kind.FALSE ∷ kind.FIELDS ∷ kind.FN ∷ kind.FOR ∷ kind.FUNNAME ∷ kind.GE ∷ kind.GT ∷ kind.IF ∷ kind.IN ∷ kind.INIT ∷ kind.LBRACE ∷ kind.LBRACKET ∷ kind.LE ∷ kind.LET ∷ kind.LPAREN ∷ kind.LT ∷ kind.MATCH ∷ kind.MINUS ∷ kind.NAME ∷ kind.NE ∷ kind.NEXT ∷ kind.NUMBER ∷ kind.OROR ∷ kind.OUT ∷ kind.PATH ∷ kind.PERCENT ∷ kind.PIPE ∷ kind.PLUS ∷ kind.PLUSCOLON ∷ kind.PROC ∷ kind.PUB ∷ kind.RBRACE ∷ kind.RBRACKET ∷ kind.REST ∷ kind.RPAREN ∷ kind.SEMI ∷ kind.SHL ∷ kind.SHR ∷ kind.SIGNED ∷ kind.SLASH ∷ kind.SPAWN ∷ kind.STAR ∷ kind.STRING ∷ kind.STRUCT ∷ kind.STRUCTNAME ∷ kind.TRUE ∷ kind.TYPE ∷ kind.TYPENAME ∷ kind.UNSIGNED ∷ kind.WIDE ∷ kind.WILD ∷ kind.END ∷ []

-- the nonterminals by their names, the start first
unfoldable pub nonterminals : List ℕ
nonterminals = nonterminal.MODULE ∷ nonterminal.ITEMS ∷ nonterminal.ITEM ∷ nonterminal.DEFINITION ∷ nonterminal.ANY_NAME ∷ nonterminal.OPEN_BRACE ∷ nonterminal.OPEN_ANGLE ∷ nonterminal.FUNCTION ∷ nonterminal.RESULT_TYPE ∷ nonterminal.PARAMETERS ∷ nonterminal.PARAMETERS_MORE ∷ nonterminal.PARAMETER ∷ nonterminal.PARAMETER_DEFAULT ∷ nonterminal.ARGUMENTS_DECLARED ∷ nonterminal.ARGUMENTS_DECLARED_MORE ∷ nonterminal.ARGUMENT_DECLARED ∷ nonterminal.CONSTANT ∷ nonterminal.CONSTANT_TYPE ∷ nonterminal.ALIAS ∷ nonterminal.STRUCTURE ∷ nonterminal.ENUMERATION ∷ nonterminal.MEMBERS ∷ nonterminal.MEMBERS_MORE ∷ nonterminal.MEMBER ∷ nonterminal.PROC ∷ nonterminal.PROC_MEMBERS ∷ nonterminal.PROC_MEMBER ∷ nonterminal.END ∷ nonterminal.DIRECTION ∷ nonterminal.PARTS ∷ nonterminal.PARTS_INIT_NEXT ∷ nonterminal.PARTS_CONFIG_NEXT ∷ nonterminal.PARTS_CONFIG_INIT ∷ nonterminal.CONFIG ∷ nonterminal.ENDS ∷ nonterminal.ENDS_MORE ∷ nonterminal.END_DECLARED ∷ nonterminal.MAKINGS ∷ nonterminal.CHANNEL ∷ nonterminal.CHANNEL_MADE ∷ nonterminal.CHANNEL_END ∷ nonterminal.CHANNEL_DEPTH ∷ nonterminal.SPAWN ∷ nonterminal.SPAWN_ARGS ∷ nonterminal.CONFIG_RESULT ∷ nonterminal.NAMES ∷ nonterminal.NAMES_MORE ∷ nonterminal.INIT ∷ nonterminal.NEXT ∷ nonterminal.ARGS_MORE ∷ nonterminal.ARG ∷ nonterminal.ARG_NAME ∷ nonterminal.SIGNED ∷ nonterminal.TYPE ∷ nonterminal.BASE ∷ nonterminal.BASE_KEYWORD ∷ nonterminal.TYPE_TAIL ∷ nonterminal.SIZE ∷ nonterminal.NAME_SIZE ∷ nonterminal.TYPES ∷ nonterminal.TYPES_MORE ∷ nonterminal.BLOCK ∷ nonterminal.STATEMENTS ∷ nonterminal.STATEMENT_END ∷ nonterminal.BARE ∷ nonterminal.LET ∷ nonterminal.LET_PATTERN ∷ nonterminal.LET_NAME ∷ nonterminal.LET_COLON ∷ nonterminal.LET_TYPE ∷ nonterminal.PATTERN ∷ nonterminal.PLAIN_PATTERN ∷ nonterminal.PATTERN_NAME ∷ nonterminal.PATTERNS ∷ nonterminal.PATTERNS_MORE ∷ nonterminal.EXPR ∷ nonterminal.OPERANDS ∷ nonterminal.BINARY ∷ nonterminal.OPERAND ∷ nonterminal.PREFIXED ∷ nonterminal.CASTS ∷ nonterminal.CAST ∷ nonterminal.POSTS ∷ nonterminal.INDEX_END ∷ nonterminal.PART ∷ nonterminal.ATOM ∷ nonterminal.ALIAS_NAME ∷ nonterminal.TYPED ∷ nonterminal.NAME_TAIL ∷ nonterminal.FUNCTION_TAIL ∷ nonterminal.STRUCT_TAIL ∷ nonterminal.BOTH_TAIL ∷ nonterminal.CALL ∷ nonterminal.CALL_WITH_ARGS ∷ nonterminal.EXPRS ∷ nonterminal.EXPRS_MORE ∷ nonterminal.FIELDS ∷ nonterminal.FIELD_LIST ∷ nonterminal.FIELD_VALUE ∷ nonterminal.FIELD_MORE ∷ nonterminal.PARENTHESIS ∷ nonterminal.PARENTHESIS_END ∷ nonterminal.ELEMENTS ∷ nonterminal.ELEMENTS_MORE ∷ nonterminal.ELEMENTS_NEXT ∷ nonterminal.ELEMENTS_END ∷ nonterminal.IF ∷ nonterminal.ELSE ∷ nonterminal.MATCH ∷ nonterminal.ARMS ∷ nonterminal.ARMS_MORE ∷ nonterminal.ARM ∷ nonterminal.ALTERNATIVES ∷ nonterminal.FOR ∷ nonterminal.FOR_TYPE ∷ nonterminal.FOR_RANGE ∷ nonterminal.HEADED_BLOCK ∷ []

-- of each rule the name, the nonterminal, and what it may be rewritten to
unfoldable pub named_rules : List NamedRule
named_rules =
    named production.MODULE nonterminal.MODULE (Nonterminal nonterminal.ITEMS ∷ []) ∷
    named production.ITEMS__ITEM nonterminal.ITEMS (Nonterminal nonterminal.ITEM ∷ Nonterminal nonterminal.ITEMS ∷ []) ∷
    named production.ITEMS__NONE nonterminal.ITEMS [] ∷
    named production.ITEM__PUB nonterminal.ITEM (Terminal kind.PUB ∷ Nonterminal nonterminal.DEFINITION ∷ []) ∷
    named production.ITEM__DEFINITION nonterminal.ITEM (Nonterminal nonterminal.DEFINITION ∷ []) ∷
    named production.DEFINITION__FUNCTION nonterminal.DEFINITION (Nonterminal nonterminal.FUNCTION ∷ []) ∷
    named production.DEFINITION__PROC nonterminal.DEFINITION (Nonterminal nonterminal.PROC ∷ []) ∷
    named production.DEFINITION__CONSTANT nonterminal.DEFINITION (Nonterminal nonterminal.CONSTANT ∷ []) ∷
    named production.DEFINITION__ALIAS nonterminal.DEFINITION (Nonterminal nonterminal.ALIAS ∷ []) ∷
    named production.DEFINITION__STRUCTURE nonterminal.DEFINITION (Nonterminal nonterminal.STRUCTURE ∷ []) ∷
    named production.DEFINITION__ENUMERATION nonterminal.DEFINITION (Nonterminal nonterminal.ENUMERATION ∷ []) ∷
    named production.ANY_NAME__NAME nonterminal.ANY_NAME (Terminal kind.NAME ∷ []) ∷
    named production.ANY_NAME__TYPENAME nonterminal.ANY_NAME (Terminal kind.TYPENAME ∷ []) ∷
    named production.ANY_NAME__FUNNAME nonterminal.ANY_NAME (Terminal kind.FUNNAME ∷ []) ∷
    named production.ANY_NAME__STRUCTNAME nonterminal.ANY_NAME (Terminal kind.STRUCTNAME ∷ []) ∷
    named production.ANY_NAME__BOTHNAME nonterminal.ANY_NAME (Terminal kind.BOTHNAME ∷ []) ∷
    named production.OPEN_BRACE__LBRACE nonterminal.OPEN_BRACE (Terminal kind.LBRACE ∷ []) ∷
    named production.OPEN_BRACE__FIELDS nonterminal.OPEN_BRACE (Terminal kind.FIELDS ∷ []) ∷
    named production.OPEN_ANGLE__LT nonterminal.OPEN_ANGLE (Terminal kind.LT ∷ []) ∷
    named production.OPEN_ANGLE__ARGS nonterminal.OPEN_ANGLE (Terminal kind.ARGS ∷ []) ∷
    named production.FUNCTION nonterminal.FUNCTION (Terminal kind.FN ∷ Nonterminal nonterminal.ANY_NAME ∷ Nonterminal nonterminal.PARAMETERS ∷ Terminal kind.LPAREN ∷ Nonterminal nonterminal.ARGUMENTS_DECLARED ∷ Terminal kind.RPAREN ∷ Nonterminal nonterminal.RESULT_TYPE ∷ Nonterminal nonterminal.BLOCK ∷ []) ∷
    named production.RESULT_TYPE__ARROW nonterminal.RESULT_TYPE (Terminal kind.ARROW ∷ Nonterminal nonterminal.TYPE ∷ []) ∷
    named production.RESULT_TYPE__NONE nonterminal.RESULT_TYPE [] ∷
    named production.PARAMETERS__OPEN_ANGLE nonterminal.PARAMETERS (Nonterminal nonterminal.OPEN_ANGLE ∷ Nonterminal nonterminal.PARAMETER ∷ Nonterminal nonterminal.PARAMETERS_MORE ∷ Terminal kind.GT ∷ []) ∷
    named production.PARAMETERS__NONE nonterminal.PARAMETERS [] ∷
    named production.PARAMETERS_MORE__COMMA nonterminal.PARAMETERS_MORE (Terminal kind.COMMA ∷ Nonterminal nonterminal.PARAMETER ∷ Nonterminal nonterminal.PARAMETERS_MORE ∷ []) ∷
    named production.PARAMETERS_MORE__NONE nonterminal.PARAMETERS_MORE [] ∷
    named production.PARAMETER nonterminal.PARAMETER (Nonterminal nonterminal.ANY_NAME ∷ Terminal kind.COLON ∷ Nonterminal nonterminal.TYPE ∷ Nonterminal nonterminal.PARAMETER_DEFAULT ∷ []) ∷
    named production.PARAMETER_DEFAULT__ASSIGN nonterminal.PARAMETER_DEFAULT (Terminal kind.ASSIGN ∷ Terminal kind.LBRACE ∷ Nonterminal nonterminal.EXPR ∷ Terminal kind.RBRACE ∷ []) ∷
    named production.PARAMETER_DEFAULT__NONE nonterminal.PARAMETER_DEFAULT [] ∷
    named production.ARGUMENTS_DECLARED__ARGUMENT_DECLARED nonterminal.ARGUMENTS_DECLARED (Nonterminal nonterminal.ARGUMENT_DECLARED ∷ Nonterminal nonterminal.ARGUMENTS_DECLARED_MORE ∷ []) ∷
    named production.ARGUMENTS_DECLARED__NONE nonterminal.ARGUMENTS_DECLARED [] ∷
    named production.ARGUMENTS_DECLARED_MORE__COMMA nonterminal.ARGUMENTS_DECLARED_MORE (Terminal kind.COMMA ∷ Nonterminal nonterminal.ARGUMENTS_DECLARED ∷ []) ∷
    named production.ARGUMENTS_DECLARED_MORE__NONE nonterminal.ARGUMENTS_DECLARED_MORE [] ∷
    named production.ARGUMENT_DECLARED nonterminal.ARGUMENT_DECLARED (Nonterminal nonterminal.ANY_NAME ∷ Terminal kind.COLON ∷ Nonterminal nonterminal.TYPE ∷ []) ∷
    named production.CONSTANT nonterminal.CONSTANT (Terminal kind.CONST ∷ Nonterminal nonterminal.ANY_NAME ∷ Nonterminal nonterminal.CONSTANT_TYPE ∷ Terminal kind.ASSIGN ∷ Nonterminal nonterminal.EXPR ∷ Terminal kind.SEMI ∷ []) ∷
    named production.CONSTANT_TYPE__COLON nonterminal.CONSTANT_TYPE (Terminal kind.COLON ∷ Nonterminal nonterminal.TYPE ∷ []) ∷
    named production.CONSTANT_TYPE__NONE nonterminal.CONSTANT_TYPE [] ∷
    named production.ALIAS nonterminal.ALIAS (Terminal kind.TYPE ∷ Nonterminal nonterminal.ANY_NAME ∷ Terminal kind.ASSIGN ∷ Nonterminal nonterminal.TYPE ∷ Terminal kind.SEMI ∷ []) ∷
    named production.STRUCTURE nonterminal.STRUCTURE (Terminal kind.STRUCT ∷ Nonterminal nonterminal.ANY_NAME ∷ Nonterminal nonterminal.OPEN_BRACE ∷ Nonterminal nonterminal.ARGUMENTS_DECLARED ∷ Terminal kind.RBRACE ∷ []) ∷
    named production.ENUMERATION nonterminal.ENUMERATION (Terminal kind.ENUM ∷ Nonterminal nonterminal.ANY_NAME ∷ Terminal kind.COLON ∷ Nonterminal nonterminal.TYPE ∷ Nonterminal nonterminal.OPEN_BRACE ∷ Nonterminal nonterminal.MEMBERS ∷ Terminal kind.RBRACE ∷ []) ∷
    named production.MEMBERS__MEMBER nonterminal.MEMBERS (Nonterminal nonterminal.MEMBER ∷ Nonterminal nonterminal.MEMBERS_MORE ∷ []) ∷
    named production.MEMBERS__NONE nonterminal.MEMBERS [] ∷
    named production.MEMBERS_MORE__COMMA nonterminal.MEMBERS_MORE (Terminal kind.COMMA ∷ Nonterminal nonterminal.MEMBERS ∷ []) ∷
    named production.MEMBERS_MORE__NONE nonterminal.MEMBERS_MORE [] ∷
    named production.MEMBER nonterminal.MEMBER (Nonterminal nonterminal.ANY_NAME ∷ Terminal kind.ASSIGN ∷ Nonterminal nonterminal.EXPR ∷ []) ∷
    named production.PROC nonterminal.PROC (Terminal kind.PROC ∷ Nonterminal nonterminal.ANY_NAME ∷ Nonterminal nonterminal.PARAMETERS ∷ Nonterminal nonterminal.OPEN_BRACE ∷ Nonterminal nonterminal.PROC_MEMBERS ∷ Nonterminal nonterminal.PARTS ∷ Terminal kind.RBRACE ∷ []) ∷
    named production.PROC_MEMBERS__PROC_MEMBER nonterminal.PROC_MEMBERS (Nonterminal nonterminal.PROC_MEMBER ∷ Nonterminal nonterminal.PROC_MEMBERS ∷ []) ∷
    named production.PROC_MEMBERS__NONE nonterminal.PROC_MEMBERS [] ∷
    named production.PROC_MEMBER nonterminal.PROC_MEMBER (Nonterminal nonterminal.ANY_NAME ∷ Terminal kind.COLON ∷ Nonterminal nonterminal.END ∷ Terminal kind.SEMI ∷ []) ∷
    named production.END nonterminal.END (Terminal kind.CHAN ∷ Terminal kind.LT ∷ Nonterminal nonterminal.TYPE ∷ Terminal kind.GT ∷ Nonterminal nonterminal.DIRECTION ∷ []) ∷
    named production.DIRECTION__IN nonterminal.DIRECTION (Terminal kind.IN ∷ []) ∷
    named production.DIRECTION__OUT nonterminal.DIRECTION (Terminal kind.OUT ∷ []) ∷
    named production.PARTS__CONFIG nonterminal.PARTS (Nonterminal nonterminal.CONFIG ∷ Nonterminal nonterminal.PARTS_INIT_NEXT ∷ []) ∷
    named production.PARTS__INIT nonterminal.PARTS (Nonterminal nonterminal.INIT ∷ Nonterminal nonterminal.PARTS_CONFIG_NEXT ∷ []) ∷
    named production.PARTS__NEXT nonterminal.PARTS (Nonterminal nonterminal.NEXT ∷ Nonterminal nonterminal.PARTS_CONFIG_INIT ∷ []) ∷
    named production.PARTS_INIT_NEXT__INIT nonterminal.PARTS_INIT_NEXT (Nonterminal nonterminal.INIT ∷ Nonterminal nonterminal.NEXT ∷ []) ∷
    named production.PARTS_INIT_NEXT__NEXT nonterminal.PARTS_INIT_NEXT (Nonterminal nonterminal.NEXT ∷ Nonterminal nonterminal.INIT ∷ []) ∷
    named production.PARTS_CONFIG_NEXT__CONFIG nonterminal.PARTS_CONFIG_NEXT (Nonterminal nonterminal.CONFIG ∷ Nonterminal nonterminal.NEXT ∷ []) ∷
    named production.PARTS_CONFIG_NEXT__NEXT nonterminal.PARTS_CONFIG_NEXT (Nonterminal nonterminal.NEXT ∷ Nonterminal nonterminal.CONFIG ∷ []) ∷
    named production.PARTS_CONFIG_INIT__CONFIG nonterminal.PARTS_CONFIG_INIT (Nonterminal nonterminal.CONFIG ∷ Nonterminal nonterminal.INIT ∷ []) ∷
    named production.PARTS_CONFIG_INIT__INIT nonterminal.PARTS_CONFIG_INIT (Nonterminal nonterminal.INIT ∷ Nonterminal nonterminal.CONFIG ∷ []) ∷
    named production.CONFIG nonterminal.CONFIG (Terminal kind.CONFIG ∷ Terminal kind.LPAREN ∷ Nonterminal nonterminal.ENDS ∷ Terminal kind.RPAREN ∷ Terminal kind.LBRACE ∷ Nonterminal nonterminal.MAKINGS ∷ Nonterminal nonterminal.CONFIG_RESULT ∷ Terminal kind.RBRACE ∷ []) ∷
    named production.ENDS__END_DECLARED nonterminal.ENDS (Nonterminal nonterminal.END_DECLARED ∷ Nonterminal nonterminal.ENDS_MORE ∷ []) ∷
    named production.ENDS__NONE nonterminal.ENDS [] ∷
    named production.ENDS_MORE__COMMA nonterminal.ENDS_MORE (Terminal kind.COMMA ∷ Nonterminal nonterminal.ENDS ∷ []) ∷
    named production.ENDS_MORE__NONE nonterminal.ENDS_MORE [] ∷
    named production.END_DECLARED nonterminal.END_DECLARED (Nonterminal nonterminal.ANY_NAME ∷ Terminal kind.COLON ∷ Nonterminal nonterminal.END ∷ []) ∷
    named production.MAKINGS__CHANNEL nonterminal.MAKINGS (Nonterminal nonterminal.CHANNEL ∷ Nonterminal nonterminal.MAKINGS ∷ []) ∷
    named production.MAKINGS__SPAWN nonterminal.MAKINGS (Nonterminal nonterminal.SPAWN ∷ Nonterminal nonterminal.MAKINGS ∷ []) ∷
    named production.MAKINGS__NONE nonterminal.MAKINGS [] ∷
    named production.CHANNEL nonterminal.CHANNEL (Terminal kind.LET ∷ Terminal kind.LPAREN ∷ Nonterminal nonterminal.ANY_NAME ∷ Terminal kind.COMMA ∷ Nonterminal nonterminal.ANY_NAME ∷ Terminal kind.RPAREN ∷ Terminal kind.ASSIGN ∷ Nonterminal nonterminal.CHANNEL_MADE ∷ []) ∷
    named production.CHANNEL_MADE nonterminal.CHANNEL_MADE (Terminal kind.CHAN ∷ Terminal kind.LT ∷ Nonterminal nonterminal.TYPE ∷ Nonterminal nonterminal.CHANNEL_DEPTH ∷ Terminal kind.GT ∷ Terminal kind.LPAREN ∷ Terminal kind.STRING ∷ Nonterminal nonterminal.CHANNEL_END ∷ []) ∷
    named production.CHANNEL_END nonterminal.CHANNEL_END (Terminal kind.RPAREN ∷ Terminal kind.SEMI ∷ []) ∷
    named production.CHANNEL_DEPTH__COMMA nonterminal.CHANNEL_DEPTH (Terminal kind.COMMA ∷ Nonterminal nonterminal.ARG ∷ []) ∷
    named production.CHANNEL_DEPTH__NONE nonterminal.CHANNEL_DEPTH [] ∷
    named production.SPAWN nonterminal.SPAWN (Terminal kind.SPAWN ∷ Nonterminal nonterminal.ANY_NAME ∷ Nonterminal nonterminal.SPAWN_ARGS ∷ Terminal kind.LPAREN ∷ Nonterminal nonterminal.NAMES ∷ Terminal kind.RPAREN ∷ Terminal kind.SEMI ∷ []) ∷
    named production.SPAWN_ARGS__OPEN_ANGLE nonterminal.SPAWN_ARGS (Nonterminal nonterminal.OPEN_ANGLE ∷ Nonterminal nonterminal.ARG ∷ Nonterminal nonterminal.ARGS_MORE ∷ Terminal kind.GT ∷ []) ∷
    named production.SPAWN_ARGS__NONE nonterminal.SPAWN_ARGS [] ∷
    named production.CONFIG_RESULT__LPAREN nonterminal.CONFIG_RESULT (Terminal kind.LPAREN ∷ Nonterminal nonterminal.NAMES ∷ Terminal kind.RPAREN ∷ []) ∷
    named production.CONFIG_RESULT__NONE nonterminal.CONFIG_RESULT [] ∷
    named production.NAMES__ANY_NAME nonterminal.NAMES (Nonterminal nonterminal.ANY_NAME ∷ Nonterminal nonterminal.NAMES_MORE ∷ []) ∷
    named production.NAMES__NONE nonterminal.NAMES [] ∷
    named production.NAMES_MORE__COMMA nonterminal.NAMES_MORE (Terminal kind.COMMA ∷ Nonterminal nonterminal.NAMES ∷ []) ∷
    named production.NAMES_MORE__NONE nonterminal.NAMES_MORE [] ∷
    named production.INIT nonterminal.INIT (Terminal kind.INIT ∷ Nonterminal nonterminal.BLOCK ∷ []) ∷
    named production.NEXT nonterminal.NEXT (Terminal kind.NEXT ∷ Terminal kind.LPAREN ∷ Nonterminal nonterminal.ANY_NAME ∷ Terminal kind.COLON ∷ Nonterminal nonterminal.TYPE ∷ Terminal kind.RPAREN ∷ Nonterminal nonterminal.BLOCK ∷ []) ∷
    named production.ARGS_MORE__COMMA nonterminal.ARGS_MORE (Terminal kind.COMMA ∷ Nonterminal nonterminal.ARG ∷ Nonterminal nonterminal.ARGS_MORE ∷ []) ∷
    named production.ARGS_MORE__NONE nonterminal.ARGS_MORE [] ∷
    named production.ARG__NUMBER nonterminal.ARG (Terminal kind.NUMBER ∷ []) ∷
    named production.ARG__BASE_KEYWORD nonterminal.ARG (Nonterminal nonterminal.BASE_KEYWORD ∷ Nonterminal nonterminal.TYPE_TAIL ∷ Terminal kind.COLON ∷ Nonterminal nonterminal.SIGNED ∷ []) ∷
    named production.ARG__ANY_NAME nonterminal.ARG (Nonterminal nonterminal.ANY_NAME ∷ Nonterminal nonterminal.ARG_NAME ∷ []) ∷
    named production.ARG__LBRACE nonterminal.ARG (Terminal kind.LBRACE ∷ Nonterminal nonterminal.EXPR ∷ Terminal kind.RBRACE ∷ []) ∷
    named production.ARG_NAME__COLON nonterminal.ARG_NAME (Terminal kind.COLON ∷ Nonterminal nonterminal.SIGNED ∷ []) ∷
    named production.ARG_NAME__NAME_SIZE nonterminal.ARG_NAME (Nonterminal nonterminal.NAME_SIZE ∷ Nonterminal nonterminal.TYPE_TAIL ∷ Terminal kind.COLON ∷ Nonterminal nonterminal.SIGNED ∷ []) ∷
    named production.ARG_NAME__NONE nonterminal.ARG_NAME [] ∷
    named production.SIGNED__MINUS nonterminal.SIGNED (Terminal kind.MINUS ∷ Terminal kind.NUMBER ∷ []) ∷
    named production.SIGNED__NUMBER nonterminal.SIGNED (Terminal kind.NUMBER ∷ []) ∷
    named production.TYPE nonterminal.TYPE (Nonterminal nonterminal.BASE ∷ Nonterminal nonterminal.TYPE_TAIL ∷ []) ∷
    named production.BASE__BASE_KEYWORD nonterminal.BASE (Nonterminal nonterminal.BASE_KEYWORD ∷ []) ∷
    named production.BASE__ANY_NAME nonterminal.BASE (Nonterminal nonterminal.ANY_NAME ∷ []) ∷
    named production.BASE__LPAREN nonterminal.BASE (Terminal kind.LPAREN ∷ Nonterminal nonterminal.TYPES ∷ Terminal kind.RPAREN ∷ []) ∷
    named production.BASE_KEYWORD__UNSIGNED nonterminal.BASE_KEYWORD (Terminal kind.UNSIGNED ∷ []) ∷
    named production.BASE_KEYWORD__SIGNED nonterminal.BASE_KEYWORD (Terminal kind.SIGNED ∷ []) ∷
    named production.BASE_KEYWORD__WIDE nonterminal.BASE_KEYWORD (Terminal kind.WIDE ∷ Terminal kind.LBRACKET ∷ Nonterminal nonterminal.EXPR ∷ Terminal kind.RBRACKET ∷ []) ∷
    named production.BASE_KEYWORD__BOOL nonterminal.BASE_KEYWORD (Terminal kind.BOOL ∷ []) ∷
    named production.TYPE_TAIL__SIZE nonterminal.TYPE_TAIL (Nonterminal nonterminal.SIZE ∷ Nonterminal nonterminal.TYPE_TAIL ∷ []) ∷
    named production.TYPE_TAIL__NONE nonterminal.TYPE_TAIL [] ∷
    named production.SIZE nonterminal.SIZE (Terminal kind.LBRACKET ∷ Nonterminal nonterminal.EXPR ∷ Terminal kind.RBRACKET ∷ []) ∷
    named production.NAME_SIZE nonterminal.NAME_SIZE (Terminal kind.LBRACKET ∷ Nonterminal nonterminal.EXPR ∷ Terminal kind.RBRACKET ∷ []) ∷
    named production.TYPES__TYPE nonterminal.TYPES (Nonterminal nonterminal.TYPE ∷ Nonterminal nonterminal.TYPES_MORE ∷ []) ∷
    named production.TYPES__NONE nonterminal.TYPES [] ∷
    named production.TYPES_MORE__COMMA nonterminal.TYPES_MORE (Terminal kind.COMMA ∷ Nonterminal nonterminal.TYPES ∷ []) ∷
    named production.TYPES_MORE__NONE nonterminal.TYPES_MORE [] ∷
    named production.BLOCK nonterminal.BLOCK (Terminal kind.LBRACE ∷ Nonterminal nonterminal.STATEMENTS ∷ Terminal kind.RBRACE ∷ []) ∷
    named production.STATEMENTS__LET nonterminal.STATEMENTS (Nonterminal nonterminal.LET ∷ Nonterminal nonterminal.STATEMENTS ∷ []) ∷
    named production.STATEMENTS__EXPR nonterminal.STATEMENTS (Nonterminal nonterminal.EXPR ∷ Nonterminal nonterminal.STATEMENT_END ∷ []) ∷
    named production.STATEMENTS__NONE nonterminal.STATEMENTS [] ∷
    named production.STATEMENT_END__BARE nonterminal.STATEMENT_END (Nonterminal nonterminal.BARE ∷ Nonterminal nonterminal.STATEMENTS ∷ []) ∷
    named production.STATEMENT_END__NONE nonterminal.STATEMENT_END [] ∷
    named production.BARE nonterminal.BARE (Terminal kind.SEMI ∷ []) ∷
    named production.LET nonterminal.LET (Terminal kind.LET ∷ Nonterminal nonterminal.LET_PATTERN ∷ Terminal kind.ASSIGN ∷ Nonterminal nonterminal.EXPR ∷ Terminal kind.SEMI ∷ []) ∷
    named production.LET_PATTERN__PLAIN_PATTERN nonterminal.LET_PATTERN (Nonterminal nonterminal.PLAIN_PATTERN ∷ Nonterminal nonterminal.LET_TYPE ∷ []) ∷
    named production.LET_PATTERN__ANY_NAME nonterminal.LET_PATTERN (Nonterminal nonterminal.ANY_NAME ∷ Nonterminal nonterminal.LET_NAME ∷ []) ∷
    named production.LET_NAME__PATH nonterminal.LET_NAME (Terminal kind.PATH ∷ Nonterminal nonterminal.ANY_NAME ∷ Nonterminal nonterminal.LET_TYPE ∷ []) ∷
    named production.LET_NAME__NAME_SIZE nonterminal.LET_NAME (Nonterminal nonterminal.NAME_SIZE ∷ Nonterminal nonterminal.TYPE_TAIL ∷ Terminal kind.COLON ∷ Nonterminal nonterminal.SIGNED ∷ Nonterminal nonterminal.LET_TYPE ∷ []) ∷
    named production.LET_NAME__COLON nonterminal.LET_NAME (Terminal kind.COLON ∷ Nonterminal nonterminal.LET_COLON ∷ []) ∷
    named production.LET_NAME__NONE nonterminal.LET_NAME [] ∷
    named production.LET_COLON__SIGNED nonterminal.LET_COLON (Nonterminal nonterminal.SIGNED ∷ Nonterminal nonterminal.LET_TYPE ∷ []) ∷
    named production.LET_COLON__TYPE nonterminal.LET_COLON (Nonterminal nonterminal.TYPE ∷ []) ∷
    named production.LET_TYPE__COLON nonterminal.LET_TYPE (Terminal kind.COLON ∷ Nonterminal nonterminal.TYPE ∷ []) ∷
    named production.LET_TYPE__NONE nonterminal.LET_TYPE [] ∷
    named production.PATTERN__PLAIN_PATTERN nonterminal.PATTERN (Nonterminal nonterminal.PLAIN_PATTERN ∷ []) ∷
    named production.PATTERN__ANY_NAME nonterminal.PATTERN (Nonterminal nonterminal.ANY_NAME ∷ Nonterminal nonterminal.PATTERN_NAME ∷ []) ∷
    named production.PLAIN_PATTERN__WILD nonterminal.PLAIN_PATTERN (Terminal kind.WILD ∷ []) ∷
    named production.PLAIN_PATTERN__TRUE nonterminal.PLAIN_PATTERN (Terminal kind.TRUE ∷ []) ∷
    named production.PLAIN_PATTERN__FALSE nonterminal.PLAIN_PATTERN (Terminal kind.FALSE ∷ []) ∷
    named production.PLAIN_PATTERN__BASE_KEYWORD nonterminal.PLAIN_PATTERN (Nonterminal nonterminal.BASE_KEYWORD ∷ Nonterminal nonterminal.TYPE_TAIL ∷ Terminal kind.COLON ∷ Nonterminal nonterminal.SIGNED ∷ []) ∷
    named production.PLAIN_PATTERN__LPAREN nonterminal.PLAIN_PATTERN (Terminal kind.LPAREN ∷ Nonterminal nonterminal.PATTERNS ∷ Terminal kind.RPAREN ∷ []) ∷
    named production.PATTERN_NAME__PATH nonterminal.PATTERN_NAME (Terminal kind.PATH ∷ Nonterminal nonterminal.ANY_NAME ∷ []) ∷
    named production.PATTERN_NAME__COLON nonterminal.PATTERN_NAME (Terminal kind.COLON ∷ Nonterminal nonterminal.SIGNED ∷ []) ∷
    named production.PATTERN_NAME__NAME_SIZE nonterminal.PATTERN_NAME (Nonterminal nonterminal.NAME_SIZE ∷ Nonterminal nonterminal.TYPE_TAIL ∷ Terminal kind.COLON ∷ Nonterminal nonterminal.SIGNED ∷ []) ∷
    named production.PATTERN_NAME__NONE nonterminal.PATTERN_NAME [] ∷
    named production.PATTERNS__PATTERN nonterminal.PATTERNS (Nonterminal nonterminal.PATTERN ∷ Nonterminal nonterminal.PATTERNS_MORE ∷ []) ∷
    named production.PATTERNS__NONE nonterminal.PATTERNS [] ∷
    named production.PATTERNS_MORE__COMMA nonterminal.PATTERNS_MORE (Terminal kind.COMMA ∷ Nonterminal nonterminal.PATTERNS ∷ []) ∷
    named production.PATTERNS_MORE__NONE nonterminal.PATTERNS_MORE [] ∷
    named production.EXPR nonterminal.EXPR (Nonterminal nonterminal.OPERAND ∷ Nonterminal nonterminal.OPERANDS ∷ []) ∷
    named production.OPERANDS__BINARY nonterminal.OPERANDS (Nonterminal nonterminal.BINARY ∷ Nonterminal nonterminal.OPERAND ∷ Nonterminal nonterminal.OPERANDS ∷ []) ∷
    named production.OPERANDS__NONE nonterminal.OPERANDS [] ∷
    named production.BINARY__STAR nonterminal.BINARY (Terminal kind.STAR ∷ []) ∷
    named production.BINARY__SLASH nonterminal.BINARY (Terminal kind.SLASH ∷ []) ∷
    named production.BINARY__PERCENT nonterminal.BINARY (Terminal kind.PERCENT ∷ []) ∷
    named production.BINARY__PLUS nonterminal.BINARY (Terminal kind.PLUS ∷ []) ∷
    named production.BINARY__MINUS nonterminal.BINARY (Terminal kind.MINUS ∷ []) ∷
    named production.BINARY__CONCAT nonterminal.BINARY (Terminal kind.CONCAT ∷ []) ∷
    named production.BINARY__SHL nonterminal.BINARY (Terminal kind.SHL ∷ []) ∷
    named production.BINARY__SHR nonterminal.BINARY (Terminal kind.SHR ∷ []) ∷
    named production.BINARY__AMP nonterminal.BINARY (Terminal kind.AMP ∷ []) ∷
    named production.BINARY__CARET nonterminal.BINARY (Terminal kind.CARET ∷ []) ∷
    named production.BINARY__PIPE nonterminal.BINARY (Terminal kind.PIPE ∷ []) ∷
    named production.BINARY__EQ nonterminal.BINARY (Terminal kind.EQ ∷ []) ∷
    named production.BINARY__NE nonterminal.BINARY (Terminal kind.NE ∷ []) ∷
    named production.BINARY__LT nonterminal.BINARY (Terminal kind.LT ∷ []) ∷
    named production.BINARY__LE nonterminal.BINARY (Terminal kind.LE ∷ []) ∷
    named production.BINARY__GT nonterminal.BINARY (Terminal kind.GT ∷ []) ∷
    named production.BINARY__GE nonterminal.BINARY (Terminal kind.GE ∷ []) ∷
    named production.BINARY__ANDAND nonterminal.BINARY (Terminal kind.ANDAND ∷ []) ∷
    named production.BINARY__OROR nonterminal.BINARY (Terminal kind.OROR ∷ []) ∷
    named production.OPERAND nonterminal.OPERAND (Nonterminal nonterminal.PREFIXED ∷ Nonterminal nonterminal.CASTS ∷ []) ∷
    named production.PREFIXED__MINUS nonterminal.PREFIXED (Terminal kind.MINUS ∷ Nonterminal nonterminal.PREFIXED ∷ []) ∷
    named production.PREFIXED__BANG nonterminal.PREFIXED (Terminal kind.BANG ∷ Nonterminal nonterminal.PREFIXED ∷ []) ∷
    named production.PREFIXED__ATOM nonterminal.PREFIXED (Nonterminal nonterminal.ATOM ∷ Nonterminal nonterminal.POSTS ∷ []) ∷
    named production.CASTS__CAST nonterminal.CASTS (Nonterminal nonterminal.CAST ∷ Nonterminal nonterminal.CASTS ∷ []) ∷
    named production.CASTS__NONE nonterminal.CASTS [] ∷
    named production.CAST nonterminal.CAST (Terminal kind.AS ∷ Nonterminal nonterminal.TYPE ∷ []) ∷
    named production.POSTS__LBRACKET nonterminal.POSTS (Terminal kind.LBRACKET ∷ Nonterminal nonterminal.EXPR ∷ Nonterminal nonterminal.INDEX_END ∷ Nonterminal nonterminal.POSTS ∷ []) ∷
    named production.POSTS__DOT nonterminal.POSTS (Terminal kind.DOT ∷ Nonterminal nonterminal.PART ∷ Nonterminal nonterminal.POSTS ∷ []) ∷
    named production.POSTS__NONE nonterminal.POSTS [] ∷
    named production.INDEX_END__RBRACKET nonterminal.INDEX_END (Terminal kind.RBRACKET ∷ []) ∷
    named production.INDEX_END__COLON nonterminal.INDEX_END (Terminal kind.COLON ∷ Nonterminal nonterminal.EXPR ∷ Terminal kind.RBRACKET ∷ []) ∷
    named production.INDEX_END__PLUSCOLON nonterminal.INDEX_END (Terminal kind.PLUSCOLON ∷ Nonterminal nonterminal.TYPE ∷ Terminal kind.RBRACKET ∷ []) ∷
    named production.PART__ANY_NAME nonterminal.PART (Nonterminal nonterminal.ANY_NAME ∷ []) ∷
    named production.PART__NUMBER nonterminal.PART (Terminal kind.NUMBER ∷ []) ∷
    named production.ATOM__NUMBER nonterminal.ATOM (Terminal kind.NUMBER ∷ []) ∷
    named production.ATOM__BASE_KEYWORD nonterminal.ATOM (Nonterminal nonterminal.BASE_KEYWORD ∷ Nonterminal nonterminal.TYPE_TAIL ∷ Terminal kind.COLON ∷ Nonterminal nonterminal.TYPED ∷ []) ∷
    named production.ATOM__ALIAS_NAME nonterminal.ATOM (Nonterminal nonterminal.ALIAS_NAME ∷ Nonterminal nonterminal.TYPE_TAIL ∷ Terminal kind.COLON ∷ Nonterminal nonterminal.TYPED ∷ []) ∷
    named production.ATOM__ELEMENTS nonterminal.ATOM (Nonterminal nonterminal.ELEMENTS ∷ []) ∷
    named production.ATOM__TRUE nonterminal.ATOM (Terminal kind.TRUE ∷ []) ∷
    named production.ATOM__FALSE nonterminal.ATOM (Terminal kind.FALSE ∷ []) ∷
    named production.ATOM__NAME nonterminal.ATOM (Terminal kind.NAME ∷ Nonterminal nonterminal.NAME_TAIL ∷ []) ∷
    named production.ATOM__FUNNAME nonterminal.ATOM (Terminal kind.FUNNAME ∷ Nonterminal nonterminal.FUNCTION_TAIL ∷ []) ∷
    named production.ATOM__STRUCTNAME nonterminal.ATOM (Terminal kind.STRUCTNAME ∷ Nonterminal nonterminal.STRUCT_TAIL ∷ []) ∷
    named production.ATOM__BOTHNAME nonterminal.ATOM (Terminal kind.BOTHNAME ∷ Nonterminal nonterminal.BOTH_TAIL ∷ []) ∷
    named production.ATOM__LPAREN nonterminal.ATOM (Terminal kind.LPAREN ∷ Nonterminal nonterminal.PARENTHESIS ∷ []) ∷
    named production.ATOM__BLOCK nonterminal.ATOM (Nonterminal nonterminal.BLOCK ∷ []) ∷
    named production.ATOM__IF nonterminal.ATOM (Nonterminal nonterminal.IF ∷ []) ∷
    named production.ATOM__MATCH nonterminal.ATOM (Nonterminal nonterminal.MATCH ∷ []) ∷
    named production.ATOM__FOR nonterminal.ATOM (Nonterminal nonterminal.FOR ∷ []) ∷
    named production.ALIAS_NAME nonterminal.ALIAS_NAME (Terminal kind.TYPENAME ∷ []) ∷
    named production.TYPED__SIGNED nonterminal.TYPED (Nonterminal nonterminal.SIGNED ∷ []) ∷
    named production.TYPED__ELEMENTS nonterminal.TYPED (Nonterminal nonterminal.ELEMENTS ∷ []) ∷
    named production.NAME_TAIL__PATH nonterminal.NAME_TAIL (Terminal kind.PATH ∷ Nonterminal nonterminal.ANY_NAME ∷ []) ∷
    named production.NAME_TAIL__CALL nonterminal.NAME_TAIL (Nonterminal nonterminal.CALL ∷ []) ∷
    named production.NAME_TAIL__NONE nonterminal.NAME_TAIL [] ∷
    named production.FUNCTION_TAIL__PATH nonterminal.FUNCTION_TAIL (Terminal kind.PATH ∷ Nonterminal nonterminal.ANY_NAME ∷ []) ∷
    named production.FUNCTION_TAIL__CALL nonterminal.FUNCTION_TAIL (Nonterminal nonterminal.CALL ∷ []) ∷
    named production.FUNCTION_TAIL__CALL_WITH_ARGS nonterminal.FUNCTION_TAIL (Nonterminal nonterminal.CALL_WITH_ARGS ∷ []) ∷
    named production.FUNCTION_TAIL__NONE nonterminal.FUNCTION_TAIL [] ∷
    named production.STRUCT_TAIL__PATH nonterminal.STRUCT_TAIL (Terminal kind.PATH ∷ Nonterminal nonterminal.ANY_NAME ∷ []) ∷
    named production.STRUCT_TAIL__CALL nonterminal.STRUCT_TAIL (Nonterminal nonterminal.CALL ∷ []) ∷
    named production.STRUCT_TAIL__FIELDS nonterminal.STRUCT_TAIL (Nonterminal nonterminal.FIELDS ∷ []) ∷
    named production.STRUCT_TAIL__NONE nonterminal.STRUCT_TAIL [] ∷
    named production.BOTH_TAIL__PATH nonterminal.BOTH_TAIL (Terminal kind.PATH ∷ Nonterminal nonterminal.ANY_NAME ∷ []) ∷
    named production.BOTH_TAIL__CALL nonterminal.BOTH_TAIL (Nonterminal nonterminal.CALL ∷ []) ∷
    named production.BOTH_TAIL__CALL_WITH_ARGS nonterminal.BOTH_TAIL (Nonterminal nonterminal.CALL_WITH_ARGS ∷ []) ∷
    named production.BOTH_TAIL__FIELDS nonterminal.BOTH_TAIL (Nonterminal nonterminal.FIELDS ∷ []) ∷
    named production.BOTH_TAIL__NONE nonterminal.BOTH_TAIL [] ∷
    named production.CALL nonterminal.CALL (Terminal kind.LPAREN ∷ Nonterminal nonterminal.EXPRS ∷ Terminal kind.RPAREN ∷ []) ∷
    named production.CALL_WITH_ARGS nonterminal.CALL_WITH_ARGS (Terminal kind.ARGS ∷ Nonterminal nonterminal.ARG ∷ Nonterminal nonterminal.ARGS_MORE ∷ Terminal kind.GT ∷ Terminal kind.LPAREN ∷ Nonterminal nonterminal.EXPRS ∷ Terminal kind.RPAREN ∷ []) ∷
    named production.EXPRS__EXPR nonterminal.EXPRS (Nonterminal nonterminal.EXPR ∷ Nonterminal nonterminal.EXPRS_MORE ∷ []) ∷
    named production.EXPRS__NONE nonterminal.EXPRS [] ∷
    named production.EXPRS_MORE__COMMA nonterminal.EXPRS_MORE (Terminal kind.COMMA ∷ Nonterminal nonterminal.EXPRS ∷ []) ∷
    named production.EXPRS_MORE__NONE nonterminal.EXPRS_MORE [] ∷
    named production.FIELDS nonterminal.FIELDS (Terminal kind.FIELDS ∷ Nonterminal nonterminal.FIELD_LIST ∷ Terminal kind.RBRACE ∷ []) ∷
    named production.FIELD_LIST__ANY_NAME nonterminal.FIELD_LIST (Nonterminal nonterminal.ANY_NAME ∷ Nonterminal nonterminal.FIELD_VALUE ∷ Nonterminal nonterminal.FIELD_MORE ∷ []) ∷
    named production.FIELD_LIST__REST nonterminal.FIELD_LIST (Terminal kind.REST ∷ Nonterminal nonterminal.EXPR ∷ []) ∷
    named production.FIELD_LIST__NONE nonterminal.FIELD_LIST [] ∷
    named production.FIELD_VALUE__COLON nonterminal.FIELD_VALUE (Terminal kind.COLON ∷ Nonterminal nonterminal.EXPR ∷ []) ∷
    named production.FIELD_VALUE__NONE nonterminal.FIELD_VALUE [] ∷
    named production.FIELD_MORE__COMMA nonterminal.FIELD_MORE (Terminal kind.COMMA ∷ Nonterminal nonterminal.FIELD_LIST ∷ []) ∷
    named production.FIELD_MORE__NONE nonterminal.FIELD_MORE [] ∷
    named production.PARENTHESIS__RPAREN nonterminal.PARENTHESIS (Terminal kind.RPAREN ∷ []) ∷
    named production.PARENTHESIS__EXPR nonterminal.PARENTHESIS (Nonterminal nonterminal.EXPR ∷ Nonterminal nonterminal.PARENTHESIS_END ∷ []) ∷
    named production.PARENTHESIS_END__RPAREN nonterminal.PARENTHESIS_END (Terminal kind.RPAREN ∷ []) ∷
    named production.PARENTHESIS_END__COMMA nonterminal.PARENTHESIS_END (Terminal kind.COMMA ∷ Nonterminal nonterminal.EXPRS ∷ Terminal kind.RPAREN ∷ []) ∷
    named production.ELEMENTS nonterminal.ELEMENTS (Terminal kind.LBRACKET ∷ Nonterminal nonterminal.EXPR ∷ Nonterminal nonterminal.ELEMENTS_MORE ∷ Terminal kind.RBRACKET ∷ []) ∷
    named production.ELEMENTS_MORE__COMMA nonterminal.ELEMENTS_MORE (Terminal kind.COMMA ∷ Nonterminal nonterminal.ELEMENTS_NEXT ∷ []) ∷
    named production.ELEMENTS_MORE__NONE nonterminal.ELEMENTS_MORE [] ∷
    named production.ELEMENTS_NEXT__EXPR nonterminal.ELEMENTS_NEXT (Nonterminal nonterminal.EXPR ∷ Nonterminal nonterminal.ELEMENTS_MORE ∷ []) ∷
    named production.ELEMENTS_NEXT__DOTS nonterminal.ELEMENTS_NEXT (Terminal kind.DOTS ∷ Nonterminal nonterminal.ELEMENTS_END ∷ []) ∷
    named production.ELEMENTS_NEXT__NONE nonterminal.ELEMENTS_NEXT [] ∷
    named production.ELEMENTS_END__COMMA nonterminal.ELEMENTS_END (Terminal kind.COMMA ∷ []) ∷
    named production.ELEMENTS_END__NONE nonterminal.ELEMENTS_END [] ∷
    named production.IF nonterminal.IF (Terminal kind.IF ∷ Nonterminal nonterminal.EXPR ∷ Nonterminal nonterminal.HEADED_BLOCK ∷ Terminal kind.ELSE ∷ Nonterminal nonterminal.ELSE ∷ []) ∷
    named production.ELSE__BLOCK nonterminal.ELSE (Nonterminal nonterminal.BLOCK ∷ []) ∷
    named production.ELSE__IF nonterminal.ELSE (Nonterminal nonterminal.IF ∷ []) ∷
    named production.MATCH nonterminal.MATCH (Terminal kind.MATCH ∷ Nonterminal nonterminal.EXPR ∷ Terminal kind.LBRACE ∷ Nonterminal nonterminal.ARMS ∷ Terminal kind.RBRACE ∷ []) ∷
    named production.ARMS__ARM nonterminal.ARMS (Nonterminal nonterminal.ARM ∷ Nonterminal nonterminal.ARMS_MORE ∷ []) ∷
    named production.ARMS__NONE nonterminal.ARMS [] ∷
    named production.ARMS_MORE__COMMA nonterminal.ARMS_MORE (Terminal kind.COMMA ∷ Nonterminal nonterminal.ARMS ∷ []) ∷
    named production.ARMS_MORE__NONE nonterminal.ARMS_MORE [] ∷
    named production.ARM nonterminal.ARM (Nonterminal nonterminal.PATTERN ∷ Nonterminal nonterminal.ALTERNATIVES ∷ Terminal kind.DARROW ∷ Nonterminal nonterminal.EXPR ∷ []) ∷
    named production.ALTERNATIVES__PIPE nonterminal.ALTERNATIVES (Terminal kind.PIPE ∷ Nonterminal nonterminal.PATTERN ∷ Nonterminal nonterminal.ALTERNATIVES ∷ []) ∷
    named production.ALTERNATIVES__NONE nonterminal.ALTERNATIVES [] ∷
    named production.FOR nonterminal.FOR (Terminal kind.FOR ∷ Terminal kind.LPAREN ∷ Nonterminal nonterminal.PATTERN ∷ Terminal kind.COMMA ∷ Nonterminal nonterminal.PATTERN ∷ Terminal kind.RPAREN ∷ Nonterminal nonterminal.FOR_TYPE ∷ Nonterminal nonterminal.FOR_RANGE ∷ []) ∷
    named production.FOR_TYPE__COLON nonterminal.FOR_TYPE (Terminal kind.COLON ∷ Nonterminal nonterminal.TYPE ∷ []) ∷
    named production.FOR_TYPE__NONE nonterminal.FOR_TYPE [] ∷
    named production.FOR_RANGE nonterminal.FOR_RANGE (Terminal kind.IN ∷ Nonterminal nonterminal.EXPR ∷ Terminal kind.REST ∷ Nonterminal nonterminal.EXPR ∷ Nonterminal nonterminal.HEADED_BLOCK ∷ Terminal kind.LPAREN ∷ Nonterminal nonterminal.EXPR ∷ Terminal kind.RPAREN ∷ []) ∷
    named production.HEADED_BLOCK nonterminal.HEADED_BLOCK (Terminal kind.LBRACE ∷ Nonterminal nonterminal.STATEMENTS ∷ Terminal kind.RBRACE ∷ []) ∷
    []
