-- What the rules of procs make of the parts of their symbols, in the order of docs/dslx.grammar.
use Rattle.std.specs.Prelude.{List, [], ◌∷◌, None, Some}
use Rattle.base.specs.declared.grammar.table.Symbol.TheVariants.{Terminal, Nonterminal}
use Rattle.dslx_token.specs.declared.rules.generated.kind.TheConstants as kind
use Rattle.dslx_token.specs.declared.rules.generated.nonterminal.TheConstants as nonterminal
use Rattle.dslx_tree.specs.declared.block.Block.{out-Block}
use Rattle.dslx_tree.specs.declared.item.Definition.TheVariants as definitions
use Rattle.dslx_tree.specs.declared.process.Direction.TheVariants as directions
use Rattle.dslx_tree.specs.declared.process.ConfigStatement.TheVariants as config_statements
use Rattle.dslx_parser.specs.Syntax.Nodes.{from_to, quoted_of}
use Rattle.dslx_parser.specs.Syntax.SymbolParts.{SemanticAction, makes}

unfoldable pub rules : List SemanticAction
rules =
    -- proc = PROC any_name parameters open_brace proc_members parts RBRACE
    makes nonterminal.PROC (Terminal kind.PROC ∷ Nonterminal nonterminal.ANY_NAME ∷ Nonterminal nonterminal.PARAMETERS ∷ Nonterminal nonterminal.OPEN_BRACE ∷ Nonterminal nonterminal.PROC_MEMBERS ∷ Nonterminal nonterminal.PARTS ∷ Terminal kind.RBRACE ∷ []) (λ keyword name parametrics _ members parts closing. definitions.Proc (record { span = from_to keyword.span closing.span; name = name; parametrics = parametrics; members = members; config = parts.0; init = parts.1; next = parts.2 })) ∷
    -- proc_members = proc_member proc_members
    makes nonterminal.PROC_MEMBERS (Nonterminal nonterminal.PROC_MEMBER ∷ Nonterminal nonterminal.PROC_MEMBERS ∷ []) (λ member more. member ∷ more) ∷
    -- proc_members = (nothing)
    makes nonterminal.PROC_MEMBERS [] ([]) ∷
    -- proc_member = any_name COLON end SEMI
    makes nonterminal.PROC_MEMBER (Nonterminal nonterminal.ANY_NAME ∷ Terminal kind.COLON ∷ Nonterminal nonterminal.END ∷ Terminal kind.SEMI ∷ []) (λ name _ word _. record { name = name; word = word.0; direction = word.1 }) ∷
    -- end = CHAN LT type GT direction
    makes nonterminal.END (Terminal kind.CHAN ∷ Terminal kind.LT ∷ Nonterminal nonterminal.TYPE ∷ Terminal kind.GT ∷ Nonterminal nonterminal.DIRECTION ∷ []) (λ _ _ ty _ direction. (ty, direction)) ∷
    -- direction = IN
    makes nonterminal.DIRECTION (Terminal kind.IN ∷ []) (λ _. directions.In) ∷
    -- direction = OUT
    makes nonterminal.DIRECTION (Terminal kind.OUT ∷ []) (λ _. directions.Out) ∷
    -- parts = config parts_init_next
    makes nonterminal.PARTS (Nonterminal nonterminal.CONFIG ∷ Nonterminal nonterminal.PARTS_INIT_NEXT ∷ []) (λ config others. (config, others.0, others.1)) ∷
    -- parts = init parts_config_next
    makes nonterminal.PARTS (Nonterminal nonterminal.INIT ∷ Nonterminal nonterminal.PARTS_CONFIG_NEXT ∷ []) (λ init others. (others.0, init, others.1)) ∷
    -- parts = next parts_config_init
    makes nonterminal.PARTS (Nonterminal nonterminal.NEXT ∷ Nonterminal nonterminal.PARTS_CONFIG_INIT ∷ []) (λ next others. (others.0, others.1, next)) ∷
    -- parts_init_next = init next
    makes nonterminal.PARTS_INIT_NEXT (Nonterminal nonterminal.INIT ∷ Nonterminal nonterminal.NEXT ∷ []) (λ init next. (init, next)) ∷
    -- parts_init_next = next init
    makes nonterminal.PARTS_INIT_NEXT (Nonterminal nonterminal.NEXT ∷ Nonterminal nonterminal.INIT ∷ []) (λ next init. (init, next)) ∷
    -- parts_config_next = config next
    makes nonterminal.PARTS_CONFIG_NEXT (Nonterminal nonterminal.CONFIG ∷ Nonterminal nonterminal.NEXT ∷ []) (λ config next. (config, next)) ∷
    -- parts_config_next = next config
    makes nonterminal.PARTS_CONFIG_NEXT (Nonterminal nonterminal.NEXT ∷ Nonterminal nonterminal.CONFIG ∷ []) (λ next config. (config, next)) ∷
    -- parts_config_init = config init
    makes nonterminal.PARTS_CONFIG_INIT (Nonterminal nonterminal.CONFIG ∷ Nonterminal nonterminal.INIT ∷ []) (λ config init. (config, init)) ∷
    -- parts_config_init = init config
    makes nonterminal.PARTS_CONFIG_INIT (Nonterminal nonterminal.INIT ∷ Nonterminal nonterminal.CONFIG ∷ []) (λ init config. (config, init)) ∷
    -- config = CONFIG LPAREN ends RPAREN LBRACE makings config_result RBRACE
    makes nonterminal.CONFIG (Terminal kind.CONFIG ∷ Terminal kind.LPAREN ∷ Nonterminal nonterminal.ENDS ∷ Terminal kind.RPAREN ∷ Terminal kind.LBRACE ∷ Nonterminal nonterminal.MAKINGS ∷ Nonterminal nonterminal.CONFIG_RESULT ∷ Terminal kind.RBRACE ∷ []) (λ keyword _ ends _ _ config_statements result closing. record { span = from_to keyword.span closing.span; ends = ends; config_statements = config_statements; result = result }) ∷
    -- ends = end_declared ends_more
    makes nonterminal.ENDS (Nonterminal nonterminal.END_DECLARED ∷ Nonterminal nonterminal.ENDS_MORE ∷ []) (λ end more. end ∷ more) ∷
    -- ends = (nothing)
    makes nonterminal.ENDS [] ([]) ∷
    -- ends_more = COMMA ends
    makes nonterminal.ENDS_MORE (Terminal kind.COMMA ∷ Nonterminal nonterminal.ENDS ∷ []) (λ _ ends. ends) ∷
    -- ends_more = (nothing)
    makes nonterminal.ENDS_MORE [] ([]) ∷
    -- end_declared = any_name COLON end
    makes nonterminal.END_DECLARED (Nonterminal nonterminal.ANY_NAME ∷ Terminal kind.COLON ∷ Nonterminal nonterminal.END ∷ []) (λ name _ word. record { name = name; word = word.0; direction = word.1 }) ∷
    -- makings = channel makings
    makes nonterminal.MAKINGS (Nonterminal nonterminal.CHANNEL ∷ Nonterminal nonterminal.MAKINGS ∷ []) (λ config_statement more. config_statement ∷ more) ∷
    -- makings = spawn makings
    makes nonterminal.MAKINGS (Nonterminal nonterminal.SPAWN ∷ Nonterminal nonterminal.MAKINGS ∷ []) (λ config_statement more. config_statement ∷ more) ∷
    -- makings = (nothing)
    makes nonterminal.MAKINGS [] ([]) ∷
    -- channel = LET LPAREN any_name COMMA any_name RPAREN ASSIGN channel_made
    makes nonterminal.CHANNEL (Terminal kind.LET ∷ Terminal kind.LPAREN ∷ Nonterminal nonterminal.ANY_NAME ∷ Terminal kind.COMMA ∷ Nonterminal nonterminal.ANY_NAME ∷ Terminal kind.RPAREN ∷ Terminal kind.ASSIGN ∷ Nonterminal nonterminal.CHANNEL_MADE ∷ []) (λ keyword _ sender _ receiver _ _ made. config_statements.Channel (record { span = from_to keyword.span made.3; sender = sender; receiver = receiver; word = made.0; depth = made.1; name = made.2 })) ∷
    -- channel_made = CHAN LT type channel_depth GT LPAREN STRING channel_end
    makes nonterminal.CHANNEL_MADE (Terminal kind.CHAN ∷ Terminal kind.LT ∷ Nonterminal nonterminal.TYPE ∷ Nonterminal nonterminal.CHANNEL_DEPTH ∷ Terminal kind.GT ∷ Terminal kind.LPAREN ∷ Terminal kind.STRING ∷ Nonterminal nonterminal.CHANNEL_END ∷ []) (λ _ _ ty depth _ _ name end. (ty, depth, quoted_of name, end)) ∷
    -- channel_end = RPAREN SEMI
    makes nonterminal.CHANNEL_END (Terminal kind.RPAREN ∷ Terminal kind.SEMI ∷ []) (λ _ semi. semi.span) ∷
    -- channel_depth = COMMA arg
    makes nonterminal.CHANNEL_DEPTH (Terminal kind.COMMA ∷ Nonterminal nonterminal.ARG ∷ []) (λ _ depth. Some depth) ∷
    -- channel_depth = (nothing)
    makes nonterminal.CHANNEL_DEPTH [] (None) ∷
    -- spawn = SPAWN any_name spawn_args LPAREN names RPAREN SEMI
    makes nonterminal.SPAWN (Terminal kind.SPAWN ∷ Nonterminal nonterminal.ANY_NAME ∷ Nonterminal nonterminal.SPAWN_ARGS ∷ Terminal kind.LPAREN ∷ Nonterminal nonterminal.NAMES ∷ Terminal kind.RPAREN ∷ Terminal kind.SEMI ∷ []) (λ keyword target arguments _ names _ semi. config_statements.Spawn (record { span = from_to keyword.span semi.span; target = target; arguments = arguments; ends = names })) ∷
    -- spawn_args = open_angle arg args_more GT
    makes nonterminal.SPAWN_ARGS (Nonterminal nonterminal.OPEN_ANGLE ∷ Nonterminal nonterminal.ARG ∷ Nonterminal nonterminal.ARGS_MORE ∷ Terminal kind.GT ∷ []) (λ _ arg more _. arg ∷ more) ∷
    -- spawn_args = (nothing)
    makes nonterminal.SPAWN_ARGS [] ([]) ∷
    -- config_result = LPAREN names RPAREN
    makes nonterminal.CONFIG_RESULT (Terminal kind.LPAREN ∷ Nonterminal nonterminal.NAMES ∷ Terminal kind.RPAREN ∷ []) (λ _ names _. names) ∷
    -- config_result = (nothing)
    makes nonterminal.CONFIG_RESULT [] ([]) ∷
    -- names = any_name names_more
    makes nonterminal.NAMES (Nonterminal nonterminal.ANY_NAME ∷ Nonterminal nonterminal.NAMES_MORE ∷ []) (λ name more. name ∷ more) ∷
    -- names = (nothing)
    makes nonterminal.NAMES [] ([]) ∷
    -- names_more = COMMA names
    makes nonterminal.NAMES_MORE (Terminal kind.COMMA ∷ Nonterminal nonterminal.NAMES ∷ []) (λ _ names. names) ∷
    -- names_more = (nothing)
    makes nonterminal.NAMES_MORE [] ([]) ∷
    -- init = INIT block
    makes nonterminal.INIT (Terminal kind.INIT ∷ Nonterminal nonterminal.BLOCK ∷ []) (λ _ body. body) ∷
    -- next = NEXT LPAREN any_name COLON type RPAREN block
    makes nonterminal.NEXT (Terminal kind.NEXT ∷ Terminal kind.LPAREN ∷ Nonterminal nonterminal.ANY_NAME ∷ Terminal kind.COLON ∷ Nonterminal nonterminal.TYPE ∷ Terminal kind.RPAREN ∷ Nonterminal nonterminal.BLOCK ∷ []) (λ keyword _ state _ ty _ body. record { span = from_to keyword.span (out-Block body).span; state = state; ty = ty; body = body }) ∷
    []
