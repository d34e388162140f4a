-- What the rules of modules, functions, constants and types that are named make of the parts of their symbols, in the order of docs/dslx.grammar.
use Rattle.std.specs.Prelude.{List, true, false, [], ◌∷◌, None, Some}
use Rattle.base.specs.declared.grammar.table.Symbol.TheVariants.{Terminal, Nonterminal}
use Rattle.dslx_token.specs.declared.rules.generated.kind.TheConstants as kind
use Rattle.dslx_token.specs.declared.rules.generated.nonterminal.TheConstants as nonterminal
use Rattle.dslx_tree.specs.declared.block.Block.{out-Block}
use Rattle.dslx_tree.specs.declared.item.Definition.TheVariants as definitions
use Rattle.dslx_parser.specs.Syntax.Nodes.{from_to, ident_of}
use Rattle.dslx_parser.specs.Syntax.SymbolParts.{SemanticAction, makes}

unfoldable pub rules : List SemanticAction
rules =
    -- module = items
    makes nonterminal.MODULE (Nonterminal nonterminal.ITEMS ∷ []) (λ items. record { items = items }) ∷
    -- items = item items
    makes nonterminal.ITEMS (Nonterminal nonterminal.ITEM ∷ Nonterminal nonterminal.ITEMS ∷ []) (λ item items. item ∷ items) ∷
    -- items = (nothing)
    makes nonterminal.ITEMS [] ([]) ∷
    -- item = PUB definition
    makes nonterminal.ITEM (Terminal kind.PUB ∷ Nonterminal nonterminal.DEFINITION ∷ []) (λ _ definition. record { is_public = true; definition = definition }) ∷
    -- item = definition
    makes nonterminal.ITEM (Nonterminal nonterminal.DEFINITION ∷ []) (λ definition. record { is_public = false; definition = definition }) ∷
    -- definition = function
    makes nonterminal.DEFINITION (Nonterminal nonterminal.FUNCTION ∷ []) (λ definition. definition) ∷
    -- definition = proc
    makes nonterminal.DEFINITION (Nonterminal nonterminal.PROC ∷ []) (λ definition. definition) ∷
    -- definition = constant
    makes nonterminal.DEFINITION (Nonterminal nonterminal.CONSTANT ∷ []) (λ definition. definition) ∷
    -- definition = alias
    makes nonterminal.DEFINITION (Nonterminal nonterminal.ALIAS ∷ []) (λ definition. definition) ∷
    -- definition = structure
    makes nonterminal.DEFINITION (Nonterminal nonterminal.STRUCTURE ∷ []) (λ definition. definition) ∷
    -- definition = enumeration
    makes nonterminal.DEFINITION (Nonterminal nonterminal.ENUMERATION ∷ []) (λ definition. definition) ∷
    -- any_name = NAME
    makes nonterminal.ANY_NAME (Terminal kind.NAME ∷ []) (λ name. ident_of name) ∷
    -- any_name = TYPENAME
    makes nonterminal.ANY_NAME (Terminal kind.TYPENAME ∷ []) (λ name. ident_of name) ∷
    -- any_name = FUNNAME
    makes nonterminal.ANY_NAME (Terminal kind.FUNNAME ∷ []) (λ name. ident_of name) ∷
    -- any_name = STRUCTNAME
    makes nonterminal.ANY_NAME (Terminal kind.STRUCTNAME ∷ []) (λ name. ident_of name) ∷
    -- any_name = BOTHNAME
    makes nonterminal.ANY_NAME (Terminal kind.BOTHNAME ∷ []) (λ name. ident_of name) ∷
    -- open_brace = LBRACE
    makes nonterminal.OPEN_BRACE (Terminal kind.LBRACE ∷ []) (λ brace. brace.span) ∷
    -- open_brace = FIELDS
    makes nonterminal.OPEN_BRACE (Terminal kind.FIELDS ∷ []) (λ brace. brace.span) ∷
    -- open_angle = LT
    makes nonterminal.OPEN_ANGLE (Terminal kind.LT ∷ []) (λ angle. angle.span) ∷
    -- open_angle = ARGS
    makes nonterminal.OPEN_ANGLE (Terminal kind.ARGS ∷ []) (λ angle. angle.span) ∷
    -- function = FN any_name parameters LPAREN arguments_declared RPAREN result_type block
    makes nonterminal.FUNCTION (Terminal kind.FN ∷ Nonterminal nonterminal.ANY_NAME ∷ Nonterminal nonterminal.PARAMETERS ∷ Terminal kind.LPAREN ∷ Nonterminal nonterminal.ARGUMENTS_DECLARED ∷ Terminal kind.RPAREN ∷ Nonterminal nonterminal.RESULT_TYPE ∷ Nonterminal nonterminal.BLOCK ∷ []) (λ keyword name parametrics _ arguments _ result body. definitions.Function (record { span = from_to keyword.span (out-Block body).span; name = name; parametrics = parametrics; arguments = arguments; result = result; body = body })) ∷
    -- result_type = ARROW type
    makes nonterminal.RESULT_TYPE (Terminal kind.ARROW ∷ Nonterminal nonterminal.TYPE ∷ []) (λ _ ty. Some ty) ∷
    -- result_type = (nothing)
    makes nonterminal.RESULT_TYPE [] (None) ∷
    -- parameters = open_angle parameter parameters_more GT
    makes nonterminal.PARAMETERS (Nonterminal nonterminal.OPEN_ANGLE ∷ Nonterminal nonterminal.PARAMETER ∷ Nonterminal nonterminal.PARAMETERS_MORE ∷ Terminal kind.GT ∷ []) (λ _ parametric more _. parametric ∷ more) ∷
    -- parameters = (nothing)
    makes nonterminal.PARAMETERS [] ([]) ∷
    -- parameters_more = COMMA parameter parameters_more
    makes nonterminal.PARAMETERS_MORE (Terminal kind.COMMA ∷ Nonterminal nonterminal.PARAMETER ∷ Nonterminal nonterminal.PARAMETERS_MORE ∷ []) (λ _ parametric more. parametric ∷ more) ∷
    -- parameters_more = (nothing)
    makes nonterminal.PARAMETERS_MORE [] ([]) ∷
    -- parameter = any_name COLON type parameter_default
    makes nonterminal.PARAMETER (Nonterminal nonterminal.ANY_NAME ∷ Terminal kind.COLON ∷ Nonterminal nonterminal.TYPE ∷ Nonterminal nonterminal.PARAMETER_DEFAULT ∷ []) (λ name _ ty default. record { name = name; ty = ty; default = default }) ∷
    -- parameter_default = ASSIGN LBRACE expr RBRACE
    makes nonterminal.PARAMETER_DEFAULT (Terminal kind.ASSIGN ∷ Terminal kind.LBRACE ∷ Nonterminal nonterminal.EXPR ∷ Terminal kind.RBRACE ∷ []) (λ _ _ value _. Some value.expr) ∷
    -- parameter_default = (nothing)
    makes nonterminal.PARAMETER_DEFAULT [] (None) ∷
    -- arguments_declared = argument_declared arguments_declared_more
    makes nonterminal.ARGUMENTS_DECLARED (Nonterminal nonterminal.ARGUMENT_DECLARED ∷ Nonterminal nonterminal.ARGUMENTS_DECLARED_MORE ∷ []) (λ argument more. argument ∷ more) ∷
    -- arguments_declared = (nothing)
    makes nonterminal.ARGUMENTS_DECLARED [] ([]) ∷
    -- arguments_declared_more = COMMA arguments_declared
    makes nonterminal.ARGUMENTS_DECLARED_MORE (Terminal kind.COMMA ∷ Nonterminal nonterminal.ARGUMENTS_DECLARED ∷ []) (λ _ arguments. arguments) ∷
    -- arguments_declared_more = (nothing)
    makes nonterminal.ARGUMENTS_DECLARED_MORE [] ([]) ∷
    -- argument_declared = any_name COLON type
    makes nonterminal.ARGUMENT_DECLARED (Nonterminal nonterminal.ANY_NAME ∷ Terminal kind.COLON ∷ Nonterminal nonterminal.TYPE ∷ []) (λ name _ ty. record { name = name; ty = ty }) ∷
    -- constant = CONST any_name constant_type ASSIGN expr SEMI
    makes nonterminal.CONSTANT (Terminal kind.CONST ∷ Nonterminal nonterminal.ANY_NAME ∷ Nonterminal nonterminal.CONSTANT_TYPE ∷ Terminal kind.ASSIGN ∷ Nonterminal nonterminal.EXPR ∷ Terminal kind.SEMI ∷ []) (λ keyword name ty _ value semi. definitions.Constant (record { span = from_to keyword.span semi.span; name = name; ty = ty; value = value.expr })) ∷
    -- constant_type = COLON type
    makes nonterminal.CONSTANT_TYPE (Terminal kind.COLON ∷ Nonterminal nonterminal.TYPE ∷ []) (λ _ ty. Some ty) ∷
    -- constant_type = (nothing)
    makes nonterminal.CONSTANT_TYPE [] (None) ∷
    -- alias = TYPE any_name ASSIGN type SEMI
    makes nonterminal.ALIAS (Terminal kind.TYPE ∷ Nonterminal nonterminal.ANY_NAME ∷ Terminal kind.ASSIGN ∷ Nonterminal nonterminal.TYPE ∷ Terminal kind.SEMI ∷ []) (λ keyword name _ ty semi. definitions.Alias (record { span = from_to keyword.span semi.span; name = name; ty = ty })) ∷
    -- structure = STRUCT any_name open_brace arguments_declared RBRACE
    makes nonterminal.STRUCTURE (Terminal kind.STRUCT ∷ Nonterminal nonterminal.ANY_NAME ∷ Nonterminal nonterminal.OPEN_BRACE ∷ Nonterminal nonterminal.ARGUMENTS_DECLARED ∷ Terminal kind.RBRACE ∷ []) (λ keyword name _ fields closing. definitions.Struct (record { span = from_to keyword.span closing.span; name = name; fields = fields })) ∷
    -- enumeration = ENUM any_name COLON type open_brace members RBRACE
    makes nonterminal.ENUMERATION (Terminal kind.ENUM ∷ Nonterminal nonterminal.ANY_NAME ∷ Terminal kind.COLON ∷ Nonterminal nonterminal.TYPE ∷ Nonterminal nonterminal.OPEN_BRACE ∷ Nonterminal nonterminal.MEMBERS ∷ Terminal kind.RBRACE ∷ []) (λ keyword name _ base _ members closing. definitions.Enum (record { span = from_to keyword.span closing.span; name = name; base = base; members = members })) ∷
    -- members = member members_more
    makes nonterminal.MEMBERS (Nonterminal nonterminal.MEMBER ∷ Nonterminal nonterminal.MEMBERS_MORE ∷ []) (λ member more. member ∷ more) ∷
    -- members = (nothing)
    makes nonterminal.MEMBERS [] ([]) ∷
    -- members_more = COMMA members
    makes nonterminal.MEMBERS_MORE (Terminal kind.COMMA ∷ Nonterminal nonterminal.MEMBERS ∷ []) (λ _ members. members) ∷
    -- members_more = (nothing)
    makes nonterminal.MEMBERS_MORE [] ([]) ∷
    -- member = any_name ASSIGN expr
    makes nonterminal.MEMBER (Nonterminal nonterminal.ANY_NAME ∷ Terminal kind.ASSIGN ∷ Nonterminal nonterminal.EXPR ∷ []) (λ name _ value. record { name = name; value = value.expr }) ∷
    []
