-- Of which sort, and so of which type, the part is that the trees of each nonterminal make.
use Rattle.std.specs.Prelude.{ℕ, Bool, List, [], ◌∷◌, Option, None, Some, slice_get}
use Rattle.xb_span.specs.declared.span.Span.{Span}
use Rattle.dslx_token.specs.declared.rules.generated.nonterminal.TheConstants as nonterminal
use Rattle.dslx_tree.specs.declared.operators.chain.Link.{Link}
use Rattle.dslx_tree.specs.declared.operators.chain.Operand.{Operand}
use Rattle.dslx_tree.specs.declared.block.Block.{Block}
use Rattle.dslx_tree.specs.declared.block.Stmt.{Stmt}
use Rattle.dslx_tree.specs.declared.expr.Arg.{Arg}
use Rattle.dslx_tree.specs.declared.expr.Arm.{Arm}
use Rattle.dslx_tree.specs.declared.expr.Expr.{Expr}
use Rattle.dslx_tree.specs.declared.expr.FieldValue.{FieldValue}
use Rattle.dslx_tree.specs.declared.ident.Ident.{Ident}
use Rattle.dslx_tree.specs.declared.item.Definition.{Definition}
use Rattle.dslx_tree.specs.declared.item.Field.{Field}
use Rattle.dslx_tree.specs.declared.item.Item.{Item}
use Rattle.dslx_tree.specs.declared.item.Member.{Member}
use Rattle.dslx_tree.specs.declared.item.Module.{Module}
use Rattle.dslx_tree.specs.declared.item.Parametric.{Parametric}
use Rattle.dslx_tree.specs.declared.operator.Binary.{Binary}
use Rattle.dslx_tree.specs.declared.pattern.Pattern.{Pattern}
use Rattle.dslx_tree.specs.declared.process.Config.{Config}
use Rattle.dslx_tree.specs.declared.process.Direction.{Direction}
use Rattle.dslx_tree.specs.declared.process.End.{End}
use Rattle.dslx_tree.specs.declared.process.ConfigStatement.{ConfigStatement}
use Rattle.dslx_tree.specs.declared.process.Next.{Next}
use Rattle.dslx_tree.specs.declared.type_expr.TypeExpr.{TypeExpr}
use Rattle.dslx_parser.specs.Syntax.Nodes.{LoopRange, Numeral}

-- the sorts of parts
pub data Sort : Type 0 where
  nothing mark whole items item definition ident idents annotation parametric parametrics given field fields member members end ends word direction config next proc_parts init_and_next config_and_next config_and_init config_statement config_statements made depth arg args named_arg number type_expr types size sizes named_size block statement statements statement_end bare bound named_bound colon_bound pattern patterns named_pattern operand operands operator links post posts part index_end parenthesis parenthesis_end typed named_operand named_field field_values elements more_elements arm arms range : Sort

-- the parts of a sort
abbrev pub OfSort : Sort → Type 0
-- nothing
OfSort nothing = Unit {0}
-- the span of a token
OfSort mark = Span
-- a text
OfSort whole = Module
OfSort items = List Item
OfSort item = Item
OfSort definition = Definition
OfSort ident = Ident
OfSort idents = List Ident
-- a type that may be left out
OfSort annotation = Option TypeExpr
OfSort parametric = Parametric
OfSort parametrics = List Parametric
-- an expression that may be left out
OfSort given = Option Expr
OfSort field = Field
OfSort fields = List Field
OfSort member = Member
OfSort members = List Member
OfSort end = End
OfSort ends = List End
-- the type of the words of a channel, and what is done at its end
OfSort word = TypeExpr × Direction
OfSort direction = Direction
OfSort config = Config
OfSort next = Next
-- `config`, `init` and `next`, in whatever order they stand
OfSort proc_parts = Config × Block × Next
OfSort init_and_next = Block × Next
OfSort config_and_next = Config × Next
OfSort config_and_init = Config × Block
OfSort config_statement = ConfigStatement
OfSort config_statements = List ConfigStatement
-- the type of a channel's words, its depth, its name, and the span of its last token
OfSort made = TypeExpr × Option Arg × Ident × Span
-- the depth of a channel, which may be left out
OfSort depth = Option Arg
OfSort arg = Arg
OfSort args = List Arg
-- an argument that begins with the name
OfSort named_arg = Ident → Arg
-- a number
OfSort number = Numeral
OfSort type_expr = TypeExpr
OfSort types = List TypeExpr
-- what `[n]` makes of the type before it
OfSort size = TypeExpr → TypeExpr
-- what each `[n]` makes of the type before it
OfSort sizes = List (TypeExpr → TypeExpr)
-- what `[n]` makes of the name before it
OfSort named_size = Ident → TypeExpr
OfSort block = Block
-- a statement
OfSort statement = Stmt
-- the statements of a block, and its value
OfSort statements = List Stmt × Option Expr
-- the same, where the expression stands before it
OfSort statement_end = Operand → List Stmt × Option Expr
-- what `;` makes of the expression before it
OfSort bare = Operand → Stmt
-- what a `let` binds, and its type
OfSort bound = Pattern × Option TypeExpr
-- the same, where the name stands before it
OfSort named_bound = Ident → Pattern × Option TypeExpr
-- the same, where the name and `:` stand before it
OfSort colon_bound = Ident → Pattern × Option TypeExpr
OfSort pattern = Pattern
OfSort patterns = List Pattern
-- a pattern that begins with the name
OfSort named_pattern = Ident → Pattern
-- an expression, with its span
OfSort operand = Operand
OfSort operands = List Operand
OfSort operator = Binary
-- operands, each with the operator before it
OfSort links = List Link
-- what `as T` makes of the expression before it
OfSort post = Operand → Operand
-- what each cast, index and field makes of the expression before it
OfSort posts = List (Operand → Operand)
-- what stands behind a `.`, for the expression before it
OfSort part = Operand → Operand
-- what an index makes, and the expression before the brackets
OfSort index_end = Operand → Operand → Operand
-- what stands in parentheses, where the first one stands there
OfSort parenthesis = Span → Operand
-- the same, where the first expression stands before it
OfSort parenthesis_end = Span → Operand → Operand
-- a value that begins with its type
OfSort typed = TypeExpr → Operand
-- an expression that begins with the name
OfSort named_operand = Ident → Operand
-- a field of a struct value, that begins with the name
OfSort named_field = Ident → FieldValue
-- the fields of a struct value, and what gives the others
OfSort field_values = List FieldValue × Option Expr
-- the brackets of an array, its elements, and whether the last one is repeated
OfSort elements = Span × Span × List Operand × Bool
-- elements of an array, and whether the last one is repeated
OfSort more_elements = List Operand × Bool
OfSort arm = Arm
OfSort arms = List Arm
-- what stands behind the patterns and the type of a loop
OfSort range = LoopRange

-- each nonterminal by its name, and its sort
abbrev pub sorts : List (ℕ × Sort)
sorts =
    (nonterminal.MODULE, whole) ∷
    (nonterminal.ITEMS, items) ∷
    (nonterminal.ITEM, item) ∷
    (nonterminal.DEFINITION, definition) ∷
    (nonterminal.ANY_NAME, ident) ∷
    (nonterminal.OPEN_BRACE, mark) ∷
    (nonterminal.OPEN_ANGLE, mark) ∷
    (nonterminal.FUNCTION, definition) ∷
    (nonterminal.RESULT_TYPE, annotation) ∷
    (nonterminal.PARAMETERS, parametrics) ∷
    (nonterminal.PARAMETERS_MORE, parametrics) ∷
    (nonterminal.PARAMETER, parametric) ∷
    (nonterminal.PARAMETER_DEFAULT, given) ∷
    (nonterminal.ARGUMENTS_DECLARED, fields) ∷
    (nonterminal.ARGUMENTS_DECLARED_MORE, fields) ∷
    (nonterminal.ARGUMENT_DECLARED, field) ∷
    (nonterminal.CONSTANT, definition) ∷
    (nonterminal.CONSTANT_TYPE, annotation) ∷
    (nonterminal.ALIAS, definition) ∷
    (nonterminal.STRUCTURE, definition) ∷
    (nonterminal.ENUMERATION, definition) ∷
    (nonterminal.MEMBERS, members) ∷
    (nonterminal.MEMBERS_MORE, members) ∷
    (nonterminal.MEMBER, member) ∷
    (nonterminal.PROC, definition) ∷
    (nonterminal.PROC_MEMBERS, ends) ∷
    (nonterminal.PROC_MEMBER, end) ∷
    (nonterminal.END, word) ∷
    (nonterminal.DIRECTION, direction) ∷
    (nonterminal.PARTS, proc_parts) ∷
    (nonterminal.PARTS_INIT_NEXT, init_and_next) ∷
    (nonterminal.PARTS_CONFIG_NEXT, config_and_next) ∷
    (nonterminal.PARTS_CONFIG_INIT, config_and_init) ∷
    (nonterminal.CONFIG, config) ∷
    (nonterminal.ENDS, ends) ∷
    (nonterminal.ENDS_MORE, ends) ∷
    (nonterminal.END_DECLARED, end) ∷
    (nonterminal.MAKINGS, config_statements) ∷
    (nonterminal.CHANNEL, config_statement) ∷
    (nonterminal.CHANNEL_MADE, made) ∷
    (nonterminal.CHANNEL_END, mark) ∷
    (nonterminal.CHANNEL_DEPTH, depth) ∷
    (nonterminal.SPAWN, config_statement) ∷
    (nonterminal.SPAWN_ARGS, args) ∷
    (nonterminal.CONFIG_RESULT, idents) ∷
    (nonterminal.NAMES, idents) ∷
    (nonterminal.NAMES_MORE, idents) ∷
    (nonterminal.INIT, block) ∷
    (nonterminal.NEXT, next) ∷
    (nonterminal.ARGS_MORE, args) ∷
    (nonterminal.ARG, arg) ∷
    (nonterminal.ARG_NAME, named_arg) ∷
    (nonterminal.SIGNED, number) ∷
    (nonterminal.TYPE, type_expr) ∷
    (nonterminal.BASE, type_expr) ∷
    (nonterminal.BASE_KEYWORD, type_expr) ∷
    (nonterminal.TYPE_TAIL, sizes) ∷
    (nonterminal.SIZE, size) ∷
    (nonterminal.NAME_SIZE, named_size) ∷
    (nonterminal.TYPES, types) ∷
    (nonterminal.TYPES_MORE, types) ∷
    (nonterminal.BLOCK, block) ∷
    (nonterminal.STATEMENTS, statements) ∷
    (nonterminal.STATEMENT_END, statement_end) ∷
    (nonterminal.BARE, bare) ∷
    (nonterminal.LET, statement) ∷
    (nonterminal.LET_PATTERN, bound) ∷
    (nonterminal.LET_NAME, named_bound) ∷
    (nonterminal.LET_COLON, colon_bound) ∷
    (nonterminal.LET_TYPE, annotation) ∷
    (nonterminal.PATTERN, pattern) ∷
    (nonterminal.PLAIN_PATTERN, pattern) ∷
    (nonterminal.PATTERN_NAME, named_pattern) ∷
    (nonterminal.PATTERNS, patterns) ∷
    (nonterminal.PATTERNS_MORE, patterns) ∷
    (nonterminal.EXPR, operand) ∷
    (nonterminal.OPERANDS, links) ∷
    (nonterminal.BINARY, operator) ∷
    (nonterminal.OPERAND, operand) ∷
    (nonterminal.PREFIXED, operand) ∷
    (nonterminal.CASTS, posts) ∷
    (nonterminal.CAST, post) ∷
    (nonterminal.POSTS, posts) ∷
    (nonterminal.INDEX_END, index_end) ∷
    (nonterminal.PART, part) ∷
    (nonterminal.ATOM, operand) ∷
    (nonterminal.ALIAS_NAME, type_expr) ∷
    (nonterminal.TYPED, typed) ∷
    (nonterminal.NAME_TAIL, named_operand) ∷
    (nonterminal.FUNCTION_TAIL, named_operand) ∷
    (nonterminal.STRUCT_TAIL, named_operand) ∷
    (nonterminal.BOTH_TAIL, named_operand) ∷
    (nonterminal.CALL, named_operand) ∷
    (nonterminal.CALL_WITH_ARGS, named_operand) ∷
    (nonterminal.EXPRS, operands) ∷
    (nonterminal.EXPRS_MORE, operands) ∷
    (nonterminal.FIELDS, named_operand) ∷
    (nonterminal.FIELD_LIST, field_values) ∷
    (nonterminal.FIELD_VALUE, named_field) ∷
    (nonterminal.FIELD_MORE, field_values) ∷
    (nonterminal.PARENTHESIS, parenthesis) ∷
    (nonterminal.PARENTHESIS_END, parenthesis_end) ∷
    (nonterminal.ELEMENTS, elements) ∷
    (nonterminal.ELEMENTS_MORE, more_elements) ∷
    (nonterminal.ELEMENTS_NEXT, more_elements) ∷
    (nonterminal.ELEMENTS_END, nothing) ∷
    (nonterminal.IF, operand) ∷
    (nonterminal.ELSE, operand) ∷
    (nonterminal.MATCH, operand) ∷
    (nonterminal.ARMS, arms) ∷
    (nonterminal.ARMS_MORE, arms) ∷
    (nonterminal.ARM, arm) ∷
    (nonterminal.ALTERNATIVES, patterns) ∷
    (nonterminal.FOR, operand) ∷
    (nonterminal.FOR_TYPE, annotation) ∷
    (nonterminal.FOR_RANGE, range) ∷
    (nonterminal.HEADED_BLOCK, block) ∷
    []

abbrev pub sort_or_nothing : Option (ℕ × Sort) → Sort
sort_or_nothing None = nothing
sort_or_nothing (Some entry) = entry.1

-- the sort of the nonterminal with this number
abbrev pub sort_of : ℕ → Sort
sort_of n = sort_or_nothing (slice_get sorts n)
