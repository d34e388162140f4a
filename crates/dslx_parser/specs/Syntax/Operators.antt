-- What the rules of operators, and of what stands behind an atom make of the parts of their symbols, in the order of docs/dslx.grammar.
use Rattle.std.specs.Prelude.{List, [], ◌∷◌}
use Rattle.base.specs.declared.grammar.table.Symbol.TheVariants.{Terminal, Nonterminal}
use Rattle.dslx_token.specs.declared.rules.generated.kind.TheConstants as kind
use Rattle.dslx_token.specs.declared.rules.generated.nonterminal.TheConstants as nonterminal
use Rattle.dslx_token.specs.Lexical.{number_value}
use Rattle.dslx_tree.specs.Operators.Levels.{tree_of}
use Rattle.dslx_tree.specs.declared.type_expr.TypeExpr.{out-TypeExpr}
use Rattle.dslx_tree.specs.declared.expr.Node as nodes
use Rattle.dslx_tree.specs.declared.operator.Binary.TheVariants as binary
use Rattle.dslx_tree.specs.declared.operator.Prefix.TheVariants as prefix
use Rattle.dslx_parser.specs.Syntax.Nodes.{from_to, in_turn, operand_at}
use Rattle.dslx_parser.specs.Syntax.SymbolParts.{SemanticAction, makes}

unfoldable pub rules : List SemanticAction
rules =
    -- expr = operand operands
    makes nonterminal.EXPR (Nonterminal nonterminal.OPERAND ∷ Nonterminal nonterminal.OPERANDS ∷ []) (λ first links. tree_of first links) ∷
    -- operands = binary operand operands
    makes nonterminal.OPERANDS (Nonterminal nonterminal.BINARY ∷ Nonterminal nonterminal.OPERAND ∷ Nonterminal nonterminal.OPERANDS ∷ []) (λ operator operand more. record { operator = operator; operand = operand } ∷ more) ∷
    -- operands = (nothing)
    makes nonterminal.OPERANDS [] ([]) ∷
    -- binary = STAR
    makes nonterminal.BINARY (Terminal kind.STAR ∷ []) (λ _. binary.Mul) ∷
    -- binary = SLASH
    makes nonterminal.BINARY (Terminal kind.SLASH ∷ []) (λ _. binary.Div) ∷
    -- binary = PERCENT
    makes nonterminal.BINARY (Terminal kind.PERCENT ∷ []) (λ _. binary.Rem) ∷
    -- binary = PLUS
    makes nonterminal.BINARY (Terminal kind.PLUS ∷ []) (λ _. binary.Add) ∷
    -- binary = MINUS
    makes nonterminal.BINARY (Terminal kind.MINUS ∷ []) (λ _. binary.Sub) ∷
    -- binary = CONCAT
    makes nonterminal.BINARY (Terminal kind.CONCAT ∷ []) (λ _. binary.Concat) ∷
    -- binary = SHL
    makes nonterminal.BINARY (Terminal kind.SHL ∷ []) (λ _. binary.Shl) ∷
    -- binary = SHR
    makes nonterminal.BINARY (Terminal kind.SHR ∷ []) (λ _. binary.Shr) ∷
    -- binary = AMP
    makes nonterminal.BINARY (Terminal kind.AMP ∷ []) (λ _. binary.And) ∷
    -- binary = CARET
    makes nonterminal.BINARY (Terminal kind.CARET ∷ []) (λ _. binary.Xor) ∷
    -- binary = PIPE
    makes nonterminal.BINARY (Terminal kind.PIPE ∷ []) (λ _. binary.Or) ∷
    -- binary = EQ
    makes nonterminal.BINARY (Terminal kind.EQ ∷ []) (λ _. binary.Eq) ∷
    -- binary = NE
    makes nonterminal.BINARY (Terminal kind.NE ∷ []) (λ _. binary.Ne) ∷
    -- binary = LT
    makes nonterminal.BINARY (Terminal kind.LT ∷ []) (λ _. binary.Lt) ∷
    -- binary = LE
    makes nonterminal.BINARY (Terminal kind.LE ∷ []) (λ _. binary.Le) ∷
    -- binary = GT
    makes nonterminal.BINARY (Terminal kind.GT ∷ []) (λ _. binary.Gt) ∷
    -- binary = GE
    makes nonterminal.BINARY (Terminal kind.GE ∷ []) (λ _. binary.Ge) ∷
    -- binary = ANDAND
    makes nonterminal.BINARY (Terminal kind.ANDAND ∷ []) (λ _. binary.Both) ∷
    -- binary = OROR
    makes nonterminal.BINARY (Terminal kind.OROR ∷ []) (λ _. binary.Either) ∷
    -- operand = prefixed casts
    makes nonterminal.OPERAND (Nonterminal nonterminal.PREFIXED ∷ Nonterminal nonterminal.CASTS ∷ []) (λ operand casts. in_turn casts operand) ∷
    -- prefixed = MINUS prefixed
    makes nonterminal.PREFIXED (Terminal kind.MINUS ∷ Nonterminal nonterminal.PREFIXED ∷ []) (λ sign operand. operand_at (from_to sign.span operand.span) (nodes.Prefix prefix.Minus operand.expr)) ∷
    -- prefixed = BANG prefixed
    makes nonterminal.PREFIXED (Terminal kind.BANG ∷ Nonterminal nonterminal.PREFIXED ∷ []) (λ sign operand. operand_at (from_to sign.span operand.span) (nodes.Prefix prefix.Not operand.expr)) ∷
    -- prefixed = atom posts
    makes nonterminal.PREFIXED (Nonterminal nonterminal.ATOM ∷ Nonterminal nonterminal.POSTS ∷ []) (λ atom posts. in_turn posts atom) ∷
    -- casts = cast casts
    makes nonterminal.CASTS (Nonterminal nonterminal.CAST ∷ Nonterminal nonterminal.CASTS ∷ []) (λ cast more. cast ∷ more) ∷
    -- casts = (nothing)
    makes nonterminal.CASTS [] ([]) ∷
    -- cast = AS type
    makes nonterminal.CAST (Terminal kind.AS ∷ Nonterminal nonterminal.TYPE ∷ []) (λ _ ty operand. operand_at (from_to operand.span (out-TypeExpr ty).span) (nodes.Cast operand.expr ty)) ∷
    -- posts = LBRACKET expr index_end posts
    makes nonterminal.POSTS (Terminal kind.LBRACKET ∷ Nonterminal nonterminal.EXPR ∷ Nonterminal nonterminal.INDEX_END ∷ Nonterminal nonterminal.POSTS ∷ []) (λ _ index post more. post index ∷ more) ∷
    -- posts = DOT part posts
    makes nonterminal.POSTS (Terminal kind.DOT ∷ Nonterminal nonterminal.PART ∷ Nonterminal nonterminal.POSTS ∷ []) (λ _ post more. post ∷ more) ∷
    -- posts = (nothing)
    makes nonterminal.POSTS [] ([]) ∷
    -- index_end = RBRACKET
    makes nonterminal.INDEX_END (Terminal kind.RBRACKET ∷ []) (λ closing index operand. operand_at (from_to operand.span closing.span) (nodes.Index operand.expr index.expr)) ∷
    -- index_end = COLON expr RBRACKET
    makes nonterminal.INDEX_END (Terminal kind.COLON ∷ Nonterminal nonterminal.EXPR ∷ Terminal kind.RBRACKET ∷ []) (λ _ end closing first operand. operand_at (from_to operand.span closing.span) (nodes.Slice operand.expr first.expr end.expr)) ∷
    -- index_end = PLUSCOLON type RBRACKET
    makes nonterminal.INDEX_END (Terminal kind.PLUSCOLON ∷ Nonterminal nonterminal.TYPE ∷ Terminal kind.RBRACKET ∷ []) (λ _ ty closing first operand. operand_at (from_to operand.span closing.span) (nodes.Part operand.expr first.expr ty)) ∷
    -- part = any_name
    makes nonterminal.PART (Nonterminal nonterminal.ANY_NAME ∷ []) (λ name operand. operand_at (from_to operand.span name.span) (nodes.Field operand.expr name)) ∷
    -- part = NUMBER
    makes nonterminal.PART (Terminal kind.NUMBER ∷ []) (λ number operand. operand_at (from_to operand.span number.span) (nodes.Element operand.expr number.span (number_value number.bytes))) ∷
    []
