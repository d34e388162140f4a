-- What the rules of `if`, `match` and `for` make of the parts of their symbols, in the order of docs/dslx.grammar.
use Rattle.std.specs.Prelude.{List, [], ◌∷◌, None, Some}
use Rattle.base.specs.declared.grammar.table.Symbol.TheVariants.{Terminal, Nonterminal}
use Rattle.dslx_token.specs.declared.rules.generated.kind.TheConstants as kind
use Rattle.dslx_token.specs.declared.rules.generated.nonterminal.TheConstants as nonterminal
use Rattle.dslx_tree.specs.declared.expr.Arm.{roll-Arm}
use Rattle.dslx_tree.specs.declared.expr.For.{roll-For}
use Rattle.dslx_tree.specs.declared.expr.Node as nodes
use Rattle.dslx_parser.specs.Syntax.Nodes.{block_alone, block_at, from_to, operand_at}
use Rattle.dslx_parser.specs.Syntax.SymbolParts.{SemanticAction, makes}

unfoldable pub rules : List SemanticAction
rules =
    -- if = IF expr headed_block ELSE else
    makes nonterminal.IF (Terminal kind.IF ∷ Nonterminal nonterminal.EXPR ∷ Nonterminal nonterminal.HEADED_BLOCK ∷ Terminal kind.ELSE ∷ Nonterminal nonterminal.ELSE ∷ []) (λ keyword condition block _ other. operand_at (from_to keyword.span other.span) (nodes.If condition.expr block other.expr)) ∷
    -- else = block
    makes nonterminal.ELSE (Nonterminal nonterminal.BLOCK ∷ []) (λ block. block_alone block) ∷
    -- else = if
    makes nonterminal.ELSE (Nonterminal nonterminal.IF ∷ []) (λ operand. operand) ∷
    -- match = MATCH expr LBRACE arms RBRACE
    makes nonterminal.MATCH (Terminal kind.MATCH ∷ Nonterminal nonterminal.EXPR ∷ Terminal kind.LBRACE ∷ Nonterminal nonterminal.ARMS ∷ Terminal kind.RBRACE ∷ []) (λ keyword value _ arms closing. operand_at (from_to keyword.span closing.span) (nodes.Match value.expr arms)) ∷
    -- arms = arm arms_more
    makes nonterminal.ARMS (Nonterminal nonterminal.ARM ∷ Nonterminal nonterminal.ARMS_MORE ∷ []) (λ arm more. arm ∷ more) ∷
    -- arms = (nothing)
    makes nonterminal.ARMS [] ([]) ∷
    -- arms_more = COMMA arms
    makes nonterminal.ARMS_MORE (Terminal kind.COMMA ∷ Nonterminal nonterminal.ARMS ∷ []) (λ _ arms. arms) ∷
    -- arms_more = (nothing)
    makes nonterminal.ARMS_MORE [] ([]) ∷
    -- arm = pattern alternatives DARROW expr
    makes nonterminal.ARM (Nonterminal nonterminal.PATTERN ∷ Nonterminal nonterminal.ALTERNATIVES ∷ Terminal kind.DARROW ∷ Nonterminal nonterminal.EXPR ∷ []) (λ pattern more _ value. roll-Arm (record { patterns = pattern ∷ more; value = value.expr })) ∷
    -- alternatives = PIPE pattern alternatives
    makes nonterminal.ALTERNATIVES (Terminal kind.PIPE ∷ Nonterminal nonterminal.PATTERN ∷ Nonterminal nonterminal.ALTERNATIVES ∷ []) (λ _ pattern more. pattern ∷ more) ∷
    -- alternatives = (nothing)
    makes nonterminal.ALTERNATIVES [] ([]) ∷
    -- for = FOR LPAREN pattern COMMA pattern RPAREN for_type for_range
    makes nonterminal.FOR (Terminal kind.FOR ∷ Terminal kind.LPAREN ∷ Nonterminal nonterminal.PATTERN ∷ Terminal kind.COMMA ∷ Nonterminal nonterminal.PATTERN ∷ Terminal kind.RPAREN ∷ Nonterminal nonterminal.FOR_TYPE ∷ Nonterminal nonterminal.FOR_RANGE ∷ []) (λ keyword _ index _ accumulator _ ty range. operand_at (from_to keyword.span range.closing) (nodes.For (roll-For (record { index = index; accumulator = accumulator; ty = ty; from = range.first.expr; to = range.end.expr; body = range.body; start = range.start.expr })))) ∷
    -- for_type = COLON type
    makes nonterminal.FOR_TYPE (Terminal kind.COLON ∷ Nonterminal nonterminal.TYPE ∷ []) (λ _ ty. Some ty) ∷
    -- for_type = (nothing)
    makes nonterminal.FOR_TYPE [] (None) ∷
    -- for_range = IN expr REST expr headed_block LPAREN expr RPAREN
    makes nonterminal.FOR_RANGE (Terminal kind.IN ∷ Nonterminal nonterminal.EXPR ∷ Terminal kind.REST ∷ Nonterminal nonterminal.EXPR ∷ Nonterminal nonterminal.HEADED_BLOCK ∷ Terminal kind.LPAREN ∷ Nonterminal nonterminal.EXPR ∷ Terminal kind.RPAREN ∷ []) (λ keyword first dots end body opening start closing. record { keyword = keyword.span; first = first; dots = dots.span; end = end; body = body; parenthesis = opening.span; start = start; closing = closing.span }) ∷
    -- headed_block = LBRACE statements RBRACE
    makes nonterminal.HEADED_BLOCK (Terminal kind.LBRACE ∷ Nonterminal nonterminal.STATEMENTS ∷ Terminal kind.RBRACE ∷ []) (λ opening statements closing. block_at (from_to opening.span closing.span) statements) ∷
    []
