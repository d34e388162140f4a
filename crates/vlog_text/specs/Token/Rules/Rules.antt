-- Written by tools/grammar_tables.py from docs/verilog.grammar.
-- The rules of the grammar by their names.
use Rattle.std.specs.Prelude.{ℕ, List, [], ◌∷◌}
use Rattle.base.specs.Grammar.Syntax.{NamedRule, named}
use Rattle.base.specs.declared.grammar.table.Symbol.TheVariants.{Terminal, Nonterminal}
use Rattle.vlog_text.specs.declared.token.rules.generated.kind.TheConstants as kind
use Rattle.vlog_text.specs.declared.token.rules.generated.nonterminal.TheConstants as nonterminal
use Rattle.vlog_text.specs.declared.token.rules.generated.production.TheConstants as production

-- the kinds of token by their names, in the order of these names, with the end mark behind them
unfoldable pub kinds : List ℕ
kinds = kind.ALWAYS ∷ kind.AMP ∷ kind.ASHR ∷ kind.ASSIGN ∷ kind.AT ∷ kind.BEGIN ∷ kind.CARET ∷ kind.CLK ∷ kind.COLON ∷ kind.COMMA ∷ kind.ELSE ∷ kind.ENDBLOCK ∷ kind.ENDMODULE ∷ kind.EQ ∷ kind.EQUALS ∷ kind.GE ∷ kind.GT ∷ kind.IF ∷ kind.INPUT ∷ kind.LBRACE ∷ kind.LBRACKET ∷ kind.LE ∷ kind.LITERAL ∷ kind.LPAREN ∷ kind.LT ∷ kind.MINUS ∷ kind.MODULE ∷ kind.NAME ∷ kind.NE ∷ kind.NUMBER ∷ kind.OUTPUT ∷ kind.PERCENT ∷ kind.PIPE ∷ kind.PLUS ∷ kind.POSEDGE ∷ kind.QUESTION ∷ kind.RBRACE ∷ kind.RBRACKET ∷ kind.REG ∷ kind.RPAREN ∷ kind.RST ∷ kind.SEMI ∷ kind.SHL ∷ kind.SHR ∷ kind.SIGNED ∷ kind.SLASH ∷ kind.STAR ∷ kind.TILDE ∷ kind.WIRE ∷ kind.ZERO ∷ kind.END ∷ []

-- the nonterminals by their names, the start first
unfoldable pub nonterminals : List ℕ
nonterminals = nonterminal.MODULE ∷ nonterminal.ITEMS ∷ nonterminal.NAME ∷ nonterminal.NUMBER ∷ nonterminal.RANGE ∷ nonterminal.PORT ∷ nonterminal.DIRECTION ∷ nonterminal.PORTS_MORE ∷ nonterminal.DECLARATIONS ∷ nonterminal.DECLARATION ∷ nonterminal.STORAGE ∷ nonterminal.ASSIGNMENTS ∷ nonterminal.ASSIGNMENT ∷ nonterminal.CLOCKED ∷ nonterminal.EDGE ∷ nonterminal.RESET_BRANCH ∷ nonterminal.CLOCK_BRANCH ∷ nonterminal.SETS ∷ nonterminal.SET ∷ nonterminal.ATOM ∷ nonterminal.EXPR ∷ nonterminal.SIMPLE ∷ nonterminal.OTHER ∷ nonterminal.ATOMS_MORE ∷ nonterminal.NAME_WHOLE ∷ nonterminal.LITERAL_WHOLE ∷ nonterminal.NAME_END ∷ nonterminal.LITERAL_END ∷ nonterminal.CONDITION ∷ nonterminal.SLICE ∷ nonterminal.SIGNED_END ∷ nonterminal.UNARY ∷ nonterminal.BINARY ∷ nonterminal.COMPARISON ∷ []

-- of each rule the name, the nonterminal, and what it may be rewritten to
unfoldable pub named_rules : List NamedRule
named_rules =
    named production.MODULE nonterminal.MODULE (Terminal kind.MODULE ∷ Nonterminal nonterminal.NAME ∷ Terminal kind.LPAREN ∷ Nonterminal nonterminal.PORT ∷ Nonterminal nonterminal.PORTS_MORE ∷ Terminal kind.RPAREN ∷ Terminal kind.SEMI ∷ Nonterminal nonterminal.ITEMS ∷ []) ∷
    named production.ITEMS nonterminal.ITEMS (Nonterminal nonterminal.DECLARATIONS ∷ Nonterminal nonterminal.ASSIGNMENTS ∷ Nonterminal nonterminal.CLOCKED ∷ Terminal kind.ENDMODULE ∷ []) ∷
    named production.NAME__NAME nonterminal.NAME (Terminal kind.NAME ∷ []) ∷
    named production.NAME__CLK nonterminal.NAME (Terminal kind.CLK ∷ []) ∷
    named production.NAME__RST nonterminal.NAME (Terminal kind.RST ∷ []) ∷
    named production.NUMBER__NUMBER nonterminal.NUMBER (Terminal kind.NUMBER ∷ []) ∷
    named production.NUMBER__ZERO nonterminal.NUMBER (Terminal kind.ZERO ∷ []) ∷
    named production.RANGE__LBRACKET nonterminal.RANGE (Terminal kind.LBRACKET ∷ Nonterminal nonterminal.NUMBER ∷ Terminal kind.COLON ∷ Terminal kind.ZERO ∷ Terminal kind.RBRACKET ∷ []) ∷
    named production.RANGE__NONE nonterminal.RANGE [] ∷
    named production.PORT nonterminal.PORT (Nonterminal nonterminal.DIRECTION ∷ Terminal kind.WIRE ∷ Nonterminal nonterminal.RANGE ∷ Nonterminal nonterminal.NAME ∷ []) ∷
    named production.DIRECTION__INPUT nonterminal.DIRECTION (Terminal kind.INPUT ∷ []) ∷
    named production.DIRECTION__OUTPUT nonterminal.DIRECTION (Terminal kind.OUTPUT ∷ []) ∷
    named production.PORTS_MORE__COMMA nonterminal.PORTS_MORE (Terminal kind.COMMA ∷ Nonterminal nonterminal.PORT ∷ Nonterminal nonterminal.PORTS_MORE ∷ []) ∷
    named production.PORTS_MORE__NONE nonterminal.PORTS_MORE [] ∷
    named production.DECLARATIONS__DECLARATION nonterminal.DECLARATIONS (Nonterminal nonterminal.DECLARATION ∷ Nonterminal nonterminal.DECLARATIONS ∷ []) ∷
    named production.DECLARATIONS__NONE nonterminal.DECLARATIONS [] ∷
    named production.DECLARATION nonterminal.DECLARATION (Nonterminal nonterminal.STORAGE ∷ Nonterminal nonterminal.RANGE ∷ Nonterminal nonterminal.NAME ∷ Terminal kind.SEMI ∷ []) ∷
    named production.STORAGE__WIRE nonterminal.STORAGE (Terminal kind.WIRE ∷ []) ∷
    named production.STORAGE__REG nonterminal.STORAGE (Terminal kind.REG ∷ []) ∷
    named production.ASSIGNMENTS__ASSIGNMENT nonterminal.ASSIGNMENTS (Nonterminal nonterminal.ASSIGNMENT ∷ Nonterminal nonterminal.ASSIGNMENTS ∷ []) ∷
    named production.ASSIGNMENTS__NONE nonterminal.ASSIGNMENTS [] ∷
    named production.ASSIGNMENT nonterminal.ASSIGNMENT (Terminal kind.ASSIGN ∷ Nonterminal nonterminal.NAME ∷ Terminal kind.EQUALS ∷ Nonterminal nonterminal.EXPR ∷ Terminal kind.SEMI ∷ []) ∷
    named production.CLOCKED__ALWAYS nonterminal.CLOCKED (Terminal kind.ALWAYS ∷ Nonterminal nonterminal.EDGE ∷ Terminal kind.BEGIN ∷ Nonterminal nonterminal.RESET_BRANCH ∷ Nonterminal nonterminal.CLOCK_BRANCH ∷ Terminal kind.ENDBLOCK ∷ []) ∷
    named production.CLOCKED__NONE nonterminal.CLOCKED [] ∷
    named production.EDGE nonterminal.EDGE (Terminal kind.AT ∷ Terminal kind.LPAREN ∷ Terminal kind.POSEDGE ∷ Terminal kind.CLK ∷ Terminal kind.RPAREN ∷ []) ∷
    named production.RESET_BRANCH nonterminal.RESET_BRANCH (Terminal kind.IF ∷ Terminal kind.LPAREN ∷ Terminal kind.RST ∷ Terminal kind.RPAREN ∷ Terminal kind.BEGIN ∷ Nonterminal nonterminal.SETS ∷ Terminal kind.ENDBLOCK ∷ []) ∷
    named production.CLOCK_BRANCH nonterminal.CLOCK_BRANCH (Terminal kind.ELSE ∷ Terminal kind.BEGIN ∷ Nonterminal nonterminal.SETS ∷ Terminal kind.ENDBLOCK ∷ []) ∷
    named production.SETS__SET nonterminal.SETS (Nonterminal nonterminal.SET ∷ Nonterminal nonterminal.SETS ∷ []) ∷
    named production.SETS__NONE nonterminal.SETS [] ∷
    named production.SET nonterminal.SET (Nonterminal nonterminal.NAME ∷ Terminal kind.LE ∷ Nonterminal nonterminal.ATOM ∷ Terminal kind.SEMI ∷ []) ∷
    named production.ATOM__NAME nonterminal.ATOM (Nonterminal nonterminal.NAME ∷ []) ∷
    named production.ATOM__LITERAL nonterminal.ATOM (Terminal kind.LITERAL ∷ []) ∷
    named production.EXPR__NAME nonterminal.EXPR (Nonterminal nonterminal.NAME ∷ Nonterminal nonterminal.NAME_WHOLE ∷ []) ∷
    named production.EXPR__LITERAL nonterminal.EXPR (Terminal kind.LITERAL ∷ Nonterminal nonterminal.LITERAL_WHOLE ∷ []) ∷
    named production.EXPR__OTHER nonterminal.EXPR (Nonterminal nonterminal.OTHER ∷ []) ∷
    named production.EXPR__SIGNED nonterminal.EXPR (Terminal kind.SIGNED ∷ Terminal kind.LPAREN ∷ Nonterminal nonterminal.NAME ∷ Terminal kind.RPAREN ∷ Nonterminal nonterminal.SIGNED_END ∷ []) ∷
    named production.SIMPLE__NAME nonterminal.SIMPLE (Nonterminal nonterminal.NAME ∷ Nonterminal nonterminal.NAME_END ∷ []) ∷
    named production.SIMPLE__LITERAL nonterminal.SIMPLE (Terminal kind.LITERAL ∷ Nonterminal nonterminal.LITERAL_END ∷ []) ∷
    named production.SIMPLE__OTHER nonterminal.SIMPLE (Nonterminal nonterminal.OTHER ∷ []) ∷
    named production.OTHER__UNARY nonterminal.OTHER (Nonterminal nonterminal.UNARY ∷ Nonterminal nonterminal.ATOM ∷ []) ∷
    named production.OTHER__LBRACE nonterminal.OTHER (Terminal kind.LBRACE ∷ Nonterminal nonterminal.ATOM ∷ Nonterminal nonterminal.ATOMS_MORE ∷ Terminal kind.RBRACE ∷ []) ∷
    named production.ATOMS_MORE__COMMA nonterminal.ATOMS_MORE (Terminal kind.COMMA ∷ Nonterminal nonterminal.ATOM ∷ Nonterminal nonterminal.ATOMS_MORE ∷ []) ∷
    named production.ATOMS_MORE__NONE nonterminal.ATOMS_MORE [] ∷
    named production.NAME_WHOLE__CONDITION nonterminal.NAME_WHOLE (Nonterminal nonterminal.CONDITION ∷ []) ∷
    named production.NAME_WHOLE__NAME_END nonterminal.NAME_WHOLE (Nonterminal nonterminal.NAME_END ∷ []) ∷
    named production.LITERAL_WHOLE__CONDITION nonterminal.LITERAL_WHOLE (Nonterminal nonterminal.CONDITION ∷ []) ∷
    named production.LITERAL_WHOLE__LITERAL_END nonterminal.LITERAL_WHOLE (Nonterminal nonterminal.LITERAL_END ∷ []) ∷
    named production.NAME_END__SLICE nonterminal.NAME_END (Nonterminal nonterminal.SLICE ∷ []) ∷
    named production.NAME_END__LITERAL_END nonterminal.NAME_END (Nonterminal nonterminal.LITERAL_END ∷ []) ∷
    named production.LITERAL_END__BINARY nonterminal.LITERAL_END (Nonterminal nonterminal.BINARY ∷ Nonterminal nonterminal.ATOM ∷ []) ∷
    named production.LITERAL_END__NONE nonterminal.LITERAL_END [] ∷
    named production.CONDITION nonterminal.CONDITION (Terminal kind.QUESTION ∷ Nonterminal nonterminal.SIMPLE ∷ Terminal kind.COLON ∷ Nonterminal nonterminal.SIMPLE ∷ []) ∷
    named production.SLICE nonterminal.SLICE (Terminal kind.LBRACKET ∷ Nonterminal nonterminal.NUMBER ∷ Terminal kind.COLON ∷ Nonterminal nonterminal.NUMBER ∷ Terminal kind.RBRACKET ∷ []) ∷
    named production.SIGNED_END__COMPARISON nonterminal.SIGNED_END (Nonterminal nonterminal.COMPARISON ∷ Terminal kind.SIGNED ∷ Terminal kind.LPAREN ∷ Nonterminal nonterminal.NAME ∷ Terminal kind.RPAREN ∷ []) ∷
    named production.SIGNED_END__ASHR nonterminal.SIGNED_END (Terminal kind.ASHR ∷ Nonterminal nonterminal.ATOM ∷ []) ∷
    named production.UNARY__MINUS nonterminal.UNARY (Terminal kind.MINUS ∷ []) ∷
    named production.UNARY__TILDE nonterminal.UNARY (Terminal kind.TILDE ∷ []) ∷
    named production.UNARY__AMP nonterminal.UNARY (Terminal kind.AMP ∷ []) ∷
    named production.UNARY__PIPE nonterminal.UNARY (Terminal kind.PIPE ∷ []) ∷
    named production.UNARY__CARET nonterminal.UNARY (Terminal kind.CARET ∷ []) ∷
    named production.BINARY__PLUS nonterminal.BINARY (Terminal kind.PLUS ∷ []) ∷
    named production.BINARY__MINUS nonterminal.BINARY (Terminal kind.MINUS ∷ []) ∷
    named production.BINARY__STAR nonterminal.BINARY (Terminal kind.STAR ∷ []) ∷
    named production.BINARY__SLASH nonterminal.BINARY (Terminal kind.SLASH ∷ []) ∷
    named production.BINARY__PERCENT nonterminal.BINARY (Terminal kind.PERCENT ∷ []) ∷
    named production.BINARY__AMP nonterminal.BINARY (Terminal kind.AMP ∷ []) ∷
    named production.BINARY__PIPE nonterminal.BINARY (Terminal kind.PIPE ∷ []) ∷
    named production.BINARY__CARET nonterminal.BINARY (Terminal kind.CARET ∷ []) ∷
    named production.BINARY__EQ nonterminal.BINARY (Terminal kind.EQ ∷ []) ∷
    named production.BINARY__NE nonterminal.BINARY (Terminal kind.NE ∷ []) ∷
    named production.BINARY__SHL nonterminal.BINARY (Terminal kind.SHL ∷ []) ∷
    named production.BINARY__SHR nonterminal.BINARY (Terminal kind.SHR ∷ []) ∷
    named production.BINARY__COMPARISON nonterminal.BINARY (Nonterminal nonterminal.COMPARISON ∷ []) ∷
    named production.COMPARISON__LT nonterminal.COMPARISON (Terminal kind.LT ∷ []) ∷
    named production.COMPARISON__LE nonterminal.COMPARISON (Terminal kind.LE ∷ []) ∷
    named production.COMPARISON__GT nonterminal.COMPARISON (Terminal kind.GT ∷ []) ∷
    named production.COMPARISON__GE nonterminal.COMPARISON (Terminal kind.GE ∷ []) ∷
    []
