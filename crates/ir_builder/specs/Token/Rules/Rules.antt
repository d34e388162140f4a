-- Written by tools/grammar_tables.py from docs/ir.grammar.
-- The rules of the grammar by their names.
use Rattle.std.specs.Prelude.{ℕ, List, [], ◌∷◌}
use Rattle.base.specs.Grammar.Syntax.{NamedRule, named}
use Rattle.base.specs.declared.grammar.table.Symbol.TheVariants.{Terminal, Nonterminal}
use Rattle.ir_builder.specs.declared.token.rules.generated.kind.TheConstants as kind
use Rattle.ir_builder.specs.declared.token.rules.generated.nonterminal.TheConstants as nonterminal
use Rattle.ir_builder.specs.declared.token.rules.generated.production.TheConstants as production

-- the kinds of token by their names, in the order of these names, with the end mark behind them
unfoldable pub kinds : List ℕ
kinds = kind.ARRAYAT ∷ kind.ASSIGN ∷ kind.BITS ∷ kind.CASES ∷ kind.CHAN ∷ kind.CHANNEL ∷ kind.COLON ∷ kind.COMMA ∷ kind.COUNT ∷ kind.DEFAULT ∷ kind.DEPTH ∷ kind.DYNAMIC ∷ kind.EXTEND ∷ kind.ID ∷ kind.INDEX ∷ kind.INDICES ∷ kind.INIT ∷ kind.INNER ∷ kind.INPUT ∷ kind.KIND ∷ kind.LARGE ∷ kind.LBRACE ∷ kind.LBRACKET ∷ kind.LITERAL ∷ kind.LPAREN ∷ kind.NAME ∷ kind.NEXT ∷ kind.OPID ∷ kind.OUTPUT ∷ kind.OWN ∷ kind.PACKAGE ∷ kind.PLAIN ∷ kind.PREDICATE ∷ kind.PROC ∷ kind.RBRACE ∷ kind.RBRACKET ∷ kind.RPAREN ∷ kind.SEL ∷ kind.SITE ∷ kind.SLICE ∷ kind.SMALL ∷ kind.ST ∷ kind.START ∷ kind.TOKEN ∷ kind.TUPLEINDEX ∷ kind.VALUE ∷ kind.WIDTH ∷ kind.END ∷ []

-- the nonterminals by their names, the start first
unfoldable pub nonterminals : List ℕ
nonterminals = nonterminal.PACKAGE ∷ nonterminal.PROCS ∷ nonterminal.CHANNELS ∷ nonterminal.ANY_NAME ∷ nonterminal.HEAD_WORD ∷ nonterminal.ATTRIBUTE_WORD ∷ nonterminal.NUMBER ∷ nonterminal.CHANNEL ∷ nonterminal.CHANNEL_ID ∷ nonterminal.CHANNEL_KIND ∷ nonterminal.KIND ∷ nonterminal.TYPE ∷ nonterminal.ELEMENT ∷ nonterminal.SIZES ∷ nonterminal.TYPES ∷ nonterminal.TYPES_MORE ∷ nonterminal.VALUE ∷ nonterminal.VALUES ∷ nonterminal.VALUES_MORE ∷ nonterminal.PROC ∷ nonterminal.PROC_HEAD ∷ nonterminal.STATE ∷ nonterminal.INIT ∷ nonterminal.NEXT ∷ nonterminal.NODES ∷ nonterminal.NODE ∷ nonterminal.OPERAND ∷ nonterminal.CALL ∷ nonterminal.OPERANDS ∷ nonterminal.ID ∷ nonterminal.START ∷ nonterminal.WIDTH ∷ nonterminal.COUNT ∷ nonterminal.INDEX ∷ nonterminal.LITERAL_VALUE ∷ nonterminal.SITE_CHANNEL ∷ nonterminal.PREDICATE ∷ nonterminal.DEFAULT ∷ nonterminal.INDICES ∷ nonterminal.CASES ∷ nonterminal.CASE_LIST ∷ nonterminal.CASE_MORE ∷ []

-- of each rule the name, the nonterminal, and what it may be rewritten to
unfoldable pub named_rules : List NamedRule
named_rules =
    named production.PACKAGE nonterminal.PACKAGE (Terminal kind.PACKAGE ∷ Nonterminal nonterminal.ANY_NAME ∷ Nonterminal nonterminal.CHANNELS ∷ Nonterminal nonterminal.PROC ∷ Nonterminal nonterminal.PROCS ∷ []) ∷
    named production.PROCS__PROC nonterminal.PROCS (Nonterminal nonterminal.PROC ∷ Nonterminal nonterminal.PROCS ∷ []) ∷
    named production.PROCS__NONE nonterminal.PROCS [] ∷
    named production.CHANNELS__CHANNEL nonterminal.CHANNELS (Nonterminal nonterminal.CHANNEL ∷ Nonterminal nonterminal.CHANNELS ∷ []) ∷
    named production.CHANNELS__NONE nonterminal.CHANNELS [] ∷
    named production.ANY_NAME__NAME nonterminal.ANY_NAME (Terminal kind.NAME ∷ []) ∷
    named production.ANY_NAME__OPID nonterminal.ANY_NAME (Terminal kind.OPID ∷ []) ∷
    named production.ANY_NAME__SITE nonterminal.ANY_NAME (Terminal kind.SITE ∷ []) ∷
    named production.ANY_NAME__HEAD_WORD nonterminal.ANY_NAME (Nonterminal nonterminal.HEAD_WORD ∷ []) ∷
    named production.ANY_NAME__ATTRIBUTE_WORD nonterminal.ANY_NAME (Nonterminal nonterminal.ATTRIBUTE_WORD ∷ []) ∷
    named production.HEAD_WORD__PACKAGE nonterminal.HEAD_WORD (Terminal kind.PACKAGE ∷ []) ∷
    named production.HEAD_WORD__CHAN nonterminal.HEAD_WORD (Terminal kind.CHAN ∷ []) ∷
    named production.HEAD_WORD__PROC nonterminal.HEAD_WORD (Terminal kind.PROC ∷ []) ∷
    named production.HEAD_WORD__ST nonterminal.HEAD_WORD (Terminal kind.ST ∷ []) ∷
    named production.HEAD_WORD__INIT nonterminal.HEAD_WORD (Terminal kind.INIT ∷ []) ∷
    named production.HEAD_WORD__NEXT nonterminal.HEAD_WORD (Terminal kind.NEXT ∷ []) ∷
    named production.HEAD_WORD__ID nonterminal.HEAD_WORD (Terminal kind.ID ∷ []) ∷
    named production.HEAD_WORD__KIND nonterminal.HEAD_WORD (Terminal kind.KIND ∷ []) ∷
    named production.HEAD_WORD__INPUT nonterminal.HEAD_WORD (Terminal kind.INPUT ∷ []) ∷
    named production.HEAD_WORD__OUTPUT nonterminal.HEAD_WORD (Terminal kind.OUTPUT ∷ []) ∷
    named production.HEAD_WORD__INNER nonterminal.HEAD_WORD (Terminal kind.INNER ∷ []) ∷
    named production.HEAD_WORD__DEPTH nonterminal.HEAD_WORD (Terminal kind.DEPTH ∷ []) ∷
    named production.HEAD_WORD__BITS nonterminal.HEAD_WORD (Terminal kind.BITS ∷ []) ∷
    named production.HEAD_WORD__TOKEN nonterminal.HEAD_WORD (Terminal kind.TOKEN ∷ []) ∷
    named production.ATTRIBUTE_WORD__PREDICATE nonterminal.ATTRIBUTE_WORD (Terminal kind.PREDICATE ∷ []) ∷
    named production.ATTRIBUTE_WORD__CHANNEL nonterminal.ATTRIBUTE_WORD (Terminal kind.CHANNEL ∷ []) ∷
    named production.ATTRIBUTE_WORD__CASES nonterminal.ATTRIBUTE_WORD (Terminal kind.CASES ∷ []) ∷
    named production.ATTRIBUTE_WORD__DEFAULT nonterminal.ATTRIBUTE_WORD (Terminal kind.DEFAULT ∷ []) ∷
    named production.ATTRIBUTE_WORD__INDICES nonterminal.ATTRIBUTE_WORD (Terminal kind.INDICES ∷ []) ∷
    named production.ATTRIBUTE_WORD__INDEX nonterminal.ATTRIBUTE_WORD (Terminal kind.INDEX ∷ []) ∷
    named production.ATTRIBUTE_WORD__START nonterminal.ATTRIBUTE_WORD (Terminal kind.START ∷ []) ∷
    named production.ATTRIBUTE_WORD__WIDTH nonterminal.ATTRIBUTE_WORD (Terminal kind.WIDTH ∷ []) ∷
    named production.ATTRIBUTE_WORD__COUNT nonterminal.ATTRIBUTE_WORD (Terminal kind.COUNT ∷ []) ∷
    named production.ATTRIBUTE_WORD__VALUE nonterminal.ATTRIBUTE_WORD (Terminal kind.VALUE ∷ []) ∷
    named production.NUMBER__SMALL nonterminal.NUMBER (Terminal kind.SMALL ∷ []) ∷
    named production.NUMBER__LARGE nonterminal.NUMBER (Terminal kind.LARGE ∷ []) ∷
    named production.CHANNEL nonterminal.CHANNEL (Terminal kind.CHAN ∷ Nonterminal nonterminal.ANY_NAME ∷ Terminal kind.LPAREN ∷ Nonterminal nonterminal.TYPE ∷ Terminal kind.COMMA ∷ Nonterminal nonterminal.CHANNEL_ID ∷ Nonterminal nonterminal.CHANNEL_KIND ∷ Terminal kind.RPAREN ∷ []) ∷
    named production.CHANNEL_ID nonterminal.CHANNEL_ID (Terminal kind.ID ∷ Terminal kind.ASSIGN ∷ Terminal kind.SMALL ∷ Terminal kind.COMMA ∷ []) ∷
    named production.CHANNEL_KIND nonterminal.CHANNEL_KIND (Terminal kind.KIND ∷ Terminal kind.ASSIGN ∷ Nonterminal nonterminal.KIND ∷ []) ∷
    named production.KIND__INPUT nonterminal.KIND (Terminal kind.INPUT ∷ []) ∷
    named production.KIND__OUTPUT nonterminal.KIND (Terminal kind.OUTPUT ∷ []) ∷
    named production.KIND__INNER nonterminal.KIND (Terminal kind.INNER ∷ Terminal kind.COMMA ∷ Terminal kind.DEPTH ∷ Terminal kind.ASSIGN ∷ Nonterminal nonterminal.NUMBER ∷ []) ∷
    named production.TYPE nonterminal.TYPE (Nonterminal nonterminal.ELEMENT ∷ Nonterminal nonterminal.SIZES ∷ []) ∷
    named production.ELEMENT__BITS nonterminal.ELEMENT (Terminal kind.BITS ∷ Terminal kind.LBRACKET ∷ Nonterminal nonterminal.NUMBER ∷ Terminal kind.RBRACKET ∷ []) ∷
    named production.ELEMENT__TOKEN nonterminal.ELEMENT (Terminal kind.TOKEN ∷ []) ∷
    named production.ELEMENT__LPAREN nonterminal.ELEMENT (Terminal kind.LPAREN ∷ Nonterminal nonterminal.TYPES ∷ Terminal kind.RPAREN ∷ []) ∷
    named production.SIZES__LBRACKET nonterminal.SIZES (Terminal kind.LBRACKET ∷ Nonterminal nonterminal.NUMBER ∷ Terminal kind.RBRACKET ∷ Nonterminal nonterminal.SIZES ∷ []) ∷
    named production.SIZES__NONE nonterminal.SIZES [] ∷
    named production.TYPES__TYPE nonterminal.TYPES (Nonterminal nonterminal.TYPE ∷ Nonterminal nonterminal.TYPES_MORE ∷ []) ∷
    named production.TYPES__NONE nonterminal.TYPES [] ∷
    named production.TYPES_MORE__COMMA nonterminal.TYPES_MORE (Terminal kind.COMMA ∷ Nonterminal nonterminal.TYPE ∷ Nonterminal nonterminal.TYPES_MORE ∷ []) ∷
    named production.TYPES_MORE__NONE nonterminal.TYPES_MORE [] ∷
    named production.VALUE__NUMBER nonterminal.VALUE (Nonterminal nonterminal.NUMBER ∷ []) ∷
    named production.VALUE__LPAREN nonterminal.VALUE (Terminal kind.LPAREN ∷ Nonterminal nonterminal.VALUES ∷ Terminal kind.RPAREN ∷ []) ∷
    named production.VALUE__LBRACKET nonterminal.VALUE (Terminal kind.LBRACKET ∷ Nonterminal nonterminal.VALUES ∷ Terminal kind.RBRACKET ∷ []) ∷
    named production.VALUES__VALUE nonterminal.VALUES (Nonterminal nonterminal.VALUE ∷ Nonterminal nonterminal.VALUES_MORE ∷ []) ∷
    named production.VALUES__NONE nonterminal.VALUES [] ∷
    named production.VALUES_MORE__COMMA nonterminal.VALUES_MORE (Terminal kind.COMMA ∷ Nonterminal nonterminal.VALUE ∷ Nonterminal nonterminal.VALUES_MORE ∷ []) ∷
    named production.VALUES_MORE__NONE nonterminal.VALUES_MORE [] ∷
    named production.PROC nonterminal.PROC (Nonterminal nonterminal.PROC_HEAD ∷ Nonterminal nonterminal.NODES ∷ Nonterminal nonterminal.NEXT ∷ Terminal kind.RBRACE ∷ []) ∷
    named production.PROC_HEAD nonterminal.PROC_HEAD (Terminal kind.PROC ∷ Nonterminal nonterminal.ANY_NAME ∷ Terminal kind.LPAREN ∷ Nonterminal nonterminal.STATE ∷ Terminal kind.COMMA ∷ Nonterminal nonterminal.INIT ∷ Terminal kind.RPAREN ∷ Terminal kind.LBRACE ∷ []) ∷
    named production.STATE nonterminal.STATE (Terminal kind.ST ∷ Terminal kind.COLON ∷ Nonterminal nonterminal.TYPE ∷ []) ∷
    named production.INIT nonterminal.INIT (Terminal kind.INIT ∷ Terminal kind.ASSIGN ∷ Nonterminal nonterminal.VALUE ∷ []) ∷
    named production.NEXT nonterminal.NEXT (Terminal kind.NEXT ∷ Terminal kind.LPAREN ∷ Nonterminal nonterminal.OPERAND ∷ Terminal kind.RPAREN ∷ []) ∷
    named production.NODES__NODE nonterminal.NODES (Nonterminal nonterminal.NODE ∷ Nonterminal nonterminal.NODES ∷ []) ∷
    named production.NODES__NONE nonterminal.NODES [] ∷
    named production.NODE nonterminal.NODE (Terminal kind.OPID ∷ Terminal kind.COLON ∷ Nonterminal nonterminal.TYPE ∷ Terminal kind.ASSIGN ∷ Nonterminal nonterminal.CALL ∷ []) ∷
    named production.OPERAND__ST nonterminal.OPERAND (Terminal kind.ST ∷ []) ∷
    named production.OPERAND__OPID nonterminal.OPERAND (Terminal kind.OPID ∷ []) ∷
    named production.CALL__PLAIN nonterminal.CALL (Terminal kind.PLAIN ∷ Terminal kind.LPAREN ∷ Nonterminal nonterminal.OPERANDS ∷ Nonterminal nonterminal.ID ∷ []) ∷
    named production.CALL__SLICE nonterminal.CALL (Terminal kind.SLICE ∷ Terminal kind.LPAREN ∷ Nonterminal nonterminal.OPERANDS ∷ Nonterminal nonterminal.START ∷ Nonterminal nonterminal.WIDTH ∷ Nonterminal nonterminal.ID ∷ []) ∷
    named production.CALL__DYNAMIC nonterminal.CALL (Terminal kind.DYNAMIC ∷ Terminal kind.LPAREN ∷ Nonterminal nonterminal.OPERANDS ∷ Nonterminal nonterminal.WIDTH ∷ Nonterminal nonterminal.ID ∷ []) ∷
    named production.CALL__EXTEND nonterminal.CALL (Terminal kind.EXTEND ∷ Terminal kind.LPAREN ∷ Nonterminal nonterminal.OPERANDS ∷ Nonterminal nonterminal.COUNT ∷ Nonterminal nonterminal.ID ∷ []) ∷
    named production.CALL__SEL nonterminal.CALL (Terminal kind.SEL ∷ Terminal kind.LPAREN ∷ Nonterminal nonterminal.OPERANDS ∷ Nonterminal nonterminal.CASES ∷ Nonterminal nonterminal.DEFAULT ∷ Nonterminal nonterminal.ID ∷ []) ∷
    named production.CALL__TUPLEINDEX nonterminal.CALL (Terminal kind.TUPLEINDEX ∷ Terminal kind.LPAREN ∷ Nonterminal nonterminal.OPERANDS ∷ Nonterminal nonterminal.INDEX ∷ Nonterminal nonterminal.ID ∷ []) ∷
    named production.CALL__ARRAYAT nonterminal.CALL (Terminal kind.ARRAYAT ∷ Terminal kind.LPAREN ∷ Nonterminal nonterminal.OPERANDS ∷ Nonterminal nonterminal.INDICES ∷ Nonterminal nonterminal.ID ∷ []) ∷
    named production.CALL__LITERAL nonterminal.CALL (Terminal kind.LITERAL ∷ Terminal kind.LPAREN ∷ Nonterminal nonterminal.OPERANDS ∷ Nonterminal nonterminal.LITERAL_VALUE ∷ Nonterminal nonterminal.ID ∷ []) ∷
    named production.CALL__SITE nonterminal.CALL (Terminal kind.SITE ∷ Terminal kind.LPAREN ∷ Nonterminal nonterminal.OPERANDS ∷ Nonterminal nonterminal.PREDICATE ∷ Nonterminal nonterminal.SITE_CHANNEL ∷ Nonterminal nonterminal.ID ∷ []) ∷
    named production.OPERANDS__OPERAND nonterminal.OPERANDS (Nonterminal nonterminal.OPERAND ∷ Terminal kind.COMMA ∷ Nonterminal nonterminal.OPERANDS ∷ []) ∷
    named production.OPERANDS__NONE nonterminal.OPERANDS [] ∷
    named production.ID nonterminal.ID (Terminal kind.ID ∷ Terminal kind.ASSIGN ∷ Terminal kind.OWN ∷ Terminal kind.RPAREN ∷ []) ∷
    named production.START nonterminal.START (Terminal kind.START ∷ Terminal kind.ASSIGN ∷ Nonterminal nonterminal.NUMBER ∷ Terminal kind.COMMA ∷ []) ∷
    named production.WIDTH nonterminal.WIDTH (Terminal kind.WIDTH ∷ Terminal kind.ASSIGN ∷ Nonterminal nonterminal.NUMBER ∷ Terminal kind.COMMA ∷ []) ∷
    named production.COUNT nonterminal.COUNT (Terminal kind.COUNT ∷ Terminal kind.ASSIGN ∷ Nonterminal nonterminal.NUMBER ∷ Terminal kind.COMMA ∷ []) ∷
    named production.INDEX nonterminal.INDEX (Terminal kind.INDEX ∷ Terminal kind.ASSIGN ∷ Nonterminal nonterminal.NUMBER ∷ Terminal kind.COMMA ∷ []) ∷
    named production.LITERAL_VALUE nonterminal.LITERAL_VALUE (Terminal kind.VALUE ∷ Terminal kind.ASSIGN ∷ Nonterminal nonterminal.VALUE ∷ Terminal kind.COMMA ∷ []) ∷
    named production.SITE_CHANNEL nonterminal.SITE_CHANNEL (Terminal kind.CHANNEL ∷ Terminal kind.ASSIGN ∷ Nonterminal nonterminal.ANY_NAME ∷ Terminal kind.COMMA ∷ []) ∷
    named production.PREDICATE__PREDICATE nonterminal.PREDICATE (Terminal kind.PREDICATE ∷ Terminal kind.ASSIGN ∷ Nonterminal nonterminal.OPERAND ∷ Terminal kind.COMMA ∷ []) ∷
    named production.PREDICATE__NONE nonterminal.PREDICATE [] ∷
    named production.DEFAULT__DEFAULT nonterminal.DEFAULT (Terminal kind.DEFAULT ∷ Terminal kind.ASSIGN ∷ Nonterminal nonterminal.OPERAND ∷ Terminal kind.COMMA ∷ []) ∷
    named production.DEFAULT__NONE nonterminal.DEFAULT [] ∷
    named production.INDICES nonterminal.INDICES (Terminal kind.INDICES ∷ Terminal kind.ASSIGN ∷ Terminal kind.LBRACKET ∷ Nonterminal nonterminal.OPERAND ∷ Terminal kind.RBRACKET ∷ Terminal kind.COMMA ∷ []) ∷
    named production.CASES nonterminal.CASES (Terminal kind.CASES ∷ Terminal kind.ASSIGN ∷ Terminal kind.LBRACKET ∷ Nonterminal nonterminal.CASE_LIST ∷ Terminal kind.RBRACKET ∷ Terminal kind.COMMA ∷ []) ∷
    named production.CASE_LIST__OPERAND nonterminal.CASE_LIST (Nonterminal nonterminal.OPERAND ∷ Nonterminal nonterminal.CASE_MORE ∷ []) ∷
    named production.CASE_LIST__NONE nonterminal.CASE_LIST [] ∷
    named production.CASE_MORE__COMMA nonterminal.CASE_MORE (Terminal kind.COMMA ∷ Nonterminal nonterminal.OPERAND ∷ Nonterminal nonterminal.CASE_MORE ∷ []) ∷
    named production.CASE_MORE__NONE nonterminal.CASE_MORE [] ∷
    []
