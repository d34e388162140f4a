-- the kinds, the nonterminals and the rules, by their names, as docs/ir.grammar has them
pub mod Rules
-- the grammar
pub mod Ir
