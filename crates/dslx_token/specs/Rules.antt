-- the kinds of token, the nonterminals and the rules, by their names, as docs/dslx.grammar has them
pub mod Rules
-- the grammar
pub mod Dslx
