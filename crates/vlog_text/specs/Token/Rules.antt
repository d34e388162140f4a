-- the kinds of token, the nonterminals and the rules, by their names, as docs/verilog.grammar has them
pub mod Rules
-- the grammar
pub mod Verilog
