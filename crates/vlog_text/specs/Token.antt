-- what stands at the front of a Verilog text: a word, a number, a literal, `$signed` or a mark
pub mod TokenPrefixes
-- the kind of a token, which its own text says
pub mod Kinds
-- the tokens of a text, and the first character that begins none
pub mod Tokens
-- contracts of this crate's private functions
pub mod Inner
-- rules
pub mod Rules
